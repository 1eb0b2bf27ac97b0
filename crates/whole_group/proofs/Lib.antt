pub mod WholeGroup
