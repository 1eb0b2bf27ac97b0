pub mod HistoryLaws
pub mod WriteLaws
