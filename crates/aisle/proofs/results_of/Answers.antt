-- A turn of `results_of` gathers one result more.
use native.Mathlib.Omega.{arith}
use Rattle.aisle.proofs.Results.{gathered_none, gathered_more, gathered_all}
use Rattle.aisle.proofs.results_of.Goals as goal

pub loop-i-init : goal.loop-i-init
loop-i-init c = gathered_none _ _

pub returns : goal.returns
returns c = gathered_all _ _ _ _ c.loop-i.invariant (λ room. omega arith)
