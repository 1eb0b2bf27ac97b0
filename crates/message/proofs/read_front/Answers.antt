-- `read_front` meets its contract: a return for each test that fails, and one where all pass.
use mathlib.Core.Path.{◌≡◌, sym, ◌∙◌}
use mathlib.Core.List.{List}
use Prim.Native.Nat.{ℕ}
use Rattle.std.proofs.lemmas.Result.{err_from_is_err_and}
use Rattle.wire.proofs.Tests.{and_false}
use Rattle.message.specs.Reading.{kind_at, front_of, tested}
use Rattle.message.specs.Promises.{number_of, OfKind}
use Rattle.message.specs.declared.Kind.{Kind}
use Rattle.message.proofs.ReadLaws.{known, unknown_lem}
use Rattle.message.proofs.read_front.Goals as goal

-- behind the second test: the slice is of the kind whose number was read
of_kind : (s : List ℕ) (kind : Kind) {number : ℕ} → number ≡ number_of kind → number ≡ kind_at s → OfKind s kind
of_kind s kind is stands = record { same = sym is ∙ stands }

pub returns-then-not-is_framed : goal.returns-then-not-is_framed
unfolding front_of
returns-then-not-is_framed c =
    let cut = sym c.is_framed.ensures ∙ c.if-not-is_framed.true in
    record { answer = simp cut; lays = simp cut }

pub returns-in_err-kind : goal.returns-in_err-kind
unfolding front_of
returns-in_err-kind c =
    let frame = sym c.is_framed.ensures ∙ c.if-not-is_framed.false in
    let told = c.in_err-kind.ensures in
    let unknown = rw c.u16_at.ensures at told.1 in
    let p = err_from_is_err_and c.from_residual.result c.from_residual.ensures.1 in
    let other = unknown_lem (kind_at c.args.s.now) unknown in
    rw (p.1, p.2, told.0) (record { answer = simp (frame, unknown); lays = simp (frame, other, and_false) })

pub returns-then-not-has_length : goal.returns-then-not-has_length
unfolding front_of tested
returns-then-not-has_length c =
    let frame = sym c.is_framed.ensures ∙ c.if-not-is_framed.false in
    let is = of_kind c.args.s.now c.in_ok-kind.kind c.in_ok-kind.ensures c.u16_at.ensures in
    let other = sym c.has_length.ensures ∙ c.if-not-has_length.true in
    record { answer = simp (frame, known is, other); lays = simp (frame, other) }

pub returns-then-not-keeps_bounds : goal.returns-then-not-keeps_bounds
unfolding front_of tested
returns-then-not-keeps_bounds c =
    let frame = sym c.is_framed.ensures ∙ c.if-not-is_framed.false in
    let is = of_kind c.args.s.now c.in_ok-kind.kind c.in_ok-kind.ensures c.u16_at.ensures in
    let sized = sym c.has_length.ensures ∙ c.if-not-has_length.false in
    let broken = sym c.keeps_bounds.ensures.answer ∙ c.if-not-keeps_bounds.true in
    record {
      answer = simp (frame, known is, sized, broken);
      lays = simp (frame, sized) c.keeps_bounds.ensures.lays;
    }

pub returns : goal.returns
unfolding front_of tested
returns c =
    let frame = sym c.is_framed.ensures ∙ c.if-not-is_framed.false in
    let is = of_kind c.args.s.now c.in_ok-kind.kind c.in_ok-kind.ensures c.u16_at.ensures in
    let sized = sym c.has_length.ensures ∙ c.if-not-has_length.false in
    let kept = sym c.keeps_bounds.ensures.answer ∙ c.if-not-keeps_bounds.false in
    record {
      answer = simp (frame, known is, sized, kept, c.run_of.ensures, c.body_in.ensures);
      lays = simp (frame, sized) c.keeps_bounds.ensures.lays;
    }
