-- What a message that is expected has in common with the slice's header: what `read_expected` goes by.
use mathlib.Core.Path.{◌≡◌, refl, sym, ap, ◌∙◌}
use mathlib.Core.Bool.{Bool, true, false, cond, ◌&&◌}
use mathlib.Core.List.{List}
use mathlib.Core.Option.{none}
use Prim.Native.Nat.{ℕ}
use native.Mathlib.Omega.{arith}
use lib.Dec.{leb, eqb}
use lib.ListN.{length, get_or}
use borrow.Author.Tests.{leb-true, eqb-true, ne_eqb}
use Rattle.std.specs.Prelude.{Some, None, Result, Ok, Err, ok_or}
use Rattle.std.specs.Result.{result_ok}
use Rattle.wire.specs.Outcome.{Outcome, accepted, refused}
use Rattle.wire.specs.Bytes.{number_at}
use Rattle.wire.specs.Sizes.{run_size}
use Rattle.wire.proofs.Tests.{both_true, by_equality}
use Rattle.message.specs.Layout.{run_place, phase_place}
use Rattle.message.specs.Fields.{Message}
use Rattle.message.specs.Encoding.{kind_of, size_of}
use Rattle.message.specs.Reading.{length_at, kind_at, body_at, kind_known}
use Rattle.message.specs.Reading.{read_of, read_answer}
use Rattle.message.specs.Laying.{bears, headed, expected_in, expected_as, row_with, kept_of, entries_at, row_after}
use Rattle.message.specs.declared.Header.{Header}
use Rattle.message.specs.declared.Message.{Message as ReadMessage}
use Rattle.message.specs.declared.ReadRefusal.{ReadRefusal}
use Rattle.message.specs.declared.ReadRefusal.TheVariants.{Cut}
use Rattle.message.specs.Promises.{row_of_entries, row_read}
use Rattle.message.proofs.ReadLaws.{Passes, read_passes}

-- a body that is read is of the slice's kind
kind_read : (s : List ℕ) → kind_known s ≡ true → kind_of (body_at s) ≡ kind_at s
unfolding body_at
kind_read s known =
    let tests = both_true (leb 1 (kind_at s)) _ known in
    let low = leb-true 1 (kind_at s) tests.0 in
    let high = leb-true (kind_at s) 3 tests.1 in
    by_equality (kind_at s) 1 (λ one. rw one)
    (λ not-one.
    by_equality (kind_at s) 2 (λ two. rw two)
    (λ not-two.
    let three : 3 ≡ kind_at s = omega (arith, not-one, not-two) in
    simp (ne_eqb _ _ not-one, ne_eqb _ _ not-two) three))

-- a message that is read bears a header where its slice has it
borne_headed : (header : Header) {s : List ℕ} {m : Message} → Passes s m → bears header m ≡ headed header s
borne_headed header {s} {m} p =
    let same = ap (bears header) (sym p.fields) in
    let run = eqb (number_at run_size s run_place) header.run in
    let kind = eqb (kind_at s) header.kind in
    let phase = eqb (get_or s phase_place 0) header.phase in
    same ∙ simp (p.is_framed, kind_read s p.of_a_kind) (turned run kind phase)
  where
    turned : (run kind phase : Bool) → run && kind && phase ≡ (kind && run && phase)
    turned true true phase = refl
    turned true false phase = refl
    turned false true phase = refl
    turned false false phase = refl

-- so nothing is expected of a slice with another header
pub unexpected : (header : Header) (s : List ℕ) → headed header s ≡ false → none ≡ expected_in header (read_of s)
unexpected header s other = go (read_of s) refl
  where
    go : (o : Outcome Message) → read_of s ≡ o → none ≡ expected_in header o
    go (refused number) e = refl
    go (accepted m) e = simp (borne_headed header (read_passes s m e), other)

-- and of one with this header, what reading it tells
module _ (header : Header) (s : List ℕ) (is : headed header s ≡ true) where
  pub expected : (r : Result ReadMessage ReadRefusal) (m : ReadMessage) → result_ok r ≡ Some m
      → read_answer r s ≡ read_of s → expected_as (Some m.body) s ≡ expected_in header (read_of s)
  expected (Ok message) m one told =
      let read : read_of s ≡ read_answer (Ok m) s = sym told ∙ ap (λ o. read_answer (ok_or o Cut) s) one in
      simp (read, borne_headed header (read_passes s _ read), is)
  expected (Err why) m one told = cc

  pub nothing_expected : (r : Result ReadMessage ReadRefusal) → result_ok r ≡ None
      → read_answer r s ≡ read_of s → expected_as None s ≡ expected_in header (read_of s)
  nothing_expected (Ok message) e told = cc
  nothing_expected (Err why) e told = simp (sym told)

-- two tests, one behind the other
nested : (long kind places : Bool) (laid row : List ℕ)
    → cond (long && kind) (cond places laid row) row ≡ cond (long && kind && places) laid row
nested true true places laid row = refl
nested true false places laid row = refl
nested false kind places laid row = refl

-- where a slice has the header, the row after it is what reading makes of it
pub row_expected : (header : Header) (s row : List ℕ) → headed header s ≡ true
    → row_read s row ≡ row_after header s row
unfolding row_after
row_expected header s row is =
    let parts = both_true _ _ is in
    let fields = both_true _ _ parts.1 in
    let kind = eqb-true (kind_at s) header.kind (both_true _ _ fields.0).0 in
    let phase = eqb-true (get_or s phase_place 0) header.phase fields.1 in
    let long = eqb (length_at s) (size_of (body_at s)) in
    let laid = row_with row (kept_of (get_or s phase_place 0) (entries_at s)) in
    ap (λ framed_so. cond (framed_so && long && eqb (kind_at s) 1) (row_of_entries s row) row) parts.0
    ∙ nested long (eqb (kind_at s) 1) (leb (get_or s phase_place 0) (length row)) laid row
    ∙ sym (simp is (simp (← kind, ← phase)))
