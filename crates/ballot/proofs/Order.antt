-- An inbox's order does not matter: two lists with the same ballots, each as often, give the same selection, the same
-- plan taken, the same validation and the same decision.
use mathlib.Core.Path.{◌≡◌, refl, ap, ap₂, ◌∙◌, fun_ext}
use mathlib.Core.Bool.{Bool, true, false, cond, ◌&&◌}
use mathlib.Core.List.{List, [], ◌∷◌}
use mathlib.Core.Option.{Option, none, some}
use Prim.Native.Nat.{ℕ, ◌+◌, ◌<◌}
use native.Mathlib.Omega.{arith}
use lib.Dec.{T, eqb, eqb→eq, eqb_refl}
use Rattle.wire.specs.Entry.{Entry}
use Rattle.crew.specs.declared.Crew.{Crew}
use Rattle.crew.specs.Thresholds.{Class, one, two, three}
use Rattle.ballot.specs.Count.{bit, count_if}
use Rattle.ballot.specs.Ballot.{Ballot, same_entry, same_entries, same_ballot}
use Rattle.ballot.specs.Least.{least}
use Rattle.ballot.specs.Selection.{possible, backed, besides, backing, enough, answer, selection}
use Rattle.ballot.specs.Selection.{Choice, plan, any, nothing, taken_on, taken}
use Rattle.ballot.specs.Validation.{valid, validated}
use Rattle.ballot.specs.Decision.{decides, decision}
use Rattle.wire.proofs.Tests.{and_T, T_and}
use Rattle.ballot.proofs.Counting.{bit_T, length_count, Same}
use Rattle.ballot.proofs.Least.{least_same, least_of_same}
use Rattle.ballot.proofs.AnyPlan.{any_same}

-- Lists that have each element as often have the same counts, whatever the test: take one element out of both, go on.

module _ {A : Type 0} (same : A → A → Bool) (sound : (a b : A) → T (same a b) → a ≡ b)
    (self : (a : A) → T (same a a)) where
  without : A → List A → List A
  without x [] = []
  without x (y ∷ l) = cond (same x y) l (y ∷ without x l)

  take_out : (p : A → Bool) (x : A) (l : List A) → 0 < count_if (same x) l
      → count_if p l ≡ bit (p x) + count_if p (without x l)
  unfolding without count_if
  take_out p x [] h = absurd (omega arith)
  take_out p x (y ∷ l) h = go (same x y) refl h (take_out p x l)
    where
      go : (b : Bool) → same x y ≡ b → 0 < bit b + count_if (same x) l
          → (0 < count_if (same x) l → count_if p l ≡ bit (p x) + count_if p (without x l))
          → bit (p y) + count_if p l ≡ bit (p x) + count_if p (cond b l (y ∷ without x l))
      go true e h rec = omega (arith, ap (λ z. bit (p z)) (sound x y (rw e tt)))
      go false e h rec = omega (arith, rec (omega arith))

  same_counts : (l k : List A) → ((a : A) → count_if (same a) l ≡ count_if (same a) k) → Same l k
  unfolding count_if
  same_counts [] [] h p = refl
  same_counts [] (y ∷ k) h p = absurd (omega (arith, h y, bit_T (same y y) (self y)))
  same_counts (x ∷ l) k h p =
      let here : 0 < count_if (same x) k = omega (arith, h x, bit_T (same x x) (self x)) in
      let rest = same_counts l (without x k) (λ a. omega (arith, h a, take_out (same a) x k here)) p in
      omega (arith, take_out p x k here)

-- Ballots that say the same are equal.

entry_sound : (a b : Entry) → T (same_entry a b) → a ≡ b
entry_sound a b h =
    let d = and_T (eqb a.phase b.phase) (eqb a.plan b.plan) h in
    let x = eqb→eq a.phase b.phase d.0 in
    let y = eqb→eq a.plan b.plan d.1 in
    λ i. record { phase = x i; plan = y i }

entries_sound : (l k : List Entry) → T (same_entries l k) → l ≡ k
entries_sound [] [] h = refl
entries_sound [] (y ∷ k) h = absurd h
entries_sound (x ∷ l) [] h = absurd h
entries_sound (x ∷ l) (y ∷ k) h =
    let d = and_T (same_entry x y) (same_entries l k) h in
    ap₂ (λ a b. a ∷ b) (entry_sound x y d.0) (entries_sound l k d.1)

ballot_sound : (a b : Ballot) → T (same_ballot a b) → a ≡ b
ballot_sound a b h =
    let rest : Bool = eqb a.stamp b.stamp && same_entries a.entries b.entries in
    let d = and_T (eqb a.vote b.vote) rest h in
    let e = and_T (eqb a.stamp b.stamp) (same_entries a.entries b.entries) d.1 in
    let x = eqb→eq a.vote b.vote d.0 in
    let y = eqb→eq a.stamp b.stamp e.0 in
    let z = entries_sound a.entries b.entries e.1 in
    λ i. record { vote = x i; stamp = y i; entries = z i }

entry_self : (a : Entry) → T (same_entry a a)
entry_self a = T_and (eqb a.phase a.phase) (eqb a.plan a.plan) (eqb_refl a.phase) (eqb_refl a.plan)

entries_self : (l : List Entry) → T (same_entries l l)
entries_self [] = tt
entries_self (x ∷ l) = T_and (same_entry x x) (same_entries l l) (entry_self x) (entries_self l)

ballot_self : (a : Ballot) → T (same_ballot a a)
ballot_self a =
    let rest : Bool = eqb a.stamp a.stamp && same_entries a.entries a.entries in
    T_and (eqb a.vote a.vote) rest (eqb_refl a.vote)
    (T_and (eqb a.stamp a.stamp) (same_entries a.entries a.entries) (eqb_refl a.stamp)
    (entries_self a.entries))

-- lists with each ballot as often in one as in the other are the same to the rules
pub same_inboxes : (l k : List Ballot) → ((m : Ballot) → count_if (same_ballot m) l ≡ count_if (same_ballot m) k)
    → Same l k
same_inboxes l k h = same_counts same_ballot ballot_sound ballot_self l k h

-- The three rules.

module _ (crew : Crew) (l k : List Ballot) (s : Same l k) where
  possible_same : (m : Ballot) → possible crew l m ≡ possible crew k m
  unfolding possible
  possible_same m = simp s

  backed_same : (class : Class) (m : Ballot) → backed class crew l m ≡ backed class crew k m
  unfolding backed
  backed_same one m = simp s
  backed_same two m = simp (s, possible_same)
  backed_same three m = simp (s, possible_same)

  backing_same : (p : Ballot → Bool) → backing p l ≡ backing p k
  unfolding backing
  backing_same p = ap (besides p l) (least_same p l k s) ∙ go (least p k)
    where
      go : (o : Option ℕ) → besides p l o ≡ besides p k o
      go none = refl
      go (some v) = simp s

  enough_same : (class : Class) → enough class crew l ≡ enough class crew k
  unfolding enough
  enough_same one = simp (length_count, s)
  enough_same two = simp (length_count, s)
  enough_same three = simp s

  pub selection_same : (class : Class) → selection class crew l ≡ selection class crew k
  unfolding selection
  selection_same class =
      ap₂ (answer class)
      (backing_same (backed class crew l) ∙ ap (λ p. backing p k) (fun_ext (backed_same class)))
      (enough_same class)

  pub taken_same : (class : Class) → taken class crew l ≡ taken class crew k
  unfolding taken
  taken_same class = rw (selection_same class) (go (selection class crew k))
    where
      go : (c : Choice) → taken_on crew l c ≡ taken_on crew k c
      go (plan v) = refl
      go any = any_same crew l k s
      go nothing = refl

  pub validated_same : validated crew l ≡ validated crew k
  unfolding validated valid
  validated_same = least_of_same (valid crew l) (valid crew k) l k s (λ v. simp s)

  pub decision_same : (class : Class) (phase : ℕ) → decision class crew phase l ≡ decision class crew phase k
  unfolding decision decides
  decision_same class phase =
      least_of_same (decides class crew phase l) (decides class crew phase k) l k s (λ v. simp s)
