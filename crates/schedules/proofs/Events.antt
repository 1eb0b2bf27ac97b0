-- The events of several nodes: the calls of each among them, and lists of events in which every honest node makes the
-- calls that are given.
use mathlib.Core.Path.{◌≡◌, refl, sym, ap, ap₂, ◌∙◌}
use mathlib.Core.Bool.{Bool, true, false, cond}
use mathlib.Core.List.{List, [], ◌∷◌, ◌++◌, map, flatten, append-nil, append_assoc}
use mathlib.Core.List.{head-eq_of_cons-eq, tail-eq_of_cons-eq}
use mathlib.Core.Logic.{◌≢◌}
use Prim.Native.Nat.{ℕ, zero, suc, ◌≤◌, ◌<◌}
use native.Mathlib.Omega.{arith}
use native.Mathlib.Decide.{ℕ_discrete}
use lib.ListN.{length, get_or, take-append-drop, length-append, get_or-append}
use lib.Seq.{get_or_at}
use lib.Dec.{T, eqb}
use borrow.Author.Tests.{eq-eqb, ne_eqb}
use Rattle.agreement.specs.Statement.{Call, Event, calls_of}
use Rattle.schedules.specs.Schedule.{Schedule, on, up_to, is_honest, start_record, OwnWrote, padded_calls}
use Rattle.schedules.specs.Schedule.{last_place, all_but_last, last_only, by_node, round_in_step, first_rounds}
use Rattle.schedules.proofs.Rounds.{wrote_more}

-- nothing stands in the empty list
pub nothing_there : {A : Type 0} (before : List A) (x : A) (later : List A) → [] ≡ before ++ (x ∷ later) → ⊥
nothing_there [] x later h = let z : ◌≡◌ {A = ℕ} 0 1 = cc in omega arith
nothing_there (y ∷ ys) x later h = let z : ◌≡◌ {A = ℕ} 0 1 = cc in omega arith

-- Calls of one node.

pub calls_mine : (p : ℕ) (e : Event) (es : List Event) → e.node ≡ p → calls_of p (e ∷ es) ≡ e.call ∷ calls_of p es
unfolding calls_of
calls_mine p e es h = rw (eq-eqb e.node p h)

pub calls_other : (p : ℕ) (e : Event) (es : List Event) → e.node ≢ p → calls_of p (e ∷ es) ≡ calls_of p es
unfolding calls_of
calls_other p e es h = rw (ne_eqb e.node p h)

pub calls_append : (p : ℕ) (es fs : List Event) → calls_of p (es ++ fs) ≡ calls_of p es ++ calls_of p fs
unfolding calls_of
calls_append p [] fs = refl
calls_append p (e ∷ es) fs = go (eqb e.node p) (calls_append p es fs)
  where
    go : (b : Bool) → calls_of p (es ++ fs) ≡ calls_of p es ++ calls_of p fs
        → cond b (e.call ∷ calls_of p (es ++ fs)) (calls_of p (es ++ fs))
        ≡ cond b (e.call ∷ calls_of p es) (calls_of p es) ++ calls_of p fs
    go true i = ap (λ x. e.call ∷ x) i
    go false i = i

-- one event more, of p and of another node
pub calls_mine_last : (p : ℕ) (es : List Event) (e : Event) → e.node ≡ p
    → calls_of p (es ++ (e ∷ [])) ≡ calls_of p es ++ (e.call ∷ [])
unfolding calls_of
calls_mine_last p es e h = calls_append p es (e ∷ []) ∙ ap (λ x. calls_of p es ++ x) (calls_mine p e [] h)

pub calls_other_last : (p : ℕ) (es : List Event) (e : Event) → e.node ≢ p → calls_of p (es ++ (e ∷ [])) ≡ calls_of p es
unfolding calls_of
calls_other_last p es e h =
    calls_append p es (e ∷ []) ∙ ap (λ x. calls_of p es ++ x) (calls_other p e [] h) ∙ append-nil (calls_of p es)

-- what was written among the first events was written among all
pub wrote_all : (s : Schedule) (before later : List Event) → s.events ≡ before ++ later → (q j : ℕ) (w : List ℕ)
    → OwnWrote (up_to s before) q j w → OwnWrote s q j w
wrote_all s before later e q j w h =
    rw (e, calls_append q before later) (wrote_more (start_record s q) (calls_of q before) (calls_of q later) j w h)

-- A call of p stands among the events where it stands among its calls.
pub record StandsAt (p : ℕ) (es : List Event) (earlier : List Call) (c : Call) : Type 0 where
  pub before : List Event
  pub later : List Event
  pub stands : es ≡ before ++ (on p c ∷ later)
  pub mine : calls_of p before ≡ earlier

pub stands_at_lem : (p : ℕ) (es : List Event) (earlier : List Call) (c : Call) (later : List Call)
    → calls_of p es ≡ earlier ++ (c ∷ later) → StandsAt p es earlier c
unfolding calls_of
stands_at_lem p [] earlier c later h = absurd (nothing_there earlier c later h)
stands_at_lem p (e ∷ es) earlier c later h = go (ℕ_discrete e.node p) earlier h (stands_at_lem p es)
  where
    go : Dec (e.node ≡ p) → (earlier : List Call) → calls_of p (e ∷ es) ≡ earlier ++ (c ∷ later)
        → ((earlier : List Call) (c : Call) (later : List Call) → calls_of p es ≡ earlier ++ (c ∷ later)
        → StandsAt p es earlier c)
        → StandsAt p (e ∷ es) earlier c
    go (no other) earlier h i =
        let t = i earlier c later (sym (calls_other p e es other) ∙ h) in
        record {
          before = e ∷ t.before;
          later = t.later;
          stands = ap (λ x. e ∷ x) t.stands;
          mine = calls_other p e t.before other ∙ t.mine;
        }
    go (yes own) [] h i =
        let first = head-eq_of_cons-eq (sym (calls_mine p e es own) ∙ h) in
        record { before = []; later = es; stands = ap₂ (λ q x. on q x ∷ es) own first; mine = refl }
    go (yes own) (x ∷ xs) h i =
        let both = sym (calls_mine p e es own) ∙ h in
        let t = i xs c later (tail-eq_of_cons-eq both) in
        record {
          before = e ∷ t.before;
          later = t.later;
          stands = ap (λ x. e ∷ x) t.stands;
          mine = calls_mine p e t.before own ∙ ap₂ (λ y z. y ∷ z) (head-eq_of_cons-eq both) t.mine;
        }

-- A round made of each node's calls.

calls_made : (p : ℕ) (cs : List Call) → calls_of p (map (on p) cs) ≡ cs
unfolding calls_of
calls_made p [] = refl
calls_made p (c ∷ cs) = calls_mine p (on p c) (map (on p) cs) refl ∙ ap (λ x. c ∷ x) (calls_made p cs)

calls_made_other : (p q : ℕ) (cs : List Call) → q ≢ p → calls_of p (map (on q) cs) ≡ []
unfolding calls_of
calls_made_other p q [] h = refl
calls_made_other p q (c ∷ cs) h = calls_other p (on q c) (map (on q) cs) h ∙ calls_made_other p q cs h

module _ (s : Schedule) (given : ℕ → List Call) (p : ℕ) where
  -- what one node adds, another and p itself
  other_part : (q : ℕ) (b : Bool) → q ≢ p → calls_of p (cond b (map (on q) (given q)) []) ≡ []
  unfolding calls_of
  other_part q true h = calls_made_other p q (given q) h
  other_part q false h = refl

  one_node_more : (n : ℕ) → n ≢ p → calls_of p (by_node s given (suc n)) ≡ calls_of p (by_node s given n)
  unfolding by_node
  one_node_more n h =
      calls_append p (by_node s given n) (cond (is_honest s n) (map (on n) (given n)) [])
      ∙ ap (λ x. calls_of p (by_node s given n) ++ x) (other_part n (is_honest s n) h)
      ∙ append-nil (calls_of p (by_node s given n))

  none_yet : (n : ℕ) → n ≤ p → calls_of p (by_node s given n) ≡ []
  unfolding by_node calls_of
  none_yet zero h = refl
  none_yet (suc n) h = one_node_more n (λ e. omega arith) ∙ none_yet n (omega arith)

  own_part : (b : Bool) → T b → calls_of p (cond b (map (on p) (given p)) []) ≡ given p
  own_part true t = calls_made p (given p)
  own_part false t = absurd t

  pub by_node_lem : (n : ℕ) → T (is_honest s p) → p < n → calls_of p (by_node s given n) ≡ given p
  unfolding by_node
  by_node_lem zero honest h = absurd (omega arith)
  by_node_lem (suc n) honest h = elim (ℕ_discrete n p) [
    | yes e ↦
        ap (λ m. calls_of p (by_node s given (suc m))) e
        ∙ calls_append p (by_node s given p) (cond (is_honest s p) (map (on p) (given p)) [])
        ∙ ap₂ (λ x y. x ++ y) (none_yet p (omega arith)) (own_part (is_honest s p) honest)
    | no e ↦ one_node_more n e ∙ by_node_lem n honest (omega arith)
  ]

-- The rounds of the lock-step run.

flatten_one_more : (rounds : List (List Event)) (r : List Event) → flatten (rounds ++ (r ∷ [])) ≡ flatten rounds ++ r
unfolding flatten
flatten_one_more [] r = append-nil r
flatten_one_more (x ∷ rounds) r =
    ap (λ y. x ++ y) (flatten_one_more rounds r) ∙ sym (append_assoc x (flatten rounds) r)

module _ (s : Schedule) (n : ℕ) where
  -- a round's calls of p are those that are given for it, the last one after all others' other calls
  pub calls_in_round : (p j : ℕ) → T (is_honest s p) → p < n → calls_of p (round_in_step s n j) ≡ padded_calls s n p j
  calls_in_round p j honest below =
      let own = padded_calls s n p j in
      calls_append p (by_node s (λ q. all_but_last (padded_calls s n q j)) n)
      (by_node s (λ q. last_only (padded_calls s n q j)) n)
      ∙ ap₂ (λ x y. x ++ y) (by_node_lem s (λ q. all_but_last (padded_calls s n q j)) p n honest below)
      (by_node_lem s (λ q. last_only (padded_calls s n q j)) p n honest below)
      ∙ take-append-drop (last_place own) own

  pub rounds_length : (m : ℕ) → length (first_rounds s n m) ≡ m
  unfolding first_rounds
  rounds_length zero = refl
  rounds_length (suc m) = length-append (first_rounds s n m) (round_in_step s n m ∷ []) ∙ omega (arith, rounds_length m)

  pub round_at_lem : (m j : ℕ) → j < m → get_or (first_rounds s n m) j [] ≡ round_in_step s n j
  unfolding first_rounds
  round_at_lem zero j h = absurd (omega arith)
  round_at_lem (suc m) j h = elim (ℕ_discrete m j) [
    | yes e ↦
        get_or_at (first_rounds s n m) (round_in_step s n m) [] [] j (rounds_length m ∙ e) ∙ ap (round_in_step s n) e
    | no e ↦
        get_or-append (first_rounds s n m) (round_in_step s n m ∷ []) [] j (omega (arith, rounds_length m))
        ∙ round_at_lem m j (omega arith)
  ]

  pub calls_together : (p m : ℕ) → T (is_honest s p) → p < n
      → calls_of p (flatten (first_rounds s n (suc m)))
      ≡ calls_of p (flatten (first_rounds s n m)) ++ padded_calls s n p m
  unfolding first_rounds
  calls_together p m honest below =
      ap (calls_of p) (flatten_one_more (first_rounds s n m) (round_in_step s n m))
      ∙ calls_append p (flatten (first_rounds s n m)) (round_in_step s n m)
      ∙ ap (λ x. calls_of p (flatten (first_rounds s n m)) ++ x) (calls_in_round p m honest below)
