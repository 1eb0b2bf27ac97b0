-- The results while they are gathered, node by node: 0 where none stands yet.
use mathlib.Core.Path.{◌≡◌, refl, sym, ◌∙◌}
use mathlib.Core.Bool.{Bool, true, false, cond}
use mathlib.Core.List.{List}
use Prim.Native.Nat.{ℕ, ◌+◌, ◌<◌, ◌≤◌}
use native.Mathlib.Omega.{arith}
use lib.ListN.{length, get_or, set, replicate, length-set, length-replicate}
use lib.Seq.{get_or-set_same, get_or-set_other}
use lib.Dec.{ltb}
use borrow.Author.Tests.{lt-ltb, le-ltb, ltb-true, ltb-false}
use Rattle.crew.specs.Parts.{most_nodes}
use Rattle.node.specs.declared.Node.{Node}
use Rattle.wire.proofs.Tests.{by_equality}
use Rattle.wire.specs.Below.{table}
use Rattle.wire.proofs.Arrays.{same_everywhere, filled_all}
use Rattle.wire.proofs.Tables.{table_long, table_filled}
use Rattle.aisle.specs.Round.{node_in, results_of}

-- node k's result, if it is one of the first i
abbrev result_of : List Node → ℕ → ℕ → ℕ
result_of nodes i k = cond (ltb k i) (node_in nodes k).result 0

same_result : (nodes : List Node) (i j k : ℕ) → (k < i → k < j) → (k < j → k < i)
    → result_of nodes i k ≡ result_of nodes j k
same_result nodes i j k to from = go (ltb k i) (ltb k j) refl refl
  where
    go : (a b : Bool) → ltb k i ≡ a → ltb k j ≡ b
        → cond a (node_in nodes k).result 0 ≡ cond b (node_in nodes k).result 0
    go true true e₁ e₂ = refl
    go true false e₁ e₂ = absurd (omega (arith, to (ltb-true k i e₁), ltb-false k j e₂))
    go false true e₁ e₂ = absurd (omega (arith, from (ltb-true k j e₂), ltb-false k i e₁))
    go false false e₁ e₂ = refl

-- the results of the first i nodes, of n, are gathered
pub record Gathered (nodes : List Node) (n : ℕ) (results : List ℕ) (i : ℕ) : Type 0 where
  pub asked : i ≤ n
  pub inside : i ≤ most_nodes
  pub long : length results ≡ most_nodes
  pub each : (k : ℕ) → get_or results k 0 ≡ result_of nodes i k

module _ (nodes : List Node) (n : ℕ) where
  pub gathered_none : Gathered nodes n (replicate most_nodes 0) 0
  gathered_none = record {
    asked = omega arith;
    inside = omega arith;
    long = length-replicate {A = ℕ} most_nodes 0;
    each = λ k. same_everywhere {A = ℕ} most_nodes k 0 ∙ rw (le-ltb k 0 (omega arith));
  }

  module _ (results : List ℕ) (i : ℕ) (gathered : Gathered nodes n results i) where
    pub gathered_more : i < most_nodes → i < n → Gathered nodes n (set results i (node_in nodes i).result) (i + 1)
    gathered_more room more = record {
      asked = omega arith;
      inside = omega arith;
      long = length-set results i _ ∙ gathered.long;
      each = λ k.
          by_equality k i
          (λ same.
          rw (same, lt-ltb i (i + 1) (omega arith))
          (get_or-set_same results i _ 0 (omega (arith, gathered.long))))
          (λ apart.
          get_or-set_other results i k _ 0 apart
          ∙ gathered.each k
          ∙ same_result nodes i (i + 1) k (λ h. omega arith) (λ h. omega (arith, apart)));
    }

    -- where they are all gathered, or there is no more room, they are all
    pub gathered_all : (i < most_nodes → n ≤ i) → results ≡ results_of nodes n
    unfolding results_of
    gathered_all ended =
        let all : List ℕ = table (result_of nodes n) most_nodes in
        let long : length all ≡ most_nodes = table_long (result_of nodes n) most_nodes in
        filled_all (result_of nodes n) 0 results all most_nodes (gathered.long ∙ sym long)
        (omega (arith, gathered.long))
        (λ k less.
        gathered.each k
        ∙ same_result nodes i n k (λ h. omega (arith, gathered.asked))
        (λ h. by_room k less h))
        (rw long (table_filled (result_of nodes n) 0 most_nodes))
      where
        by_room : (k : ℕ) → k < most_nodes → k < n → k < i
        by_room k less h = go (ltb i most_nodes) refl
          where
            go : (t : Bool) → ltb i most_nodes ≡ t → k < i
            go true e = omega (arith, ended (ltb-true i most_nodes e))
            go false e = omega (arith, ltb-false i most_nodes e)
