-- Laws of what cells i to j hold, for any set: equal cells, zeros, and how one amount changed, a flow and a step change
-- it. Each follows by a law of sums from a law on one cell: stoichiometry proofs/Totals.antt, CellBalance.antt. No
-- assumptions.
use Prim.Native.Nat.{ℕ, suc, ◌+◌, ◌*◌, ◌-◌, ◌≤◌, ◌<◌}
use mathlib.Core.Bool.{Bool, true, false, ◌&&◌, cond, true≢false}
use mathlib.Core.List.{List, [], ◌∷◌}
use mathlib.Core.Path.{◌≡◌, refl, sym, ap₂, ◌∙◌}
use native.Mathlib.Nat.{add-zero, add-suc}
use native.Mathlib.Omega.{arith}
use lib.ListN.{length}
use lib.IntN.{ℤ, pos, ◌+ℤ◌, ◌-ℤ◌, +ℤ_idr}
use borrow.Author.Tests.{le-leb}
use Rattle.numeric.specs.Sum.{sum}
use Rattle.numeric.proofs.Expression.{v, ◌⊕◌, ◌⊖◌}
use Rattle.numeric.proofs.Ring.{solve}
use Rattle.numeric.proofs.SumLaws.{sum_eq, sum_zero, sum_change, sum_telescope}
use Rattle.numeric.proofs.CheckLaws.{leb-within}
use Rattle.stoichiometry.specs.declared.Set.{Set}
use Rattle.stoichiometry.specs.Substances.{substances, Total, contents}
use Rattle.kinetics.specs.declared.Conditions.{Conditions}
use Rattle.river.specs.declared.River.{River}
use Rattle.river.specs.Rivers.{most_cells}
use Rattle.transport.specs.Flow.{moved_of}
use Rattle.stoichiometry.specs.Totals.{cell_total}
use Rattle.stoichiometry.proofs.Totals.{added, cell_added, cell_beside}
use Rattle.step.specs.Steps.{stepped_amounts}
use Rattle.balance.specs.Calls.{among, listed}
use Rattle.balance.specs.Held.{held}
use Rattle.balance.proofs.CellBalance.{cell-flow, step_keeps_cell}

module _ (set : Set) (t : Total) where
  -- Cells that hold the same.
  pub held_eq : (a b : List ℤ) (i j : ℕ) → 1 ≤ i
      → ((c : ℕ) → i ≤ suc c → c < j → cell_total set t a c ≡ cell_total set t b c) → held set t a i j ≡ held set t b i j
  unfolding held
  held_eq a b i j h e = sum_eq (suc j - i) _ _ (λ d l. e (i - 1 + d) (omega arith) (omega arith))

  -- Cells that hold nothing.
  pub held_zero : (a : List ℤ) (i j : ℕ) → ((c : ℕ) → cell_total set t a c ≡ pos 0) → held set t a i j ≡ pos 0
  unfolding held
  held_zero a i j e = sum_eq (suc j - i) _ (λ d. pos 0) (λ d l. e (i - 1 + d)) ∙ sum_zero (suc j - i)

  -- A number added to an amount: of one of the cells, of another cell, and either way.
  module _
      (a : List ℤ) (c s : ℕ) (x : ℤ) (i j : ℕ) (h : s < substances) (l : c * substances + s < length a)
      (b : 1 ≤ i) where
    added_inside : i ≤ suc c → suc c ≤ j → held set t (added a c s x) i j ≡ held set t a i j +ℤ contents set t s x
    unfolding held
    added_inside p q =
        let e : i - 1 + (suc c - i) ≡ c = omega arith in
        let at : List ℤ → ℕ → ℤ = λ list d. cell_total set t list (i - 1 + d) in
        sum_change (suc j - i) (suc c - i) (at a) (at (added a c s x)) (omega arith)
        (λ d g. cell_beside set t a (i - 1 + d) c s x h (λ o. g (omega arith)))
        ∙ rw (e, cell_added set t a c s x h l)
        (solve (sum (suc j - i) (at a) ∷ cell_total set t a c ∷ contents set t s x ∷ [])
        (v 0 ⊕ (v 1 ⊕ v 2 ⊖ v 1)) (v 0 ⊕ v 2) tt)

    added_beside : (i ≤ suc c → suc c ≤ j → ⊥) → held set t (added a c s x) i j ≡ held set t a i j
    added_beside out =
        held_eq (added a c s x) a i j b (λ d p q. cell_beside set t a d c s x h (λ e. out (omega arith) (omega arith)))

    pub held_added : held set t (added a c s x) i j
        ≡ held set t a i j +ℤ cond (among i j (suc c)) (contents set t s x) (pos 0)
    held_added = by-cell (among i j (suc c)) refl
      where
        by-cell : (is : Bool) → among i j (suc c) ≡ is
            → held set t (added a c s x) i j ≡ held set t a i j +ℤ cond is (contents set t s x) (pos 0)
        by-cell true e = let inside = leb-within i (suc c) j e in added_inside inside.0 inside.1
        by-cell false e =
            added_beside (λ q r. true≢false (sym (ap₂ ◌&&◌ (le-leb i (suc c) q) (le-leb (suc c) j r)) ∙ e))
            ∙ sym (+ℤ_idr (held set t a i j))

  -- A flow through the first n cells: cells i to j get what left cell i − 1 and give what left cell j.
  pub held-flow : (n : ℕ) (a left : List ℤ) (i j : ℕ) → 1 ≤ i → i ≤ j → j ≤ n → n ≤ most_cells
      → held set t (moved_of n a left) i j ≡ held set t a i j +ℤ (listed set t left (i - 1) -ℤ listed set t left j)
  unfolding held
  held-flow n a left i j h l m most =
      let last : i - 1 + (suc j - i) ≡ j = omega arith in
      let at : List ℤ → ℕ → ℤ = λ list d. cell_total set t list (i - 1 + d) in
      sum_telescope (suc j - i) (at a) (at (moved_of n a left)) (λ d. listed set t left (i - 1 + d))
      (λ d k. rw add-suc (cell-flow set t n a left (i - 1 + d) (omega arith) (omega arith)))
      ∙ rw (add-zero, last)

  -- A step.
  pub held-step : (conditions : Conditions) (r : River) (i j : ℕ) → 1 ≤ i → j ≤ r.cells → r.cells ≤ most_cells
      → held set t (stepped_amounts set conditions r) i j ≡ held set t r.amounts i j
  held-step conditions r i j h m most =
      held_eq (stepped_amounts set conditions r) r.amounts i j h
      (λ c p q. step_keeps_cell set t conditions r c (omega arith) (omega arith))
