-- The totals of one cell, for any set, after a flow and after a step: a flow takes from a cell what left it and gives
-- it what left the one above; a step keeps every total. Equal amounts, zeros, one amount changed: stoichiometry
-- proofs/Totals.antt. Cells i to j: HeldLaws.antt. No assumptions.
use Prim.Native.Nat.{ℕ, zero, suc, ◌+◌, ◌*◌, ◌-◌, ◌<◌}
use mathlib.Core.List.{List}
use mathlib.Core.Path.{◌≡◌, refl, ap, ap₂, ◌∙◌}
use native.Mathlib.Omega.{arith}
use lib.ListN.{get_or}
use lib.IntN.{ℤ, pos, ◌+ℤ◌, ◌-ℤ◌, ◌*ℤ◌, +ℤ_idr}
use Rattle.numeric.specs.Sum.{sum}
use Rattle.numeric.proofs.SumLaws.{sum_eq, sum_zero, sum_add, sum_sub}
use Rattle.numeric.proofs.GridLaws.{grid_at_lem}
use Rattle.stoichiometry.specs.declared.Set.{Set}
use Rattle.stoichiometry.specs.Substances.{substances, Total, contents}
use Rattle.stoichiometry.specs.Totals.{amount_at, cell_total}
use Rattle.stoichiometry.specs.Rows.{processes, row_entry}
use Rattle.stoichiometry.proofs.Contents.{contents_zero, contents_add}
use Rattle.stoichiometry.proofs.Totals.{contents_sub, batches_balance}
use Rattle.kinetics.specs.declared.Conditions.{Conditions}
use Rattle.river.specs.declared.River.{River}
use Rattle.river.specs.Rivers.{most_cells, carry_at}
use Rattle.transport.specs.Flow.{came_at, moved_of}
use Rattle.transport.proofs.FlowLaws as FlowLaws
use Rattle.step.specs.Steps.{batches, new_amount, stepped_amounts}
use Rattle.balance.specs.Calls.{listed}

-- The amount of the cell above; nothing above the first.
abbrev above : List ℤ → ℕ → ℕ → ℤ
above left zero s = pos 0
above left (suc c) s = amount_at left c s

came_at_lem : (n : ℕ) (left : List ℤ) (c s : ℕ) → c < n → s < substances
    → came_at n left (c * substances + s) ≡ above left c s
came_at_lem n left zero s h l = FlowLaws.came_first n left (0 * substances + s) (omega arith)
came_at_lem n left (suc c) s h l =
    let e : suc c * substances + s - substances ≡ c * substances + s = omega arith in
    FlowLaws.came_next n left (suc c * substances + s) (omega arith) (omega arith)
    ∙ ap (λ (k : ℕ). get_or left k (pos 0)) e

-- An amount after a flow.
moved_at : (n : ℕ) (a left : List ℤ) (c s : ℕ) → c < n → c < most_cells → s < substances
    → amount_at (moved_of n a left) c s ≡ amount_at a c s -ℤ amount_at left c s +ℤ above left c s
moved_at n a left c s h l j =
    FlowLaws.moved_at n a left (c * substances + s) (omega arith)
    ∙ ap (λ (x : ℤ). amount_at a c s -ℤ amount_at left c s +ℤ x) (came_at_lem n left c s h j)

module _ (set : Set) (t : Total) where
  listed_above : (left : List ℤ) (c : ℕ) → sum substances (λ s. contents set t s (above left c s)) ≡ listed set t left c
  unfolding listed cell_total
  listed_above left zero =
      sum_eq substances _ (λ s. pos 0) (λ s l. contents_zero set t s) ∙ sum_zero substances
  listed_above left (suc c) = refl

  -- A flow.
  pub cell-flow : (n : ℕ) (a left : List ℤ) (c : ℕ) → c < n → c < most_cells
      → cell_total set t (moved_of n a left) c ≡ cell_total set t a c -ℤ listed set t left (suc c) +ℤ listed set t left c
  unfolding cell_total listed
  cell-flow n a left c h l =
      let at : List ℤ → ℕ → ℤ = λ list s. contents set t s (amount_at list c s) in
      let came : ℕ → ℤ = λ s. contents set t s (above left c s) in
      sum_eq substances _ (λ s. at a s -ℤ at left s +ℤ came s)
      (λ s j. ap (contents set t s) (moved_at n a left c s h l j)
      ∙ contents_add set t s (amount_at a c s -ℤ amount_at left c s) (above left c s)
      ∙ ap (λ (x : ℤ). x +ℤ came s) (contents_sub set t s (amount_at a c s) (amount_at left c s)))
      ∙ sum_add substances (λ s. at a s -ℤ at left s) came
      ∙ ap₂ ◌+ℤ◌ (sum_sub substances (at a) (at left)) (listed_above left c)

  -- A step: the batches of all rows hold nothing together.
  pub step_keeps_cell : (conditions : Conditions) (r : River) (c : ℕ) → c < r.cells → c < most_cells
      → cell_total set t (stepped_amounts set conditions r) c ≡ cell_total set t r.amounts c
  unfolding cell_total new_amount stepped_amounts
  step_keeps_cell conditions r c h l =
      let old : ℕ → ℤ = amount_at r.amounts c in
      let count : ℕ → ℤ = λ p. pos (batches set conditions old (carry_at r.carries c) p) in
      let changed : ℕ → ℤ = λ s. sum processes (λ p. count p *ℤ row_entry set p s) in
      sum_eq substances _ (λ s. contents set t s (old s) +ℤ contents set t s (changed s))
      (λ s j. ap (contents set t s) (grid_at_lem most_cells substances r.cells (pos 0) _ c s (pos 0) h l j)
      ∙ contents_add set t s (old s) (changed s))
      ∙ sum_add substances (λ s. contents set t s (old s)) (λ s. contents set t s (changed s))
      ∙ ap (λ (x : ℤ). cell_total set t r.amounts c +ℤ x) (batches_balance set t processes count)
      ∙ +ℤ_idr (cell_total set t r.amounts c)
