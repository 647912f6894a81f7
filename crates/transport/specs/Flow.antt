-- Flow (scope, "Flow, air, load, and the book"): from each old amount a part passes down, the last cell's leaves;
-- carries stay. No assumptions.
use Rattle.std.specs.Prelude.{ℕ, ◌*◌, ◌-◌, ◌/◌, not, cond, List, [], ◌∷◌, leb, ltb, get_or, ℤ, pos, ◌+ℤ◌, ◌-ℤ◌, ◌*ℤ◌, Result}
use Rattle.std.specs.Int.Signed.{quot_z}
use Rattle.numeric.specs.Check.{first_holding, ◌when◌}
use Rattle.numeric.specs.Table.{tab}
use Rattle.stoichiometry.specs.declared.refusals.Refusal.{Refusal}
use Rattle.stoichiometry.specs.Refusals.{answer_of}
use Rattle.stoichiometry.specs.Substances.{substances}
use Rattle.river.specs.declared.River.{River}
use Rattle.transport.specs.declared.Flowed.{Flowed}
use Rattle.river.specs.Rivers.{most_cells, amounts_fit, river_wrong}

-- amount × part / 10,000, rounded toward zero.
unfoldable pub passing : ℕ → ℤ → ℤ
passing part amount = quot_z (amount *ℤ pos part) (pos 10000)

-- What leaves each cell, by place in the amounts; zeros beyond the last cell, since there the amounts are zeros.
unfoldable pub left_of : ℕ → List ℤ → List ℤ
left_of part amounts = tab (most_cells * substances) (λ k. passing part (get_or amounts k (pos 0)))

-- What comes into a cell: what left the one above it; nothing into the first, nor beyond the last.
abbrev pub came_at : ℕ → List ℤ → ℕ → ℤ
came_at n left k =
    cond (ltb k substances) (pos 0) (cond (ltb (k / substances) n) (get_or left (k - substances) (pos 0)) (pos 0))

-- The amounts after: what stayed and what came; and what is answered of them.
unfoldable pub moved_of : ℕ → List ℤ → List ℤ → List ℤ
moved_of n amounts left =
    tab (most_cells * substances) (λ k. get_or amounts k (pos 0) -ℤ get_or left k (pos 0) +ℤ came_at n left k)

abbrev pub flowed_amounts : ℕ → River → List ℤ
flowed_amounts part r = moved_of r.cells r.amounts (left_of part r.amounts)

abbrev pub flowed : ℕ → River → Flowed
flowed part r =
    record {
      river = record { cells = r.cells; amounts = flowed_amounts part r; carries = r.carries };
      left = left_of part r.amounts;
    }

-- 8 is stated as for every call; a law shows that it never comes.
unfoldable pub flow_number : River → ℕ → ℕ
flow_number r part =
    first_holding
    (4 when river_wrong r
    ∷ 6 when not (leb part 10000)
    ∷ 8 when not (amounts_fit r.cells (flowed_amounts part r))
    ∷ [])

-- The river after and what left each cell.
unfoldable pub flow_answer : River → ℕ → Result Flowed Refusal
flow_answer r part = answer_of (flow_number r part) (flowed part r)
