-- Calls, answers and the book (scope, "Flow, air, load, and the book"). Nothing here knows of a river: the book is
-- given the set and, call by call, the arguments and the answer. Rivers: Held.antt. No assumptions.
use Rattle.std.specs.Prelude.{ℕ, zero, suc, ◌-◌, Bool, cond, List, [], ◌∷◌, eqb, ℤ, pos, ◌+ℤ◌, ◌-ℤ◌}
use Rattle.numeric.specs.Check.{in_range}
use Rattle.stoichiometry.specs.declared.Set.{Set}
use Rattle.stoichiometry.specs.Substances.{o2, place, Total, contents}
use Rattle.stoichiometry.specs.Totals.{cell_total}
use Rattle.kinetics.specs.declared.Conditions.{Conditions}

-- A call with its arguments but for the river and the set; any values.
pub data Call : Type 0 where
  -- cell, substance, the whole number added, of either sign
  load : ℕ → ℕ → ℤ → Call
  -- part
  flow : ℕ → Call
  -- cell, constant, seconds, saturation
  air : ℕ → ℕ → ℕ → ℕ → Call
  -- seconds, light and temperature factors
  step : Conditions → Call

-- An answer without its river: the number, what a flow lists, the amount of O2 of air.
pub record Answer : Type 0 where
  pub number : ℕ
  pub left : List ℤ
  pub amount : ℤ

-- A call with its answer: all that the book is given.
pub record Entry : Type 0 where
  pub call : Call
  pub answer : Answer

-- A cell is one of the cells i to j.
abbrev pub among : ℕ → ℕ → ℕ → Bool
among i j = in_range i j

-- The contents of all amounts that a list has for a cell, numbered from 1; nothing for cell 0.
unfoldable pub listed : Set → Total → List ℤ → ℕ → ℤ
listed set t left zero = pos 0
listed set t left (suc c) = cell_total set t left c

-- What a call that is not refused adds to the book of cells i to j.
abbrev pub booked : Set → Total → ℕ → ℕ → Call → Answer → ℤ
booked set t i j (load cell substance added) answer =
    cond (among i j cell) (contents set t (substance - 1) added) (pos 0)
booked set t i j (flow part) answer = listed set t answer.left (i - 1) -ℤ listed set t answer.left j
booked set t i j (air cell k seconds saturation) answer =
    cond (among i j cell) (contents set t (place o2) answer.amount) (pos 0)
booked set t i j (step conditions) answer = pos 0

-- The book of cells i to j, one total: at first 0; a refused call leaves it as it is.
abbrev pub book : Set → Total → ℕ → ℕ → List Entry → ℤ
book set t i j [] = pos 0
book set t i j (e ∷ entries) =
    cond (eqb e.answer.number 0) (booked set t i j e.call e.answer) (pos 0) +ℤ book set t i j entries
