-- Checks 4 and 5 as calls (scope, "Numbers a caller may get"). No assumptions.
use Rattle.std.specs.Prelude.{ℕ, ◌-◌, not, [], ◌∷◌, Result, Ok, Err}
use Rattle.numeric.specs.Check.{first_holding, ◌when◌}
use Rattle.stoichiometry.specs.declared.refusals.Refusal.{Refusal}
use Rattle.stoichiometry.specs.Refusals.{answer_of}
use Rattle.river.specs.declared.River.{River}
use Rattle.river.specs.declared.checked.Checked.{Checked}
use Rattle.river.specs.Rivers.{river_wrong, cell_exists}

-- The river where check 4 passes it, else 4.
unfoldable pub checked_answer : River → Result River Refusal
checked_answer r = answer_of (first_holding (4 when river_wrong r ∷ [])) r

-- The river of an answer that has one.
abbrev pub river_of : Result Checked Refusal → Result River Refusal
river_of (Ok checked) = Ok checked.river.now
river_of (Err refusal) = Err refusal

-- The place, from 0, of the cell of this number where the river has it, else 5.
unfoldable pub place_answer : River → ℕ → Result ℕ Refusal
place_answer r cell = answer_of (first_holding (5 when not (cell_exists r cell) ∷ [])) (cell - 1)
