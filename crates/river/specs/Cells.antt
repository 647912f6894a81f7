-- One cell: its letter (scope, "Probe frame, letter, record"). No assumptions.
use Rattle.std.specs.Prelude.{ℕ, ◌-◌, not, cond, List, [], ◌∷◌, ltb, ℤ, Result}
use Rattle.numeric.specs.Check.{first_holding, ◌when◌}
use Rattle.stoichiometry.specs.declared.refusals.Refusal.{Refusal}
use Rattle.stoichiometry.specs.Refusals.{answer_of}
use Rattle.stoichiometry.specs.Substances.{o2, nh4, place}
use Rattle.stoichiometry.specs.Totals.{amount_at}
use Rattle.stoichiometry.specs.Levels.{level_of}
use Rattle.river.specs.declared.River.{River}
use Rattle.river.specs.declared.Letter.{Letter}
use Rattle.river.specs.declared.Letter.TheVariants.{LowOxygen, HighAmmonium, Neither}
use Rattle.river.specs.Rivers.{river_wrong, cell_exists}

-- A letter as ASCII: L (76), N (78), a hyphen (45).
abbrev pub byte : Letter → ℕ
byte LowOxygen = 76
byte HighAmmonium = 78
byte Neither = 45

-- The letter by the levels of O2 and NH4: L if that of O2 is below 2,000,000 µg; N if that of NH4 is above
-- 1,000,000 µg; else a hyphen.
unfoldable pub letter_by : ℕ → ℕ → Letter
letter_by oxygen_level ammonium_level =
    cond (ltb oxygen_level 2000000) LowOxygen (cond (ltb 1000000 ammonium_level) HighAmmonium Neither)

-- The letter of a cell, counted from 0.
unfoldable pub letter_of : List ℤ → ℕ → Letter
letter_of amounts c =
    letter_by (level_of o2 (amount_at amounts c (place o2))) (level_of nh4 (amount_at amounts c (place nh4)))

unfoldable pub letter_number : River → ℕ → ℕ
letter_number r cell = first_holding (4 when river_wrong r ∷ 5 when not (cell_exists r cell) ∷ [])

-- The letter of a cell.
unfoldable pub letter_answer : River → ℕ → Result Letter Refusal
letter_answer r cell = answer_of (letter_number r cell) (letter_of r.amounts (cell - 1))
