-- Air (scope, "Flow, air, load, and the book"): exchange of O2 with the air, for one cell. No assumptions.
use Rattle.std.specs.Prelude.{ℕ, ◌*◌, ◌-◌, ◌/◌, Bool, not, ◌&&◌, [], ◌∷◌, leb, ℤ, pos, ◌+ℤ◌, ◌-ℤ◌, ◌*ℤ◌, Result}
use Rattle.std.specs.Int.Signed.{quot_z}
use Rattle.numeric.specs.Check.{in_range, first_holding, ◌when◌}
use Rattle.stoichiometry.specs.declared.refusals.Refusal.{Refusal}
use Rattle.stoichiometry.specs.Refusals.{answer_of}
use Rattle.stoichiometry.specs.Substances.{o2, place, grains_per_microgram_o}
use Rattle.stoichiometry.specs.Levels.{level_of}
use Rattle.river.specs.declared.River.{River}
use Rattle.transport.specs.declared.Aired.{Aired}
use Rattle.stoichiometry.specs.Totals.{amount_at}
use Rattle.river.specs.Rivers.{amount_fits, river_wrong, cell_exists}
use Rattle.transport.specs.Load.{with_amount}
use Rattle.stoichiometry.specs.Limits.{most_seconds, most_saturation, seconds_per_day}

-- g: k × 10^6 × seconds / 86,400, rounded down, in 10^-9; k in thousandths per day.
unfoldable pub exchanged : ℕ → ℕ → ℕ
exchanged k seconds = k * 1000000 * seconds / seconds_per_day

-- The O2 that air brings to an amount of O2, grains, signed: d × g / 10^9 µg, rounded toward zero, times W, with d the
-- saturation less the level, µg.
unfoldable pub gain : ℕ → ℕ → ℕ → ℤ → ℤ
gain k seconds saturation amount =
    quot_z ((pos saturation -ℤ pos (level_of o2 amount)) *ℤ pos (exchanged k seconds)) (pos 1000000000)
    *ℤ pos grains_per_microgram_o

-- The gain of a cell, counted from 0, its O2 after, and the answer with it.
abbrev pub gain_at : River → ℕ → ℕ → ℕ → ℕ → ℤ
gain_at r c k seconds saturation = gain k seconds saturation (amount_at r.amounts c (place o2))

abbrev pub aired_amount : River → ℕ → ℕ → ℕ → ℕ → ℤ
aired_amount r c k seconds saturation = amount_at r.amounts c (place o2) +ℤ gain_at r c k seconds saturation

abbrev pub aired : River → ℕ → ℕ → ℕ → ℕ → Aired
aired r c k seconds saturation =
    record {
      river = with_amount r c (place o2) (aired_amount r c k seconds saturation);
      amount = gain_at r c k seconds saturation;
    }

-- Check 6 of air.
unfoldable pub air_figure_wrong : ℕ → ℕ → ℕ → Bool
air_figure_wrong k seconds saturation =
    not (leb k 20000 && in_range 1 most_seconds seconds && leb saturation most_saturation)

-- 8 is stated as for every call; a law shows that it never comes.
unfoldable pub air_number : River → ℕ → ℕ → ℕ → ℕ → ℕ
air_number r cell k seconds saturation =
    first_holding
    (4 when river_wrong r
    ∷ 5 when not (cell_exists r cell)
    ∷ 6 when air_figure_wrong k seconds saturation
    ∷ 8 when not (amount_fits (place o2) (aired_amount r (cell - 1) k seconds saturation))
    ∷ [])

-- The river with the gain added to the cell's O2, and the gain.
unfoldable pub air_answer : River → ℕ → ℕ → ℕ → ℕ → Result Aired Refusal
air_answer r cell k seconds saturation =
    answer_of (air_number r cell k seconds saturation) (aired r (cell - 1) k seconds saturation)
