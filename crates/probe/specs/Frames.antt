-- The probe frame (scope, "Probe frame, letter, record"): what its readings become, or the number it is refused with.
-- Laws: proofs/FrameLaws.antt. No assumptions.
use Rattle.std.specs.Prelude.{ℕ, ◌*◌, Bool, true, not, ◌&&◌, [], ◌∷◌, ltb, ℤ, pos, Float, Option, Some, None}
use Rattle.std.specs.Prelude.{Result}
use Rattle.numeric.specs.Check.{first_holding, ◌when◌}
use Rattle.stoichiometry.specs.Limits.{most_saturation}
use Rattle.stoichiometry.specs.Refusals.{answer_of}
use Rattle.stoichiometry.specs.Substances.{grains_per_microgram_o, grains_per_microgram_n, grains_per_microgram_p}
use Rattle.stoichiometry.specs.declared.refusals.Refusal.{Refusal}
use Rattle.probe.specs.declared.Amounts.{Amounts}
use Rattle.probe.specs.declared.Frame.{Frame}
use Rattle.probe.specs.declared.Oxygen.{Oxygen}
use Rattle.probe.specs.declared.Oxygen.TheVariants.{Mass, Percent, Missing}
use Rattle.probe.specs.Readings.{reading_fits, scaled_floor}

-- A mass, g/m³, in µg: the exact value × 10^6, rounded down.
abbrev pub mass_micrograms : Float → ℕ
mass_micrograms x = scaled_floor x 1000000 1

-- A percentage of saturation in µg: the exact value × the saturation / 100, rounded down.
abbrev pub percent_micrograms : Float → ℕ → ℕ
percent_micrograms x saturation = scaled_floor x saturation 100

-- The oxygen reading fits; a missing one is not tested.
abbrev pub oxygen_fits : Oxygen → Bool
oxygen_fits (Mass x) = reading_fits x
oxygen_fits (Percent x) = reading_fits x
oxygen_fits Missing = true

-- The amount of O2, grains: µg times W; a missing reading gives a mark, no amount.
abbrev pub oxygen_amount : Oxygen → ℕ → Option ℤ
oxygen_amount (Mass x) saturation = Some (pos (mass_micrograms x * grains_per_microgram_o))
oxygen_amount (Percent x) saturation = Some (pos (percent_micrograms x saturation * grains_per_microgram_o))
oxygen_amount Missing saturation = None

-- No reading of the frame is refused.
unfoldable pub frame_fits : Frame → Bool
frame_fits f =
    reading_fits f.ammonium
    && reading_fits f.nitrite
    && reading_fits f.nitrate
    && reading_fits f.phosphate
    && oxygen_fits f.oxygen

-- The number of a frame: 6 before 9.
unfoldable pub frame_number : Frame → ℕ → ℕ
frame_number f saturation = first_holding (6 when ltb most_saturation saturation ∷ 9 when not (frame_fits f) ∷ [])

-- The amounts of the frame's readings, grains.
abbrev pub frame_amounts : Frame → ℕ → Amounts
frame_amounts f saturation = record {
  ammonium = pos (mass_micrograms f.ammonium * grains_per_microgram_n);
  nitrite = pos (mass_micrograms f.nitrite * grains_per_microgram_n);
  nitrate = pos (mass_micrograms f.nitrate * grains_per_microgram_n);
  phosphate = pos (mass_micrograms f.phosphate * grains_per_microgram_p);
  oxygen = oxygen_amount f.oxygen saturation;
}

-- The answer of `amounts_of`: 6, 9, or the amounts.
unfoldable pub frame_answer : Frame → ℕ → Result Amounts Refusal
frame_answer f saturation = answer_of (frame_number f saturation) (frame_amounts f saturation)
