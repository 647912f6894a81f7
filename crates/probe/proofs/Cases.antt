-- Worked cases beside those that document 01 stars (crate results), about the definitions and by computation:
-- percentages, the edges of what is accepted, whole frames. A float is given as the rounding of a fraction, or by its
-- bits where it is an edge. No assumptions.
use mathlib.Core.Path.{◌≡◌, refl}
use mathlib.Core.Bool.{true, false}
use mathlib.Core.List.{List, [], ◌∷◌, map}
use Prim.Native.Nat.{ℕ}
use lib.IntN.{ℤ, pos}
use lib.Ieee.{Float, nan, inf, binary32, of_bits, round}
use Rattle.std.specs.Prelude.{Option, Some, None, Ok, Err}
use Rattle.numeric.specs.Case.{Case, ◌gives◌, AllHold}
use Rattle.numeric.specs.Check.{first_holding}
use Rattle.stoichiometry.specs.declared.refusals.Refusal.TheVariants.{Conditions, Reading}
use Rattle.probe.specs.declared.Amounts.{Amounts}
use Rattle.probe.specs.declared.Frame.{Frame}
use Rattle.probe.specs.declared.Oxygen.{Oxygen}
use Rattle.probe.specs.declared.Oxygen.TheVariants.{Mass, Percent, Missing}
use Rattle.probe.specs.Readings.{reading_fits, scaled_floor}
use Rattle.probe.specs.Frames.{mass_micrograms, percent_micrograms, frame_fits, frame_number, frame_answer}

-- The f32 nearest numerator / denominator.
abbrev nearest : ℕ → ℕ → Float
nearest numerator denominator = round binary32 false numerator denominator

-- Edges by their bits: −0, the least subnormal and its negative, the largest below 256, 256.
abbrev minus_zero : Float
minus_zero = of_bits binary32 0x8000_0000

abbrev least : Float
least = of_bits binary32 0x0000_0001

abbrev least_negative : Float
least_negative = of_bits binary32 0x8000_0001

abbrev largest : Float
largest = of_bits binary32 0x437f_ffff

abbrev too_large : Float
too_large = of_bits binary32 0x4380_0000

-- Micrograms; a saturation of 10,000,000 µg. 87.5 is exact, 33.3 is not.
unfoldable pub cases : List Case
cases =
    pos (mass_micrograms minus_zero) gives pos 0
    ∷ pos (mass_micrograms least) gives pos 0
    ∷ pos (mass_micrograms largest) gives pos 255999984
    ∷ pos (percent_micrograms (nearest 175 2) 10000000) gives pos 8750000
    ∷ pos (percent_micrograms (nearest 333 10) 10000000) gives pos 3329999
    ∷ []

pub cases_hold : AllHold cases
unfolding cases scaled_floor of_bits round
cases_hold = refl

-- Which readings are accepted.
pub edges_hold :
    map reading_fits (minus_zero ∷ least ∷ largest ∷ too_large ∷ least_negative ∷ nan ∷ inf false ∷ inf true ∷ [])
    ≡ true ∷ true ∷ true ∷ false ∷ false ∷ false ∷ false ∷ false ∷ []
unfolding reading_fits of_bits
edges_hold = refl

-- A frame of 0.25 g of NH4-N, nothing else but an oxygen reading, and what it becomes.
abbrev frame : Oxygen → Frame
frame oxygen = record { ammonium = nearest 1 4; nitrite = minus_zero; nitrate = minus_zero; phosphate = minus_zero; oxygen = oxygen }

abbrev taken : Option ℤ → Amounts
taken oxygen = record { ammonium = pos 5580000000000; nitrite = pos 0; nitrate = pos 0; phosphate = pos 0; oxygen = oxygen }

-- A mass, a percentage, a missing reading; then a saturation of 20,000,001 with a missing reading, and a reading
-- below zero.
pub frames_hold :
    (frame_answer (frame (Mass (nearest 9 10))) 10000000
    ∷ frame_answer (frame (Percent (nearest 175 2))) 10000000
    ∷ frame_answer (frame Missing) 20000000
    ∷ frame_answer (frame Missing) 20000001
    ∷ frame_answer (frame (Mass least_negative)) 20000000
    ∷ [])
    ≡ Ok (taken (Some (pos 8788490235000))) ∷ Ok (taken (Some (pos 85443750000000))) ∷ Ok (taken None)
    ∷ Err Conditions ∷ Err Reading ∷ []
unfolding frame_answer frame_number frame_fits first_holding reading_fits scaled_floor of_bits round
frames_hold = refl
