-- Laws of frames: what it says that one fits; an amount is in 64 bits; the answer of a frame by the checks. No assumptions.
use mathlib.Core.Path.{◌≡◌, refl}
use mathlib.Core.Bool.{true, false}
use Prim.Native.Nat.{ℕ, ◌*◌, ◌≤◌, ◌<◌}
use native.Mathlib.Nat.{mul-le-mul, le_trans}
use native.Mathlib.Omega.{arith}
use lib.Dec.{ltb}
use lib.Ieee.{Float}
use Rattle.std.specs.Prelude.{Ok, Err}
use Rattle.numeric.specs.Check.{first_holding}
use Rattle.numeric.proofs.CheckLaws.{and_left, and_right}
use Rattle.stoichiometry.specs.Limits.{most_saturation}
use Rattle.stoichiometry.specs.declared.refusals.Refusal.TheVariants.{Conditions, Reading}
use Rattle.probe.specs.declared.Frame.{Frame}
use Rattle.probe.specs.Readings.{reading_fits, scaled_floor}
use Rattle.probe.specs.Frames.{oxygen_fits, frame_fits, frame_number, frame_amounts, frame_answer}
use Rattle.probe.proofs.ReadingLaws.{floor_bound}

-- What it says that a frame fits.
pub record Fitting (f : Frame) : Type 0 where
  pub ammonium : reading_fits f.ammonium ≡ true
  pub nitrite : reading_fits f.nitrite ≡ true
  pub nitrate : reading_fits f.nitrate ≡ true
  pub phosphate : reading_fits f.phosphate ≡ true
  pub oxygen : oxygen_fits f.oxygen ≡ true

pub frame_fits_lem : (f : Frame) → frame_fits f ≡ true → Fitting f
unfolding frame_fits
frame_fits_lem f h =
    let four = and_left _ (oxygen_fits f.oxygen) h in
    let three = and_left _ (reading_fits f.phosphate) four in
    let two = and_left _ (reading_fits f.nitrate) three in
    record {
      ammonium = and_left (reading_fits f.ammonium) (reading_fits f.nitrite) two;
      nitrite = and_right (reading_fits f.ammonium) (reading_fits f.nitrite) two;
      nitrate = and_right _ (reading_fits f.nitrate) three;
      phosphate = and_right _ (reading_fits f.phosphate) four;
      oxygen = and_right _ (oxygen_fits f.oxygen) h;
    }

-- A floor times the grains of a µg is far below 2 ^ 63.
pub grains_bound : (x : Float) (c d w : ℕ) → reading_fits x ≡ true → 0 < d → c ≤ most_saturation → w ≤ 22320000
    → scaled_floor x c d * w ≤ 114278400000000000
grains_bound x c d w fits D C W =
    let most : 256 * c ≤ 5120000000 = omega arith in
    mul-le-mul (le_trans (floor_bound x c d fits D) most) W

-- The answer of a frame, by the checks.
pub saturation_refused : (f : Frame) (saturation : ℕ) → ltb most_saturation saturation ≡ true
    → frame_answer f saturation ≡ Err Conditions
unfolding frame_answer frame_number first_holding
saturation_refused f saturation high = rw high refl

pub frame_refused : (f : Frame) (saturation : ℕ) → ltb most_saturation saturation ≡ false → frame_fits f ≡ false
    → frame_answer f saturation ≡ Err Reading
unfolding frame_answer frame_number first_holding
frame_refused f saturation low wrong = rw (low, wrong) refl

pub frame-accepted : (f : Frame) (saturation : ℕ) → ltb most_saturation saturation ≡ false → frame_fits f ≡ true
    → frame_answer f saturation ≡ Ok (frame_amounts f saturation)
unfolding frame_answer frame_number first_holding
frame-accepted f saturation low right = rw (low, right) refl
