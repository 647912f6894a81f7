-- Readings of the probe (scope, "Probe frame, letter, record" and check 9): which are refused, and the exact value of
-- the others, over whole numbers. A finite f32 `fin s m e` is m × 2 ^ e, with a minus where s is true; 2 ^ e is the
-- fraction up e / down e, both whole. Laws: proofs/ReadingLaws.antt. No assumptions.
use Rattle.std.specs.Prelude.{ℕ, ◌*◌, ◌/◌, Bool, false, not, ◌&&◌, ◌||◌, eqb, ltb, Float}
use Rattle.std.specs.Float.{nan, inf, fin}
use Rattle.std.specs.Float.Ieee.{up, down}

-- A reading is a number, not below zero (−0 is 0), and below 256.
unfoldable pub reading_fits : Float → Bool
reading_fits nan = false
reading_fits (inf s) = false
reading_fits (fin s m e) = (not s || eqb m 0) && ltb (m * up e) (256 * down e)

-- The exact value of a reading × numerator / denominator, rounded down.
unfoldable pub scaled_floor : Float → ℕ → ℕ → ℕ
scaled_floor nan numerator denominator = 0
scaled_floor (inf s) numerator denominator = 0
scaled_floor (fin s m e) numerator denominator = m * up e * numerator / (down e * denominator)
