-- Joined bits, the machine's `|` of signed numbers: where the result is not below zero, both numbers are from 0 to it.
-- No assumptions.
use Prim.Native.Nat.{ℕ, ◌-◌, ◌^◌, ◌≤◌, ◌<◌, suc, zero-le}
use mathlib.Core.Bool.{Bool, true, false}
use mathlib.Core.Path.{◌≡◌, refl}
use native.Mathlib.Omega.{arith}
use borrow.Author.Tests.{ltb-true}
use lib.Bits.{bit_or}
use lib.Dec.{ltb}
use lib.IntN.{pos, negsuc}
use lib.Signed.{◌≤ℤ◌}
use mir.Facts.{to_z_pos}
use mir.Syntax.{w64}
use mir.Val.{to_z, sel}
use Rattle.std.proofs.lemmas.Nat.{le_or_l, le_or_r}
use Rattle.numeric.proofs.Bounds.{abs_le}

-- Bits that are read as a number from 0 on have no sign.
not_signed : (n : ℕ) → pos 0 ≤ℤ to_z w64 n → n < 2 ^ 63
not_signed n h = by_test (ltb n (2 ^ 63)) refl h
  where
    by_test : (t : Bool) → ltb n (2 ^ 63) ≡ t → pos 0 ≤ℤ sel t (pos n) (negsuc (2 ^ 64 - suc n)) → n < 2 ^ 63
    by_test true e h = ltb-true n (2 ^ 63) e
    by_test false e h = absurd h.le

-- What is at most such bits is read as a number from 0 to theirs.
covered : (a m : ℕ) → a ≤ m → pos 0 ≤ℤ to_z w64 m → (pos 0 ≤ℤ to_z w64 a) × (to_z w64 a ≤ℤ to_z w64 m)
covered a m le h =
    let most : m < 2 ^ 63 = not_signed m h in
    let less : a < 2 ^ 63 = omega arith in
    rw (to_z_pos w64 less, to_z_pos w64 most) (abs_le (pos 0) a zero-le, abs_le (pos a) m le)

pub or_covers : (a b : ℕ) → pos 0 ≤ℤ to_z w64 (bit_or a b)
    → ((pos 0 ≤ℤ to_z w64 a) × (to_z w64 a ≤ℤ to_z w64 (bit_or a b)))
    × ((pos 0 ≤ℤ to_z w64 b) × (to_z w64 b ≤ℤ to_z w64 (bit_or a b)))
or_covers a b h = (covered a (bit_or a b) (le_or_l a b) h, covered b (bit_or a b) (le_or_r a b) h)
