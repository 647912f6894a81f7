-- A signed 64-bit number by its sign, as the machine tests it. No assumptions.
use Prim.Native.Nat.{ℕ, ◌<◌}
use mathlib.Core.Bool.{true, false}
use mathlib.Core.Path.{◌≡◌, refl, sym, ap, ◌∙◌}
use native.Mathlib.Omega.{arith}
use borrow.Author.Tests.{ltb-true}
use lib.IntN.{ℤ, pos, negsuc, nat_abs}
use lib.Signed.{lt_z}
use mir.Syntax.{w64}
use mir.Val.{SFits, to_z, of_z}
use mir.Facts.{to_z-of_z}

pub below_zero : (z : ℤ) → SFits w64 z → lt_z (to_z w64 (of_z w64 z)) (pos 0) ≡ true → (k : ℕ) × (z ≡ negsuc k)
below_zero (pos n) f h =
    let l : n < 0 = ltb-true n 0 (sym (ap (λ (t : ℤ). lt_z t (pos 0)) (to_z-of_z f)) ∙ h) in absurd (omega arith)
below_zero (negsuc k) f h = (k, refl)

pub not_below : (z : ℤ) → SFits w64 z → lt_z (to_z w64 (of_z w64 z)) (pos 0) ≡ false → z ≡ pos (nat_abs z)
not_below (pos n) f h = refl
not_below (negsuc k) f h = let e : true ≡ false = sym (ap (λ (t : ℤ). lt_z t (pos 0)) (to_z-of_z f)) ∙ h in cc
