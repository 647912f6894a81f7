-- What a test on signed numbers tells, and the test's value from what is known; then the same of the bits that the
-- machine compares, and the test for 0. borrow.Author.Tests has the first two for ℕ. No assumptions.
use mathlib.Core.Path.{◌≡◌, refl, sym, ap, ◌∙◌}
use Prim.Native.Nat.{zero, suc}
use mathlib.Core.Bool.{Bool, true, false, ◌&&◌}
use native.Mathlib.Omega.{arith}
use borrow.Author.Tests.{le-leb, lt-leb, eq-eqb, ne_eqb, eqb-true, eqb-false}
use lib.Dec.{T, eqb}
use lib.IntN.{ℤ, pos, negsuc, nat_abs}
use lib.Signed.{lt_z, le_z, ◌≤ℤ◌, ◌<ℤ◌, le_z_yes, lt_z_yes, lt_z_no}
use mir.Syntax.{Width, w64}
use mir.Val.{SFits, to_z, of_z}
use mir.Facts.{to_z-of_z, sfits_lit}
use Rattle.std.proofs.lemmas.Float.{T_from_true, T_from_false}
use Rattle.numeric.proofs.Bounds.{abs_zero}

pub le_z_true : (a b : ℤ) → le_z a b ≡ true → a ≤ℤ b
le_z_true a b e = le_z_yes (T_from_true (le_z a b) e)

is_true : (t : Bool) → T t → t ≡ true
is_true true h = refl
is_true false h = absurd h

pub lt_lt_z : (a b : ℤ) → a <ℤ b → lt_z a b ≡ true
lt_lt_z a b h = is_true (lt_z a b) h.lt

pub le_le_z : (a b : ℤ) → a ≤ℤ b → le_z a b ≡ true
le_le_z a b h = is_true (le_z a b) h.le

-- The same of bits: a signed local is `of_z w z`, and a test on it is of `to_z w (of_z w z)`.
pub bits_eq : {w : Width} {x y : ℤ} → SFits w x → SFits w y → of_z w x ≡ of_z w y → x ≡ y
bits_eq {w} f g e = sym (to_z-of_z f) ∙ ap (to_z w) e ∙ to_z-of_z g

pub bits_lt : {w : Width} {x y : ℤ} → SFits w x → SFits w y → lt_z (to_z w (of_z w x)) (to_z w (of_z w y)) ≡ true → x <ℤ y
bits_lt {x} {y} f g e = lt_z_yes (T_from_true (lt_z x y) (simp (to_z-of_z, f, g) at e))

pub bits_nlt : {w : Width} {x y : ℤ} → SFits w x → SFits w y → lt_z (to_z w (of_z w x)) (to_z w (of_z w y)) ≡ false → y ≤ℤ x
bits_nlt {x} {y} f g e = lt_z_no (T_from_false (lt_z x y) (simp (to_z-of_z, f, g) at e))

-- The machine tests the bits for 0, which are those of no other number.
pub zero_bits : (z : ℤ) → SFits w64 z → eqb (of_z w64 z) 0 ≡ eqb (nat_abs z) 0
zero_bits z f = by_test (eqb (of_z w64 z) 0) refl
  where
    by_test : (b : Bool) → eqb (of_z w64 z) 0 ≡ b → b ≡ eqb (nat_abs z) 0
    by_test true e =
        sym (eq-eqb (nat_abs z) 0 (ap nat_abs (bits_eq f (sfits_lit {z = pos 0} tt) (eqb-true (of_z w64 z) 0 e))))
    by_test false e = sym (ne_eqb (nat_abs z) 0 (λ q. eqb-false (of_z w64 z) 0 e (ap (of_z w64) (abs_zero z q))))

-- The only number from 0 to 0.
pub zero_alone : (z : ℤ) → eqb (nat_abs z) 0 ≡ le_z (pos 0) z && le_z z (pos 0)
zero_alone (pos zero) = refl
zero_alone (pos (suc n)) =
    rw (ne_eqb (suc n) 0 (λ e. absurd (omega arith)), le-leb 0 (suc n) (omega arith), lt-leb (suc n) 0 (omega arith))
zero_alone (negsuc n) = ne_eqb (suc n) 0 (λ e. absurd (omega arith))
