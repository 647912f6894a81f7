-- Bounds: `nat_abs z ≤ b` says −b ≤ z ≤ b, in ℕ, where `omega` reads it. How bounds go through sums, products and
-- stores, and back to the order of ℤ. Bounds of whole expressions by computation: Fitting.antt. No assumptions.
use mathlib.Core.Path.{◌≡◌, refl, ap}
use mathlib.Core.List.{List, [], ◌∷◌, map}
use Prim.Native.Nat.{ℕ, zero, suc, ◌+◌, ◌*◌, ◌≤◌, zero-le}
use native.Mathlib.Omega.{arith}
use native.Mathlib.Nat.{mul-le-mul}
use lib.ListN.{get_or}
use lib.IntN.{ℤ, pos, negsuc, neg_ℤ, nat_abs, ◌+ℤ◌, ◌-ℤ◌, ◌*ℤ◌}
use lib.Signed.{mag, ◌≤ℤ◌}
use Rattle.numeric.proofs.Difference.{up, dn}
use Rattle.numeric.proofs.Expression.{v, #, ◌⊕◌, ⊝, at_most, at_most_of, rep}
use Rattle.std.proofs.lemmas.Int.{unsigned_abs-mul}

pub abs_parts : (z : ℤ) → nat_abs z ≡ up z + dn z
abs_parts (pos n) = omega arith
abs_parts (negsuc n) = omega arith

-- The parts of a larger number.
pub parts_mono : (x y : ℤ) → x ≤ℤ y → (up x ≤ up y) × (dn y ≤ dn x)
parts_mono x y h = by_sign x y (at_most_of (x ∷ y ∷ []) (v 0) (v 1) h)
  where
    by_sign : (x y : ℤ) → up x + dn y ≤ up y + dn x → (up x ≤ up y) × (dn y ≤ dn x)
    by_sign (pos a) (pos b) k = (omega arith, omega arith)
    by_sign (pos a) (negsuc b) k = (omega arith, omega arith)
    by_sign (negsuc a) (pos b) k = (omega arith, omega arith)
    by_sign (negsuc a) (negsuc b) k = (omega arith, omega arith)

pub mag_abs : (z : ℤ) → mag z ≤ nat_abs z
mag_abs (pos n) = omega arith
mag_abs (negsuc n) = omega arith

pub abs_neg : (z : ℤ) → nat_abs (neg_ℤ z) ≡ nat_abs z
abs_neg (pos zero) = refl
abs_neg (pos (suc n)) = refl
abs_neg (negsuc n) = refl

pub abs_add : (a b : ℤ) → nat_abs (a +ℤ b) ≤ nat_abs a + nat_abs b
abs_add a b = least (a +ℤ b) (up a + up b) (dn a + dn b) (omega (arith, (rep (a ∷ b ∷ []) (v 0 ⊕ v 1)).is)) (omega (arith, abs_parts a, abs_parts b))
  where
    least : (z : ℤ) (p n : ℕ) → up z + n ≡ p + dn z → {m : ℕ} → p + n ≤ m → nat_abs z ≤ m
    least (pos k) p n e h = omega arith
    least (negsuc k) p n e h = omega arith

pub abs_sub : (a b : ℤ) → nat_abs (a -ℤ b) ≤ nat_abs a + nat_abs b
abs_sub a b = omega (arith, abs_add a (neg_ℤ b), abs_neg b)

-- A product under bounds.
pub abs_mul_le : (a b : ℤ) {x y : ℕ} → nat_abs a ≤ x → nat_abs b ≤ y → nat_abs (a *ℤ b) ≤ x * y
abs_mul_le a b h k = rw unsigned_abs-mul (mul-le-mul h k)

-- An element of a list made of l, under a bound that is so made.
pub abs_at : {A : Type 0} (l : List A) (f : A → ℤ) (b : A → ℕ) (k : ℕ) → ((a : A) → nat_abs (f a) ≤ b a)
    → nat_abs (get_or (map f l) k (pos 0)) ≤ get_or (map b l) k 0
abs_at [] f b k h = zero-le
abs_at (a ∷ l) f b zero h = h a
abs_at (a ∷ l) f b (suc k) h = abs_at l f b k h

abs_parts_le : (z : ℤ) (b : ℕ) → up z ≤ b + dn z → dn z ≤ b + up z → nat_abs z ≤ b
abs_parts_le (pos n) b h k = omega arith
abs_parts_le (negsuc n) b h k = omega arith

pub abs_zero : (z : ℤ) → nat_abs z ≡ 0 → z ≡ pos 0
abs_zero (pos n) e = ap pos e
abs_zero (negsuc n) e = absurd (omega arith)

-- A number between two that are from −b to b.
pub abs_between : (x y z : ℤ) {b : ℕ} → nat_abs x ≤ b → nat_abs z ≤ b → x ≤ℤ y → y ≤ℤ z → nat_abs y ≤ b
abs_between x y z {b} h k l m =
    abs_parts_le y b
    (omega (arith, abs_parts z, at_most_of (y ∷ z ∷ []) (v 0) (v 1) m))
    (omega (arith, abs_parts x, at_most_of (x ∷ y ∷ []) (v 0) (v 1) l))

pub abs_from : (z : ℤ) (b : ℕ) → neg_ℤ (pos b) ≤ℤ z → z ≤ℤ pos b → nat_abs z ≤ b
abs_from z b l h =
    abs_parts_le z b (omega (arith, at_most_of (z ∷ pos b ∷ []) (v 0) (v 1) h)) (omega (arith, at_most_of (z ∷ pos b ∷ []) (⊝ (v 1)) (v 0) l))

pub abs_le : (z : ℤ) (b : ℕ) → nat_abs z ≤ b → z ≤ℤ pos b
abs_le z b h = at_most (z ∷ pos b ∷ []) (v 0) (v 1) (omega (arith, abs_parts z))

pub abs_ge : (z : ℤ) (b : ℕ) → nat_abs z ≤ b → neg_ℤ (pos b) ≤ℤ z
abs_ge z b h = at_most (z ∷ pos b ∷ []) (⊝ (v 1)) (v 0) (omega (arith, abs_parts z))

-- A number from 0 to b.
pub abs_of_nonneg : (z : ℤ) (b : ℕ) → pos 0 ≤ℤ z → z ≤ℤ pos b → nat_abs z ≤ b
abs_of_nonneg z b l h =
    abs_parts_le z b (omega (arith, at_most_of (z ∷ pos b ∷ []) (v 0) (v 1) h)) (omega (arith, at_most_of (z ∷ []) (# (pos 0)) (v 0) l))
