-- Division rounded toward zero (`quot_z`, `rem_z`). No assumptions.
use mathlib.Core.Path.{◌≡◌, refl, sym, ap, ap₂, ◌∙◌}
use Prim.Native.Nat.{ℕ, zero, suc, ◌+◌, ◌*◌, ◌/◌, ◌%◌, ◌<◌}
use native.Mathlib.Omega.{arith}
use native.Mathlib.Nat.{zero-div, mul-div_cancel_left, mul-add-div_right, div-add-mod'}
use lib.IntN.{ℤ, pos, negsuc, neg_ℤ, nat_abs, ◌+ℤ◌, ◌*ℤ◌, neg_ℤ-+ℤ}
use lib.Signed.{quot_z, rem_z}
use Rattle.numeric.proofs.Bounds.{abs_neg}
use Rattle.numeric.proofs.RingLaws.{neg_*ℤ}

pub quot_neg : (n d : ℕ) → quot_z (neg_ℤ (pos n)) (pos d) ≡ neg_ℤ (pos (n / d))
quot_neg zero d = ap pos (zero-div d) ∙ ap (λ (k : ℕ). neg_ℤ (pos k)) (sym (zero-div d))
quot_neg (suc n) d = refl

-- The quotient of a whole multiple is exact.
pub quot_exact : (d : ℕ) (z : ℤ) → 0 < d → quot_z (pos d *ℤ z) (pos d) ≡ z
quot_exact d (pos a) h = ap pos (mul-div_cancel_left a h)
quot_exact d (negsuc a) h = quot_neg (d * suc a) d ∙ ap (λ (k : ℕ). neg_ℤ (pos k)) (mul-div_cancel_left (suc a) h)

pub abs_quot : (z : ℤ) (d : ℕ) → nat_abs (quot_z z (pos d)) ≡ nat_abs z / d
abs_quot (pos n) d = refl
abs_quot (negsuc n) d = abs_neg (pos (suc n / d))

-- A product's quotient by the dividend's quotient and remainder, so that the whole product need not fit: of a dividend
-- from 0 on, and of any.
pub split_nat : (n p d : ℕ) → 0 < d → n / d * p + n % d * p / d ≡ n * p / d
split_nat n p d h =
    sym (mul-add-div_right h (n / d * p) (n % d * p))
    ∙ ap (λ (k : ℕ). k / d) (regroup (n / d) (n % d) ∙ ap (λ (k : ℕ). k * p) (div-add-mod' n d))
  where
    regroup : (q r : ℕ) → q * p * d + r * p ≡ (q * d + r) * p
    regroup q r = omega arith

neg_pos_* : (n p : ℕ) → neg_ℤ (pos n) *ℤ pos p ≡ neg_ℤ (pos (n * p))
neg_pos_* n p = neg_*ℤ (pos n) (pos p)

pub quot_split : (a : ℤ) (p d : ℕ) → 0 < d
    → quot_z a (pos d) *ℤ pos p +ℤ quot_z (rem_z a (pos d) *ℤ pos p) (pos d) ≡ quot_z (a *ℤ pos p) (pos d)
quot_split (pos n) p d h = ap pos (split_nat n p d h)
quot_split (negsuc n) p d h =
    ap₂ ◌+ℤ◌ (neg_pos_* (suc n / d) p) (ap (λ (z : ℤ). quot_z z (pos d)) (neg_pos_* (suc n % d) p) ∙ quot_neg (suc n % d * p) d)
    ∙ sym (neg_ℤ-+ℤ (pos (suc n / d * p)) (pos (suc n % d * p / d)))
    ∙ ap (λ (k : ℕ). neg_ℤ (pos k)) (split_nat (suc n) p d h)
    ∙ sym (quot_neg (suc n * p) d)
