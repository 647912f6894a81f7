-- Laws of readings: the two comparisons refuse what the definition refuses; the fields of a bit pattern give the
-- exact value, scaled and rounded down; how large that is. A float's value as a fraction a / b is `HasValue x s a b`.
-- No assumptions.
use mathlib.Core.Path.{◌≡◌, refl, sym, ap, ◌∙◌, subst}
use Prim.Native.Nat.{ℕ, zero, suc, ◌+◌, ◌-◌, ◌*◌, ◌/◌, ◌%◌, ◌^◌, ◌≤◌, ◌<◌, zero-le}
use native.Mathlib.Nat.{lt_of_lt_of_le, lt_of_le_of_lt, mul_assoc, mul_comm, mul_left_comm, mul-pos, mul-le-mul, mul-le-mul_left, mul-lt-mul_of_pos_right, div-eq_of_lt, div-le_self, div-div-eq-div-mul, mul-div-mul_left, zero-lt-suc, lt_of_mul-lt-mul_right, lt_of_not-le, lt_irrefl, le_of_lt, le_refl, mod-lt, zero-mul, mul-one, zero-add, div-le_of_le-mul}
use native.Mathlib.Omega.{arith}
use native.Mathlib.Decide.{dec_lt}
use mathlib.Core.Bool.{Bool, true, false, not, ◌&&◌, ◌||◌, cond}
use lib.IntN.{pos}
use lib.Dec.{T, ltb, leb, eqb, ltb→lt, lit<, eqb-suc-zero}
use lib.Pow.{pow-add, pow_pos, pow_mono}
use lib.Ieee.{Float, nan, inf, fin, binary32, up, down, lt, le, eq, odd, of_fields, of_bits, to_bits, fits, is_nan}
use lib.Ieee.Fits.{up_pos, down_pos, and_r}
use borrow.Author.Tests.{lt-ltb, le-ltb, ne_eqb}
use lib.Ieee.Bits.{of_bits-to_bits}
use lib.Ieee.Exact.{HasValue, odd_sign}
use lib.Ieee.Nearest.{div_same}
use Rattle.std.proofs.lemmas.Float.{T_from_true}
use Rattle.probe.specs.Readings.{reading_fits, scaled_floor}
use Rattle.stoichiometry.specs.Limits.{most_saturation}

-- Any fraction a / b that the float equals gives the floor.
cross : (u w a b c d : ℕ) → u * b ≡ a * w → u * c * (b * d) ≡ a * c * (w * d)
cross u w a b c d h = simp (mul_assoc, mul_left_comm) (simp (mul_assoc, mul_comm) at (ap (λ (z : ℕ). z * (c * d)) h))

floor_value : (x : Float) (s : Bool) (a b c d : ℕ) → 0 < b → 0 < d → HasValue x s a b
    → scaled_floor x c d ≡ a * c / (b * d)
unfolding scaled_floor
floor_value nan s a b c d B D v = absurd v
floor_value (inf t) s a b c d B D v = absurd v
floor_value (fin t m e) s a b c d B D v =
    div_same (m * up e * c) (down e * d) (a * c) (b * d) (mul-pos (down_pos e) D) (mul-pos B D)
    (cross (m * up e) (down e) a b c d v.1)

under_256 : (u w a b : ℕ) → 0 < b → 0 < w → u * b ≡ a * w → u < 256 * w → a < 256 * b
under_256 u w a b B W h l =
    lt_of_mul-lt-mul_right w (omega (arith, mul-lt-mul_of_pos_right l B))

value_below : (x : Float) (s : Bool) (a b : ℕ) → 0 < b → HasValue x s a b → T (reading_fits x) → a < 256 * b
unfolding reading_fits
value_below nan s a b B v t = absurd v
value_below (inf r) s a b B v t = absurd v
value_below (fin r m e) s a b B v t =
    under_256 (m * up e) (down e) a b B (down_pos e) v.1
    (ltb→lt (m * up e) (256 * down e) (and_r (not r || eqb m 0) (ltb (m * up e) (256 * down e)) t))

-- The fields of a bit pattern: the exponent's, and the digits.
shifted : (n k j c d : ℕ) → n * 2 ^ k * c / (2 ^ (k + j) * d) ≡ n * c / d / 2 ^ j
shifted n k j c d =
    let e1 : n * 2 ^ k * c ≡ 2 ^ k * (n * c) = omega arith in
    let e2 : 2 ^ (k + j) * d ≡ 2 ^ k * (d * 2 ^ j) = rw (pow-add 2 k j) (omega arith) in
    rw (e1, e2, mul-div-mul_left (n * c) (d * 2 ^ j) (pow_pos k)) (sym (div-div-eq-div-mul (n * c) d (2 ^ j)))

low_field : (n k : ℕ) → 8388608 ≤ n → n * 2 ^ k < 256 * 2 ^ 149 → k < 134
low_field n k N h =
    lt_of_not-le (λ (g : 134 ≤ k). lt_irrefl (256 * 2 ^ 149) (lt_of_le_of_lt (mul-le-mul N (pow_mono g)) h))

grows : (p d : ℕ) → 0 < d → p ≤ p * d
grows p d D = omega (arith, mul-le-mul_left p D)

tiny : (t c : ℕ) → t < 8388608 → c ≤ most_saturation → t * 1 * c < 2 ^ 149
tiny t c T C = lt_of_le_of_lt (mul-le-mul (mul-le-mul (le_of_lt T) (le_refl 1)) C) (lit< tt)

-- What the exponent's field f and the digits t say of the float x.
pub record Fields (x : Float) (f t c d : ℕ) : Type 0 where
  pub high : f ≤ 134
  pub none : f ≡ 0 → scaled_floor x c d ≡ 0
  pub some : (f ≡ 0 → ⊥) → scaled_floor x c d ≡ (8388608 + t) * c / d / 2 ^ (150 - f)

whole_shift : (k : ℕ) → k < 134 → k + (150 - suc k) ≡ 149
whole_shift k h = omega arith

of_bits_is : (b : ℕ) → of_bits binary32 b ≡ of_fields binary32 (leb 2147483648 b) (b % 2147483648 / 8388608) (b % 8388608)
unfolding of_bits
of_bits_is b = refl

zero≢suc_of : (k : ℕ) → suc k ≡ 0 → ⊥
zero≢suc_of k h = omega arith

no_end : (s b : Bool) → T (reading_fits (cond b (inf s) nan)) → ⊥
unfolding reading_fits
no_end s true w = w
no_end s false w = w

by_field : (s : Bool) (f t c d : ℕ) → t < 8388608 → c ≤ most_saturation → 0 < d
    → T (reading_fits (of_fields binary32 s f t)) → Fields (of_fields binary32 s f t) f t c d
unfolding of_fields
by_field s zero t c d H C D u = record {
  high = zero-le;
  none = λ _. floor_value (odd 24 s t 0 149) s (t * 1) (2 ^ 149) c d (pow_pos 149) D (odd_sign 24 s t 0 149)
      ∙ div-eq_of_lt (lt_of_lt_of_le (tiny t c H C) (grows (2 ^ 149) d D));
  some = λ g. absurd (g refl);
}
by_field s (suc k) t c d H C D u = pick (eqb (suc k) 255) u
  where
    pick : (b : Bool) → T (reading_fits (cond b (cond (eqb t 0) (inf s) nan) (odd 24 s (8388608 + t) k 149)))
        → Fields (cond b (cond (eqb t 0) (inf s) nan) (odd 24 s (8388608 + t) k 149)) (suc k) t c d
    pick true w = absurd (no_end s (eqb t 0) w)
    pick false w =
        let v = odd_sign 24 s (8388608 + t) k 149 in
        let l : k < 134 = low_field (8388608 + t) k (omega arith) (value_below (odd 24 s (8388608 + t) k 149) s ((8388608 + t) * 2 ^ k) (2 ^ 149) (pow_pos 149) v w) in
        record {
          high = l;
          none = λ g. absurd (zero≢suc_of k g);
          some = λ _. floor_value (odd 24 s (8388608 + t) k 149) s ((8388608 + t) * 2 ^ k) (2 ^ 149) c d (pow_pos 149) D v
              ∙ ap (λ (z : ℕ). (8388608 + t) * 2 ^ k * c / (2 ^ z * d)) (sym (whole_shift k l))
              ∙ shifted (8388608 + t) k (150 - suc k) c d;
        }

-- The float that a pattern's fields make is the one whose pattern it is.
pub fields_of : (x : Float) (c d : ℕ) → T (fits binary32 x) → reading_fits x ≡ true → c ≤ most_saturation → 0 < d
    → Fields x (to_bits binary32 x % 2147483648 / 8388608) (to_bits binary32 x % 8388608) c d
fields_of x c d F U C D =
    let b = to_bits binary32 x in
    let e : of_fields binary32 (leb 2147483648 b) (b % 2147483648 / 8388608) (b % 8388608) ≡ x = sym (of_bits_is b) ∙ of_bits-to_bits binary32 x F in
    subst (λ (y : Float). Fields y (b % 2147483648 / 8388608) (b % 8388608) c d) e
    (by_field (leb 2147483648 b) (b % 2147483648 / 8388608) (b % 8388608) c d (mod-lt b (lit< tt)) C D (T_from_true _ (ap reading_fits e ∙ U)))

pub fits_64 : (n c : ℕ) → n < 8388608 → c ≤ most_saturation → (8388608 + n) * c < 2 ^ 64
fits_64 n c N C = lt_of_le_of_lt (mul-le-mul (add_le N) C) (lit< tt)
  where
    add_le : n < 8388608 → 8388608 + n ≤ 16777216
    add_le h = omega arith

-- A shift by 64 or more leaves nothing of what fits 64 bits.
pub shifted_out : (n d j : ℕ) → n < 2 ^ 64 → 64 ≤ j → n / d / 2 ^ j ≡ 0
shifted_out n d j N J = div-eq_of_lt (lt_of_le_of_lt (div-le_self n d) (lt_of_lt_of_le N (pow_mono J)))

-- So a shift that gives 0 from 64 on is the division.
pub shifted_by : (n d j : ℕ) → n < 2 ^ 64 → cond (ltb j 64) (n / d / 2 ^ j) 0 ≡ n / d / 2 ^ j
shifted_by n d j N = at (dec_lt j 64)
  where
    at : Dec (j < 64) → cond (ltb j 64) (n / d / 2 ^ j) 0 ≡ n / d / 2 ^ j
    at (yes h) = rw (lt-ltb j 64 h) refl
    at (no g) = rw (le-ltb j 64 (omega arith), shifted_out n d j N (omega arith)) refl

-- A reading that fits is a number.
pub no_nan : (x : Float) → reading_fits x ≡ true → T (not (is_nan x))
unfolding reading_fits is_nan
no_nan nan h = T_from_true _ h
no_nan (inf s) h = tt
no_nan (fin s m e) h = tt

-- The two comparisons, with 0 and with 256.
zero_le_any : (n : ℕ) → (ltb 0 n || (eqb 0 n && true)) ≡ true
zero_le_any zero = refl
zero_le_any (suc n) = rw (lt-ltb 0 (suc n) (omega arith))

minus_zero_lem : (m u d : ℕ) → 0 < u → 0 < d
    → ((eqb 0 (m * u) && true) && ltb 0 (m * u + 256 * d)) ≡ (eqb m 0 && ltb (m * u) (256 * d))
minus_zero_lem zero u d U D = rw (zero-mul u, zero-add) (rw (lt-ltb 0 (256 * d) (omega arith)))
minus_zero_lem (suc m) u d U D = rw (ne_eqb 0 (suc m * u) (λ h. lt_irrefl 0 (rw h (mul-pos (zero-lt-suc m) U))), eqb-suc-zero m)

abbrev zero32 : Float
zero32 = fin false 0 (pos 0)

abbrev top32 : Float
top32 = fin false 1 (pos 8)

fits_compared : (x : Float) → (le zero32 x && lt x top32) ≡ reading_fits x
unfolding le lt eq reading_fits
fits_compared nan = refl
fits_compared (inf true) = refl
fits_compared (inf false) = refl
fits_compared (fin false m e) = rw (zero-mul (down e), mul-one (m * up e)) (rw zero_le_any)
fits_compared (fin true m e) = rw (zero-mul (down e), mul-one (m * up e)) (minus_zero_lem m (up e) (down e) (up_pos e) (down_pos e))

pub fits_from_zero : (x : Float) → le zero32 x ≡ true → lt x top32 ≡ reading_fits x
fits_from_zero x h = sym (ap (λ (b : Bool). b && lt x top32) h) ∙ fits_compared x

pub fits_below_zero : (x : Float) → le zero32 x ≡ false → false ≡ reading_fits x
fits_below_zero x h = sym (ap (λ (b : Bool). b && lt x top32) h) ∙ fits_compared x

-- How large a floor can be.
pub floor_bound : (x : Float) (c d : ℕ) → reading_fits x ≡ true → 0 < d → scaled_floor x c d ≤ 256 * c
unfolding reading_fits scaled_floor
floor_bound nan c d h D = absurd (T_from_true _ h)
floor_bound (inf s) c d h D = absurd (T_from_true _ h)
floor_bound (fin s m e) c d h D =
    let below = and_r (not s || eqb m 0) (ltb (m * up e) (256 * down e)) (T_from_true _ h) in
    let l : m * up e ≤ 256 * down e = le_of_lt (ltb→lt (m * up e) (256 * down e) below) in
    div-le_of_le-mul (down e * d) (omega (arith, mul-le-mul l (mul-le-mul (le_refl c) D)))
