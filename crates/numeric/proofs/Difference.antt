-- An integer as a difference of two naturals, so that a statement on ℤ becomes one on ℕ, which `omega` proves: z is
-- up z − dn z, one of the two being 0, and `Rep z p n` says that z is p − n. Expressions: Expression.antt. No
-- assumptions.
use mathlib.Core.Path.{◌≡◌, refl, ap}
use Prim.Native.Nat.{ℕ, zero, suc, ◌+◌, ◌-◌, ◌*◌, ◌≤◌, ◌<◌}
use native.Mathlib.Omega.{arith}
use borrow.Author.Tests.{ltb-true, ltb-false}
use lib.Dec.{T, ltb, ltb→lt, leb→le, le→leb, lt→ltb}
use lib.IntN.{ℤ, pos, negsuc, neg_ℤ, sub_ℕ, ◌+ℤ◌, ◌*ℤ◌}
use lib.Signed.{le_z, lt_z, ◌≤ℤ◌, ◌<ℤ◌}
use Rattle.std.proofs.lemmas.Bool.{cond_both}

-- The positive part.
abbrev pub up : ℤ → ℕ
up (pos n) = n
up (negsuc n) = 0

-- The negative part.
abbrev pub dn : ℤ → ℕ
dn (pos n) = 0
dn (negsuc n) = suc n

-- z is p − n.
pub record Rep (z : ℤ) (p n : ℕ) : Type 0 where
  pub is : up z + n ≡ p + dn z

pub rep_sub : (a b : ℕ) → up (sub_ℕ a b) + b ≡ a + dn (sub_ℕ a b)
rep_sub a b =
    cond_both (ltb a b) (negsuc (b - suc a)) (pos (a - b)) (λ z. up z + b ≡ a + dn z)
    (λ e. omega (arith, ltb-true a b e)) (λ e. omega (arith, ltb-false a b e))

pub up_neg : (n : ℕ) → up (neg_ℤ (pos n)) ≡ 0
up_neg zero = refl
up_neg (suc n) = refl

pub dn_neg : (n : ℕ) → dn (neg_ℤ (pos n)) ≡ n
dn_neg zero = refl
dn_neg (suc n) = refl

pub rep_self : (z : ℤ) → Rep z (up z) (dn z)
rep_self z = record { is = refl }

add_is : (x y : ℤ) → up (x +ℤ y) + (dn x + dn y) ≡ (up x + up y) + dn (x +ℤ y)
add_is (pos a) (pos b) = omega arith
add_is (pos a) (negsuc b) = omega (arith, rep_sub a (suc b))
add_is (negsuc a) (pos b) = omega (arith, rep_sub b (suc a))
add_is (negsuc a) (negsuc b) = omega arith

neg_is : (x : ℤ) → up (neg_ℤ x) + up x ≡ dn x + dn (neg_ℤ x)
neg_is (pos zero) = refl
neg_is (pos (suc n)) = omega arith
neg_is (negsuc n) = omega arith

mul_is : (x y : ℤ) → up (x *ℤ y) + (up x * dn y + dn x * up y) ≡ (up x * up y + dn x * dn y) + dn (x *ℤ y)
mul_is (pos a) (pos b) = omega arith
mul_is (pos a) (negsuc b) = omega (arith, up_neg (a * suc b), dn_neg (a * suc b))
mul_is (negsuc a) (pos b) = omega (arith, up_neg (suc a * b), dn_neg (suc a * b))
mul_is (negsuc a) (negsuc b) = omega arith

pub rep_add : {x y : ℤ} {p n q m : ℕ} → Rep x p n → Rep y q m → Rep (x +ℤ y) (p + q) (n + m)
rep_add {x} {y} r s = record { is = omega (arith, add_is x y, r.is, s.is) }

pub rep_neg : {x : ℤ} {p n : ℕ} → Rep x p n → Rep (neg_ℤ x) n p
rep_neg {x} r = record { is = omega (arith, neg_is x, r.is) }

pub rep_mul : {x y : ℤ} {p n q m : ℕ} → Rep x p n → Rep y q m → Rep (x *ℤ y) (p * q + n * m) (n * q + p * m)
rep_mul {x} {y} {p} {n} {q} {m} r s =
    record {
      is = omega (
        arith,
        mul_is x y,
        ap (λ (t : ℕ). t * up y) r.is,
        ap (λ (t : ℕ). t * dn y) r.is,
        ap (λ (t : ℕ). p * t) s.is,
        ap (λ (t : ℕ). n * t) s.is,
      );
    }

ext : (x y : ℤ) → up x + dn y ≡ up y + dn x → x ≡ y
ext (pos a) (pos b) e = ap pos (omega arith)
ext (pos a) (negsuc b) e = absurd (omega arith)
ext (negsuc a) (pos b) e = absurd (omega arith)
ext (negsuc a) (negsuc b) e = ap negsuc (omega arith)

pub rep_eq : {x y : ℤ} {p n q m : ℕ} → Rep x p n → Rep y q m → p + m ≡ q + n → x ≡ y
rep_eq {x} {y} r s e = ext x y (omega (arith, r.is, s.is))

le_to : (x y : ℤ) → T (le_z x y) → up x + dn y ≤ up y + dn x
le_to (pos a) (pos b) t = omega (arith, leb→le a b t)
le_to (pos a) (negsuc b) t = absurd t
le_to (negsuc a) (pos b) t = omega arith
le_to (negsuc a) (negsuc b) t = omega (arith, leb→le b a t)

le_of : (x y : ℤ) → up x + dn y ≤ up y + dn x → T (le_z x y)
le_of (pos a) (pos b) h = le→leb a b (omega arith)
le_of (pos a) (negsuc b) h = absurd (omega arith)
le_of (negsuc a) (pos b) h = tt
le_of (negsuc a) (negsuc b) h = le→leb b a (omega arith)

lt_to : (x y : ℤ) → T (lt_z x y) → up x + dn y < up y + dn x
lt_to (pos a) (pos b) t = omega (arith, ltb→lt a b t)
lt_to (pos a) (negsuc b) t = absurd t
lt_to (negsuc a) (pos b) t = omega arith
lt_to (negsuc a) (negsuc b) t = omega (arith, ltb→lt b a t)

lt_of : (x y : ℤ) → up x + dn y < up y + dn x → T (lt_z x y)
lt_of (pos a) (pos b) h = lt→ltb a b (omega arith)
lt_of (pos a) (negsuc b) h = absurd (omega arith)
lt_of (negsuc a) (pos b) h = tt
lt_of (negsuc a) (negsuc b) h = lt→ltb b a (omega arith)

pub rep_le : {x y : ℤ} {p n q m : ℕ} → Rep x p n → Rep y q m → p + m ≤ q + n → x ≤ℤ y
rep_le {x} {y} r s h = record { le = le_of x y (omega (arith, r.is, s.is)) }

pub le_rep : {x y : ℤ} {p n q m : ℕ} → Rep x p n → Rep y q m → x ≤ℤ y → p + m ≤ q + n
le_rep {x} {y} r s h = omega (arith, r.is, s.is, le_to x y h.le)

pub rep_lt : {x y : ℤ} {p n q m : ℕ} → Rep x p n → Rep y q m → p + m < q + n → x <ℤ y
rep_lt {x} {y} r s h = record { lt = lt_of x y (omega (arith, r.is, s.is)) }

pub lt_rep : {x y : ℤ} {p n q m : ℕ} → Rep x p n → Rep y q m → x <ℤ y → p + m < q + n
lt_rep {x} {y} r s h = omega (arith, r.is, s.is, lt_to x y h.lt)
