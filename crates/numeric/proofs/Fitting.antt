-- That an expression fits 64 bits, and bounds of it, by computation from a bound on each atom:
-- `fit h e tt : SFits w64 (eval env e)`, `abs_under h e b tt : nat_abs (eval env e) ≤ b`. No assumptions.
use mathlib.Core.List.{List, [], ◌∷◌}
use Prim.Native.Nat.{ℕ, zero, suc, ◌+◌, ◌*◌, ◌^◌, ◌≤◌, zero-le}
use native.Mathlib.Omega.{arith}
use native.Mathlib.Nat.{le_refl, lt_of_le_of_lt}
use lib.Dec.{T, ltb, leb, ltb→lt, leb→le}
use lib.ListN.{get_or}
use lib.IntN.{ℤ, pos, nat_abs}
use mir.Syntax.{w64}
use mir.Val.{SFits}
use Rattle.std.proofs.lemmas.Int.{fits_signed_from_abs}
use Rattle.numeric.proofs.Expression.{Ex, v, #, op, Operation, plus, minus, times, ⊝, apply, eval}
use Rattle.numeric.proofs.Bounds.{abs_add, abs_sub, abs_neg, abs_mul_le}

infixr 67 ◌&◌
-- Each number of the first list is from −b to b, for the b at its place in the second.
pub data Bounded : List ℤ → List ℕ → Type 0 where
  all : Bounded [] []
  ◌&◌ : {z : ℤ} {b : ℕ} {zs : List ℤ} {bs : List ℕ} → nat_abs z ≤ b → Bounded zs bs → Bounded (z ∷ zs) (b ∷ bs)

abbrev pub bound_of : Operation → ℕ → ℕ → ℕ
bound_of plus x y = x + y
bound_of minus x y = x + y
bound_of times x y = x * y

-- A bound of the expression, made of those of its atoms.
abbrev pub bound : List ℕ → Ex → ℕ
bound bs (v i) = get_or bs i 0
bound bs (# c) = nat_abs c
bound bs (op o a b) = bound_of o (bound bs a) (bound bs b)
bound bs (⊝ a) = bound bs a

at : {zs : List ℤ} {bs : List ℕ} → Bounded zs bs → (i : ℕ) → nat_abs (get_or zs i (pos 0)) ≤ get_or bs i 0
at all i = zero-le
at (h & r) zero = h
at (h & r) (suc i) = at r i

abs_apply : (o : Operation) (x y : ℤ) {b c : ℕ} → nat_abs x ≤ b → nat_abs y ≤ c → nat_abs (apply o x y) ≤ bound_of o b c
abs_apply plus x y h k = omega (arith, abs_add x y)
abs_apply minus x y h k = omega (arith, abs_sub x y)
abs_apply times x y h k = abs_mul_le x y h k

pub abs_by : {zs : List ℤ} {bs : List ℕ} → Bounded zs bs → (e : Ex) → nat_abs (eval zs e) ≤ bound bs e
abs_by h (v i) = at h i
abs_by h (# c) = le_refl (nat_abs c)
abs_by {zs} h (op o a b) = abs_apply o (eval zs a) (eval zs b) (abs_by h a) (abs_by h b)
abs_by {zs} h (⊝ a) = omega (arith, abs_by h a, abs_neg (eval zs a))

pub fit : {zs : List ℤ} {bs : List ℕ} → Bounded zs bs → (e : Ex) → T (ltb (bound bs e) (2 ^ 63)) → SFits w64 (eval zs e)
fit {zs} {bs} h e t = fits_signed_from_abs w64 (eval zs e) (lt_of_le_of_lt (abs_by h e) (ltb→lt (bound bs e) (2 ^ 63) t))

pub abs_under : {zs : List ℤ} {bs : List ℕ} → Bounded zs bs → (e : Ex) (b : ℕ) → T (leb (bound bs e) b)
    → nat_abs (eval zs e) ≤ b
abs_under {zs} {bs} h e b t = omega (arith, abs_by h e, leb→le (bound bs e) b t)
