-- What an expression of signed 64-bit locals computes to in the machine, and that it is the expression's value. A
-- need of the borrow checker asks of `to_z w64 (of_z w64 ..)` at each local and each result. `mach` is that term, so
-- from h, a bound on each atom (Fitting.antt), an operation's need `SFits w64 ..` is answered by `asked h e tt`, with
-- e the operation's expression, and the result is known by `ran h e tt : mach env e ≡ eval env e`. `tt` is the test
-- that each step's bound is below 2 ^ 63. No assumptions.
use mathlib.Core.Path.{◌≡◌, refl, sym, ap, ap₂, ◌∙◌, subst}
use mathlib.Core.Bool.{Bool, ◌&&◌}
use mathlib.Core.List.{List}
use Prim.Native.Nat.{ℕ, ◌^◌, ◌<◌}
use lib.Dec.{T, ltb}
use lib.ListN.{get_or}
use lib.Ieee.Fits.{and_l, and_r}
use lib.IntN.{ℤ, pos, neg_ℤ, ◌-ℤ◌, +ℤ_idl}
use lib.Signed.{mag}
use mir.Syntax.{w64}
use mir.Val.{SFits, to_z, of_z}
use mir.Facts.{to_z-of_z}
use borrow.Author.Rules.{sfits_of}
use Rattle.numeric.proofs.Expression.{Ex, v, #, op, ⊝, apply, eval}
use Rattle.numeric.proofs.Fitting.{Bounded, bound, fit}

-- A signed number as the machine keeps it in a local and reads it back.
abbrev pub kept : ℤ → ℤ
kept z = to_z w64 (of_z w64 z)

-- A number that fits is kept: `mag z < 2 ^ 63` is what a read or a call gives of its value (`.given`, `.ok`).
pub kept_is : (z : ℤ) → mag z < 2 ^ 63 → kept z ≡ z
kept_is z h = to_z-of_z {w = w64} (sfits_of h)

-- A call's result of which its contract says what it is.
pub result_is : {x : ℤ} (y : ℤ) → x ≡ y → mag x < 2 ^ 63 → kept x ≡ y
result_is {x} y e h = kept_is x h ∙ e

abbrev pub mach : List ℤ → Ex → ℤ
mach env (v i) = kept (get_or env i (pos 0))
mach env (# c) = c
mach env (op o a b) = kept (apply o (mach env a) (mach env b))
mach env (⊝ a) = kept (pos 0 -ℤ mach env a)

-- The last operation's result, before it is kept.
abbrev pub raw : List ℤ → Ex → ℤ
raw env (v i) = get_or env i (pos 0)
raw env (# c) = c
raw env (op o a b) = apply o (mach env a) (mach env b)
raw env (⊝ a) = pos 0 -ℤ mach env a

abbrev pub under : List ℕ → Ex → Bool
under bs e = ltb (bound bs e) (2 ^ 63)

-- Each step's bound is below 2 ^ 63.
abbrev pub small : List ℕ → Ex → Bool
small bs (v i) = under bs (v i)
small bs (# c) = under bs (# c)
small bs (op o a b) = under bs (op o a b) && (small bs a && small bs b)
small bs (⊝ a) = under bs (⊝ a) && small bs a

module _ {zs : List ℤ} {bs : List ℕ} (h : Bounded zs bs) where
  -- A result that fits is read back.
  back : (x y : ℤ) → x ≡ y → SFits w64 y → kept x ≡ y
  back x y e f = ap kept e ∙ to_z-of_z f

  pub ran : (e : Ex) → T (small bs e) → mach zs e ≡ eval zs e
  ran (v i) t = to_z-of_z (fit h (v i) t)
  ran (# c) t = refl
  ran (op o a b) t =
      let parts = and_r (under bs (op o a b)) (small bs a && small bs b) t in
      back (apply o (mach zs a) (mach zs b)) (apply o (eval zs a) (eval zs b))
      (ap₂ (apply o) (ran a (and_l (small bs a) (small bs b) parts)) (ran b (and_r (small bs a) (small bs b) parts)))
      (fit h (op o a b) (and_l (under bs (op o a b)) (small bs a && small bs b) t))
  ran (⊝ a) t =
      back (pos 0 -ℤ mach zs a) (neg_ℤ (eval zs a))
      (ap (λ (z : ℤ). pos 0 -ℤ z) (ran a (and_r (under bs (⊝ a)) (small bs a) t)) ∙ +ℤ_idl (neg_ℤ (eval zs a)))
      (fit h (⊝ a) (and_l (under bs (⊝ a)) (small bs a) t))

  raw_is : (e : Ex) → T (small bs e) → raw zs e ≡ eval zs e
  raw_is (v i) t = refl
  raw_is (# c) t = refl
  raw_is (op o a b) t =
      let parts = and_r (under bs (op o a b)) (small bs a && small bs b) t in
      ap₂ (apply o) (ran a (and_l (small bs a) (small bs b) parts)) (ran b (and_r (small bs a) (small bs b) parts))
  raw_is (⊝ a) t =
      ap (λ (z : ℤ). pos 0 -ℤ z) (ran a (and_r (under bs (⊝ a)) (small bs a) t)) ∙ +ℤ_idl (neg_ℤ (eval zs a))

  top : (e : Ex) → T (small bs e) → T (under bs e)
  top (v i) t = t
  top (# c) t = t
  top (op o a b) t = and_l (under bs (op o a b)) (small bs a && small bs b) t
  top (⊝ a) t = and_l (under bs (⊝ a)) (small bs a) t

  pub asked : (e : Ex) → T (small bs e) → SFits w64 (raw zs e)
  asked e t = subst (λ (z : ℤ). SFits w64 z) (sym (raw_is e t)) (fit h e (top e t))
