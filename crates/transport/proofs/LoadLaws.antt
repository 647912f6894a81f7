-- Which sums of a load are in no bounds: those that do not fit 64 bits, since all bounds do, and those of a load of more
-- than 2 × 10^18, either way, since all bounds are within 10^18 of 0; and what the answer of a sum says of it. No
-- assumptions.
use Prim.Native.Nat.{ℕ, ◌≤◌, ◌<◌}
use native.Mathlib.Omega.{arith}
use mathlib.Core.Bool.{Bool, true, false}
use mathlib.Core.List.{[], ◌∷◌}
use mathlib.Core.Path.{◌≡◌, refl, ap}
use lib.IntN.{ℤ, pos, neg_ℤ, nat_abs, ◌+ℤ◌}
use lib.Signed.{◌<ℤ◌}
use mir.Syntax.{w64}
use mir.Val.{SFits}
use Rattle.std.specs.Prelude.{Ok, Err}
use Rattle.std.specs.Bool.{then_some}
use Rattle.std.specs.Option.{ok_or}
use Rattle.numeric.proofs.Bounds.{abs_parts, abs_sub}
use Rattle.numeric.proofs.Expression.{v, #, ◌⊕◌, ◌⊖◌, below_of}
use Rattle.numeric.proofs.Ring.{solve}
use Rattle.stoichiometry.specs.declared.refusals.Refusal.{Refusal}
use Rattle.stoichiometry.specs.Substances.{substances, most_net}
use Rattle.river.specs.Rivers.{amount_fits}
use Rattle.river.proofs.Bounds.{fits_bound}
use Rattle.river.proofs.Rivers.{fits_machine}

pub beyond_machine : (s : ℕ) (z : ℤ) → s < substances → (SFits w64 z → ⊥) → amount_fits s z ≡ false
beyond_machine s z h beyond = by_test (amount_fits s z) refl
  where
    by_test : (fits : Bool) → amount_fits s z ≡ fits → fits ≡ false
    by_test true e = absurd (beyond (fits_machine s z h e))
    by_test false e = refl

module _ (s : ℕ) (x y : ℤ) (h : s < substances) (small : nat_abs x ≤ most_net) where
  too_large : 2000000000000000000 < nat_abs y → (fits : Bool) → amount_fits s (x +ℤ y) ≡ fits → fits ≡ false
  too_large large true e =
      let most = fits_bound s (x +ℤ y) h e in
      let y_is = ap nat_abs (solve (x ∷ y ∷ []) (v 0 ⊕ v 1 ⊖ v 0) (v 1) tt) in
      absurd (omega (arith, abs_sub (x +ℤ y) x))
  too_large large false e = refl

  pub load_too_low : y <ℤ neg_ℤ (pos 2000000000000000000) → amount_fits s (x +ℤ y) ≡ false
  load_too_low l =
      let below = below_of (y ∷ []) (v 0) (# (neg_ℤ (pos 2000000000000000000))) l in
      too_large (omega (arith, abs_parts y)) (amount_fits s (x +ℤ y)) refl

  pub load_too_high : pos 2000000000000000000 <ℤ y → amount_fits s (x +ℤ y) ≡ false
  load_too_high l =
      let above = below_of (y ∷ []) (# (pos 2000000000000000000)) (v 0) l in
      too_large (omega (arith, abs_parts y)) (amount_fits s (x +ℤ y)) refl

-- What an answer or a refusal by `ok_or` says of the sum.
pub taken_sum : (fits : Bool) (sum x : ℤ) (e : Refusal) → ok_or (then_some fits sum) e ≡ Ok x
    → (fits ≡ true) × (x ≡ sum)
taken_sum true sum x e h = (refl, cc)
taken_sum false sum x e h = absurd cc

pub refused_sum : (fits : Bool) (sum : ℤ) (e f : Refusal) → ok_or (then_some fits sum) e ≡ Err f
    → (fits ≡ false) × (f ≡ e)
refused_sum true sum e f h = absurd cc
refused_sum false sum e f h = (refl, cc)
