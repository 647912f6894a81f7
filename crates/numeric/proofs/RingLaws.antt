-- Laws of sums, products and the order of ℤ that lib.IntN and lib.Signed lack. No assumptions.
use mathlib.Core.Path.{◌≡◌}
use mathlib.Core.List.{[], ◌∷◌}
use native.Mathlib.Omega.{arith}
use lib.IntN.{ℤ, pos, neg_ℤ, ◌+ℤ◌, ◌*ℤ◌}
use lib.Signed.{◌≤ℤ◌}
use Rattle.numeric.proofs.Expression.{v, #, ◌⊕◌, ◌⊗◌, ⊝, equal, at_most, at_most_of}

pub *ℤ_assoc : (a b c : ℤ) → (a *ℤ b) *ℤ c ≡ a *ℤ (b *ℤ c)
*ℤ_assoc a b c = equal (a ∷ b ∷ c ∷ []) (v 0 ⊗ v 1 ⊗ v 2) (v 0 ⊗ (v 1 ⊗ v 2)) (omega arith)

pub *ℤ_distrib_left : (a b c : ℤ) → a *ℤ (b +ℤ c) ≡ a *ℤ b +ℤ a *ℤ c
*ℤ_distrib_left a b c = equal (a ∷ b ∷ c ∷ []) (v 0 ⊗ (v 1 ⊕ v 2)) (v 0 ⊗ v 1 ⊕ v 0 ⊗ v 2) (omega arith)

pub *ℤ_distrib_right : (a b c : ℤ) → (a +ℤ b) *ℤ c ≡ a *ℤ c +ℤ b *ℤ c
*ℤ_distrib_right a b c = equal (a ∷ b ∷ c ∷ []) ((v 0 ⊕ v 1) ⊗ v 2) (v 0 ⊗ v 2 ⊕ v 1 ⊗ v 2) (omega arith)

pub neg_*ℤ : (a b : ℤ) → neg_ℤ a *ℤ b ≡ neg_ℤ (a *ℤ b)
neg_*ℤ a b = equal (a ∷ b ∷ []) (⊝ (v 0) ⊗ v 1) (⊝ (v 0 ⊗ v 1)) (omega arith)

pub one_*ℤ : (a : ℤ) → pos 1 *ℤ a ≡ a
one_*ℤ a = equal (a ∷ []) (# (pos 1) ⊗ v 0) (v 0) (omega arith)

pub ≤ℤ_trans : {a b c : ℤ} → a ≤ℤ b → b ≤ℤ c → a ≤ℤ c
≤ℤ_trans {a} {b} {c} h k =
    let env = a ∷ b ∷ c ∷ [] in
    at_most env (v 0) (v 2) (omega (arith, at_most_of env (v 0) (v 1) h, at_most_of env (v 1) (v 2) k))
