-- Where uptake stands in the rows: process 1 takes up nitrogen exactly when the NH4 entry of its row is below zero,
-- and a process takes up phosphate when its HPO4 entry is, so both are read from the list of all rows. No
-- assumptions.
use Prim.Native.Nat.{ℕ, ◌+◌, ◌*◌, ◌<◌, zero-le}
use mathlib.Core.List.{[], ◌∷◌}
use mathlib.Core.Path.{◌≡◌, sym, ap, ◌∙◌}
use native.Mathlib.Omega.{arith}
use borrow.Author.Tests.{le-ltb}
use lib.Dec.{lit<}
use lib.ListN.{get_or}
use lib.IntN.{ℤ, pos, negsuc, ◌*ℤ◌, +ℤ_idl, +ℤ_idr}
use lib.Signed.{lt_z}
use Rattle.numeric.proofs.Expression.{v, #, ◌⊗◌, below}
use Rattle.numeric.proofs.Comparison.{lt_lt_z}
use Rattle.stoichiometry.specs.declared.Set.{Set}
use Rattle.stoichiometry.specs.Substances.{substances, nh4, hpo4, place}
use Rattle.stoichiometry.specs.Rows.{processes, entry, released, processes_of, process_at, row, row_entry, rows_of}
use Rattle.stoichiometry.proofs.Balance.{get_or_rows}
use Rattle.kinetics.specs.Rates.{takes_phosphate, takes_nitrogen}

-- A number times a positive one has its sign.
lt_z_scale : (k : ℕ) (z : ℤ) → 0 < k → lt_z (pos k *ℤ z) (pos 0) ≡ lt_z z (pos 0)
lt_z_scale k (pos n) h = le-ltb (k * n) 0 zero-le ∙ sym (le-ltb n 0 zero-le)
lt_z_scale k (negsuc n) h =
    lt_lt_z (pos k *ℤ negsuc n) (pos 0) (below (pos k ∷ negsuc n ∷ []) (v 0 ⊗ v 1) (# (pos 0)) (omega arith))

-- The NH4 entry of process 1 is 22,320 N.
nh4-entry : (set : Set) → row_entry set 0 (place nh4) ≡ pos 22320 *ℤ (released set (process_at set 0).changes).n
unfolding row_entry row entry process_at processes_of
nh4-entry set = simp (+ℤ_idl, +ℤ_idr)

pub takes_nitrogen-is : (set : Set) → takes_nitrogen set ≡ lt_z (row_entry set 0 (place nh4)) (pos 0)
unfolding takes_nitrogen
takes_nitrogen-is set =
    let n = (released set (process_at set 0).changes).n in
    sym (ap (λ (z : ℤ). lt_z z (pos 0)) (nh4-entry set) ∙ lt_z_scale 22320 n (lit< tt))

-- In the list of all rows.
pub takes_nitrogen-row : (set : Set)
    → takes_nitrogen set ≡ lt_z (get_or (rows_of set) (0 * substances + place nh4) (pos 0)) (pos 0)
takes_nitrogen-row set =
    takes_nitrogen-is set ∙ sym (ap (λ (z : ℤ). lt_z z (pos 0)) (get_or_rows set 0 (place nh4) (lit< tt) (lit< tt)))

pub takes_phosphate-row : (set : Set) (p : ℕ) → p < processes
    → takes_phosphate set p ≡ lt_z (get_or (rows_of set) (p * substances + place hpo4) (pos 0)) (pos 0)
unfolding takes_phosphate
takes_phosphate-row set p h = sym (ap (λ (z : ℤ). lt_z z (pos 0)) (get_or_rows set p (place hpo4) h (lit< tt)))
