-- Runs of neighbouring substances of a cell: their amounts tested one by one, and by one test of their joined bits
-- where they have the same bounds. No assumptions.
use Prim.Native.Nat.{ℕ, zero, suc, ◌+◌, ◌-◌, ◌≤◌, ◌<◌, zero-le}
use mathlib.Core.Bool.{Bool, true, false, true≢false}
use mathlib.Core.List.{List}
use mathlib.Core.Path.{◌≡◌, refl, sym, ap, ◌∙◌}
use native.Mathlib.Omega.{arith}
use borrow.Author.Tests.{ltb-true, ltb-false}
use lib.Bits.{bit_or}
use lib.Dec.{ltb}
use lib.IntN.{ℤ, pos}
use lib.ListN.{length, take, drop, get_or, length-take}
use lib.Seq.{get_or-take, get_or-drop}
use lib.Signed.{◌≤ℤ◌, le_z}
use mir.Syntax.{w64}
use mir.Val.{to_z, of_z}
use Rattle.std.specs.List.{list_all, range_with_len}
use Rattle.numeric.specs.Check.{every}
use Rattle.numeric.proofs.CheckLaws.{and_left, and_right, every_at, every_all}
use Rattle.numeric.proofs.Comparison.{le_z_true}
use Rattle.numeric.proofs.JoinedBits.{or_covers}
use Rattle.numeric.proofs.Machine.{kept}
use Rattle.numeric.proofs.RingLaws.{≤ℤ_trans}
use Rattle.river.specs.Rivers.{lowest_at, highest_at, amount_fits}
use Rattle.river.specs.Inner.Runs.{RunFits, same_bounds, CoversFirst, Covers}
use Rattle.river.proofs.Bounds.{fits-lowest, fits-highest, fits_from}

module _ (cell : List ℤ) (first : ℕ) where
  pub run_none : RunFits cell first first
  run_none s from before = let no : ⊥ = omega arith in absurd no

  -- Two runs side by side.
  pub run-append : (middle end : ℕ) → RunFits cell first middle → RunFits cell middle end
      → RunFits cell first end
  run-append middle end left right s from before = by_test (ltb s middle) refl
    where
      by_test : (t : Bool) → ltb s middle ≡ t → amount_fits s (get_or cell s (pos 0)) ≡ true
      by_test true e = left s from (ltb-true s middle e)
      by_test false e = right s (ltb-false s middle e) before

  pub run_more : (end : ℕ) → RunFits cell first end
      → amount_fits end (get_or cell end (pos 0)) ≡ true → RunFits cell first (end + 1)
  run_more end all fits =
      run-append end (end + 1) all (λ s from before. let only : s ≡ end = omega arith in rw only fits)

  -- An amount that does not fit.
  pub run_stops : (s end : ℕ) → first ≤ s → s < end → amount_fits s (get_or cell s (pos 0)) ≡ false
      → RunFits cell first end → ⊥
  run_stops s end from before fails all = true≢false (sym (all s from before) ∙ fails)

-- Substances tested in turn.
pub run_listed : (cell : List ℤ) (first n : ℕ)
    → list_all (λ s. amount_fits s (get_or cell s (pos 0))) (range_with_len first n) ≡ true
    → RunFits cell first (first + n)
run_listed cell first zero all = λ s from before. let no : ⊥ = omega arith in absurd no
run_listed cell first (suc n) all =
    let next : first + 1 + n ≡ first + suc n = omega arith in
    run-append cell first (first + 1) (first + suc n)
    (λ s from before. let only : s ≡ first = omega arith in rw only (and_left _ _ all))
    (rw next at (run_listed cell (first + 1) n (and_right (amount_fits first (get_or cell first (pos 0))) _ all)))

-- The first n substances of a cell.
module _ (cell : List ℤ) (n : ℕ) where
  pub run-every : RunFits cell 0 n
      → every n (λ s. amount_fits s (get_or cell s (pos 0))) ≡ true
  run-every all = every_all n _ (λ s before. all s zero-le before)

module _ (amounts : List ℤ) where
  pub covers_none : (z : ℤ) → CoversFirst amounts 0 z
  covers_none z h i before = let no : ⊥ = omega arith in absurd no

  -- One amount more is joined to the bits b.
  pub covers_more : (count b : ℕ) → let x = get_or amounts count (pos 0) in kept x ≡ x
      → CoversFirst amounts count (to_z w64 b)
      → CoversFirst amounts (count + 1) (to_z w64 (bit_or b (of_z w64 x)))
  covers_more count b same all h i before = by_test (ltb i count) refl
    where
      x : ℤ
      x = get_or amounts count (pos 0)

      Covered : ℤ → Type 0
      Covered y = (pos 0 ≤ℤ y) × (y ≤ℤ to_z w64 (bit_or b (of_z w64 x)))

      by_test : (t : Bool) → ltb i count ≡ t → Covered (get_or amounts i (pos 0))
      by_test true e =
          let bits = (or_covers b (of_z w64 x) h).0 in
          let old = all bits.0 i (ltb-true i count e) in
          (old.0, ≤ℤ_trans old.1 bits.1)
      by_test false e =
          let only : i ≡ count = omega (arith, ltb-false i count e) in
          rw only (rw same at (or_covers b (of_z w64 x) h).1)

  -- What covers the first of all amounts covers them among more.
  pub covers_taken : (count : ℕ) (z : ℤ) → count ≤ length amounts → Covers (take count amounts) z
      → CoversFirst amounts count z
  covers_taken count z room all h i before =
      let inside : i < length (take count amounts) = simp length-take (omega arith) in
      rw (get_or-take count amounts i (pos 0) before) at (all h i inside)

-- One test of joined bits.
pub run_covered : (cell : List ℤ) (first end : ℕ) (z : ℤ) → first < end → same_bounds first end ≡ true
    → CoversFirst (drop first cell) (end - first) z → amount_fits first z ≡ true
    → RunFits cell first end
run_covered cell first end z some same covers fits s from before =
    let i = s - first in
    let is_s : first + i ≡ s = omega arith in
    let from_zero = le_z_true (pos 0) (lowest_at first) (and_left (le_z (pos 0) (lowest_at first)) _ same) in
    let others = and_right (le_z (pos 0) (lowest_at first)) _ same in
    let bounds = rw is_s at (every_at (end - first) i _ others (omega arith)) in
    let at : get_or (drop first cell) i (pos 0) ≡ get_or cell s (pos 0) =
    get_or-drop first cell i (pos 0) ∙ ap (λ k. get_or cell k (pos 0)) is_s in
    let covered = rw at at (covers (≤ℤ_trans from_zero (fits-lowest first z fits)) i (omega arith)) in
    let lower = le_z_true (lowest_at s) (pos 0) (and_left _ (le_z (highest_at first) (highest_at s)) bounds) in
    let higher = le_z_true (highest_at first) (highest_at s) (and_right (le_z (lowest_at s) (pos 0)) _ bounds) in
    fits_from s (get_or cell s (pos 0)) (≤ℤ_trans lower covered.0) (≤ℤ_trans covered.1 (≤ℤ_trans (fits-highest first z fits) higher))
