-- Bounds of what a step adds, on plain values: one process's share, and all of them with an amount. No assumptions.
use Prim.Native.Nat.{ℕ, ◌+◌, ◌*◌, ◌≤◌, ◌<◌}
use mathlib.Core.List.{List}
use mathlib.Core.Path.{◌≡◌, sym, ap, ◌∙◌}
use native.Mathlib.Omega.{arith}
use lib.ListN.{get_or}
use lib.IntN.{ℤ, pos, nat_abs, ◌+ℤ◌, ◌*ℤ◌, +ℤ_assoc, +ℤ_idr}
use mir.Facts.{to_z-of_z}
use mir.Syntax.{w64}
use mir.Val.{SFits}
use Rattle.std.proofs.lemmas.Int.{fits_signed_from_abs}
use Rattle.numeric.specs.Sum.{sum}
use Rattle.numeric.proofs.Bounds.{abs_add, abs_mul_le}
use Rattle.numeric.proofs.Machine.{kept}
use Rattle.numeric.proofs.SumLaws.{sum-none, sum_more, sum_bound}
use Rattle.stoichiometry.specs.Rows.{processes}
use Rattle.stoichiometry.specs.Substances.{substances, most_net}
use Rattle.rows.specs.Answers.{most_entry}
use Rattle.step.specs.Steps.{most_batches}
use Rattle.step.specs.Inner.Stepping.{BatchesFit, EntriesFit, added_from}

-- What processes add to the substance at place s of a cell.
module _ (whole entries : List ℤ) (batches : BatchesFit whole) (rows : EntriesFit entries) (s : ℕ) where
  abbrev added : ℕ → ℤ
  added = added_from whole entries s

  -- One process adds at most 2.5 × 10^17.
  pub term_bound : (p : ℕ) → p < processes → nat_abs (added p) ≤ most_batches * most_entry
  term_bound p k =
      abs_mul_le (get_or whole p (pos 0)) (get_or entries (p * substances + s) (pos 0))
      (batches.most p k) (rows.bounded.each (p * substances + s))

  -- What the machine makes of the product.
  pub term_kept : (p : ℕ) → p < processes
      → kept (kept (get_or whole p (pos 0)) *ℤ kept (get_or entries (p * substances + s) (pos 0))) ≡ added p
  term_kept p k =
      let batch = batches.most p k in
      let entry = rows.bounded.each (p * substances + s) in
      rw (
        to_z-of_z (fits_signed_from_abs w64 (get_or whole p (pos 0)) (omega (arith, batch))),
        to_z-of_z (fits_signed_from_abs w64 (get_or entries (p * substances + s) (pos 0)) (omega (arith, entry))),
      )
      (to_z-of_z (fits_signed_from_abs w64 (added p) (omega (arith, term_bound p k))))

  module _ (start : ℤ) where
    -- An amount with what some processes add is far below 2 ^ 63.
    pub total_bound : (p : ℕ) → nat_abs start ≤ most_net → p ≤ processes
        → nat_abs (start +ℤ sum p added) ≤ most_net + processes * (most_batches * most_entry)
    total_bound p b k =
        let term : (q : ℕ) → q < p → nat_abs (added q) ≤ most_batches * most_entry =
        λ q j. term_bound q (omega arith) in
        omega (
          arith,
          abs_add start (sum p added),
          sum_bound p added (most_batches * most_entry) term,
        )

    -- The total before any process.
    pub total_none : nat_abs start ≤ most_net → kept start ≡ start +ℤ sum 0 added
    total_none b = to_z-of_z (fits_signed_from_abs w64 start (omega (arith, b))) ∙ sym (ap (λ (z : ℤ). start +ℤ z) (sum-none added) ∙ +ℤ_idr start)

    -- One process more.
    pub total_more : (p : ℕ) → start +ℤ sum p added +ℤ added p ≡ start +ℤ sum (p + 1) added
    total_more p = +ℤ_assoc start (sum p added) (added p) ∙ ap (λ (z : ℤ). start +ℤ z) (sym (sum_more p added))

    -- As the machine makes it: the next total, which fits.
    pub total_next : (p : ℕ) (total term : ℤ) → total ≡ start +ℤ sum p added → term ≡ added p → nat_abs start ≤ most_net
        → p < processes → (total +ℤ kept term ≡ start +ℤ sum (p + 1) added) × SFits w64 (start +ℤ sum (p + 1) added)
    total_next p total term e f b k =
        let small : SFits w64 term = rw f (fits_signed_from_abs w64 (added p) (omega (arith, term_bound p k))) in (
          rw (to_z-of_z small, e, f) (total_more p),
          fits_signed_from_abs w64 _ (omega (arith, total_bound (p + 1) b (omega arith))),
        )
