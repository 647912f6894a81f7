-- What `River::fresh` answers (specs/Rivers.antt): a river of zeros for 1 to 8 cells, and for no other number; and that
-- check 4 does not hold of such a river. No assumptions.
use Prim.Native.Nat.{ℕ, ◌≤◌, ◌*◌, ◌%◌}
use mathlib.Core.Bool.{Bool, true, false}
use mathlib.Core.Path.{◌≡◌, refl, sym, ap, ◌∙◌}
use native.Mathlib.Omega.{arith}
use borrow.Author.Tests.{le-leb}
use lib.Dec.{lit≤}
use lib.IntN.{pos}
use lib.ListN.{get_or}
use Rattle.std.specs.Prelude.{Ok, Err}
use Rattle.stoichiometry.specs.Refusals.{number_of}
use Rattle.stoichiometry.specs.declared.refusals.Refusal.TheVariants.{River as RiverWrong}
use Rattle.numeric.specs.Check.{first_holding}
use Rattle.numeric.proofs.CheckLaws.{leb-within}
use Rattle.numeric.proofs.Filling.{replicate_at}
use Rattle.stoichiometry.specs.Substances.{substances}
use Rattle.stoichiometry.specs.Rows.{processes}
use Rattle.river.specs.Rivers.{most_cells, cells_fit, river_wrong, zero_river, fresh_answer}
use Rattle.river.proofs.Bounds.{zero_fits}
use Rattle.river.proofs.Rivers.{amounts_from, carries_from, river_fits_lem}

pub fresh-accepted : (n : ℕ) → 1 ≤ n → n ≤ most_cells → fresh_answer n ≡ Ok (zero_river n)
unfolding fresh_answer first_holding cells_fit
fresh-accepted n l h = rw (le-leb 1 n l, le-leb n most_cells h)

pub fresh_refused : (n : ℕ) → cells_fit n ≡ false → fresh_answer n ≡ Err RiverWrong
unfolding fresh_answer first_holding
fresh_refused n f = rw f

pub fresh_cells : (n : ℕ) → number_of (fresh_answer n) ≡ 0 → (1 ≤ n) × (n ≤ most_cells)
unfolding cells_fit
fresh_cells n e = leb-within 1 n most_cells (go (cells_fit n) refl)
  where
    go : (b : Bool) → cells_fit n ≡ b → cells_fit n ≡ true
    go true f = f
    go false f = absurd (omega (arith, sym (ap number_of (fresh_refused n f)) ∙ e))

pub zero_right : (n : ℕ) → 1 ≤ n → n ≤ most_cells → river_wrong (zero_river n) ≡ false
zero_right n l h =
    river_fits_lem (zero_river n) l h
    (amounts_from n (zero_river n).amounts
    (λ k i. (λ j. rw (amount k) (zero_fits (k % substances) (omega arith)), λ j. amount k)))
    (carries_from n (zero_river n).carries (λ k i. (λ j. rw (carry k) (lit≤ tt), λ j. carry k)))
  where
    amount : (k : ℕ) → get_or (zero_river n).amounts k (pos 0) ≡ pos 0
    amount k = replicate_at (most_cells * substances) k (pos 0)

    carry : (k : ℕ) → get_or (zero_river n).carries k 0 ≡ 0
    carry k = replicate_at {A = ℕ} (most_cells * processes) k 0
