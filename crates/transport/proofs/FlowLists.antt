-- What the code of flow needs of its lists: sizes of what is handed from function to function, and that what stayed
-- with what came are the amounts after. Laws of flow itself: FlowLaws.antt. No assumptions.
use Prim.Native.Nat.{ℕ, ◌+◌, ◌*◌, ◌-◌, ◌<◌, ◌≤◌}
use mathlib.Core.Path.{◌≡◌, sym, ap, ◌∙◌}
use mathlib.Core.Bool.{false}
use mathlib.Core.List.{List}
use native.Mathlib.Nat.{zero-add}
use native.Mathlib.Omega.{arith}
use native.Mathlib.Decide.{dec_lt}
use lib.ListN.{length, get_or}
use lib.Seq.{ext_get_or}
use lib.IntN.{ℤ, pos, ◌+ℤ◌, +ℤ_idr}
use Rattle.numeric.proofs.Bounds.{abs_sub}
use Rattle.numeric.proofs.TableLaws.{tab-length}
use Rattle.numeric.proofs.Filling.{run_length, run_at, run-other}
use Rattle.stoichiometry.specs.Substances.{substances, most_net}
use Rattle.river.specs.declared.River.{River}
use Rattle.river.specs.Rivers.{most_cells, river_wrong}
use Rattle.transport.specs.Flow.{left_of, came_at, moved_of}
use Rattle.transport.specs.Inner.Stages.{AmountsWithin, staying, stayed_of, joining, joined_of}
use Rattle.river.proofs.Rivers.{amount_bound}
use Rattle.transport.proofs.FlowLaws.{passing_bound, left_at, came_first, came_next, came_beyond, moved_at}

pub river-within : (r : River) → river_wrong r ≡ false → AmountsWithin most_net r.amounts
river-within r e = record { small = amount_bound r e }

pub left-within : (part most : ℕ) (amounts : List ℤ) → part ≤ 10000 → AmountsWithin most amounts
    → AmountsWithin most (left_of part amounts)
left-within part most amounts p s =
    record {
      small = λ k h. rw (left_at part amounts k h)
          (omega (arith, passing_bound part (get_or amounts k (pos 0)) p, s.small k h));
    }

module _ (n : ℕ) (amounts left : List ℤ) (long : length amounts ≡ most_cells * substances) where
  stayed_at : (k : ℕ) → k < most_cells * substances → get_or (stayed_of amounts left) k (pos 0) ≡ staying amounts left k
  stayed_at k h =
      rw zero-add at (run_at amounts 0 (most_cells * substances) (staying amounts left) k (pos 0) h (omega arith))

  stayed_length : length (stayed_of amounts left) ≡ most_cells * substances
  stayed_length = run_length amounts 0 (most_cells * substances) (staying amounts left) ∙ long

  pub stayed_within : AmountsWithin most_net amounts → AmountsWithin most_net left
      → AmountsWithin (2 * most_net) (stayed_of amounts left)
  stayed_within a b =
      record {
        small = λ k h. rw (stayed_at k h)
            (omega (arith, abs_sub (get_or amounts k (pos 0)) (get_or left k (pos 0)), a.small k h, b.small k h));
      }

  moved_length : length (moved_of n amounts left) ≡ most_cells * substances
  unfolding moved_of
  moved_length = tab-length (most_cells * substances) _

  -- The amounts after by what came.
  moved_by : (k : ℕ) → k < most_cells * substances → (z : ℤ) → came_at n left k ≡ z
      → get_or (moved_of n amounts left) k (pos 0) ≡ staying amounts left k +ℤ z
  moved_by k h z e = moved_at n amounts left k h ∙ ap (λ (y : ℤ). staying amounts left k +ℤ y) e

  joined_outside : (k : ℕ) → k < most_cells * substances → ((s : ℕ) → s < (n - 1) * substances → k ≡ substances + s → ⊥)
      → came_at n left k ≡ pos 0
      → get_or (joined_of n (stayed_of amounts left) left) k (pos 0) ≡ get_or (moved_of n amounts left) k (pos 0)
  joined_outside k h o none =
      run-other (stayed_of amounts left) substances ((n - 1) * substances) _ k (pos 0) o
      ∙ stayed_at k h ∙ sym (moved_by k h (pos 0) none ∙ +ℤ_idr (staying amounts left k))

  module _ (a : 1 ≤ n) (b : n ≤ most_cells) where
    joined_at : (k : ℕ) → k < most_cells * substances → Dec (k < substances) → Dec (k < n * substances)
        → get_or (joined_of n (stayed_of amounts left) left) k (pos 0) ≡ get_or (moved_of n amounts left) k (pos 0)
    joined_at k h (yes f) d = joined_outside k h (λ s m e. omega arith) (came_first n left k f)
    joined_at k h (no g) (no o) = joined_outside k h (λ s m e. omega arith) (came_beyond n left k (omega arith))
    joined_at k h (no g) (yes l) =
        let j = k - substances in
        let back : substances + j ≡ k = omega arith in
        let end : substances + (n - 1) * substances ≤ length (stayed_of amounts left) = omega (arith, stayed_length) in
        let stayed = stayed_of amounts left in
        let joins = joining stayed left in
        let stored = run_at stayed substances ((n - 1) * substances) joins j (pos 0) (omega arith) end in
        (rw back at stored)
        ∙ ap (λ (z : ℤ). z +ℤ get_or left j (pos 0)) (stayed_at k h)
        ∙ sym (moved_by k h (get_or left j (pos 0)) (came_next n left k (omega arith) l))

    -- What stayed and what came are the amounts after.
    pub joined_moved : joined_of n (stayed_of amounts left) left ≡ moved_of n amounts left
    joined_moved =
        let as_long : length (joined_of n (stayed_of amounts left) left) ≡ most_cells * substances =
        run_length (stayed_of amounts left) substances ((n - 1) * substances) _ ∙ stayed_length in
        ext_get_or (pos 0) _ _ (as_long ∙ sym moved_length)
        (λ k h. joined_at k (rw as_long at h) (dec_lt k substances) (dec_lt k (n * substances)))
