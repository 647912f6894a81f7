-- What every call keeps of a river: its number of cells, the places of its amounts, and that check 4 does not hold. A
-- fresh river is sound, and so is a sound one with one amount changed within its bounds, or flowed or stepped where
-- check 8 does not hold. No assumptions.
use Prim.Native.Nat.{ℕ, ◌+◌, ◌*◌, ◌/◌, ◌%◌, ◌≤◌, ◌<◌}
use mathlib.Core.Bool.{Bool, true, false, cond}
use mathlib.Core.List.{List}
use mathlib.Core.Path.{◌≡◌, refl, ◌∙◌}
use native.Mathlib.Decide.{ℕ_discrete}
use native.Mathlib.Omega.{arith}
use lib.Arith.{digits_mod}
use lib.Dec.{leb, ltb, eqb}
use lib.ListN.{set, length, length-set, length-replicate}
use lib.Seq.{get_or-set_same, get_or-set_other}
use lib.IntN.{ℤ, pos}
use borrow.Author.Tests.{le-leb}
use Rattle.numeric.proofs.CheckLaws.{every_all}
use Rattle.numeric.specs.Table.{grid}
use Rattle.numeric.proofs.GridLaws.{grid-length}
use Rattle.numeric.proofs.TableLaws.{tab-length, get_or-tab}
use Rattle.stoichiometry.specs.declared.Set.{Set}
use Rattle.stoichiometry.specs.Substances.{substances}
use Rattle.stoichiometry.specs.Rows.{processes}
use Rattle.kinetics.specs.declared.Conditions.{Conditions}
use Rattle.river.specs.declared.River.{River}
use Rattle.river.specs.Rivers.{most_cells, amount_fits, amounts_fit, carries_fit, river_wrong, zero_river, most_carry}
use Rattle.transport.specs.Load.{with_amount}
use Rattle.transport.specs.Flow.{moved_of}
use Rattle.river.proofs.Rivers.{AmountPlaced, amounts_at, amounts_from}
use Rattle.river.proofs.Rivers.{river-cells, river-amounts, river-carries, river_fits_lem}
use Rattle.river.proofs.FreshLaws.{zero_right}
use Rattle.step.specs.Steps.{new_carry, stepped_amounts, stepped_carries, stepped}

-- A river of n cells with places for the amounts of all cells, of which check 4 does not hold.
pub record SoundRiver (n : ℕ) (r : River) : Type 0 where
  pub cells : r.cells ≡ n
  pub long : length r.amounts ≡ most_cells * substances
  pub right : river_wrong r ≡ false

pub sound_cells : (n : ℕ) (r : River) → SoundRiver n r → (1 ≤ n) × (n ≤ most_cells)
sound_cells n r s = omega (arith, s.cells, river-cells r s.right)

-- With other amounts and carries that fit it is sound again.
pub sound_again : (n : ℕ) (r : River) → SoundRiver n r → (amounts : List ℤ) (carries : List ℕ)
    → length amounts ≡ most_cells * substances → amounts_fit r.cells amounts ≡ true
    → carries_fit r.cells carries ≡ true
    → SoundRiver n (record { cells = r.cells; amounts = amounts; carries = carries })
sound_again n r s amounts carries long e f =
    let cells = river-cells r s.right in
    record { cells = s.cells; long = long; right = river_fits_lem _ cells.0 cells.1 e f }

pub sound_carries : (n : ℕ) (r : River) → SoundRiver n r → carries_fit r.cells r.carries ≡ true
sound_carries n r s = river-carries r s.right

-- One amount changed to one that fits, in one of the first n cells.
set-fits : (n : ℕ) (a : List ℤ) (k : ℕ) (x : ℤ) → k < length a → k < n * substances
    → amount_fits (k % substances) x ≡ true → amounts_fit n a ≡ true → amounts_fit n (set a k x) ≡ true
set-fits n a k x there inside fits e = amounts_from n (set a k x) (λ i h. at i (ℕ_discrete i k) (amounts_at n a e i h))
  where
    at : (i : ℕ) → Dec (i ≡ k) → AmountPlaced n a i → AmountPlaced n (set a k x) i
    at i (yes q) old = (λ l. rw (q, get_or-set_same a k x (pos 0) there) fits, λ l. absurd (omega arith))
    at i (no d) old = rw (get_or-set_other a k i x (pos 0) d) old

-- An amount changed, as check 8 lets pass.
pub sound_amount : (n : ℕ) (r : River) → SoundRiver n r → (c s : ℕ) (x : ℤ) → c < n → s < substances
    → amount_fits s x ≡ true → SoundRiver n (with_amount r c s x)
sound_amount n r sound c s x h l e =
    let most = (sound_cells n r sound).1 in
    sound_again n r sound (set r.amounts (c * substances + s) x) r.carries
    (length-set r.amounts (c * substances + s) x ∙ sound.long)
    (set-fits r.cells r.amounts (c * substances + s) x (omega (arith, sound.long)) (omega (arith, sound.cells))
    (rw (digits_mod c l) e) (river-amounts r sound.right))
    (sound_carries n r sound)

module _ (set : Set) (conditions : Conditions) where
  -- A carry after a step is a remainder, and 0 beyond the last cell.
  stepped_carries-fit : (r : River) → carries_fit r.cells (stepped_carries set conditions r) ≡ true
  unfolding carries_fit stepped_carries new_carry grid
  stepped_carries-fit r =
      every_all (most_cells * processes) _
      (λ k l. rw (get_or-tab {A = ℕ} (most_cells * processes) _ k 0 l) (by-cell _ (ltb (k / processes) r.cells)))
    where
      by-cell : (x : ℕ) (b : Bool) → let y = cond b (x % 1000000) 0 in cond b (leb y most_carry) (eqb y 0) ≡ true
      by-cell x true = le-leb (x % 1000000) most_carry (omega arith)
      by-cell x false = refl

  -- A step that check 8 lets pass.
  pub sound_step : (n : ℕ) (r : River) → SoundRiver n r → amounts_fit r.cells (stepped_amounts set conditions r) ≡ true
      → SoundRiver n (stepped set conditions r)
  unfolding stepped_amounts
  sound_step n r s e =
      sound_again n r s (stepped_amounts set conditions r) (stepped_carries set conditions r)
      (grid-length most_cells substances r.cells (pos 0) _) e (stepped_carries-fit r)

-- A flow that check 8 lets pass.
pub sound_flow : (n : ℕ) (r : River) → SoundRiver n r → (left : List ℤ)
    → amounts_fit r.cells (moved_of r.cells r.amounts left) ≡ true
    → SoundRiver n (record { cells = r.cells; amounts = moved_of r.cells r.amounts left; carries = r.carries })
unfolding moved_of
sound_flow n r s left e =
    sound_again n r s (moved_of r.cells r.amounts left) r.carries (tab-length (most_cells * substances) _) e
    (sound_carries n r s)

-- A fresh river is sound.
pub sound_zero : (n : ℕ) → 1 ≤ n → n ≤ most_cells → SoundRiver n (zero_river n)
sound_zero n h l =
    record { cells = refl; long = length-replicate (most_cells * substances) (pos 0); right = zero_right n h l }
