-- Laws of flow: what passes of an amount, and that it and what stays grow with the amount; by place, what left, what
-- came and the amount after; that the amounts after are in their bounds, so that no flow is refused with 8. What the
-- code needs of its lists: FlowLists.antt. No assumptions.
use Prim.Native.Nat.{ℕ, suc, ◌+◌, ◌*◌, ◌-◌, ◌/◌, ◌%◌, ◌<◌, ◌≤◌}
use mathlib.Core.Path.{◌≡◌, refl, sym, ap, ◌∙◌}
use mathlib.Core.Bool.{true, false, not}
use mathlib.Core.List.{List, [], ◌∷◌}
use native.Mathlib.Omega.{arith}
use native.Mathlib.Nat.{mul-le-mul_left, mul-le-mul_right}
use native.Mathlib.Decide.{dec_lt}
use lib.Dec.{leb, lit<}
use lib.ListN.{get_or}
use lib.IntN.{ℤ, pos, negsuc, neg_ℤ, nat_abs, ◌+ℤ◌, ◌-ℤ◌, ◌*ℤ◌, +ℤ_idl, +ℤ_idr}
use lib.Signed.{◌≤ℤ◌, ◌<ℤ◌}
use borrow.Author.Tests.{lt-ltb, le-ltb, leb-true, not-false}
use Rattle.numeric.specs.Check.{all_of, ◌when◌}
use Rattle.numeric.proofs.Difference.{up, dn}
use Rattle.numeric.proofs.Expression.{v, #, ◌⊕◌, ◌⊖◌, at_most, at_most_of, below_of}
use Rattle.std.proofs.lemmas.Int.{unsigned_abs-mul}
use Rattle.numeric.proofs.Bounds.{parts_mono}
use Rattle.numeric.proofs.Quotient.{quot_neg, split_nat, abs_quot}
use Rattle.numeric.proofs.CheckLaws.{row_in, row_beyond, first_last}
use Rattle.numeric.proofs.TableLaws.{get_or-tab}
use Rattle.stoichiometry.specs.Substances.{substances}
use Rattle.river.specs.declared.River.{River}
use Rattle.river.specs.Rivers.{most_cells, lowest_at, highest_at, amount_fits, amounts_fit, river_wrong}
use Rattle.river.proofs.Bounds.{zero_fits, fits-lowest, fits-highest, fits_from}
use Rattle.river.proofs.Rivers.{amounts_at, amounts_from, river-amounts, amount_zero_beyond}
use Rattle.transport.specs.Flow.{passing, left_of, came_at, moved_of, flowed_amounts, flow_number}

-- The part of a size, rounded down.
abbrev pub share : ℕ → ℕ → ℕ
share part m = m * part / 10000

pub share_le : (part m : ℕ) → part ≤ 10000 → share part m ≤ m
share_le part m h = let k : m * part ≤ m * 10000 = mul-le-mul_left m h in omega arith

-- The size divided first.
pub share_parts : (m part : ℕ) → m / 10000 * part + m % 10000 * part / 10000 ≡ m * part / 10000
share_parts m part = split_nat m part 10000 (lit< tt)

-- Of a larger size no less passes and no less stays.
share_mono : (part : ℕ) {m n : ℕ} → part ≤ 10000 → m ≤ n
    → (share part m ≤ share part n) × (m + share part n ≤ n + share part m)
share_mono part {m} {n} h l =
    let passes : m * part ≤ n * part = mul-le-mul_right part l in
    let more : (n - m) * part ≤ (n - m) * 10000 = mul-le-mul_left (n - m) h in
    let apart : m * part + (n - m) * part ≡ (m + (n - m)) * part = omega arith in
    let whole : m + (n - m) ≡ n = omega arith in
    let parts : m * part + (n - m) * part ≡ n * part = rw whole at apart in
    (omega arith, omega arith)

-- What passes of an amount by its positive and its negative part, of which one is 0; and by its sign.
passing-parts : (part : ℕ) (z : ℤ) → passing part z ≡ pos (share part (up z)) -ℤ pos (share part (dn z))
unfolding passing
passing-parts part (pos m) =
    let none : 0 * part / 10000 ≡ 0 = omega arith in
    rw none (sym (+ℤ_idr (pos (m * part / 10000))))
passing-parts part (negsuc m) =
    let none : 0 * part / 10000 ≡ 0 = omega arith in
    rw none (quot_neg (suc m * part) 10000 ∙ sym (+ℤ_idl (neg_ℤ (pos (suc m * part / 10000)))))

pub passing_below : (part : ℕ) (z : ℤ) → z <ℤ pos 0 → passing part z ≡ neg_ℤ (pos (share part (nat_abs z)))
unfolding passing
passing_below part (pos n) h = absurd (omega (arith, below_of (pos n ∷ []) (v 0) (# (pos 0)) h))
passing_below part (negsuc n) h = quot_neg (suc n * part) 10000

pub passing_above : (part : ℕ) (z : ℤ) → pos 0 ≤ℤ z → passing part z ≡ pos (share part (nat_abs z))
unfolding passing
passing_above part (pos n) h = refl
passing_above part (negsuc n) h = absurd h.le

pub passing_zero : (part : ℕ) → passing part (pos 0) ≡ pos 0
unfolding passing
passing_zero part = ap pos (omega arith)

pub passing_bound : (part : ℕ) (z : ℤ) → part ≤ 10000 → nat_abs (passing part z) ≤ nat_abs z
unfolding passing
passing_bound part z h =
    omega (arith, abs_quot (z *ℤ pos part) 10000, unsigned_abs-mul z (pos part), share_le part (nat_abs z) h)

module _ (part : ℕ) (p : part ≤ 10000) where
  -- Of a larger amount no less passes and no less stays.
  pub passing_mono : (x y : ℤ) → x ≤ℤ y
      → (passing part x ≤ℤ passing part y) × ((x -ℤ passing part x) ≤ℤ (y -ℤ passing part y))
  passing_mono x y h =
      let part_of : ℕ → ℤ = λ n. pos (share part n) in
      let env = x ∷ y ∷ part_of (up x) ∷ part_of (dn x) ∷ part_of (up y) ∷ part_of (dn y) ∷ [] in
      let parts = parts_mono x y h in
      let above = share_mono part p parts.0 in
      let below = share_mono part p parts.1 in
      rw (passing-parts part x, passing-parts part y) (
        at_most env (v 2 ⊖ v 3) (v 4 ⊖ v 5) (omega arith),
        at_most env (v 0 ⊖ (v 2 ⊖ v 3)) (v 1 ⊖ (v 4 ⊖ v 5)) (omega arith),
      )

  -- What stays of x and what passes of y are together in the bounds of a substance where both x and y are.
  moved_fits : (s : ℕ) (x y came : ℤ) → amount_fits s x ≡ true → amount_fits s y ≡ true → came ≡ passing part y
      → amount_fits s (x -ℤ passing part x +ℤ came) ≡ true
  moved_fits s x y came a b e =
      let low = lowest_at s in
      let high = highest_at s in
      let env = x ∷ passing part x ∷ passing part y ∷ low ∷ passing part low ∷ high ∷ passing part high ∷ [] in
      let least = at_most_of env (v 3 ⊖ v 4) (v 0 ⊖ v 1) (passing_mono low x (fits-lowest s x a)).1 in
      let least_came = at_most_of env (v 4) (v 2) (passing_mono low y (fits-lowest s y b)).0 in
      let most = at_most_of env (v 0 ⊖ v 1) (v 5 ⊖ v 6) (passing_mono x high (fits-highest s x a)).1 in
      let most_came = at_most_of env (v 2) (v 6) (passing_mono y high (fits-highest s y b)).0 in
      rw e (fits_from s _ (at_most env (v 3) (v 0 ⊖ v 1 ⊕ v 2) (omega arith))
      (at_most env (v 0 ⊖ v 1 ⊕ v 2) (v 5) (omega arith)))

-- By place: what left, what came (into the first cell, the next ones, and beyond the last), and the amount after.
pub left_at : (part : ℕ) (amounts : List ℤ) (k : ℕ) → k < most_cells * substances
    → get_or (left_of part amounts) k (pos 0) ≡ passing part (get_or amounts k (pos 0))
unfolding left_of
left_at part amounts k h = get_or-tab (most_cells * substances) (λ j. passing part (get_or amounts j (pos 0))) k (pos 0) h

module _ (n : ℕ) (left : List ℤ) (k : ℕ) where
  pub came_first : k < substances → came_at n left k ≡ pos 0
  came_first h = rw (lt-ltb k substances h)

  pub came_next : substances ≤ k → k < n * substances → came_at n left k ≡ get_or left (k - substances) (pos 0)
  came_next h l = rw (le-ltb k substances h, row_in substances n k (lit< tt) l)

  pub came_beyond : n * substances ≤ k → came_at n left k ≡ pos 0
  came_beyond l = by_place (dec_lt k substances)
    where
      by_place : Dec (k < substances) → came_at n left k ≡ pos 0
      by_place (yes h) = came_first h
      by_place (no g) =
          let h : substances ≤ k = omega arith in
          rw (le-ltb k substances h, row_beyond substances n k (lit< tt) l)

pub moved_at : (n : ℕ) (amounts left : List ℤ) (k : ℕ) → k < most_cells * substances
    → get_or (moved_of n amounts left) k (pos 0) ≡ get_or amounts k (pos 0) -ℤ get_or left k (pos 0) +ℤ came_at n left k
unfolding moved_of
moved_at n amounts left k h =
    get_or-tab (most_cells * substances) (λ j. get_or amounts j (pos 0) -ℤ get_or left j (pos 0) +ℤ came_at n left j) k
    (pos 0) h

-- Amounts in their bounds are so after a flow of any part.
module _ (n part : ℕ) (amounts : List ℤ) (p : part ≤ 10000) (e : amounts_fit n amounts ≡ true) where
  abbrev before : ℕ → ℤ
  before k = get_or amounts k (pos 0)

  abbrev came : ℕ → ℤ
  came k = came_at n (left_of part amounts) k

  after-fits : (k : ℕ) → k < most_cells * substances → k < n * substances → Dec (k < substances)
      → amount_fits (k % substances) (before k -ℤ passing part (before k) +ℤ came k) ≡ true
  after-fits k h l (yes first) =
      moved_fits part p (k % substances) (before k) (pos 0) (came k) ((amounts_at n amounts e k h).0 l)
      (zero_fits (k % substances) (omega arith))
      (came_first n (left_of part amounts) k first ∙ sym (passing_zero part))
  after-fits k h l (no g) =
      let j = k - substances in
      let same : j % substances ≡ k % substances = omega arith in
      moved_fits part p (k % substances) (before k) (before j) (came k) ((amounts_at n amounts e k h).0 l)
      (rw same at ((amounts_at n amounts e j (omega arith)).0 (omega arith)))
      (came_next n (left_of part amounts) k (omega arith) l ∙ left_at part amounts j (omega arith))

  pub moved_amounts_fit : amounts_fit n (moved_of n amounts (left_of part amounts)) ≡ true
  moved_amounts_fit =
      amounts_from n (moved_of n amounts (left_of part amounts)) (λ k h. (
        λ l. rw (moved_at n amounts (left_of part amounts) k h, left_at part amounts k h)
            (after-fits k h l (dec_lt k substances)),
        λ l. rw (
          moved_at n amounts (left_of part amounts) k h,
          left_at part amounts k h,
          (amounts_at n amounts e k h).1 l,
          passing_zero part,
          came_beyond n (left_of part amounts) k l,
        ),
      ))

-- A flow that passes checks 4 and 6 leaves amounts in their bounds: check 8 never holds.
pub flow_never_eight : (r : River) (part : ℕ) → river_wrong r ≡ false → part ≤ 10000
    → amounts_fit r.cells (flowed_amounts part r) ≡ true
flow_never_eight r part e p = moved_amounts_fit r.cells part r.amounts p (river-amounts r e)

-- So no flow is refused with 8.
pub flow_number_not_eight : (r : River) (part : ℕ) → flow_number r part ≡ 8 → ⊥
unfolding flow_number all_of
flow_number_not_eight r part =
    first_last (4 when river_wrong r ∷ 6 when not (leb part 10000) ∷ []) 8 _ (lit< tt) refl
    (λ none. ap not (flow_never_eight r part none.0 (leb-true part 10000 (not-false _ none.1.0))))

-- Nothing is listed beyond the last cell.
pub left_beyond : (r : River) (part k : ℕ) → river_wrong r ≡ false → k < most_cells * substances
    → r.cells * substances ≤ k → get_or (left_of part r.amounts) k (pos 0) ≡ pos 0
left_beyond r part k e h l =
    left_at part r.amounts k h ∙ ap (passing part) (amount_zero_beyond r e k l h) ∙ passing_zero part
