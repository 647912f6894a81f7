-- Check 4: `amounts_fit` and `carries_fit` by the parts that the code tests, and as facts of each amount and carry, both
-- ways; then what is known of a river of which check 4 does not hold, and when it does not. No assumptions.
use Prim.Native.Nat.{ℕ, min, ◌<◌, ◌≤◌, ◌+◌, ◌-◌, ◌*◌, ◌/◌, ◌%◌, zero-le}
use mathlib.Core.Bool.{not, Bool, true, false, ◌&&◌, cond, true≢false}
use mathlib.Core.List.{List, []}
use Rattle.std.proofs.lemmas.List.{ext_get_or}
use Rattle.std.proofs.lemmas.Bool.Decides.{same_from_decides}
use Rattle.std.specs.List.{AllWithin, HoldsAt, EachIndex}
use Rattle.std.specs.Bool.{Decides, MatchBool}
use Rattle.std.specs.Simd.{first_chunks}
use Rattle.std.proofs.lemmas.Int.{fits_signed_from_abs}
use Rattle.numeric.proofs.ChunkLaws.{chunk_at}
use Rattle.numeric.proofs.Filling.{replicate_at}
use mathlib.Core.Path.{◌≡◌, refl, sym, ap, ap₂, ◌∙◌}
use native.Mathlib.Decide.{dec_lt}
use native.Mathlib.Omega.{arith}
use borrow.Author.Tests.{leb-true, eqb-true, not-false, le-leb, eq-eqb, ltb-true, ltb-false, lt-ltb, le-ltb}
use lib.Arith.{digits_div, digits_mod}
use lib.Dec.{ltb, leb, eqb, lit<, lit≤}
use lib.IntN.{ℤ, pos, nat_abs}
use lib.ListN.{length, get_or, take, drop, replicate, length-take, length-drop}
use lib.Seq.{get_or-take, get_or-drop}
use mir.Facts.{to_z-of_z}
use mir.Syntax.{w64}
use mir.Val.{SFits}
use Rattle.numeric.specs.Check.{every}
use Rattle.numeric.proofs.Bounds.{abs_zero}
use Rattle.numeric.proofs.CheckLaws.{and_left, and_right, leb-within, every-Decides, every_eq, every-rows, row_in}
use Rattle.numeric.proofs.CheckLaws.{split_at, split_all}
use Rattle.numeric.proofs.Machine.{kept}
use Rattle.stoichiometry.specs.Substances.{substances, most_net}
use Rattle.stoichiometry.specs.Totals.{amount_at}
use Rattle.stoichiometry.specs.Rows.{processes}
use Rattle.river.specs.declared.River.{River}
use Rattle.river.specs.Rivers.{most_cells, most_carry, amount_fits, carry_at, amounts_fit, carries_fit}
use Rattle.river.specs.Rivers.{cells_fit, river_fits, river_wrong, cell_exists, substance_exists}
use Rattle.river.specs.Inner.Parts.{cell_fits, cell_empty}
use Rattle.river.proofs.Bounds.{fits_bound}

-- Amount k of a list whose first n cells fit: in its bounds, and 0 beyond the last cell; and carry k.
abbrev pub AmountPlaced : ℕ → List ℤ → ℕ → Type 0
AmountPlaced n amounts k =
    (k < n * substances → amount_fits (k % substances) (get_or amounts k (pos 0)) ≡ true)
    × (n * substances ≤ k → get_or amounts k (pos 0) ≡ pos 0)

abbrev pub CarryPlaced : ℕ → List ℕ → ℕ → Type 0
CarryPlaced n carries k =
    (k < n * processes → get_or carries k 0 ≤ most_carry) × (n * processes ≤ k → get_or carries k 0 ≡ 0)

-- A cell is zeros, where a list of its length tells by being one of zeros.
pub zeros_decided : (cell : List ℤ) (b : Bool) → length cell ≡ substances
    → Decides b (cell ≡ replicate substances (pos 0)) → b ≡ cell_empty cell
zeros_decided cell b long same =
    same_from_decides b _ (
      λ e s l. rw (same.0 e, replicate_at substances s (pos 0)) refl,
      λ e.
          same.1 (ext_get_or (pos 0) cell (replicate substances (pos 0)) long
          (λ i l. abs_zero _ (eqb-true _ 0 (e i (rw long at l))) ∙ sym (replicate_at substances i (pos 0)))),
    )
    (every-Decides substances (λ s. eqb (nat_abs (get_or cell s (pos 0))) 0))

-- An answer that says whether every cell of a list passes a test; so does that of `all`.
abbrev pub Says : (List ℤ → Bool) → List (List ℤ) → Bool → Type 0
Says p cells b =
    (b ≡ true → (k : ℕ) → k < length cells → p (get_or cells k []) ≡ true)
    × (((k : ℕ) → k < length cells → p (get_or cells k []) ≡ true) → b ≡ true)

pub all_says : (p : List ℤ → Bool) (cells : List (List ℤ)) (b : Bool)
    → MatchBool b (AllWithin (λ x. p x ≡ true) cells 0 (length cells))
    ((k : ℕ) × (k < length cells) × HoldsAt (λ x. p x ≡ false) cells k)
    → Says p cells b
all_says p cells true told = (λ e k l. told k [] zero-le l, λ all. refl)
all_says p cells false (k, l, fails) =
    (λ e. absurd (true≢false (sym e)), λ all. absurd (true≢false (sym (all k l) ∙ fails [])))

-- Amount s of cell c, where amounts are cut into cells; and carry p.
pub amount_cut : (n : ℕ) (amounts : List ℤ) (cells : List (List ℤ)) → cells ≡ first_chunks substances n amounts
    → (c : ℕ) → c < n → (s : ℕ) → s < substances → get_or (get_or cells c []) s (pos 0) ≡ amount_at amounts c s
amount_cut n amounts cells cut c h s l = rw cut (chunk_at substances n amounts c s (pos 0) h l)

pub carry_cut : (n : ℕ) (carries : List ℕ) (cells : List (List ℕ)) → cells ≡ first_chunks processes n carries
    → (c : ℕ) → c < n → (p : ℕ) → p < processes → get_or (get_or cells c []) p 0 ≡ carry_at carries c p
carry_cut n carries cells cut c h p l = rw cut (chunk_at processes n carries c p 0 h l)

-- Cell c of all amounts.
abbrev pub cell_of : List ℤ → ℕ → List ℤ
cell_of amounts c = get_or (first_chunks substances most_cells amounts) c []

every_either : (b : Bool) (m : ℕ) (p q : ℕ → Bool) → every m (λ s. cond b (p s) (q s)) ≡ cond b (every m p) (every m q)
every_either true m p q = refl
every_either false m p q = refl

-- Amounts: the definition's tests of amount k, in a cell and beyond the last.
module _ (n : ℕ) (amounts : List ℤ) where
  abbrev inside : ℕ → Bool
  inside k = amount_fits (k % substances) (get_or amounts k (pos 0))

  abbrev empty : ℕ → Bool
  empty k = eqb (nat_abs (get_or amounts k (pos 0))) 0

  -- Cell c is in its bounds where it is one of the river's, and zeros elsewhere.
  abbrev pub CellPlaced : ℕ → Type 0
  CellPlaced c = (c < n → cell_fits (cell_of amounts c) ≡ true) × (n ≤ c → cell_empty (cell_of amounts c) ≡ true)

  abbrev cell_placed : ℕ → Bool
  cell_placed c = cond (ltb c n) (cell_fits (cell_of amounts c)) (cell_empty (cell_of amounts c))

  amounts-cells : amounts_fit n amounts ≡ every most_cells cell_placed
  unfolding amounts_fit
  amounts-cells =
      every-rows most_cells substances (λ k. cond (ltb (k / substances) n) (inside k) (empty k))
      ∙ every_eq most_cells _ _ (λ c l.
      every_eq substances _ _
      (λ s i. rw (digits_div c i, digits_mod c i, ← amount_cut most_cells amounts _ refl c l s i))
      ∙ every_either (ltb c n) substances (λ s. amount_fits s (get_or (cell_of amounts c) s (pos 0))) _)

  -- An answer that says whether every cell is.
  amounts_decided : (b : Bool) → (b ≡ true → (c : ℕ) → c < most_cells → CellPlaced c)
      → (((c : ℕ) → c < most_cells → CellPlaced c) → b ≡ true) → b ≡ amounts_fit n amounts
  amounts_decided b passed all =
      same_from_decides b (every most_cells cell_placed) (
        λ e c l. by_test (ltb c n) c refl (passed e c l),
        λ e. all (λ c l. (λ i. rw (lt-ltb c n i) at (e c l), λ i. rw (le-ltb c n i) at (e c l))),
      )
      (every-Decides most_cells cell_placed)
      ∙ sym amounts-cells
    where
      by_test : (t : Bool) (c : ℕ) → ltb c n ≡ t → CellPlaced c
          → cond t (cell_fits (cell_of amounts c)) (cell_empty (cell_of amounts c)) ≡ true
      by_test true c e h = h.0 (ltb-true c n e)
      by_test false c e h = h.1 (ltb-false c n e)

  -- The same by the answers of two tests: of the first n cells for their bounds, and of the others for zeros.
  module _ (cells : List (List ℤ)) (are : cells ≡ first_chunks substances most_cells amounts)
      (long : length cells ≡ most_cells) where
    front_at : (c : ℕ) → c < n → get_or (take n cells) c [] ≡ cell_of amounts c
    front_at c h = get_or-take n cells c [] h ∙ ap (λ l. get_or l c []) are

    back_at : (c : ℕ) → n ≤ c → get_or (drop n cells) (c - n) [] ≡ cell_of amounts c
    back_at c h =
        let place : n + (c - n) ≡ c = omega arith in
        get_or-drop n cells (c - n) [] ∙ ap₂ (λ (l : List (List ℤ)) (k : ℕ). get_or l k []) are place

    front_told : (a : Bool) → Says cell_fits (take n cells) a → a ≡ true → (c : ℕ) → c < most_cells → c < n
        → cell_fits (cell_of amounts c) ≡ true
    front_told a says e c l h =
        let inside : c < length (take n cells) = simp length-take (omega arith) in
        rw (front_at c h) at (says.0 e c inside)

    front_whole : (a : Bool) → Says cell_fits (take n cells) a → ((c : ℕ) → c < most_cells → CellPlaced c) → a ≡ true
    front_whole a says all =
        says.1 (λ k l. let inside : k < min n (length cells) = simp length-take at l in
        rw (front_at k (omega arith)) ((all k (omega arith)).0 (omega arith)))

    pub front_fails : (a : Bool) → Says cell_fits (take n cells) a → a ≡ false → a ≡ amounts_fit n amounts
    front_fails a says e =
        amounts_decided a (λ t. absurd (true≢false (sym t ∙ e))) (front_whole a says)

    pub both_tested : (a b : Bool) → Says cell_fits (take n cells) a → Says cell_empty (drop n cells) b → a ≡ true
        → b ≡ amounts_fit n amounts
    both_tested a b front back e =
        amounts_decided b
        (λ t c l. (
          front_told a front e c l,
          λ h.
              let inside : c - n < length (drop n cells) = simp length-drop (omega arith) in
              rw (back_at c h) at (back.0 t (c - n) inside),
        ))
        (λ all. back.1 (λ k l.
        let inside : k < length cells - n = simp length-drop at l in
        let at : get_or (drop n cells) k [] ≡ cell_of amounts (n + k) =
        get_or-drop n cells k [] ∙ ap (λ l. get_or l (n + k) []) are in
        rw at ((all (n + k) (omega arith)).1 (omega arith))))

  pub amounts_at : amounts_fit n amounts ≡ true → (k : ℕ) → k < most_cells * substances → AmountPlaced n amounts k
  unfolding amounts_fit
  amounts_at fits k h =
      let tests = split_at substances n most_cells inside empty (lit< tt) fits k h in
      (tests.0, λ l. abs_zero _ (eqb-true _ 0 (tests.1 l)))

  -- The converse.
  pub amounts_from : ((k : ℕ) → k < most_cells * substances → AmountPlaced n amounts k) → amounts_fit n amounts ≡ true
  unfolding amounts_fit
  amounts_from h =
      split_all substances n most_cells inside empty (lit< tt)
      (λ k l. ((h k l).0, λ i. eq-eqb _ 0 (ap nat_abs ((h k l).1 i))))

-- A number of cells above 8 is taken for 8.
pub amounts_beyond : (n : ℕ) (amounts : List ℤ) → most_cells ≤ n → amounts_fit n amounts ≡ amounts_fit most_cells amounts
unfolding amounts_fit
amounts_beyond n amounts h =
    every_eq (most_cells * substances) _ _
    (λ k l. rw (row_in substances n k (lit< tt) (omega arith), row_in substances most_cells k (lit< tt) l))

-- Carries, the same way.
module _ (n : ℕ) (carries : List ℕ) where
  abbrev light : ℕ → Bool
  light k = leb (get_or carries k 0) most_carry

  abbrev none : ℕ → Bool
  none k = eqb (get_or carries k 0) 0

  pub carries_at : carries_fit n carries ≡ true → (k : ℕ) → k < most_cells * processes → CarryPlaced n carries k
  unfolding carries_fit
  carries_at fits k h =
      let tests = split_at processes n most_cells light none (lit< tt) fits k h in
      (λ l. leb-true _ most_carry (tests.0 l), λ l. eqb-true _ 0 (tests.1 l))

  pub carries_from : ((k : ℕ) → k < most_cells * processes → CarryPlaced n carries k) → carries_fit n carries ≡ true
  unfolding carries_fit
  carries_from h =
      split_all processes n most_cells light none (lit< tt)
      (λ k l. (λ i. le-leb _ most_carry ((h k l).0 i), λ i. eq-eqb _ 0 ((h k l).1 i)))

  -- An answer by the two tests of the carries before and from place `end` on.
  module _ (end : ℕ) (is_end : end ≡ min (most_cells * processes) (n * processes)) (long : length carries ≡ most_cells * processes) where
    pub carries_tested : (b : Bool)
        → (b ≡ true → EachIndex (take end carries) (λ k. get_or (take end carries) k 0 ≤ most_carry))
        → (b ≡ true → EachIndex (drop end carries) (λ k. get_or (drop end carries) k 0 ≡ 0))
        → (EachIndex (take end carries) (λ k. get_or (take end carries) k 0 ≤ most_carry)
        → EachIndex (drop end carries) (λ k. get_or (drop end carries) k 0 ≡ 0) → b ≡ true)
        → b ≡ carries_fit n carries
    carries_tested b front back both =
        same_from_decides b (carries_fit n carries) (placed, all) (carries_at, carries_from)
      where
        placed : b ≡ true → (k : ℕ) → k < most_cells * processes → CarryPlaced n carries k
        placed e k l = (
          λ h.
              let inside : k < length (take end carries) = simp length-take (omega arith) in
              rw (get_or-take end carries k 0 (omega arith)) at (front e k inside),
          λ h.
              let inside : k - end < length (drop end carries) = simp length-drop (omega arith) in
              let place : end + (k - end) ≡ k = omega arith in
              rw (get_or-drop end carries (k - end) 0, place) at (back e (k - end) inside),
        )

        all : ((k : ℕ) → k < most_cells * processes → CarryPlaced n carries k) → b ≡ true
        all h =
            both
            (λ k l.
            let inside : k < min end (length carries) = simp length-take at l in
            rw (get_or-take end carries k 0 (omega arith)) ((h k (omega arith)).0 (omega arith)))
            (λ k l.
            let inside : k < length carries - end = simp length-drop at l in
            rw (get_or-drop end carries k 0) ((h (end + k) (omega arith)).1 (omega arith)))

-- When check 4 does not hold.
pub river_fits_lem : (r : River) → 1 ≤ r.cells → r.cells ≤ most_cells
    → amounts_fit r.cells r.amounts ≡ true → carries_fit r.cells r.carries ≡ true → river_wrong r ≡ false
unfolding river_wrong cells_fit
river_fits_lem r l h a c = rw (le-leb 1 r.cells l, le-leb r.cells most_cells h, a, c)

-- Check 4 by the tests of its parts.
pub wrong_tested : (r : River) (right : Bool)
    → right ≡ river_fits r.cells r.amounts r.carries → river_wrong r ≡ not right
unfolding river_wrong
wrong_tested r right e = ap not (sym e)

-- What a call on one cell, counted from 1, knows past its checks of the amount at place s, counted from 0: it is there,
-- in its bounds, and the machine keeps it.
pub record AmountKnown (r : River) (cell s : ℕ) : Type 0 where
  pub first : 1 ≤ cell
  pub below : cell - 1 < most_cells
  pub fits : amount_fits s (amount_at r.amounts (cell - 1) s) ≡ true
  pub small : nat_abs (amount_at r.amounts (cell - 1) s) ≤ most_net
  pub same : kept (amount_at r.amounts (cell - 1) s) ≡ amount_at r.amounts (cell - 1) s

-- A river of which check 4 does not hold.
module _ (r : River) (right : river_wrong r ≡ false) where
  parts : (cells_fit r.cells ≡ true)
      × (amounts_fit r.cells r.amounts ≡ true)
      × (carries_fit r.cells r.carries ≡ true)
  unfolding river_wrong
  parts =
      let cells = cells_fit r.cells in
      let amounts = amounts_fit r.cells r.amounts in
      let carries = carries_fit r.cells r.carries in
      let fit = not-false (cells && amounts && carries) right in
      let first = and_left (cells && amounts) carries fit in
      (and_left cells amounts first, and_right cells amounts first, and_right (cells && amounts) carries fit)

  pub river-cells : (1 ≤ r.cells) × (r.cells ≤ most_cells)
  unfolding cells_fit
  river-cells = leb-within 1 r.cells most_cells parts.0

  pub river-amounts : amounts_fit r.cells r.amounts ≡ true
  river-amounts = parts.1

  pub river-carries : carries_fit r.cells r.carries ≡ true
  river-carries = parts.2

  pub amount_fits_at : (c s : ℕ) → c < r.cells → s < substances → amount_fits s (amount_at r.amounts c s) ≡ true
  amount_fits_at c s h l =
      let most = river-cells.1 in
      rw (digits_mod c l) at
      ((amounts_at r.cells r.amounts river-amounts (c * substances + s) (omega arith)).0 (omega arith))

  pub amount_zero_beyond : (k : ℕ) → r.cells * substances ≤ k → k < most_cells * substances
      → get_or r.amounts k (pos 0) ≡ pos 0
  amount_zero_beyond k h l = (amounts_at r.cells r.amounts river-amounts k l).1 h

  -- Every amount, also beyond the last cell.
  pub amount_bound : (k : ℕ) → k < most_cells * substances → nat_abs (get_or r.amounts k (pos 0)) ≤ most_net
  amount_bound k h = by-cell (dec_lt k (r.cells * substances))
    where
      by-cell : Dec (k < r.cells * substances) → nat_abs (get_or r.amounts k (pos 0)) ≤ most_net
      by-cell (yes l) =
          fits_bound (k % substances) _ (omega arith) ((amounts_at r.cells r.amounts river-amounts k h).0 l)
      by-cell (no g) = rw (amount_zero_beyond k (omega arith) h) (lit≤ tt)

  pub carry_zero_beyond : (k : ℕ) → r.cells * processes ≤ k → k < most_cells * processes → get_or r.carries k 0 ≡ 0
  carry_zero_beyond k h l = (carries_at r.cells r.carries river-carries k l).1 h

  -- Every carry, also beyond the last cell.
  pub carry_bound : (k : ℕ) → k < most_cells * processes → get_or r.carries k 0 ≤ most_carry
  carry_bound k h = by-cell (dec_lt k (r.cells * processes))
    where
      by-cell : Dec (k < r.cells * processes) → get_or r.carries k 0 ≤ most_carry
      by-cell (yes l) = (carries_at r.cells r.carries river-carries k h).0 l
      by-cell (no g) = omega (arith, carry_zero_beyond k (omega arith) h)

  pub carry-fits_at : (c p : ℕ) → c < r.cells → p < processes → carry_at r.carries c p ≤ most_carry
  carry-fits_at c p h l = let most = river-cells.1 in carry_bound (c * processes + p) (omega arith)

  -- The amount at place s of a cell that exists.
  pub amount_known : (cell s : ℕ) → cell_exists r cell ≡ true → s < substances → AmountKnown r cell s
  amount_known cell s e l =
      let most = river-cells.1 in
      let bound = leb-within 1 cell r.cells e in
      let size = amount_bound ((cell - 1) * substances + s) (omega arith) in
      record {
        first = bound.0;
        below = omega arith;
        fits = amount_fits_at (cell - 1) s (omega arith) l;
        small = size;
        same = to_z-of_z (fits_signed_from_abs w64 _ (omega arith));
      }

-- What is in its bounds fits 64 bits.
pub fits_machine : (s : ℕ) (x : ℤ) → s < substances → amount_fits s x ≡ true → SFits w64 x
fits_machine s x l e = fits_signed_from_abs w64 x (omega (arith, fits_bound s x l e))

-- A cell that exists is one of the river's, and a substance that exists one of the 18.
pub cell_bound : (r : River) (cell : ℕ) → cell_exists r cell ≡ true → (1 ≤ cell) × (cell ≤ r.cells)
cell_bound r cell e = leb-within 1 cell r.cells e

pub substance_bound : (substance : ℕ) → substance_exists substance ≡ true → (1 ≤ substance) × (substance ≤ substances)
substance_bound substance e = leb-within 1 substance substances e
