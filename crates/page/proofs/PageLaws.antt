-- Laws of the page of a river: every row is one, rows begin at 65 × (cell − 1), the page has 65 bytes a cell; the letter
-- of a row is the one that `letter_of` answers; every level of a river that check 4 passes is in bounds. No assumptions.
use Prim.Native.Nat.{ℕ, zero, suc, ◌+◌, ◌-◌, ◌*◌, ◌/◌, ◌≤◌, ◌<◌, zero-le}
use mathlib.Core.Bool.{true, false}
use mathlib.Core.List.{List, [], ◌∷◌, map}
use mathlib.Core.Path.{◌≡◌, refl, sym, ap, ap₂, ◌∙◌}
use native.Mathlib.Nat.{zero-add, zero-mul}
use native.Mathlib.Omega.{arith}
use lib.Dec.{lit<}
use lib.IntN.{ℤ, nat_abs}
use lib.ListN.{length, take, drop, get_or}
use lib.Seq.{get_or-take, get_or-drop}
use Rattle.std.specs.Prelude.{Ok}
use Rattle.std.specs.Simd.{first_chunks}
use Rattle.numeric.specs.Check.{first_holding}
use Rattle.stoichiometry.specs.Substances.{Substance, substances, organic, ss, nh4, no2, no3, hpo4, o2, place, most_grains}
use Rattle.stoichiometry.specs.Levels.{level_of, most_level}
use Rattle.stoichiometry.specs.Totals.{amount_at}
use Rattle.stoichiometry.proofs.Contents.{place_lt}
use Rattle.river.specs.declared.River.{River}
use Rattle.river.specs.Rivers.{most_cells, river_wrong, cell_exists, amount_fits}
use Rattle.river.specs.declared.Letter.{Letter}
use Rattle.river.specs.declared.Letter.TheVariants.{LowOxygen, HighAmmonium, Neither}
use Rattle.river.specs.Cells.{byte, letter_by, letter_of, letter_number, letter_answer}
use Rattle.river.specs.Inner.Runs.{net_at}
use Rattle.river.proofs.Bounds.{fits-level, fits-organic}
use Rattle.river.proofs.Levels.{level_bound}
use Rattle.river.proofs.Rivers.{river-cells, amount_cut, amount_fits_at, cell_bound}
use Rattle.text.specs.Blocks.{part}
use Rattle.text.specs.Decimals.{columns, plain}
use Rattle.text.proofs.BlockLaws.{blocks-length, part-blocks}
use Rattle.page.specs.Pages.{row_bytes, grams, letter_columns, row, shown, levels_at, row_of, page_of, IsRow, shown_by}
use Rattle.page.specs.Inner.Stages.{cell_row, CellFits}
use Rattle.page.proofs.Characters.{Character}
use Rattle.page.proofs.LevelLaws.{grams_widest, grams-read}
use Rattle.page.proofs.RowLaws.{row-length, row_is}

-- The letter is a character.
letter_character : (letter : Letter) → Character (byte letter)
letter_character LowOxygen = (omega arith, omega arith)
letter_character HighAmmonium = (omega arith, omega arith)
letter_character Neither = (omega arith, omega arith)

-- The row of any cell is 64 characters and a line feed, and has 65 bytes.
module _ (amounts : List ℤ) (c : ℕ) where
  six : length (levels_at amounts c) ≡ 6
  unfolding levels_at
  six = refl

  pub row_of-length : length (row_of amounts c) ≡ row_bytes
  unfolding row_of
  row_of-length = row-length (c + 1) (byte (letter_of amounts c)) (levels_at amounts c) six

  pub row_of-is : IsRow (row_of amounts c)
  unfolding row_of
  row_of-is = row_is (c + 1) (byte (letter_of amounts c)) (levels_at amounts c) six (letter_character (letter_of amounts c))

-- A page has 65 bytes for each cell.
pub page_length : (r : River) → length (page_of r) ≡ r.cells * row_bytes
unfolding page_of
page_length r = blocks-length row_bytes r.cells (row_of r.amounts) (row_of-length r.amounts)

-- A cell of the river, counted from 1.
module _ (r : River) (cell : ℕ) (exists : cell_exists r cell ≡ true) where
  -- Its row begins at 65 × (cell − 1).
  pub page_row : part ((cell - 1) * row_bytes) row_bytes (page_of r) ≡ row_of r.amounts (cell - 1)
  unfolding page_of
  page_row =
      let known = cell_bound r cell exists in
      part-blocks row_bytes (row_of r.amounts) (row_of-length r.amounts) r.cells (cell - 1) (omega arith)

  -- The letter on it is the one that `letter_of` answers.
  pub page_letter : river_wrong r ≡ false
      → let letter = letter_of r.amounts (cell - 1) in
      (letter_answer r cell ≡ Ok letter) × (get_or (page_of r) ((cell - 1) * row_bytes + 3) 0 ≡ byte letter)
  unfolding row_of row letter_columns plain columns letter_answer letter_number first_holding
  page_letter right =
      let at = (cell - 1) * row_bytes in (
        rw (right, exists),
        sym (get_or-drop at (page_of r) 3 0)
            ∙ sym (get_or-take row_bytes (drop at (page_of r)) 3 0 (lit< tt))
            ∙ ap (λ (t : List ℕ). get_or t 3 0) page_row,
      )

-- The levels of a river that check 4 passes are in bounds, and what the writer asks of a cell holds.
module _ (r : River) (right : river_wrong r ≡ false) (c : ℕ) (inside : c < r.cells) where
  pub levels_bound : (i : ℕ) → get_or (levels_at r.amounts c) i 0 ≤ most_level
  unfolding levels_at
  levels_bound = each shown
    where
      of : Substance → ℕ
      of s = level_of s (amount_at r.amounts c (place s))

      each : (l : List Substance) (i : ℕ) → get_or (map of l) i 0 ≤ most_level
      each [] i = zero-le
      each (s ∷ l) zero =
          level_bound s (amount_at r.amounts c (place s)) (amount_fits_at r right c (place s) inside (place_lt s))
      each (s ∷ l) (suc i) = each l i

  -- Its own amounts, as the code cuts them out.
  module _ (cells : List (List ℤ)) (cut : cells ≡ first_chunks substances most_cells r.amounts) where
    abbrev cell : List ℤ
    cell = get_or cells c []

    amount_is : (s : ℕ) → s < substances → amount_at cell 0 s ≡ amount_at r.amounts c s
    amount_is s l =
        rw (zero-mul, zero-add)
        (amount_cut most_cells r.amounts cells cut c (omega (arith, (river-cells r right).1)) s l)

    level_is : (s : Substance) → level_of s (amount_at cell 0 (place s)) ≡ level_of s (amount_at r.amounts c (place s))
    level_is s = ap (level_of s) (amount_is (place s) (place_lt s))

    levels_are : levels_at cell 0 ≡ levels_at r.amounts c
    unfolding levels_at
    levels_are = each shown
      where
        of : List ℤ → ℕ → Substance → ℕ
        of amounts k s = level_of s (amount_at amounts k (place s))

        each : (l : List Substance) → map (of cell 0) l ≡ map (of r.amounts c) l
        each [] = refl
        each (s ∷ l) = ap₂ ◌∷◌ (level_is s) (each l)

    letter_is : letter_of cell 0 ≡ letter_of r.amounts c
    unfolding letter_of
    letter_is = ap₂ letter_by (level_is o2) (level_is nh4)

    pub cell_row_is : cell_row c cell ≡ row_of r.amounts c
    unfolding row_of
    cell_row_is = ap₂ (row (c + 1)) (ap byte letter_is) levels_are

    amount_fits_in : (s : Substance) → amount_fits (place s) (amount_at cell 0 (place s)) ≡ true
    amount_fits_in s =
        rw (amount_is (place s) (place_lt s)) (amount_fits_at r right c (place s) inside (place_lt s))

    grains_fit : (s : Substance) → net_at (place s) ≡ false → nat_abs (amount_at cell 0 (place s)) ≤ most_grains
    grains_fit s n = (fits-level (place s) _ (place_lt s) n (amount_fits_in s)).1

    pub cell_fits_lem : CellFits cell
    cell_fits_lem =
        record {
          substrate = fits-organic (place (organic ss)) _ (place_lt (organic ss)) refl (amount_fits_in (organic ss));
          ammonium = grains_fit nh4 refl;
          nitrite = grains_fit no2 refl;
          nitrate = grains_fit no3 refl;
          phosphate = grains_fit hpo4 refl;
          oxygen = grains_fit o2 refl;
        }

  -- So each takes at most 8 of its 10 columns, and shows every digit down to the thousandth of a gram.
  pub levels-shown : (i : ℕ)
      → let level = get_or (levels_at r.amounts c) i 0 in
      let t = grams level in
      (get_or t 0 0 ≡ 32) × (get_or t 1 0 ≡ 32)
      × (shown_by 0 (take 6 t) * 1000 + shown_by 0 (drop 7 t) ≡ level / 1000)
  levels-shown i =
      let level = get_or (levels_at r.amounts c) i 0 in
      let blank = grams_widest level (levels_bound i) in
      (blank.0, blank.1, grams-read level (levels_bound i))
