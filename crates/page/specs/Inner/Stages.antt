-- What the inner functions of the writer hand to each other. Laws: proofs/FigureLaws.antt. No assumptions.
use Rattle.std.specs.Prelude.{ℕ, ◌+◌, ◌/◌, ◌%◌, ◌≤◌, List, [], ◌∷◌, ◌++◌, ℤ, nat_abs, get_or}
use Rattle.std.specs.List.{flat_map}
use Rattle.stoichiometry.specs.Substances.{most_organic, most_grains, organic, ss, nh4, no2, no3, hpo4, o2, place}
use Rattle.stoichiometry.specs.Totals.{amount_at}
use Rattle.river.specs.Cells.{byte, letter_of}
use Rattle.text.specs.Blocks.{blocks}
use Rattle.text.specs.Decimals.{glyph}
use Rattle.page.specs.Pages.{grams, row, levels_at}

-- The first `count` of some levels, in their columns.
abbrev pub levels_text : List ℕ → ℕ → List ℕ
levels_text levels count = blocks count (λ i. grams (get_or levels i 0))

-- A number below 100 in two columns: with both digits, and with a blank for a first digit of 0.
abbrev pub pair_of : ℕ → List ℕ
pair_of n = (48 + n / 10) ∷ (48 + n % 10) ∷ []

abbrev pub justified_of : ℕ → List ℕ
justified_of n = glyph (n / 10) 32 ∷ (48 + n % 10) ∷ []

-- The whole grams of a level in bounds, right-justified in two pairs of columns.
abbrev pub whole_of : ℕ → List (List ℕ)
whole_of grams =
    (glyph (grams / 1000) 32 ∷ glyph (grams / 100) 32 ∷ []) ∷ (glyph (grams / 10) 32 ∷ (48 + grams % 10) ∷ []) ∷ []

-- The last eight columns of a level: all that a level in bounds takes.
unfoldable pub figures_of : ℕ → List ℕ
figures_of level =
    let n = level / 1000 in
    flat_map (λ pair. pair) (whole_of (n / 1000))
    ++ (46 ∷ (48 + n / 100 % 10) ∷ (48 + n / 10 % 10) ∷ (48 + n % 10) ∷ [])

-- Of a cell's own amounts, which are those of cell 0 of a list: the six that a row shows are in their bounds.
pub record CellFits (cell : List ℤ) : Type 0 where
  pub substrate : nat_abs (amount_at cell 0 (place (organic ss))) ≤ most_organic
  pub ammonium : nat_abs (amount_at cell 0 (place nh4)) ≤ most_grains
  pub nitrite : nat_abs (amount_at cell 0 (place no2)) ≤ most_grains
  pub nitrate : nat_abs (amount_at cell 0 (place no3)) ≤ most_grains
  pub phosphate : nat_abs (amount_at cell 0 (place hpo4)) ≤ most_grains
  pub oxygen : nat_abs (amount_at cell 0 (place o2)) ≤ most_grains

-- The row of cell c of a river, which has these amounts.
abbrev pub cell_row : ℕ → List ℤ → List ℕ
cell_row c cell = row (c + 1) (byte (letter_of cell 0)) (levels_at cell 0)
