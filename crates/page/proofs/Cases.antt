-- Worked cases, each by computation: levels, a row and a page as bytes. No assumptions.
use mathlib.Core.List.{[], ◌∷◌, ◌++◌, map}
use mathlib.Core.Path.{◌≡◌, refl}
use lib.IntN.{pos}
use lib.ListN.{replicate}
use Rattle.stoichiometry.specs.Levels.{level_of}
use Rattle.river.specs.Cells.{letter_by, letter_of}
use Rattle.river.specs.Rivers.{zero_river}
use Rattle.text.specs.Blocks.{blocks}
use Rattle.text.specs.Decimals.{glyph, next_mark, columns, plain}
use Rattle.page.specs.Pages.{decimals, grams, letter_columns, row, levels_at, row_of, page_of}

-- 0, 999, 1,000, 999,999 and 1,024,065,540 µg: "0.000" twice, "0.001", "0.999" and "1024.065", blanks before.
levels_in_columns : map grams (0 ∷ 999 ∷ 1000 ∷ 999999 ∷ 1024065540 ∷ [])
    ≡ (32 ∷ 32 ∷ 32 ∷ 32 ∷ 32 ∷ 48 ∷ 46 ∷ 48 ∷ 48 ∷ 48 ∷ [])
    ∷ (32 ∷ 32 ∷ 32 ∷ 32 ∷ 32 ∷ 48 ∷ 46 ∷ 48 ∷ 48 ∷ 48 ∷ [])
    ∷ (32 ∷ 32 ∷ 32 ∷ 32 ∷ 32 ∷ 48 ∷ 46 ∷ 48 ∷ 48 ∷ 49 ∷ [])
    ∷ (32 ∷ 32 ∷ 32 ∷ 32 ∷ 32 ∷ 48 ∷ 46 ∷ 57 ∷ 57 ∷ 57 ∷ [])
    ∷ (32 ∷ 32 ∷ 49 ∷ 48 ∷ 50 ∷ 52 ∷ 46 ∷ 48 ∷ 54 ∷ 53 ∷ [])
    ∷ []
unfolding glyph next_mark columns plain decimals grams
levels_in_columns = refl

-- The levels of 10^9 µg of SS and 10^16 grains of the others, the widest:
-- " 8 N  1000.000   448.028   448.028   448.028   992.063  1024.065" and a line feed.
row_widest : row 8 78 (1000000000 ∷ 448028673 ∷ 448028673 ∷ 448028673 ∷ 992063492 ∷ 1024065540 ∷ [])
    ≡ (32 ∷ 56 ∷ 32 ∷ 78 ∷ [])
    ++ (32 ∷ 32 ∷ 49 ∷ 48 ∷ 48 ∷ 48 ∷ 46 ∷ 48 ∷ 48 ∷ 48 ∷ [])
    ++ (32 ∷ 32 ∷ 32 ∷ 52 ∷ 52 ∷ 56 ∷ 46 ∷ 48 ∷ 50 ∷ 56 ∷ [])
    ++ (32 ∷ 32 ∷ 32 ∷ 52 ∷ 52 ∷ 56 ∷ 46 ∷ 48 ∷ 50 ∷ 56 ∷ [])
    ++ (32 ∷ 32 ∷ 32 ∷ 52 ∷ 52 ∷ 56 ∷ 46 ∷ 48 ∷ 50 ∷ 56 ∷ [])
    ++ (32 ∷ 32 ∷ 32 ∷ 57 ∷ 57 ∷ 50 ∷ 46 ∷ 48 ∷ 54 ∷ 51 ∷ [])
    ++ (32 ∷ 32 ∷ 49 ∷ 48 ∷ 50 ∷ 52 ∷ 46 ∷ 48 ∷ 54 ∷ 53 ∷ [])
    ++ (10 ∷ [])
unfolding glyph next_mark columns plain decimals grams letter_columns blocks row
row_widest = refl

-- A cell with 1 g of SS, 0.5 g of NH4-N, 2 g of NO2-N, 3 g of NO3-N, 4 g of PO4-P and 5 g of O2, by their amounts:
-- " 1 -     1.000     0.500     2.000     3.000     4.000     5.000" and a line feed.
page_order : row_of (map pos
    (1000000 ∷ 0 ∷ 11160000000000 ∷ 44640000000000 ∷ 66960000000000 ∷ 40320000000000 ∷ 48825000000000 ∷ [])) 0
    ≡ (32 ∷ 49 ∷ 32 ∷ 45 ∷ [])
    ++ (32 ∷ 32 ∷ 32 ∷ 32 ∷ 32 ∷ 49 ∷ 46 ∷ 48 ∷ 48 ∷ 48 ∷ [])
    ++ (32 ∷ 32 ∷ 32 ∷ 32 ∷ 32 ∷ 48 ∷ 46 ∷ 53 ∷ 48 ∷ 48 ∷ [])
    ++ (32 ∷ 32 ∷ 32 ∷ 32 ∷ 32 ∷ 50 ∷ 46 ∷ 48 ∷ 48 ∷ 48 ∷ [])
    ++ (32 ∷ 32 ∷ 32 ∷ 32 ∷ 32 ∷ 51 ∷ 46 ∷ 48 ∷ 48 ∷ 48 ∷ [])
    ++ (32 ∷ 32 ∷ 32 ∷ 32 ∷ 32 ∷ 52 ∷ 46 ∷ 48 ∷ 48 ∷ 48 ∷ [])
    ++ (32 ∷ 32 ∷ 32 ∷ 32 ∷ 32 ∷ 53 ∷ 46 ∷ 48 ∷ 48 ∷ 48 ∷ [])
    ++ (10 ∷ [])
unfolding glyph next_mark columns plain decimals grams letter_columns blocks row level_of letter_by letter_of levels_at row_of
page_order = refl

-- The page of a fresh river of one cell: " 1 L", six times "     0.000" and a line feed.
page_fresh : page_of (zero_river 1)
    ≡ (32 ∷ 49 ∷ 32 ∷ 76 ∷ []) ++ blocks 6 (λ i. replicate 5 32 ++ (48 ∷ 46 ∷ 48 ∷ 48 ∷ 48 ∷ [])) ++ (10 ∷ [])
unfolding glyph next_mark columns plain decimals grams letter_columns blocks row level_of letter_by letter_of levels_at row_of page_of
page_fresh = refl
