-- Worked cases, each by computation: lines as bytes. No assumptions.
use mathlib.Core.List.{[], ◌∷◌, ◌++◌}
use mathlib.Core.Path.{◌≡◌, refl}
use lib.IntN.{pos, negsuc}
use lib.ListN.{replicate}
use Rattle.text.specs.Decimals.{glyph, next_mark, columns, plain, decimal}
use Rattle.record.specs.Lines.{front, line}

-- " 1  1                    0" and a line feed.
line_first : line 1 1 (pos 0) ≡ (32 ∷ 49 ∷ 32 ∷ 32 ∷ 49 ∷ 32 ∷ []) ++ replicate 19 32 ++ (48 ∷ 10 ∷ [])
unfolding glyph next_mark columns plain decimal front line
line_first = refl

-- " 8 35 -1000000000000000000" and a line feed.
line_last : line 8 35 (negsuc 999999999999999999)
    ≡ (32 ∷ 56 ∷ 32 ∷ 51 ∷ 53 ∷ 32 ∷ []) ++ (45 ∷ 49 ∷ replicate 18 48) ++ (10 ∷ [])
unfolding glyph next_mark columns plain decimal front line
line_last = refl
