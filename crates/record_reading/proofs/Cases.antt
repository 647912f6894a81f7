-- Worked cases, each by computation: lines that are read or refused. No assumptions.
use Prim.Native.Nat.{ℕ}
use mathlib.Core.List.{List, [], ◌∷◌, ◌++◌, map}
use mathlib.Core.Path.{◌≡◌, refl}
use lib.IntN.{negsuc}
use lib.ListN.{replicate}
use Rattle.std.specs.Prelude.{ℤ, Option, Some, None}
use Rattle.text.specs.Decimals.{glyph, next_mark, columns, plain, decimal}
use Rattle.text_reading.specs.Reading.{is_digit, digit, other, next, run_on}
use Rattle.text_reading.specs.Reading.{signed, finish, value_of, within, parse}
use Rattle.record.specs.Lines.{front, line}
use Rattle.record_reading.specs.Reading.{same_bytes, line_value, lowest_on, highest_on}

-- A line that is read as line 9 of cell 1, the amount of H+.
abbrev read : List ℕ → Option ℤ
read l = line_value l 1 9 (lowest_on 8) (highest_on 8)

-- " 1  9 ", 18 blanks, then the bytes given.
abbrev ending : List ℕ → List ℕ
ending bytes = (32 ∷ 49 ∷ 32 ∷ 32 ∷ 57 ∷ 32 ∷ []) ++ replicate 18 32 ++ bytes

-- The line of −7, written and by its bytes.
line-read_back : read (line 1 9 (negsuc 6)) ≡ Some (negsuc 6)
unfolding glyph next_mark columns plain decimal front line is_digit digit other next run_on signed finish value_of within parse
    same_bytes line_value lowest_on highest_on
line-read_back = refl

bytes_read : read (ending (45 ∷ 55 ∷ 10 ∷ [])) ≡ Some (negsuc 6)
unfolding glyph next_mark columns plain decimal front line is_digit digit other next run_on signed finish value_of within parse
    same_bytes line_value lowest_on highest_on
bytes_read = refl

-- "-0", "+1", "01", and "-7" with a carriage return (13) for the line feed, are refused, and the line of another cell.
lines_refused : map read
    (ending (45 ∷ 48 ∷ 10 ∷ []) ∷ ending (43 ∷ 49 ∷ 10 ∷ []) ∷ ending (48 ∷ 49 ∷ 10 ∷ []) ∷ ending (45 ∷ 55 ∷ 13 ∷ [])
    ∷ line 2 9 (negsuc 6) ∷ [])
    ≡ replicate 5 None
unfolding glyph next_mark columns plain decimal front line is_digit digit other next run_on signed finish value_of within parse
    same_bytes line_value lowest_on highest_on
lines_refused = refl
