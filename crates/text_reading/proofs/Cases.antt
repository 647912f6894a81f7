-- Worked cases, each by computation: texts that are read or refused. No assumptions.
use Prim.Native.Nat.{ℕ}
use mathlib.Core.List.{List, [], ◌∷◌, map}
use mathlib.Core.Path.{◌≡◌, refl}
use lib.IntN.{pos, negsuc}
use lib.ListN.{replicate}
use Rattle.std.specs.Prelude.{ℤ, Option, Some, None}
use Rattle.text_reading.specs.Reading.{is_digit, digit, other, next, run_on}
use Rattle.text_reading.specs.Reading.{signed, finish, value_of, within, parse}

-- From −99 to 99.
abbrev small : List ℕ → Option ℤ
small = parse (negsuc 98) (pos 99)

-- "-0", "00", "+1".
small_refused : map small ((45 ∷ 48 ∷ []) ∷ (48 ∷ 48 ∷ []) ∷ (43 ∷ 49 ∷ []) ∷ []) ≡ replicate 3 None
unfolding is_digit digit other next run_on signed finish value_of within parse
small_refused = refl

-- "- 1", " 1 ", "--1".
small_scattered : map small ((45 ∷ 32 ∷ 49 ∷ []) ∷ (32 ∷ 49 ∷ 32 ∷ []) ∷ (45 ∷ 45 ∷ 49 ∷ []) ∷ []) ≡ replicate 3 None
unfolding is_digit digit other next run_on signed finish value_of within parse
small_scattered = refl

-- No digit: nothing, a blank, a minus.
small_empty : map small ([] ∷ (32 ∷ []) ∷ (45 ∷ []) ∷ []) ≡ replicate 3 None
unfolding is_digit digit other next run_on signed finish value_of within parse
small_empty = refl

-- " -7", " 0" and "99".
small-read : map small ((32 ∷ 45 ∷ 55 ∷ []) ∷ (32 ∷ 48 ∷ []) ∷ (57 ∷ 57 ∷ []) ∷ [])
    ≡ Some (negsuc 6) ∷ Some (pos 0) ∷ Some (pos 99) ∷ []
unfolding is_digit digit other next run_on signed finish value_of within parse
small-read = refl

-- "100" and "-100" are outside the limits, and a zero where 1 is the lowest.
small_outside : map small ((49 ∷ 48 ∷ 48 ∷ []) ∷ (45 ∷ 49 ∷ 48 ∷ 48 ∷ []) ∷ []) ≡ replicate 2 None
unfolding is_digit digit other next run_on signed finish value_of within parse
small_outside = refl

zero_outside : parse (pos 1) (pos 9) (48 ∷ []) ≡ None
unfolding is_digit digit other next run_on signed finish value_of within parse
zero_outside = refl
