-- Worked cases, each by computation: numbers in columns, writes, blocks. No assumptions.
use Prim.Native.Nat.{ℕ}
use mathlib.Core.List.{[], ◌∷◌, ◌++◌, map}
use mathlib.Core.Path.{◌≡◌, refl}
use lib.IntN.{pos, negsuc}
use lib.ListN.{replicate}
use Rattle.text.specs.Writes.{put, put_within, copied}
use Rattle.text.specs.Decimals.{glyph, next_mark, columns, plain, decimal}
use Rattle.text.specs.Blocks.{blocks}

decimal_zero : decimal 20 (pos 0) ≡ replicate 19 32 ++ (48 ∷ [])
unfolding glyph next_mark columns plain decimal
decimal_zero = refl

decimal_minus_one : decimal 20 (negsuc 0) ≡ replicate 18 32 ++ (45 ∷ 49 ∷ [])
unfolding glyph next_mark columns plain decimal
decimal_minus_one = refl

-- 10^18 and −10^18.
decimal-most : decimal 20 (pos 1_000_000_000_000_000_000) ≡ 32 ∷ 49 ∷ replicate 18 48
unfolding glyph next_mark columns plain decimal
decimal-most = refl

decimal_minus_most : decimal 20 (negsuc 999_999_999_999_999_999) ≡ 45 ∷ 49 ∷ replicate 18 48
unfolding glyph next_mark columns plain decimal
decimal_minus_most = refl

-- Fewer columns than digits: the last digits, and no minus.
decimal_narrow : decimal 2 (negsuc 122) ≡ 50 ∷ 51 ∷ []
unfolding glyph next_mark columns plain decimal
decimal_narrow = refl

-- 0, 7, 42 and 105 in two columns.
two_columns : map (plain 2 32) (0 ∷ 7 ∷ 42 ∷ 105 ∷ [])
    ≡ (32 ∷ 48 ∷ []) ∷ (32 ∷ 55 ∷ []) ∷ (52 ∷ 50 ∷ []) ∷ (48 ∷ 53 ∷ []) ∷ []
unfolding glyph next_mark columns plain
two_columns = refl

-- The bytes beside a write stay, and a write past the end changes nothing.
write_inside : put_within (1 ∷ 2 ∷ 3 ∷ 4 ∷ []) 1 (7 ∷ 8 ∷ []) ≡ 1 ∷ 7 ∷ 8 ∷ 4 ∷ []
unfolding put put_within
write_inside = refl

write_past_end : put_within (1 ∷ 2 ∷ 3 ∷ 4 ∷ []) 3 (7 ∷ 8 ∷ []) ≡ 1 ∷ 2 ∷ 3 ∷ 4 ∷ []
unfolding put put_within
write_past_end = refl

copy_two : copied (7 ∷ 8 ∷ 9 ∷ []) 2 (1 ∷ 2 ∷ 3 ∷ []) ≡ 7 ∷ 8 ∷ 3 ∷ []
unfolding put copied
copy_two = refl

copy_too_many : copied (7 ∷ 8 ∷ []) 3 (1 ∷ 2 ∷ 3 ∷ []) ≡ 1 ∷ 2 ∷ 3 ∷ []
unfolding put copied
copy_too_many = refl

run_of_blocks : blocks 3 (λ (i : ℕ). i ∷ 10 ∷ []) ≡ 0 ∷ 10 ∷ 1 ∷ 10 ∷ 2 ∷ 10 ∷ []
unfolding blocks
run_of_blocks = refl
