-- Texts of characters of ASCII, from the blank (32) to the tilde (126): texts one behind the other, numbers in columns,
-- runs of blocks, a level. No assumptions.
use Prim.Native.Nat.{ℕ, zero, suc, ◌+◌, ◌-◌, ◌/◌, ◌%◌, ◌≤◌, ◌<◌}
use mathlib.Core.List.{List, [], ◌∷◌, ◌++◌}
use mathlib.Core.Path.{◌≡◌}
use native.Mathlib.Decide.{dec_lt}
use native.Mathlib.Omega.{arith}
use lib.ListN.{length, get_or, length-append, get_or-append}
use lib.Seq.{get_or-append-add}
use Rattle.text.specs.Blocks.{blocks}
use Rattle.text.specs.Decimals.{glyph, next_mark, columns, plain}
use Rattle.page.specs.Pages.{decimals, grams, letter_columns}

abbrev pub Character : ℕ → Type 0
Character b = (32 ≤ b) × (b ≤ 126)

abbrev pub Characters : List ℕ → Type 0
Characters l = (j : ℕ) → j < length l → Character (get_or l j 0)

pub characters_nil : Characters []
characters_nil j h = absurd (omega arith)

pub characters_cons : (b : ℕ) (l : List ℕ) → Character b → Characters l → Characters (b ∷ l)
characters_cons b l one rest zero h = one
characters_cons b l one rest (suc j) h = rest j (omega arith)

pub characters-append : (a b : List ℕ) → Characters a → Characters b → Characters (a ++ b)
characters-append a b first second j h = by_part (dec_lt j (length a))
  where
    by_part : Dec (j < length a) → Character (get_or (a ++ b) j 0)
    by_part (yes l) = rw (get_or-append a b 0 j l) (first j l)
    by_part (no g) =
        let long = length-append a b in
        let place : j ≡ length a + (j - length a) = omega arith in
        rw (place, get_or-append-add a b (j - length a) 0) (second (j - length a) (omega arith))

-- A digit.
digit_character : (r : ℕ) → Character (48 + r % 10)
digit_character r = (omega arith, omega arith)

glyph_character : (r mark : ℕ) → Character mark → Character (glyph r mark)
unfolding glyph
glyph_character zero mark m = m
glyph_character (suc r) mark m = digit_character (suc r)

mark_character : (r mark : ℕ) → Character mark → Character (next_mark r mark)
unfolding next_mark
mark_character zero mark m = (omega arith, omega arith)
mark_character (suc r) mark m = m

one : (b : ℕ) → Character b → Characters (b ∷ [])
one b h = characters_cons b [] h characters_nil

columns-characters : (i mark r : ℕ) → Character mark → Characters (columns i mark r)
unfolding columns
columns-characters zero mark r m = characters_nil
columns-characters (suc i) mark r m =
    characters-append (columns i (next_mark r mark) (r / 10)) _
    (columns-characters i (next_mark r mark) (r / 10) (mark_character r mark m)) (one _ (glyph_character r mark m))

pub plain-characters : (w mark n : ℕ) → Character mark → Characters (plain w mark n)
unfolding plain
plain-characters zero mark n m = characters_nil
plain-characters (suc w) mark n m =
    characters-append (columns w mark (n / 10)) _ (columns-characters w mark (n / 10) m) (one _ (digit_character n))

pub blocks-characters : (m : ℕ) (f : ℕ → List ℕ) → ((i : ℕ) → Characters (f i)) → Characters (blocks m f)
unfolding blocks
blocks-characters zero f each = characters_nil
blocks-characters (suc m) f each = characters-append (blocks m f) (f m) (blocks-characters m f each) (each m)

decimals-characters : (n : ℕ) → Characters (decimals n)
unfolding decimals
decimals-characters n =
    let last : List ℕ = (48 + n % 10) ∷ [] in
    let two : List ℕ = (48 + n / 10 % 10) ∷ last in
    let three : List ℕ = (48 + n / 100 % 10) ∷ two in
    characters-append (plain 6 32 (n / 1000)) (46 ∷ three)
    (plain-characters 6 32 (n / 1000) (omega arith, omega arith))
    (characters_cons 46 three (omega arith, omega arith)
    (characters_cons _ two (digit_character (n / 100))
    (characters_cons _ last (digit_character (n / 10)) (one _ (digit_character n)))))

pub grams-characters : (level : ℕ) → Characters (grams level)
unfolding grams
grams-characters level = decimals-characters _

pub letter_characters : (letter : ℕ) → Character letter → Characters (letter_columns letter)
unfolding letter_columns
letter_characters letter (low, high) zero h = (omega arith, omega arith)
letter_characters letter (low, high) (suc zero) h = (omega arith, omega arith)
letter_characters letter (low, high) (suc (suc j)) h = absurd (omega arith)
