-- Laws of a level in its columns: it has 10; of a level in bounds the first two are blank, so that the widest takes 8,
-- and what it shows is the level to the thousandth of a gram, no digit cut. No assumptions.
use Prim.Native.Nat.{ℕ, zero, suc, ◌+◌, ◌-◌, ◌*◌, ◌/◌, ◌%◌, ◌≤◌, ◌<◌}
use mathlib.Core.List.{◌∷◌}
use mathlib.Core.Path.{◌≡◌, refl}
use native.Mathlib.Nat.{div-add-mod'}
use native.Mathlib.Omega.{arith}
use lib.ListN.{length, take, drop, get_or, length-append}
use Rattle.stoichiometry.specs.Levels.{most_level}
use Rattle.text.specs.Decimals.{glyph, columns, plain}
use Rattle.text.proofs.DecimalLaws.{plain-length, glyph_zero, next_mark_blank}
use Rattle.page.specs.Pages.{level_columns, decimals, grams, shown_by}
use Rattle.page.specs.Inner.Stages.{figures_of}

pub grams-length : (level : ℕ) → length (grams level) ≡ level_columns
unfolding grams decimals
grams-length level = simp (length-append, plain-length)

-- What a column shows is its digit, or nothing.
glyph_shows : (r : ℕ) → glyph r 32 - 48 ≡ r % 10
unfolding glyph
glyph_shows zero = refl
glyph_shows (suc r) = omega arith

digit_shows : (n : ℕ) → 48 + n % 10 - 48 ≡ n % 10
digit_shows n = omega arith

-- Six digits of a number that has no more, from the left, and three behind it.
whole_shown : (n : ℕ) → n < 10000
    → (((((0 * 10 + n / 10 / 10 / 10 / 10 / 10 % 10) * 10 + n / 10 / 10 / 10 / 10 % 10) * 10 + n / 10 / 10 / 10 % 10) * 10
    + n / 10 / 10 % 10) * 10 + n / 10 % 10) * 10 + n % 10
    ≡ n
whole_shown n h =
    let top : 0 * 10 + n / 10 / 10 / 10 / 10 / 10 % 10 ≡ n / 10 / 10 / 10 / 10 / 10 = omega arith in
    rw (
      top,
      div-add-mod' (n / 10 / 10 / 10 / 10) 10,
      div-add-mod' (n / 10 / 10 / 10) 10,
      div-add-mod' (n / 10 / 10) 10,
      div-add-mod' (n / 10) 10,
      div-add-mod' n 10,
    )

decimals-shown : (n : ℕ) → n / 1000 * 1000 + (((0 * 10 + n / 100 % 10) * 10 + n / 10 % 10) * 10 + n % 10) ≡ n
decimals-shown n = omega arith

-- A number of thousandths of at most four whole digits: the first two columns are blank.
decimals_blank : (n : ℕ) → n < 10000000 → (get_or (decimals n) 0 0 ≡ 32) × (get_or (decimals n) 1 0 ≡ 32)
unfolding decimals plain columns
decimals_blank n small =
    simp next_mark_blank (
      glyph_zero (n / 1000 / 10 / 10 / 10 / 10 / 10) 32 (omega arith),
      glyph_zero (n / 1000 / 10 / 10 / 10 / 10) 32 (omega arith),
    )

-- What it shows before and behind the point is the number.
decimals-read : (n : ℕ) → n < 10000000 → shown_by 0 (take 6 (decimals n)) * 1000 + shown_by 0 (drop 7 (decimals n)) ≡ n
unfolding decimals plain columns
decimals-read n small =
    simp (next_mark_blank, glyph_shows, digit_shows) (rw (whole_shown (n / 1000) (omega arith)) (decimals-shown n))

-- A level in bounds: the first two of its columns are blank, and what it shows is the level in thousandths of a gram.
module _ (level : ℕ) (within : level ≤ most_level) where
  pub grams_widest : (get_or (grams level) 0 0 ≡ 32) × (get_or (grams level) 1 0 ≡ 32)
  unfolding grams
  grams_widest = decimals_blank _ (omega arith)

  pub grams-read : shown_by 0 (take 6 (grams level)) * 1000 + shown_by 0 (drop 7 (grams level)) ≡ level / 1000
  unfolding grams
  grams-read = decimals-read _ (omega arith)

-- A level in bounds is two blanks and its figures.
pub grams_split : (level : ℕ) → level ≤ most_level → grams level ≡ 32 ∷ 32 ∷ figures_of level
unfolding grams decimals plain columns figures_of
grams_split level within =
    let whole = level / 1000 / 1000 in
    let hundreds : whole / 10 / 10 ≡ whole / 100 = omega arith in
    let thousands : whole / 100 / 10 ≡ whole / 1000 = omega arith in
    simp next_mark_blank
    (rw (
      glyph_zero (whole / 10 / 10 / 10 / 10 / 10) 32 (omega arith),
      glyph_zero (whole / 10 / 10 / 10 / 10) 32 (omega arith),
      hundreds,
      thousands,
    ))
