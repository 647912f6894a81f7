-- A level's figures by pairs of columns: the tables of numbers below 100, the whole grams, and the thousandths.
-- No assumptions.
use Prim.Native.Nat.{ℕ, zero, suc, ◌+◌, ◌-◌, ◌*◌, ◌/◌, ◌%◌, ◌≤◌, ◌<◌}
use mathlib.Core.Bool.{Bool, true, false, ◌&&◌, true≢false}
use mathlib.Core.List.{List, [], ◌∷◌, ◌++◌}
use mathlib.Core.Path.{◌≡◌, refl, sym, ap₂}
use native.Mathlib.Omega.{arith}
use borrow.Author.Tests.{eqb-true}
use lib.Dec.{eqb}
use lib.ListN.{get_or}
use Rattle.std.specs.List.{flat_map}
use Rattle.numeric.specs.Check.{every}
use Rattle.numeric.proofs.CheckLaws.{and_left, and_right, every_at}
use Rattle.text.specs.Decimals.{glyph}
use Rattle.text.proofs.DecimalLaws.{glyph_zero}
use Rattle.page.specs.declared.writing.TheConstants.{PAIRS, JUSTIFIED}
use Rattle.page.specs.Inner.Stages.{pair_of, justified_of, whole_of, figures_of}

-- Some bytes are these two.
are_two : List ℕ → ℕ → ℕ → Bool
are_two [] first second = false
are_two (a ∷ []) first second = false
are_two (a ∷ b ∷ []) first second = eqb a first && eqb b second
are_two (a ∷ b ∷ c ∷ rest) first second = false

two_of : (bytes : List ℕ) (first second : ℕ) → are_two bytes first second ≡ true → bytes ≡ first ∷ second ∷ []
unfolding are_two
two_of [] first second e = absurd (true≢false (sym e))
two_of (a ∷ []) first second e = absurd (true≢false (sym e))
two_of (a ∷ b ∷ []) first second e =
    ap₂ (λ (x y : ℕ). x ∷ y ∷ []) (eqb-true _ _ (and_left _ _ e)) (eqb-true _ _ (and_right _ _ e))
two_of (a ∷ b ∷ c ∷ rest) first second e = absurd (true≢false (sym e))

-- The entry of number n in a table, where each is the two bytes that a definition gives.
entry_at : (table : List (List ℕ)) (first second : ℕ → ℕ) (n : ℕ)
    → every 100 (λ k. are_two (get_or table k []) (first k) (second k)) ≡ true → n < 100
    → get_or table n [] ≡ first n ∷ second n ∷ []
entry_at table first second n all small =
    two_of _ (first n) (second n) (every_at 100 n (λ k. are_two (get_or table k []) (first k) (second k)) all small)

pub pair_at : (n : ℕ) → n < 100 → get_or PAIRS n [] ≡ pair_of n
unfolding every are_two
pair_at n small = entry_at PAIRS (λ k. 48 + k / 10) (λ k. 48 + k % 10) n refl small

pub justified_at : (n : ℕ) → n < 100 → get_or JUSTIFIED n [] ≡ justified_of n
unfolding every glyph are_two
justified_at n small = entry_at JUSTIFIED (λ k. glyph (k / 10) 32) (λ k. 48 + k % 10) n refl small

glyph_some : (r : ℕ) → 1 ≤ r → glyph r 32 ≡ 48 + r % 10
unfolding glyph
glyph_some zero h = absurd (omega arith)
glyph_some (suc r) h = refl

-- Whole grams of at most two digits, and of three or four.
pub whole_short : (grams : ℕ) → grams < 100 → (32 ∷ 32 ∷ []) ∷ justified_of grams ∷ [] ≡ whole_of grams
whole_short grams small =
    rw (glyph_zero (grams / 1000) 32 (omega arith), glyph_zero (grams / 100) 32 (omega arith)) refl

pub whole_long : (grams : ℕ) → 100 ≤ grams → justified_of (grams / 100) ∷ pair_of (grams % 100) ∷ [] ≡ whole_of grams
whole_long grams large =
    let thousands : grams / 100 / 10 ≡ grams / 1000 = omega arith in
    let tens : grams % 100 / 10 ≡ grams / 10 % 10 = omega arith in
    let ones : grams % 100 % 10 ≡ grams % 10 = omega arith in
    rw (
      glyph_some (grams / 100) (omega arith),
      glyph_some (grams / 10) (omega arith),
      thousands,
      tens,
      ones,
    ) refl

-- The thousandths of a gram behind the point.
pub rest_figures : (level : ℕ) → let n = level / 1000 in let rest = n - n / 1000 * 1000 in
    flat_map (λ pair. pair) (whole_of (n / 1000)) ++ (46 ∷ (48 + rest / 100) ∷ pair_of (rest % 100)) ≡ figures_of level
unfolding figures_of
rest_figures level =
    let n = level / 1000 in
    let rest = n - n / 1000 * 1000 in
    let hundreds : rest / 100 ≡ n / 100 % 10 = omega arith in
    let tens : rest % 100 / 10 ≡ n / 10 % 10 = omega arith in
    let ones : rest % 100 % 10 ≡ n % 10 = omega arith in
    rw (hundreds, tens, ones) refl
