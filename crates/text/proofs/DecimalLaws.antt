-- Laws of numbers in columns: their lengths, a column by what is left of the number there, and a number that is stored from
-- the last column to the left: a store and what is still to come are what was to come before. No assumptions.
use Prim.Native.Nat.{ℕ, zero, suc, ◌+◌, ◌-◌, ◌/◌, ◌%◌, ◌≤◌, ◌<◌}
use mathlib.Core.List.{List, [], ◌∷◌, ◌++◌}
use mathlib.Core.Path.{◌≡◌, refl}
use native.Mathlib.Numerals.{add-one, sub-one}
use native.Mathlib.Omega.{arith}
use lib.IntN.{ℤ, nat_abs}
use lib.ListN.{length, set, length-append}
use Rattle.text.specs.Writes.{put}
use Rattle.text.specs.Decimals.{glyph, next_mark, columns, plain, mark_of, decimal}
use Rattle.text.proofs.WriteLaws.{put-none, put_before, set-put}

pub columns-length : (i mark r : ℕ) → length (columns i mark r) ≡ i
unfolding columns
columns-length zero mark r = refl
columns-length (suc i) mark r = rw (length-append, columns-length i) (add-one i)

pub plain-length : (w mark n : ℕ) → length (plain w mark n) ≡ w
unfolding plain
plain-length zero mark n = refl
plain-length (suc w) mark n = rw (length-append, columns-length w) (add-one w)

pub decimal-length : (w : ℕ) (z : ℤ) → length (decimal w z) ≡ w
unfolding decimal
decimal-length w z = plain-length w (mark_of z) (nat_abs z)

-- The glyph by whether something is left.
pub glyph_zero : (r mark : ℕ) → r ≡ 0 → glyph r mark ≡ mark
unfolding glyph
glyph_zero r mark h = rw h refl

pub glyph-digit : (r mark : ℕ) → (r ≡ 0 → ⊥) → glyph r mark ≡ 48 + r % 10
unfolding glyph
glyph-digit zero mark h = absurd (h refl)
glyph-digit (suc r) mark h = refl

-- The mark before it likewise.
pub next_mark_zero : (r mark : ℕ) → r ≡ 0 → next_mark r mark ≡ 32
unfolding next_mark
next_mark_zero r mark h = rw h refl

pub next_mark-digit : (r mark : ℕ) → (r ≡ 0 → ⊥) → next_mark r mark ≡ mark
unfolding next_mark
next_mark-digit zero mark h = absurd (h refl)
next_mark-digit (suc r) mark h = refl

-- Blanks stand before blanks.
pub next_mark_blank : (r : ℕ) → next_mark r 32 ≡ 32
unfolding next_mark
next_mark_blank zero = refl
next_mark_blank (suc r) = refl

-- A store in the last column that is still to be written.
before : (l : List ℕ) (at b : ℕ) (xs : List ℕ) (k : ℕ) → length xs ≡ k → at + k < length l
    → put (set l (at + k) b) at xs ≡ put l at (xs ++ (b ∷ []))
before l at b xs k e h = rw (set-put l (at + k) b) (put_before l at (at + k) xs (b ∷ []) (omega arith) (omega arith))

-- The last of the columns is stored: the others are left.
pub columns_turn : (l : List ℕ) (at i m r g m' : ℕ) → 0 < i → at + i ≤ length l → g ≡ glyph r m → m' ≡ next_mark r m
    → put (set l (at + (i - 1)) g) at (columns (i - 1) m' (r / 10)) ≡ put l at (columns i m r)
unfolding columns
columns_turn l at zero m r g m' p h eg em = absurd (omega arith)
columns_turn l at (suc j) m r g m' p h eg em =
    rw (sub-one (suc j), eg, em) (before l at _ _ j (columns-length j (next_mark r m) (r / 10)) (omega arith))

-- The last digit of a number is stored: the columns before it are left.
pub plain_turn : (l : List ℕ) (at w m n : ℕ) → 0 < w → at + w ≤ length l
    → put (set l (at + (w - 1)) (48 + n % 10)) at (columns (w - 1) m (n / 10)) ≡ put l at (plain w m n)
unfolding plain
plain_turn l at zero m n p h = absurd (omega arith)
plain_turn l at (suc j) m n p h =
    rw (sub-one (suc j)) (before l at _ _ j (columns-length j m (n / 10)) (omega arith))

-- No column is left.
pub columns_end : (l : List ℕ) (at i m r : ℕ) → i ≤ 0 → put l at (columns i m r) ≡ l
unfolding columns
columns_end l at zero m r h = put-none l at
columns_end l at (suc i) m r h = absurd (omega arith)

-- A number without columns.
pub plain-none : (l : List ℕ) (at w m n : ℕ) → w ≤ 0 → put l at (plain w m n) ≡ l
unfolding plain
plain-none l at zero m n h = put-none l at
plain-none l at (suc w) m n h = absurd (omega arith)
