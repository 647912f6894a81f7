-- Numbers in columns (scope, "Probe frame, letter, record"): "Decimals are right-justified, blanks before, a minus
-- against the first digit, no leading zero." 32 is a blank, 45 a minus, 48 a zero. Where a number has more digits
-- than columns the last ones stay. Laws: proofs/DecimalLaws.antt. No assumptions.
use Rattle.std.specs.Prelude.{ℕ, zero, suc, ◌+◌, ◌/◌, ◌%◌, List, [], ◌∷◌, ◌++◌, ℤ, pos, negsuc, nat_abs}

-- The byte of a column, for what is left of the number there: its last digit, or the mark where nothing is left.
unfoldable pub glyph : ℕ → ℕ → ℕ
glyph zero mark = mark
glyph (suc r) mark = 48 + suc r % 10

-- The mark for the column before: a mark stands once, and before it are blanks.
unfoldable pub next_mark : ℕ → ℕ → ℕ
next_mark zero mark = 32
next_mark (suc r) mark = mark

-- The i columns before a digit: the digits of r, the mark against the first of them, blanks before.
unfoldable pub columns : ℕ → ℕ → ℕ → List ℕ
unfolding glyph next_mark
columns zero mark r = []
columns (suc i) mark r = columns i (next_mark r mark) (r / 10) ++ (glyph r mark ∷ [])

-- n in w columns with a mark before its first digit; the last column always has a digit.
unfoldable pub plain : ℕ → ℕ → ℕ → List ℕ
unfolding columns
plain zero mark n = []
plain (suc w) mark n = columns w mark (n / 10) ++ ((48 + n % 10) ∷ [])

-- The mark of a number: a minus below zero, otherwise a blank.
abbrev pub mark_of : ℤ → ℕ
mark_of (pos n) = 32
mark_of (negsuc n) = 45

-- The number z in w columns.
unfoldable pub decimal : ℕ → ℤ → List ℕ
unfolding plain
decimal w z = plain w (mark_of z) (nat_abs z)
