-- The strict reader of a decimal in columns, byte by byte from the left (scope, "Probe frame, letter, record"): what
-- passes is exactly what text's Decimals.antt writes, within two limits (proofs/ReadingLaws.antt: `parse-decimal`,
-- `parse_plain`, `parse_only`). "-0", "00", "+1", a blank after a digit and a text without a digit are refused.
-- No assumptions.
use Rattle.std.specs.Prelude.{ℕ, ◌+◌, ◌-◌, ◌*◌, Bool, false, cond, ◌&&◌, List, [], ◌∷◌, leb, ltb, eqb, ℤ, pos, neg_ℤ, Option, Some, None, option_and_then}
use Rattle.std.specs.Int.Signed.{le_z}

-- What was seen so far: the columns of a mark and of the digits' value, a zero that stands alone, or what no decimal
-- begins with. LeadingBlanks alone are `cols 32 0`, a minus after them `cols 45 0`.
pub data Seen : Type 0 where
  cols : ℕ → ℕ → Seen
  lone_zero : Seen
  bad : Seen

-- The most that one digit more may follow: every value of up to 18 digits is read, and 10^18 to 10^18 + 9.
abbrev pub most : ℕ
most = 100_000_000_000_000_000

unfoldable pub is_digit : ℕ → Bool
is_digit b = cond (ltb b 48) false (ltb b 58)

-- A digit d after the columns of m and r: no zero before other digits, none after a minus.
unfoldable pub digit : ℕ → ℕ → ℕ → Seen
digit m r d = cond (eqb (r + d) 0) (cond (eqb m 32) lone_zero bad) (cond (leb r most) (cols m (r * 10 + d)) bad)

-- Any other byte: a blank or a minus, after blanks only.
unfoldable pub other : ℕ → ℕ → ℕ → Seen
other m r b =
    cond (eqb r 0) (cond (eqb m 32) (cond (eqb b 32) (cols 32 0) (cond (eqb b 45) (cols 45 0) bad)) bad) bad

-- One byte more.
unfoldable pub next : Seen → ℕ → Seen
unfolding digit other is_digit
next (cols m r) b = cond (is_digit b) (digit m r (b - 48)) (other m r b)
next lone_zero b = bad
next bad b = bad

-- All bytes of a text, after what was seen before it.
unfoldable pub run_on : Seen → List ℕ → Seen
unfolding next
run_on s [] = s
run_on s (b ∷ bs) = run_on (next s b) bs

-- Before the first byte: blanks, none of them so far.
abbrev pub start : Seen
start = cols 32 0

-- The value with its mark.
unfoldable pub signed : ℕ → ℕ → ℤ
signed m n = cond (eqb m 45) (neg_ℤ (pos n)) (pos n)

-- The value after the last byte: without a digit there is none.
unfoldable pub finish : Seen → Option ℤ
unfolding signed
finish (cols m r) = cond (eqb r 0) None (Some (signed m r))
finish lone_zero = Some (pos 0)
finish bad = None

-- The value that the columns t are the text of, if there is one.
unfoldable pub value_of : List ℕ → Option ℤ
unfolding finish run_on
value_of t = finish (run_on start t)

-- A value is accepted from the lowest to the highest.
unfoldable pub within : ℤ → ℤ → ℤ → Option ℤ
within lowest highest z = cond (le_z lowest z && le_z z highest) (Some z) None

-- The value that the columns t are the text of, if there is one from `lowest` to `highest`.
unfoldable pub parse : ℤ → ℤ → List ℕ → Option ℤ
unfolding value_of within
parse lowest highest t = option_and_then (within lowest highest) (value_of t)
