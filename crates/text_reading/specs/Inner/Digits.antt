-- What the reader has seen after digits that it counts without a test at each of them. Laws: proofs/DigitLoop.antt.
-- No assumptions.
use Rattle.std.specs.Prelude.{ℕ, cond, leb}
use Rattle.text_reading.specs.Reading.{Seen, cols, bad}

-- The largest value that is read: no digit follows one above `most`.
abbrev pub largest : ℕ
largest = 1_000_000_000_000_000_009

-- After the mark m and the digits of v, of which the first is no zero: a larger value is none, whatever follows.
unfoldable pub digits_seen : ℕ → ℕ → Seen
digits_seen m v = cond (leb v largest) (cols m v) bad
