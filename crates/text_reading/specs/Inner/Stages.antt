-- How far a text is read: what the inner functions of the reader hand to each other. Laws: proofs/ReadingLoop.antt.
-- No assumptions.
use Rattle.std.specs.Prelude.{ℕ, ◌≤◌, ◌<◌, List, ◌≡◌, length, take, get_or}
use Rattle.text_reading.specs.Reading.{cols, bad, other, run_on, start}

-- The text t begins with r blanks, and no more.
pub record LeadingBlanks (t : List ℕ) (r : ℕ) : Type 0 where
  pub within : r ≤ length t
  pub seen : run_on start (take r t) ≡ cols 32 0
  pub stop : r < length t → get_or t r 0 ≡ 32 → ⊥

-- The blanks and the mark m of t end at i: what stands there is a digit, or no decimal begins so.
pub record DigitsFrom (t : List ℕ) (i m : ℕ) : Type 0 where
  pub within : i ≤ length t
  pub seen : run_on start (take i t) ≡ cols m 0
  pub stop : i < length t → other m 0 (get_or t i 0) ≡ bad
