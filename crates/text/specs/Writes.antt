-- Writes into lent bytes: one text written over another from an index on, a write only where it fits, and the copy of
-- some bytes. Every byte outside what is written stays as it was. Laws: proofs/WriteLaws.antt. No assumptions.
use Rattle.std.specs.Prelude.{ℕ, ◌+◌, cond, ◌&&◌, List, ◌++◌, leb, length, take, drop}

-- l with xs written over it from index `at` on.
unfoldable pub put : List ℕ → ℕ → List ℕ → List ℕ
put l at xs = take at l ++ (xs ++ drop (at + length xs) l)

-- Written where it fits, otherwise nothing changes.
unfoldable pub put_within : List ℕ → ℕ → List ℕ → List ℕ
put_within l at xs = cond (leb (at + length xs) (length l)) (put l at xs) l

-- `to` with its first `count` bytes those of `from`; where either is shorter than that, nothing changes.
unfoldable pub copied : List ℕ → ℕ → List ℕ → List ℕ
copied from count to = cond (leb count (length from) && leb count (length to)) (put to 0 (take count from)) to
