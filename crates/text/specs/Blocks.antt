-- A text that is a run of blocks, and a part of a text. Laws for blocks of one width: proofs/BlockLaws.antt.
-- No assumptions.
use Rattle.std.specs.Prelude.{ℕ, zero, suc, List, [], ◌++◌, take, drop}

-- f 0, f 1, .. to f (m - 1), one after the other.
unfoldable pub blocks : ℕ → (ℕ → List ℕ) → List ℕ
blocks zero f = []
blocks (suc m) f = blocks m f ++ f m

-- The part of a text that begins at `at`, of `width` bytes.
abbrev pub part : ℕ → ℕ → List ℕ → List ℕ
part at width t = take width (drop at t)
