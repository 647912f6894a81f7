-- Lists given by their elements: `tab n f` has the n elements f 0 to f (n − 1). It grows at its end, as a list does
-- that a counting loop fills; as std's map over a range it would be no plainer. `run` is what a loop leaves that stores
-- some elements from one place on; `grid` has rows. Laws: proofs/TableLaws.antt, GridLaws.antt; the invariant of such a
-- loop: proofs/Filling.antt. No assumptions.
use Rattle.std.specs.Prelude.{ℕ, zero, suc, ◌+◌, ◌*◌, ◌/◌, ◌%◌, cond, List, [], ◌∷◌, ◌++◌, ltb, set}

module _ {A : Type 0} where
  -- The list of n elements whose element k is f k.
  unfoldable pub tab : ℕ → (ℕ → A) → List A
  tab zero f = []
  tab (suc n) f = tab n f ++ (f n ∷ [])

  -- The list after f 0 to f (n − 1) were stored at its places from b on.
  unfoldable pub run : List A → ℕ → ℕ → (ℕ → A) → List A
  run l b zero f = l
  run l b (suc n) f = set (run l b n f) (b + n) (f n)

  -- Rows of w elements, one after the other: the element at place k, which is f c s in row c of the first n, at s, and
  -- z beyond them; and m such rows.
  abbrev pub grid_at : ℕ → ℕ → A → (ℕ → ℕ → A) → ℕ → A
  grid_at w n z f k = cond (ltb (k / w) n) (f (k / w) (k % w)) z

  unfoldable pub grid : ℕ → ℕ → ℕ → A → (ℕ → ℕ → A) → List A
  grid m w n z f = tab (m * w) (grid_at w n z f)
