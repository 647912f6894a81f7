-- What the inner functions of flow ask of amounts and hand to each other: sizes (scope, "Units and substances": the
-- widest bound), and the amounts on their way from before to after. That a river which check 4 does not refuse has
-- such amounts, and that the last stage is the amounts after: proofs/FlowLists.antt. No assumptions.
use Rattle.std.specs.Prelude.{ℕ, ◌+◌, ◌-◌, ◌*◌, ◌<◌, ◌≤◌, List, get_or, ℤ, pos, nat_abs, ◌+ℤ◌, ◌-ℤ◌}
use Rattle.numeric.specs.Table.{run}
use Rattle.stoichiometry.specs.Substances.{substances}
use Rattle.river.specs.Rivers.{most_cells}

-- No amount is larger than `most`, either way.
pub record AmountsWithin (most : ℕ) (amounts : List ℤ) : Type 0 where
  pub small : (k : ℕ) → k < most_cells * substances → nat_abs (get_or amounts k (pos 0)) ≤ most

-- What stays of amount k; of all amounts.
abbrev pub staying : List ℤ → List ℤ → ℕ → ℤ
staying amounts left k = get_or amounts k (pos 0) -ℤ get_or left k (pos 0)

abbrev pub stayed_of : List ℤ → List ℤ → List ℤ
stayed_of amounts left = run amounts 0 (most_cells * substances) (staying amounts left)

-- What stayed and what came, from the second cell on, where k counts from: what left the cell above comes.
abbrev pub joining : List ℤ → List ℤ → ℕ → ℤ
joining stayed left k = get_or stayed (substances + k) (pos 0) +ℤ get_or left k (pos 0)

abbrev pub joined_of : ℕ → List ℤ → List ℤ → List ℤ
joined_of n stayed left = run stayed substances ((n - 1) * substances) (joining stayed left)
