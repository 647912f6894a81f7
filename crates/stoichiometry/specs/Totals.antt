-- The totals of a cell (scope, "Flow, air, load, and the book"): where an amount of a cell stands in a list of amounts,
-- one cell after the other, and the contents of all amounts that the list has for a cell. Laws: proofs/Totals.antt.
-- No assumptions.
use Rattle.std.specs.Prelude.{ℕ, ◌+◌, ◌*◌, List, get_or, ℤ, pos}
use Rattle.numeric.specs.Sum.{sum}
use Rattle.stoichiometry.specs.declared.Set.{Set}
use Rattle.stoichiometry.specs.Substances.{substances, Total, contents}

-- Amount s of cell c, both counted from 0.
abbrev pub amount_at : List ℤ → ℕ → ℕ → ℤ
amount_at amounts c s = get_or amounts (c * substances + s) (pos 0)

-- A total of a cell, counted from 0, grains: the contents of all amounts that the list has for it.
unfoldable pub cell_total : Set → Total → List ℤ → ℕ → ℤ
cell_total set t amounts c = sum substances (λ s. contents set t s (amount_at amounts c s))
