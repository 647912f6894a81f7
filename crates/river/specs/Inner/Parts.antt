-- The parts of check 4 as the code tests them (scope, "Numbers a caller may get", 4). That together they are the
-- definition: proofs/Rivers.antt. No assumptions.
use Rattle.std.specs.Prelude.{Bool, List, eqb, get_or, ℤ, pos, nat_abs}
use Rattle.numeric.specs.Check.{every}
use Rattle.stoichiometry.specs.Substances.{substances}
use Rattle.river.specs.Rivers.{amount_fits}

-- The amounts of a cell are in their bounds; they are zeros.
abbrev pub cell_fits : List ℤ → Bool
cell_fits cell = every substances (λ s. amount_fits s (get_or cell s (pos 0)))

abbrev pub cell_empty : List ℤ → Bool
cell_empty cell = every substances (λ s. eqb (nat_abs (get_or cell s (pos 0))) 0)
