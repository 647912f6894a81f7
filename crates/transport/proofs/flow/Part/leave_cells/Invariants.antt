-- The first k elements are what passes of the first k amounts.
use Rattle.std.proofs.Common.{◌*◌, get_or, pos}
use Rattle.numeric.proofs.Filling.{Filled}
use Rattle.stoichiometry.specs.Substances.{substances}
use Rattle.river.specs.Rivers.{most_cells}
use Rattle.transport.specs.Flow.{passing}
use Rattle.transport.proofs.flow.Part.leave_cells.Given as goal

abbrev pub invariant-loop-k : goal.invariant-loop-k
invariant-loop-k l = Filled (most_cells * substances) l.k (λ j. passing l.self.value (get_or l.amounts j (pos 0))) l.left
