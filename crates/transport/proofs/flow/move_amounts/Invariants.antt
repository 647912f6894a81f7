-- What left is taken from the first k amounts, and then added to the first j from the second cell on.
use Rattle.std.proofs.Common.{◌≡◌}
use Rattle.numeric.specs.Table.{run}
use Rattle.stoichiometry.specs.Substances.{substances}
use Rattle.transport.specs.Inner.Stages.{staying, stayed_of, joining}
use Rattle.transport.proofs.flow.move_amounts.Given as goal

abbrev pub invariant-loop-k : goal.invariant-loop-k
invariant-loop-k l = l.amounts ≡ run l.initial.amounts 0 l.k (staying l.initial.amounts l.left)

abbrev pub invariant-loop-j : goal.invariant-loop-j
invariant-loop-j l =
    let stayed = stayed_of l.fn.amounts l.left in
    l.amounts ≡ run stayed substances l.j (joining stayed l.left)
