-- The first s entries of the row are stored.
use Rattle.std.proofs.Common.{◌≡◌, ◌*◌, get_or, pos}
use Rattle.numeric.specs.Table.{run}
use Rattle.stoichiometry.specs.Substances.{substances}
use Rattle.rows.proofs.row.put.Given as goal

abbrev pub invariant-loop-s : goal.invariant-loop-s
invariant-loop-s l = l.entries ≡ run l.initial.entries (l.p * substances) l.s (λ k. get_or l.entry-items k (pos 0))
