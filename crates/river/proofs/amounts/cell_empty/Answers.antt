-- `amounts::cell_empty` meets its contract: equal to a list of zeros is zero at each place. No assumptions.
use Rattle.std.proofs.Common.{replicate, pos}
use Rattle.std.proofs.lemmas.Slice.Eq.{slice_eq-Decides}
use Rattle.std.proofs.lemmas.Bool.Decides.{Decides-int_eq}
use Rattle.river.proofs.Rivers.{zeros_decided}
use Rattle.river.proofs.amounts.cell_empty.Goals as goal

pub returns : goal.returns
returns c = zeros_decided c.args.cell.now _ c.told-cell (slice_eq-Decides Decides-int_eq c.args.cell.now (replicate 18 (pos 0)) _ c.eq.ensures)
