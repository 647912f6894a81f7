-- `flow::Part::leave_cells` meets its contract: what `passed` answers is what passes of the amount. No assumptions.
use mir.Syntax.{w64}
use Rattle.std.proofs.Common.{rules, ◌*◌, arith, get_or, pos}
use Rattle.std.proofs.lemmas.Int.{fits_signed_from_abs}
use borrow.Author.Rules.{sfits_of}
use mir.Facts.{to_z-of_z}
use Rattle.numeric.proofs.Filling.{fill_none, fill_more, fill_done}
use Rattle.stoichiometry.specs.Substances.{substances}
use Rattle.river.specs.Rivers.{most_cells}
use Rattle.transport.specs.Flow.{left_of}
use Rattle.transport.proofs.flow.Part.leave_cells.Goals as goal

pub loop-k-init : goal.loop-k-init
loop-k-init c = fill_none (most_cells * substances) _ _ (search rules)

pub loop-k-preserved : goal.loop-k-preserved
loop-k-preserved c =
    let kept = fits_signed_from_abs w64 (get_or c.args.amounts.now c.loop-k.k (pos 0)) (omega (arith, c.requires.small c.loop-k.k (omega arith))) in
    fill_more (most_cells * substances) c.loop-k.k _ _ _ c.loop-k.invariant (omega arith)
    (rw (to_z-of_z (sfits_of c.passed.type_inv), c.passed.ensures, to_z-of_z kept))

pub returns : goal.returns
unfolding left_of
returns c = fill_done (most_cells * substances) _ _ _ c.loop-k.invariant (omega arith)
