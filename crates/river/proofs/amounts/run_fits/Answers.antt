-- `amounts::run_fits` meets its contract: what fits the bounds that all have covers each amount. No assumptions.
use Rattle.std.proofs.Common.{◌-◌, ◌≤◌, ◌≡◌, sym, ◌∙◌, length, drop, arith}
use borrow.Author.Rules.{sfits_of}
use lib.ListN.{length-drop}
use mir.Facts.{to_z-of_z}
use mir.Syntax.{w64}
use Rattle.numeric.proofs.Machine.{kept}
use Rattle.river.proofs.Runs.{covers_taken, run_covered}
use Rattle.river.proofs.amounts.run_fits.Goals as goal

pub returns : goal.returns
returns c e =
    let bits = c.joined.result in
    let same : kept bits ≡ bits = to_z-of_z {w = w64} {z = bits} (sfits_of c.joined.type_inv) in
    let left : c.args.end - c.args.first ≤ length (drop c.args.first c.args.cell.now) =
    simp length-drop (omega (arith, c.requires.places.1, c.told-cell)) in
    let covers = covers_taken (drop c.args.first c.args.cell.now) (c.args.end - c.args.first) bits left c.joined.ensures in
    run_covered c.args.cell.now c.args.first c.args.end bits c.requires.places.0 c.requires.same_bounds covers
    (rw same at (sym c.amount_fits.ensures.answer ∙ e))
