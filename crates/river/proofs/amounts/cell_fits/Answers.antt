-- `amounts::cell_fits` meets its contract: where the runs pass every amount fits; otherwise each is tested.
-- No assumptions.
use Prim.Native.Nat.{zero-le}
use Rattle.std.proofs.Common.{sym, ◌∙◌}
use Rattle.std.proofs.lemmas.Bool.{true_from_ne_false}
use Rattle.std.proofs.lemmas.Bool.Decides.{same_from_decides}
use Rattle.numeric.proofs.CheckLaws.{every-Decides}
use Rattle.stoichiometry.specs.Substances.{substances}
use Rattle.river.proofs.Runs.{run-every}
use Rattle.river.proofs.amounts.cell_fits.Goals as goal

pub returns-then-runs_fit : goal.returns-then-runs_fit
returns-then-runs_fit c =
    c.if-runs_fit.true ∙ sym (run-every c.args.cell.now substances (c.runs_fit.ensures c.if-runs_fit.true))

pub returns-else-runs_fit : goal.returns-else-runs_fit
returns-else-runs_fit c =
    let tested = c.each_amount_fits in
    same_from_decides tested.result _ (
      λ e s before. tested.ensures.fit e s zero-le before,
      λ all. true_from_ne_false tested.result (λ e. tested.ensures.other e (λ s from before. all s before)),
    )
    (every-Decides substances _)
