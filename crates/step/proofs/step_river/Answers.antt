-- `step_river` meets its contract: each test is a check of the definition, in its order (proofs/StepNumber.antt).
-- No assumptions.
use Rattle.std.proofs.Common.{◌≡◌, Ok, false, sym, ◌∙◌}
use Rattle.std.proofs.lemmas.Result.{err_from_is_err_and}
use Rattle.stoichiometry.specs.declared.refusals.Refusal.TheVariants.{Batches}
use Rattle.stoichiometry.proofs.RefusalLaws.{test_holds, test_passed}
use Rattle.stoichiometry.proofs.SetNumber.{accepted-passes}
use Rattle.river.proofs.CheckedLaws.{four_handed, four_passed}
use Rattle.kinetics.proofs.ConditionLaws.{conditions_fit}
use Rattle.step.specs.Steps.{batches_wrong}
use Rattle.step.proofs.RatingLaws.{halves-fit}
use Rattle.step.proofs.StepNumber.{Passed, rows_known, rows_unknown, set_refused, river_refused}
use Rattle.step.proofs.StepNumber.{conditions_refused, batches_refused, amounts_refused, step-accepted}
use Rattle.step.proofs.step_river.Goals as goal
use Rattle.step.proofs.step_river.Goals.{Else-are_wrong, In_ok-step_cells}

-- Refused by the set.
pub returns-in_err-rows : goal.returns-in_err-rows
returns-in_err-rows c =
    let a = c.args in
    let handed = err_from_is_err_and c.from_residual.result c.from_residual.ensures.1 in
    let known = rows_unknown a.set _ c.in_err-rows.ensures.answer in
    record { answer = rw (handed.1, handed.2, known.1) (sym (set_refused a.set a.river a.conditions known.0)) }

-- Refused by the river.
pub returns-in_err-checked : goal.returns-in_err-checked
returns-in_err-checked c =
    let a = c.args in
    let accepted = (rows_known a.set _ c.in_ok-rows.ensures.answer).0 in
    let handed = err_from_is_err_and _ c.from_residual-in_err-checked.ensures.1 in
    let (four, wrong) = four_handed a.river handed c.in_err-checked.ensures.answer in
    record { answer = four ∙ sym (river_refused a.set a.river a.conditions accepted wrong) }

-- Refused by the conditions.
pub returns-then-are_wrong : goal.returns-then-are_wrong
returns-then-are_wrong c =
    let a = c.args in
    let accepted = (rows_known a.set _ c.in_ok-rows.ensures.answer).0 in
    let right = (four_passed a.river c.in_ok-checked.checked c.in_ok-checked.ensures.answer).0 in
    let wrong = sym c.if-are_wrong.ensures.answer in
    record { answer = sym (conditions_refused a.set a.river a.conditions accepted right wrong) }

-- All that was given passed its checks.
passed : (c : Else-are_wrong) → Passed c.args.set c.args.river c.args.conditions
passed c =
    record {
      accepted = (rows_known c.args.set _ c.in_ok-rows.ensures.answer).0;
      four = (four_passed c.args.river c.in_ok-checked.checked c.in_ok-checked.ensures.answer).0;
      six = sym c.if-are_wrong.ensures.answer;
    }

pub invariant_of-rates : goal.invariant_of-rates
invariant_of-rates c =
    let p = passed (search) in
    let rows = c.in_ok-rows.ensures in
    let figures = (accepted-passes c.args.set p.accepted).1 in
    record {
      ready = record { figures = figures; ranges = conditions_fit c.args.conditions p.six; rows = (rows_known c.args.set _ rows.answer).1 };
      halves = halves-fit c.args.set figures;
      entries_fit = record { bounded = rows.bounded; zeros = rows.zeros };
      sized = c.batches_of.ensures.answer;
    }

-- The river that passed is the one that was given.
same : (c : Else-are_wrong) → c.in_ok-checked.checked.river.now ≡ c.args.river
same c = (four_passed c.args.river c.in_ok-checked.checked c.in_ok-checked.ensures.answer).1

-- Refused by the batches.
pub returns-in_err-step_cells : goal.returns-in_err-step_cells
returns-in_err-step_cells c =
    let a = c.args in
    let handed = err_from_is_err_and c.from_residual-in_err-step_cells.result c.from_residual-in_err-step_cells.ensures.1 in
    let known = test_holds Batches tt _ _ (rw (same (search)) at c.in_err-step_cells.ensures.batches) in
    record { answer = rw (handed.1, handed.2, known.1) (sym (batches_refused a.set a.river a.conditions (passed (search)) known.0)) }

-- No cell has too many batches.
few : (c : In_ok-step_cells) → batches_wrong c.args.set c.args.conditions c.args.river ≡ false
few c = (test_passed Batches tt _ tt (rw (same (search)) at c.in_ok-step_cells.ensures.batches)).0

-- Refused by the amounts after.
pub returns-then-not-amounts_fit : goal.returns-then-not-amounts_fit
returns-then-not-amounts_fit c =
    let a = c.args in
    let amounts = rw (same (search)) at c.in_ok-step_cells.ensures.amounts_after in
    let wrong = rw amounts at (sym c.if-not-amounts_fit.ensures.answer) in
    record { answer = sym (amounts_refused a.set a.river a.conditions (passed (search)) (few (search)) wrong) }

-- Stepped.
pub returns : goal.returns
returns c =
    let a = c.args in
    let amounts = rw (same (search)) at c.in_ok-step_cells.ensures.amounts_after in
    let carries = rw (same (search)) at c.in_ok-step_cells.ensures.carries_after in
    let right = rw amounts at (sym c.if-not-amounts_fit.ensures.answer) in
    let cells = c.in_ok-step_cells.ensures.cells_kept in
    record {
      answer =
          (λ i. Ok (record { cells = cells i; amounts = amounts i; carries = carries i }))
          ∙ sym (step-accepted a.set a.river a.conditions (passed (search)) (few (search)) right);
    }
