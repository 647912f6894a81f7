-- A cell is stepped as the definition says (proofs/StepLoop.antt), and a row more is made in both lists; joined, the rows
-- are the definition's lists (numeric, GridLaws.antt). No assumptions.
use Rattle.std.proofs.Common.{◌≡◌, ◌*◌, ◌<◌, [], rules, refl, sym, ◌∙◌, arith, length, length-append, get_or}
use lib.IntN.{pos}
use Rattle.std.specs.Simd.{first_chunks}
use Rattle.std.proofs.lemmas.Iterator.{YieldsList-from_slice, YieldsList-from_zip, YieldsList-from_take}
use Rattle.std.proofs.lemmas.Iterator.Consumers.{YieldsList-from_enumerate, YieldsList-turn, YieldsList-end}
use Rattle.std.proofs.lemmas.Result.{err_from_is_err_and}
use Rattle.numeric.proofs.CheckLaws.{every-none, every_more}
use Rattle.stoichiometry.specs.Rows.{processes}
use Rattle.stoichiometry.specs.Substances.{substances}
use Rattle.river.specs.Rivers.{most_cells}
use Rattle.river.proofs.Rivers.{river-cells}
use Rattle.step.specs.Steps.{stepped_amounts, stepped_carries}
use Rattle.numeric.proofs.PairLaws.{first_at, firsts-length}
use Rattle.step.proofs.StepLoop.{cell_fits_lem, carries_fit_lem, few_at, amounts_at, carries_at}
use Rattle.step.proofs.StepLoop.{all_few, one_many, few_passed, few_refused}
use Rattle.numeric.proofs.GridLaws.{made_none, made_next, made_done}
use Rattle.step.proofs.rates.Rates.step_cells.Goals as goal
use Rattle.step.proofs.rates.Rates.step_cells.Goals.{In-Some, In-None}

pub loop-c-init : goal.loop-c-init
loop-c-init c =
    record { passed = every-none _; stepped = made_none most_cells substances _ (pos 0) _; kept = made_none most_cells processes _ 0 _ }

-- The cells that the river's amounts and carries are cut into.
cells : (c : In-Some) → c.as_chunks.result.0.now ≡ first_chunks substances most_cells c.args.checked.now.river.now.amounts
cells c =
    let long : length c.args.checked.now.river.now.amounts ≡ most_cells * substances = search rules in
    rw long at c.as_chunks.ensures.front

kept : (c : In-Some) → c.as_chunks-2.result.0.now ≡ first_chunks processes most_cells c.args.checked.now.river.now.carries
kept c =
    let long : length c.args.checked.now.river.now.carries ≡ most_cells * processes = search rules in
    rw long at c.as_chunks-2.ensures.front

-- The cell and the carries that come are those of the place that is counted.
turn : (c : In-Some) → (c.in-Some.c ≡ length c.loop-c.yielded)
    × (length c.loop-c.yielded < c.args.checked.now.river.now.cells)
    × (c.in-Some.amounts.now ≡ get_or c.as_chunks.result.0.now (length c.loop-c.yielded) [])
    × (c.in-Some.carries.now ≡ get_or c.as_chunks-2.result.0.now (length c.loop-c.yielded) [])
turn c =
    first_at c.as_chunks.result.0.now c.as_chunks-2.result.0.now c.args.checked.now.river.now.cells (length c.loop-c.yielded)
    (c.in-Some.c, (c.in-Some.amounts.now, c.in-Some.carries.now)) [] []
    (YieldsList-turn
    (YieldsList-from_enumerate
    (YieldsList-from_take c.args.checked.now.river.now.cells
    (YieldsList-from_zip (YieldsList-from_slice c.as_chunks.result.0.now cc) (YieldsList-from_slice c.as_chunks-2.result.0.now cc)) cc) cc)
    c.loop-c.yielded _ c.loop-c.yielded_by _ c.next.new.self _ c.in-Some.is c.next.ensures.steps)

pub invariant_of-cell : goal.invariant_of-cell
invariant_of-cell c =
    let t = turn (search) in
    let r = c.args.checked.now.river.now in
    record { fits = rw t.2 (cell_fits_lem r c.args.checked.now.right _ _ (cells (search)) (kept (search)) (length c.loop-c.yielded) t.1) }

pub step_cell-requires : goal.step_cell-requires
step_cell-requires c =
    let t = turn (search) in
    let r = c.args.checked.now.river.now in
    rw t.3 (carries_fit_lem r c.args.checked.now.right _ _ (cells (search)) (kept (search)) (length c.loop-c.yielded) t.1)

-- The cell does not pass check 7.
pub returns-in_err-step_cell-clause-batches : goal.returns-in_err-step_cell-clause-batches
returns-in_err-step_cell-clause-batches c =
    let t = turn (search) in
    let a = c.args in
    let r = a.checked.now.river.now in
    let n = length c.loop-c.yielded in
    let handed = err_from_is_err_and c.from_residual.result c.from_residual.ensures.1 in
    let same = few_at r c.args.checked.now.right _ _ (cells (search)) (kept (search)) n t.1 a.self.now.set a.self.now.conditions in
    let known = few_refused _ _ (rw (t.2, t.3) at c.in_err-step_cell.ensures.batches) in
    let wrong = one_many a.self.now.set a.self.now.conditions r n t.1 (sym same ∙ known.0) in
    rw (handed.1, handed.2, known.1, wrong) refl

pub loop-c-preserved : goal.loop-c-preserved
loop-c-preserved c =
    let t = turn (search) in
    let a = c.args in
    let r = a.checked.now.river.now in
    let right = c.args.checked.now.right in
    let n = length c.loop-c.yielded in
    let inv = c.loop-c.invariant in
    let ok = c.in_ok-step_cell.ensures in
    let most = (river-cells r right).1 in
    rw (length-append, t.0)
    (record {
      passed =
          every_more n _ inv.passed
          (sym (few_at r right _ _ (cells (search)) (kept (search)) n t.1 a.self.now.set a.self.now.conditions) ∙ few_passed _ (rw (t.2, t.3) at ok.batches));
      stepped =
          made_next most_cells substances r.cells (pos 0) _ n _ _ inv.stepped t.1 most
          (rw (t.2, t.3) at ok.amounts ∙ amounts_at r right _ _ (cells (search)) (kept (search)) n t.1 a.self.now.set a.self.now.conditions);
      kept =
          made_next most_cells processes r.cells 0 _ n _ _ inv.kept t.1 most
          (rw (t.2, t.3) at ok.carries ∙ carries_at r right _ _ (cells (search)) (kept (search)) n t.1 a.self.now.set a.self.now.conditions);
    })

-- All cells of the river came.
finished : (c : In-None) → length c.loop-c.yielded ≡ c.args.checked.now.river.now.cells
finished c =
    let r = c.args.checked.now.river.now in
    let most = (river-cells r c.args.checked.now.right).1 in
    let amounts : length r.amounts ≡ most_cells * substances = search rules in
    let carries : length r.carries ≡ most_cells * processes = search rules in
    (YieldsList-end
    (YieldsList-from_enumerate
    (YieldsList-from_take r.cells
    (YieldsList-from_zip (YieldsList-from_slice c.as_chunks.result.0.now cc) (YieldsList-from_slice c.as_chunks-2.result.0.now cc)) cc) cc)
    c.loop-c.yielded _ c.loop-c.yielded_by _ c.next.new.self c.in-None.is c.next.ensures.steps).1
    ∙ firsts-length c.as_chunks.result.0.now c.as_chunks-2.result.0.now r.cells
    (omega (arith, most, c.as_chunks.ensures.front_len, amounts)) (omega (arith, most, c.as_chunks-2.ensures.front_len, carries))

pub returns-clause-batches : goal.returns-clause-batches
returns-clause-batches c =
    let a = c.args in
    rw (all_few a.self.now.set a.self.now.conditions a.checked.now.river.now (rw (finished (search)) at c.loop-c.invariant.passed)) refl

pub returns-clause-amounts_after : goal.returns-clause-amounts_after
unfolding stepped_amounts
returns-clause-amounts_after c =
    c.copy_from_slice.ensures.after ∙ c.as_flattened.ensures.value
    ∙ made_done most_cells substances c.args.checked.now.river.now.cells (pos 0) _ _ _ (finished (search)) c.loop-c.invariant.stepped

pub returns-clause-carries_after : goal.returns-clause-carries_after
unfolding stepped_carries
returns-clause-carries_after c =
    c.copy_from_slice-2.ensures.after ∙ c.as_flattened-2.ensures.value
    ∙ made_done most_cells processes c.args.checked.now.river.now.cells 0 _ _ _ (finished (search)) c.loop-c.invariant.kept
