-- `totals_of` meets its contract: each return is a case of the number, by that of the set. No assumptions.
use Rattle.std.proofs.Common.{◌≡◌, ◌≤◌, ◌<◌, ◌∙◌, refl, sym, arith, rules, ◌-◌, ◌*◌, ◌/◌, length, [], ◌∷◌, get_or}
use Rattle.std.proofs.Common.{ℕ, pos, Result, Ok, not, true, false}
use Rattle.std.proofs.lemmas.Result.{err_from_is_err_and}
use Rattle.numeric.specs.Check.{◌when◌, first_holding}
use Rattle.stoichiometry.specs.Substances.{substances}
use Rattle.stoichiometry.specs.Totals.{amount_at}
use Rattle.stoichiometry.specs.declared.Set.{Set}
use Rattle.stoichiometry.specs.declared.refusals.Refusal.{Refusal}
use Rattle.stoichiometry.specs.Sets.{set_number}
use Rattle.rows.specs.Answers.{check_answer}
use Rattle.stoichiometry.proofs.RefusalLaws.{answer-ok}
use Rattle.stoichiometry.proofs.SetNumber.{accepted-passes}
use Rattle.river.specs.Rivers.{most_cells, river_wrong, cell_exists}
use Rattle.river.proofs.CheckedLaws.{four_holds, four_passed, five_holds, five_passed}
use Rattle.river.proofs.Rivers.{amount_cut, river-cells, cell_bound}
use Rattle.totals.specs.Totals.{totals_number, totals_in, totals_answer}
use Rattle.totals.proofs.TotalsLaws.{cell_alone, cell_addable, set_refused, number_beside}
use Rattle.totals.proofs.totals_of.Goals as goal
use Rattle.totals.proofs.totals_of.Goals.{In_ok-check, In_ok-c, After-as_chunks}

-- A set that passes its checks has the number 0.
accepted : (set : Set) (checked : Result (Unit {0}) Refusal) → checked ≡ check_answer set → checked ≡ Ok tt
    → set_number set ≡ 0
unfolding check_answer
accepted set checked answered is = (answer-ok (set_number set) tt tt (sym is ∙ answered)).0

-- Refused by 1, 2 or 3.
pub returns-in_err-check : goal.returns-in_err-check
returns-in_err-check c =
    let a = c.args in
    let refused = err_from_is_err_and c.from_residual.result c.from_residual.ensures.1 in
    let told = sym c.in_err-check.was ∙ c.check.ensures.answer in
    record { answer = rw (refused.1, refused.2) (set_refused a.set a.river a.cell _ told) }

-- Past its checks the number is that of the river and the cell.
number : (c : In_ok-check) → let r = c.args.river in
    totals_number c.args.set r c.args.cell
    ≡ first_holding (4 when river_wrong r ∷ 5 when not (cell_exists r c.args.cell) ∷ [])
number c =
    number_beside c.args.set c.args.river c.args.cell (accepted c.args.set _ c.check.ensures.answer c.in_ok-check.was)

-- By 4.
pub returns-in_err-checked : goal.returns-in_err-checked
unfolding totals_answer first_holding
returns-in_err-checked c =
    let a = c.args in
    let refused = err_from_is_err_and c.from_residual-in_err-checked.result c.from_residual-in_err-checked.ensures.1 in
    let wrong = four_holds a.river _ c.in_err-checked.ensures.answer in
    record { answer = rw (refused.1, refused.2, wrong.1, number (search), wrong.0) refl }

-- By 5.
pub returns-in_err-c : goal.returns-in_err-c
unfolding totals_answer first_holding
returns-in_err-c c =
    let a = c.args in
    let right = (four_passed a.river c.in_ok-checked.field-0 c.in_ok-checked.ensures.answer).0 in
    let refused = err_from_is_err_and c.from_residual-in_err-c.result c.from_residual-in_err-c.ensures.1 in
    let none = five_holds a.river a.cell _ c.in_err-c.ensures.answer in
    record { answer = rw (refused.1, refused.2, none.1, number (search), right, none.0) refl }

-- The river past checks 1 to 5, and what is cut out of it for the cell.
right : (c : In_ok-c) → river_wrong c.args.river ≡ false
right c = (four_passed c.args.river c.in_ok-checked.field-0 c.in_ok-checked.ensures.answer).0

place : (c : In_ok-c) → (cell_exists c.args.river c.args.cell ≡ true) × (c.in_ok-c.c ≡ c.args.cell - 1)
place c = five_passed c.args.river c.args.cell c.in_ok-c.c c.in_ok-c.ensures.answer

inside : (c : In_ok-c) → (c.in_ok-c.c < c.args.river.cells) × (c.args.river.cells ≤ most_cells)
inside c =
    let (exists, at) = place c in
    let bound = cell_bound c.args.river c.args.cell exists in
    let cells = river-cells c.args.river (right c) in
    (omega (arith, at), cells.1)

pub offset_bounds-cells-c : goal.offset_bounds-cells-c
offset_bounds-cells-c c = let (below, most) = inside (search) in omega arith

pub bounds-cells-c : goal.bounds-cells-c
bounds-cells-c c =
    let a = c.args in
    let (below, most) = inside (search) in
    let long : length a.river.amounts ≡ most_cells * substances = search rules in
    let count : length c.as_chunks.result.0.now ≡ length a.river.amounts / substances =
    c.as_chunks.ensures.front_len in
    omega arith

-- What is cut out are the amounts of the cell.
cut : (c : After-as_chunks) (s : ℕ) → s < substances
    → get_or (get_or c.as_chunks.result.0.now c.in_ok-c.c []) s (pos 0) ≡ amount_at c.args.river.amounts c.in_ok-c.c s
cut c =
    let (below, most) = inside (search) in
    let long : length c.args.river.amounts ≡ most_cells * substances = search rules in
    amount_cut _ c.args.river.amounts _ c.as_chunks.ensures.front c.in_ok-c.c (omega arith)

pub of_cell-requires : goal.of_cell-requires
of_cell-requires c =
    let a = c.args in
    let zero = accepted a.set _ c.check.ensures.answer c.in_ok-check.was in
    let (below, most) = inside (search) in
    cell_addable a.set a.river (accepted-passes a.set zero).0 (right (search)) _ c.in_ok-c.c below (cut (search))

pub returns : goal.returns
unfolding totals_answer first_holding
returns c =
    let a = c.args in
    let (exists, at) = place (search) in
    let (below, most) = inside (search) in
    let totals : c.of_cell.result ≡ totals_in a.set a.river.amounts (a.cell - 1) =
    c.of_cell.ensures ∙ rw (← at) (cell_alone a.set a.river.amounts _ c.in_ok-c.c (cut (search))) in
    record { answer = rw (totals, number (search), right (search), exists) refl }
