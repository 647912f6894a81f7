-- `part_of` meets its contract: 11, then 5, then the lines (proofs/ReadAnswers.antt). No assumptions.
use Rattle.std.proofs.Common.{◌≡◌, ℕ, List, Ok, sym, ap, ◌∙◌, ◌-◌, ◌<◌, ◌/◌, length, arith}
use Rattle.std.proofs.lemmas.Result.{err_from_is_err_and}
use Rattle.stoichiometry.specs.Refusals.{number, number_of}
use Rattle.numeric.specs.Check.{in_range}
use Rattle.river.specs.declared.River.{River}
use Rattle.record_reading.specs.Reading.{river_in, read_answer, cell_number}
use Rattle.record_reading.proofs.ReadAnswers.{read-record, answer_refused}
use Rattle.record_reading.proofs.ReadAnswers.{text_refused, cell_refused, cell_exists_lem, cell_within, lines_accepted}
use Rattle.river.specs.Checked.{place_answer}
use Rattle.river.proofs.CheckedLaws.{five_holds, five_passed}
use Rattle.record_reading.proofs.ReadCells.{cell_is}
use Rattle.record.specs.Lines.{cell_bytes}
use Rattle.record_reading.proofs.part_of.Goals as goal

pub returns-in_err-river-clause-number : goal.returns-in_err-river-clause-number
returns-in_err-river-clause-number c =
    let none = answer_refused c.args.text.now c.in_err-river.field-0.0 (sym c.in_err-river.ensures.answer) in
    let refused = err_from_is_err_and c.from_residual.result c.from_residual.ensures.1 in
    ap number_of refused.1
    ∙ rw refused.2 (ap number none.1 ∙ sym (text_refused c.args.text.now c.args.cell none.0))

pub returns-in_err-c-clause-number : goal.returns-in_err-c-clause-number
unfolding river_in
returns-in_err-c-clause-number c =
    let read = read-record c.args.text.now c.in_ok-river.river (sym c.in_ok-river.ensures.answer) in
    let none = five_holds c.in_ok-river.river c.args.cell c.in_err-c.field-0.0 c.in_err-c.ensures.answer in
    let refused = err_from_is_err_and c.from_residual-in_err-c.result c.from_residual-in_err-c.ensures.1 in
    let cells = ap (λ (r : River). in_range 1 r.cells c.args.cell) read.1 in
    ap number_of refused.1
    ∙ rw (refused.2, none.1) (sym (cell_refused c.args.text.now c.args.cell read.0 (cells ∙ none.0)))

-- Past both checks: the number is 0, and the place of the cell its number less one.
accepted : (t : List ℕ) (cell c : ℕ) (r : River) → read_answer t ≡ Ok r → Ok c ≡ place_answer r cell
    → (cell_number t cell ≡ 0) × (c ≡ cell - 1)
unfolding river_in
accepted t cell c r answer answered =
    let read = read-record t r answer in
    let (exists, at) = five_passed r cell c answered in
    (cell_exists_lem t cell read.0 (ap (λ (q : River). in_range 1 q.cells cell) read.1 ∙ exists), at)

-- Its lines are cut out of the text.
inside : (t : List ℕ) (cell c : ℕ) → cell_number t cell ≡ 0 → c ≡ cell - 1 → c < length t / cell_bytes
inside t cell c none at = omega (arith, at, cell_within t cell none)

pub offset_bounds-cells-c : goal.offset_bounds-cells-c
offset_bounds-cells-c c =
    let (none, at) = accepted c.args.text.now c.args.cell c.in_ok-c.c c.in_ok-river.river
    (sym c.in_ok-river.ensures.answer) c.in_ok-c.ensures.answer in
    omega (arith, inside c.args.text.now c.args.cell c.in_ok-c.c none at)

pub bounds-cells-c : goal.bounds-cells-c
bounds-cells-c c =
    let (none, at) = accepted c.args.text.now c.args.cell c.in_ok-c.c c.in_ok-river.river
    (sym c.in_ok-river.ensures.answer) c.in_ok-c.ensures.answer in
    rw c.as_chunks.ensures.front_len (inside c.args.text.now c.args.cell c.in_ok-c.c none at)

pub returns-clause-number : goal.returns-clause-number
returns-clause-number c =
    sym (accepted c.args.text.now c.args.cell c.in_ok-c.c c.in_ok-river.river (sym c.in_ok-river.ensures.answer)
    c.in_ok-c.ensures.answer).0

pub returns-clause-lines : goal.returns-clause-lines
returns-clause-lines c =
    let (none, at) = accepted c.args.text.now c.args.cell c.in_ok-c.c c.in_ok-river.river
    (sym c.in_ok-river.ensures.answer) c.in_ok-c.ensures.answer in
    cell_is c.args.text.now _ c.in_ok-c.c c.as_chunks.ensures.front (inside c.args.text.now c.args.cell c.in_ok-c.c none at)
    ∙ rw at (sym (lines_accepted c.args.text.now c.args.cell none))
