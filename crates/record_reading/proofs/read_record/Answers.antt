-- `read_record` meets its contract: each return is one case of what a record is (proofs/ReadAnswers.antt). No
-- assumptions.
use Rattle.std.proofs.Common.{true, false, sym, ap, ◌∙◌}
use Rattle.std.specs.Prelude.{is_some}
use Rattle.std.proofs.lemmas.Result.{err_from_is_err_and}
use Rattle.river.proofs.Rivers.{wrong_tested}
use Rattle.record_reading.specs.Reading.{river_in, is_record}
use Rattle.record_reading.proofs.ReadAnswers.{answer-accepted, read_refused, size_known, cells_counted, cells_uncounted}
use Rattle.record_reading.proofs.read_record.Goals as goal

pub returns-in_err-ok_or : goal.returns-in_err-ok_or
unfolding is_record
returns-in_err-ok_or c =
    let none = c.in_err-ok_or.ensures.ok_part in
    let refusal = rw none at c.in_err-ok_or.ensures.value in
    let refused = err_from_is_err_and c.from_residual.result c.from_residual.ensures.1 in
    let wrong = cells_uncounted c.args.text.now (sym c.cells_of.ensures ∙ none) in
    record { answer = cc (refusal, refused.1, refused.2, read_refused c.args.text.now (rw wrong)) }

pub read_cells-requires : goal.read_cells-requires
read_cells-requires c =
    let counted = cells_counted c.args.text.now _ (sym c.cells_of.ensures ∙ c.in_ok-ok_or.ensures.ok_part) in
    (size_known c.args.text.now counted.0).0

-- Some line has no value.
pub returns-in_err-ok_or-2 : goal.returns-in_err-ok_or-2
unfolding is_record
returns-in_err-ok_or-2 c =
    let t = c.args.text.now in
    let counted = cells_counted t _ (sym c.cells_of.ensures ∙ c.in_ok-ok_or.ensures.ok_part) in
    let none = c.in_err-ok_or-2.ensures.ok_part in
    let refusal = rw none at c.in_err-ok_or-2.ensures.value in
    let refused = err_from_is_err_and c.from_residual-in_err-ok_or-2.result c.from_residual-in_err-ok_or-2.ensures.1 in
    let wrong = sym c.read_cells.ensures.value ∙ ap is_some none in
    record { answer = cc (refusal, refused.1, refused.2, read_refused t (rw (counted.0, wrong))) }

pub returns-then-not-fits : goal.returns-then-not-fits
unfolding is_record river_in
returns-then-not-fits c =
    let t = c.args.text.now in
    let counted = cells_counted t _ (sym c.cells_of.ensures ∙ c.in_ok-ok_or.ensures.ok_part) in
    let some = c.in_ok-ok_or-2.ensures.ok_part in
    let cells = rw some at c.read_cells.ensures.cells_kept in
    let amounts = rw some at c.read_cells.ensures.amounts_after in
    let carries = rw some at c.read_cells.ensures.carries_after in
    let lines = sym c.read_cells.ensures.value ∙ ap is_some some in
    let tested = wrong_tested _ false c.if-not-fits.ensures.answer in
    let wrong = rw (cells, counted.1, amounts, carries) at tested in
    record { answer = sym (read_refused t (rw (counted.0, lines, wrong))) }

pub returns : goal.returns
unfolding is_record river_in
returns c =
    let t = c.args.text.now in
    let counted = cells_counted t _ (sym c.cells_of.ensures ∙ c.in_ok-ok_or.ensures.ok_part) in
    let some = c.in_ok-ok_or-2.ensures.ok_part in
    let cells = rw some at c.read_cells.ensures.cells_kept in
    let amounts = rw some at c.read_cells.ensures.amounts_after in
    let carries = rw some at c.read_cells.ensures.carries_after in
    let lines = sym c.read_cells.ensures.value ∙ ap is_some some in
    let tested = wrong_tested _ true c.if-not-fits.ensures.answer in
    let right = rw (cells, counted.1, amounts, carries) at tested in
    record { answer = rw (cells, counted.1, amounts, carries) (sym (answer-accepted t (rw (counted.0, lines, right)))) }
