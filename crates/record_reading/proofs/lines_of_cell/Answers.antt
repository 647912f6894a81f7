-- `lines_of_cell` meets its contract: the lines, or none where the cell is refused. No assumptions.
use Rattle.std.proofs.Common.{◌≡◌, ℕ, List, [], Bor, rules, sym, ap, ◌∙◌}
use Rattle.std.specs.Prelude.{Result, Ok, Err, IfOk}
use Rattle.std.specs.Result.{result_unwrap_or}
use Rattle.stoichiometry.specs.declared.refusals.Refusal.{Refusal}
use Rattle.stoichiometry.specs.Refusals.{number_of}
use Rattle.record_reading.specs.Reading.{cell_number, cell_lines}
use Rattle.record_reading.proofs.ReadAnswers.{lines_refused}
use Rattle.record_reading.proofs.lines_of_cell.Goals as goal

lines_or_none : (t : List ℕ) (cell : ℕ) (r : Result (Bor (List ℕ)) Refusal) (none : Bor (List ℕ))
    → none.now ≡ [] → number_of r ≡ cell_number t cell → IfOk r (λ part. part.now ≡ cell_lines t cell)
    → (result_unwrap_or r none).now ≡ cell_lines t cell
lines_or_none t cell (Ok part) none e number lines = lines
lines_or_none t cell (Err refusal) none e number lines = e ∙ sym (lines_refused t cell refusal number)

pub returns : goal.returns
returns c =
    let told = c.part_of.ensures in
    record {
      answer =
          ap (λ (b : Bor (List ℕ)). b.now) c.unwrap_or.ensures
          ∙ lines_or_none c.args.text.now c.args.cell _ _ (search rules) told.number told.lines;
    }
