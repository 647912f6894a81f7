-- `write_record` meets its contract: each return is one case of the checks in their order; the output is the record
-- of the cells, and the work area its copy (proofs/Written.antt). No assumptions.
use Rattle.std.proofs.Common.{arith, ◌≡◌, ◌*◌, ◌≤◌, ℕ, refl, sym, ap, ◌∙◌, length}
use Rattle.std.proofs.lemmas.Result.{err_from_is_err_and}
use Rattle.stoichiometry.specs.Refusals.{answer_of}
use Rattle.river.proofs.CheckedLaws.{four_handed, four_passed}
use Rattle.record.specs.Lines.{cell_bytes, record_of}
use Rattle.record.specs.Writing.{write_number}
use Rattle.record.proofs.Written.{river_refused, space_refused, write_accepted, output_stays, work_stays}
use Rattle.record.proofs.Written.{output_written, work_written}
use Rattle.record.proofs.write_record.Goals as goal

pub returns-in_err-checked : goal.returns-in_err-checked
returns-in_err-checked c =
    let (four, wrong) = four_handed c.args.river (err_from_is_err_and _ c.from_residual.ensures.1) c.in_err-checked.ensures.answer in
    record {
      answer = four ∙ ap (λ (n : ℕ). answer_of n tt) (sym (river_refused c.args.river _ _ wrong));
      output = rw four (sym (output_stays 4 _ _ refl));
      work = rw four (sym (work_stays 4 _ _ refl));
    }

pub returns-then-min-bytes : goal.returns-then-min-bytes
returns-then-min-bytes c =
    let right = (four_passed c.args.river c.in_ok-checked.checked c.in_ok-checked.ensures.answer).0 in
    let ten : write_number c.args.river (length c.args.output.now) (length c.args.work.now) ≡ 10 =
    space_refused _ _ _ right (λ h. omega (arith, c.min.ensures, c.if-min-bytes.true)) in
    record {
      answer = ap (λ (n : ℕ). answer_of n tt) (sym ten);
      output = sym (output_stays 10 _ _ refl);
      work = sym (work_stays 10 _ _ refl);
    }

pub write_cells-requires : goal.write_cells-requires
write_cells-requires c =
    let same = (four_passed c.args.river c.in_ok-checked.checked c.in_ok-checked.ensures.answer).1 in
    rw same (omega (arith, c.min.ensures, c.if-min-bytes.false))

pub returns : goal.returns
unfolding record_of
returns c =
    let r = c.args.river in
    let passed = four_passed r c.in_ok-checked.checked c.in_ok-checked.ensures.answer in
    let room : r.cells * cell_bytes ≤ length c.args.output.now = omega (arith, c.min.ensures, c.if-min-bytes.false) in
    let space : r.cells * cell_bytes ≤ length c.args.work.now = omega (arith, c.min.ensures, c.if-min-bytes.false) in
    let written = rw passed.1 at c.write_cells.ensures in
    record {
      answer = ap (λ (n : ℕ). answer_of n tt) (sym (write_accepted r _ _ passed.0 room space));
      output = written ∙ sym (output_written r c.args.output.now);
      work = work_written r _ _ c.args.work.now _ written c.copy_from_slice.ensures.after;
    }
