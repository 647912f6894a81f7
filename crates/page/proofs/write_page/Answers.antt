-- `write_page` meets its contract: each return is one case of the checks in their order (proofs/Written.antt).
-- No assumptions.
use Rattle.std.proofs.Common.{ℕ, refl, sym, ap, ◌∙◌, arith}
use Rattle.std.proofs.lemmas.Result.{err_from_is_err_and}
use Rattle.stoichiometry.specs.Refusals.{answer_of}
use Rattle.river.proofs.CheckedLaws.{four_handed, four_passed}
use Rattle.page.proofs.Written.{river_refused, space_refused, page_accepted, output_stays, page_written}
use Rattle.page.proofs.write_page.Goals as goal

pub returns-in_err-checked : goal.returns-in_err-checked
returns-in_err-checked c =
    let (four, wrong) = four_handed c.args.river (err_from_is_err_and _ c.from_residual.ensures.1) c.in_err-checked.ensures.answer in
    record {
      answer = four ∙ ap (λ (n : ℕ). answer_of n tt) (sym (river_refused c.args.river _ wrong));
      output = rw four (sym (output_stays 4 _ _ refl));
    }

pub returns-then-output-river : goal.returns-then-output-river
returns-then-output-river c =
    let right = (four_passed c.args.river c.in_ok-checked.checked c.in_ok-checked.ensures.answer).0 in
    record {
      answer = ap (λ (n : ℕ). answer_of n tt) (sym (space_refused c.args.river _ right (omega (arith, c.if-output-river.true))));
      output = sym (output_stays 12 _ _ refl);
    }

pub write_rows-requires : goal.write_rows-requires
write_rows-requires c =
    let same = (four_passed c.args.river c.in_ok-checked.checked c.in_ok-checked.ensures.answer).1 in
    rw same (omega (arith, c.if-output-river.false))

pub returns : goal.returns
returns c =
    let passed = four_passed c.args.river c.in_ok-checked.checked c.in_ok-checked.ensures.answer in
    record {
      answer =
          ap (λ (n : ℕ). answer_of n tt) (sym (page_accepted c.args.river _ passed.0 (omega (arith, c.if-output-river.false))));
      output = c.write_rows.ensures ∙ rw passed.1 (sym (page_written c.args.river c.args.output.now));
    }
