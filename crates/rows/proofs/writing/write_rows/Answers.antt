-- `write_rows` meets its contract: each test is a check of the definition; the first that holds gives the refusal, and
-- where none does the rows are those that were made. No assumptions.
use Rattle.std.proofs.Common.{◌≡◌, ◌∙◌, sym, false}
use Rattle.stoichiometry.specs.Parameters.{fractions_wrong, figures_wrong}
use Rattle.stoichiometry.specs.Sets.{rows_wrong}
use Rattle.stoichiometry.proofs.SetNumber.{number-one, number_two, number_three, number_zero}
use Rattle.rows.proofs.AnswerLaws.{written_refused, written_accepted}
use Rattle.rows.proofs.CheckThree.{wrong_of_made}
use Rattle.rows.proofs.Ranges.{ranged}
use Rattle.rows.proofs.writing.write_rows.Goals as goal
use Rattle.rows.proofs.writing.write_rows.Goals.{Else-figures_wrong, After-rows_wrong}

-- Refused by 1: the fractions of some organic do not add up.
pub returns-then-fractions_wrong : goal.returns-then-fractions_wrong
returns-then-fractions_wrong c =
    let wrong = sym c.fractions_wrong.ensures.answer ∙ c.if-fractions_wrong.true in
    let (answered, left) = written_refused c.args.set.now 0 (number-one c.args.set.now wrong) in
    let refused = c.refused.ensures in
    record { answer = refused.answer ∙ sym answered; entries_after = refused.entries_after ∙ sym left }

-- By 2: some figure is outside its range.
pub returns-then-figures_wrong : goal.returns-then-figures_wrong
returns-then-figures_wrong c =
    let right = sym c.fractions_wrong.ensures.answer ∙ c.if-fractions_wrong.false in
    let wrong = sym c.figures_wrong.ensures.answer ∙ c.if-figures_wrong.true in
    let (answered, left) = written_refused c.args.set.now 1 (number_two c.args.set.now right wrong) in
    let refused = c.refused-then-figures_wrong.ensures in
    record { answer = refused.answer ∙ sym answered; entries_after = refused.entries_after ∙ sym left }

-- The set passed checks 1 and 2.
passed : (c : Else-figures_wrong) → (fractions_wrong c.args.set.now ≡ false) × (figures_wrong c.args.set.now ≡ false)
passed c =
    let right = sym c.fractions_wrong.ensures.answer ∙ c.if-fractions_wrong.false in
    let in_range = sym c.figures_wrong.ensures.answer ∙ c.if-figures_wrong.false in
    (right, in_range)

pub invariant_of-ranged : goal.invariant_of-ranged
invariant_of-ranged c = let p = passed (search) in record { ranged = ranged c.args.set.now p.0 p.1 }

-- Check 3 is asked of the rows that were made.
tested : (c : After-rows_wrong) → c.rows_wrong.result ≡ rows_wrong c.args.set.now
tested c = c.rows_wrong.ensures ∙ wrong_of_made c.args.set.now c.fill.ensures.entries_after c.fill.ensures.oxygen_after

-- By 3: some process has not what is asked of it.
pub returns-then-rows_wrong : goal.returns-then-rows_wrong
returns-then-rows_wrong c =
    let p = passed (search) in
    let wrong = sym (tested (search)) ∙ c.if-rows_wrong.true in
    let (answered, left) = written_refused c.args.set.now 2 (number_three c.args.set.now p.0 p.1 wrong) in
    let refused = c.refused-then-rows_wrong.ensures in
    record { answer = refused.answer ∙ sym answered; entries_after = refused.entries_after ∙ sym left }

-- Accepted.
pub returns : goal.returns
returns c =
    let p = passed (search) in
    let right = sym (tested (search)) ∙ c.if-rows_wrong.false in
    let (answered, written) = written_accepted c.args.set.now (number_zero c.args.set.now p.0 p.1 right) in
    record { answer = sym answered; entries_after = c.fill.ensures.entries_after ∙ sym written }
