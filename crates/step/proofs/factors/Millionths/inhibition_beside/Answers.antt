-- The factor that is known and the inhibition add up as `share-sum` says. No assumptions.
use Rattle.std.proofs.Common.{ap, arith}
use borrow.Author.Tests.{eq-eqb, ne_eqb}
use Rattle.step.proofs.RatingLaws.{inhibition_sum}
use Rattle.step.proofs.factors.Millionths.inhibition_beside.Goals as goal
use Rattle.step.proofs.factors.Millionths.inhibition_beside.Goals.{then-self-level, else-self-level}

pub overflow_sub-result-else-self-level : goal.overflow_sub-result-else-self-level
overflow_sub-result-else-self-level c =
    let a = c.args in
    omega (
      arith,
      rw (ne_eqb _ _ c.if-self-level.false) at (inhibition_sum a.level a.half a.self.value c.requires.1 c.requires.2),
    )

pub returns : goal.returns
returns c =
    let a = c.args in
    let sum = inhibition_sum a.level a.half a.self.value c.requires.1 c.requires.2 in
    elim c.if-self-level.branch [
      | then-self-level w ↦ omega (arith, ap (λ x. x.0) w.result-is, rw (eq-eqb _ _ w.if-self-level.true) at sum)
      | else-self-level w ↦ omega (arith, ap (λ x. x.0) w.result-is, rw (ne_eqb _ _ w.if-self-level.false) at sum)
    ]
