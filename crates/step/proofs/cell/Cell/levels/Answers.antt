-- Every level is its amount, divided as the definition says, so it is in its range; by the 1 of an organic it stays what
-- it is. No assumptions.
use Rattle.std.proofs.Common.{◌∙◌, [], ◌∷◌, arith}
use native.Mathlib.Nat.{div-one}
use Rattle.stoichiometry.specs.Levels.{level_of}
use Rattle.step.proofs.ExtentBounds.{levels-fit}
use Rattle.step.proofs.cell.Cell.levels.Goals as goal

pub invariant_of-result : goal.invariant_of-result
unfolding level_of
invariant_of-result c = omega (arith, levels-fit c.args.self.now.amounts.now c.args.self.now.fits)

pub returns : goal.returns
unfolding level_of
returns c =
    λ i.
    (c.level.ensures ∙ div-one _) i ∷
    0 ∷
    c.level-2.ensures i ∷
    c.level-3.ensures i ∷
    c.level-4.ensures i ∷
    c.level-5.ensures i ∷
    c.level-6.ensures i ∷
    0 ∷
    0 ∷
    (c.level-7.ensures ∙ div-one _) i ∷
    (c.level-8.ensures ∙ div-one _) i ∷
    (c.level-9.ensures ∙ div-one _) i ∷
    (c.level-10.ensures ∙ div-one _) i ∷
    (c.level-11.ensures ∙ div-one _) i ∷
    0 ∷
    c.level-12.ensures i ∷
    0 ∷
    0 ∷
    []
