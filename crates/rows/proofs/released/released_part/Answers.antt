-- `released_part` meets its contract: each step of the sum fits. The changes and the fractions are v 0 to v 5, a change
-- before its fraction. No assumptions.
use Rattle.std.proofs.Common.{◌∙◌}
use Rattle.numeric.proofs.Expression.{v, ◌⊕◌, ◌⊗◌}
use Rattle.numeric.proofs.Machine.{asked, ran}
use Rattle.rows.specs.Inner.Code.{released_part}
use Rattle.rows.proofs.RowArithmetic.{three_bounded, three_is, three_released}
use Rattle.rows.proofs.released.released_part.Goals as goal

pub overflow_add-result : goal.overflow_add-result
overflow_add-result c =
    let f = c.ranges in
    asked (three_bounded f.x f.y f.z c.requires.0 c.requires.1 c.requires.2) (v 0 ⊗ v 1 ⊕ v 2 ⊗ v 3) tt

pub overflow_mul-result-3 : goal.overflow_mul-result-3
overflow_mul-result-3 c =
    let f = c.ranges in
    asked (three_bounded f.x f.y f.z c.requires.0 c.requires.1 c.requires.2) (v 4 ⊗ v 5) tt

pub overflow_add-result-2 : goal.overflow_add-result-2
overflow_add-result-2 c =
    let f = c.ranges in
    asked (three_bounded f.x f.y f.z c.requires.0 c.requires.1 c.requires.2) (v 0 ⊗ v 1 ⊕ v 2 ⊗ v 3 ⊕ v 4 ⊗ v 5) tt

pub overflow_sub-result : goal.overflow_sub-result
overflow_sub-result c =
    let f = c.ranges in
    asked (three_bounded f.x f.y f.z c.requires.0 c.requires.1 c.requires.2) three_released tt

pub returns : goal.returns
unfolding released_part
returns c =
    let a = c.args in
    let f = c.ranges in
    ran (three_bounded f.x f.y f.z c.requires.0 c.requires.1 c.requires.2) three_released tt
    ∙ three_is f.x f.y f.z a.a a.b a.c
