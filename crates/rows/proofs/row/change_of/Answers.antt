-- `change_of` meets its contract: the sum of three changes of 32 bits fits. No assumptions.
use Rattle.std.proofs.Common.{[], ◌∷◌, ◌∙◌, ◌+ℤ◌}
use mir.Facts.{to_z-of_z}
use Rattle.numeric.proofs.Expression.{v, ◌⊕◌}
use Rattle.numeric.proofs.Fitting.{Bounded, all, ◌&◌}
use Rattle.numeric.proofs.Machine.{asked, ran}
use Rattle.rows.specs.Inner.Code.{line_of}
use Rattle.rows.proofs.RowArithmetic.{at_bound}
use Rattle.rows.proofs.row.change_of.Goals as goal

known : (c : goal.After-at-3)
    → Bounded (c.at.result ∷ c.at-2.result ∷ c.at-3.result ∷ []) (2147483648 ∷ 2147483648 ∷ 2147483648 ∷ [])
known c =
    let a = c.args in
    at_bound a.x a.s c.ranges.dx c.at.ensures & at_bound a.y a.s c.ranges.dy c.at-2.ensures
    & at_bound a.z a.s c.ranges.dz c.at-3.ensures & all

pub overflow_add-result-2 : goal.overflow_add-result-2
overflow_add-result-2 c = asked (known c) (v 0 ⊕ (v 1 ⊕ v 2)) tt

pub returns : goal.returns
unfolding line_of
returns c =
    let a = c.args in
    let f = c.ranges in
    ran (known c) (v 0 ⊕ (v 1 ⊕ v 2)) tt
    ∙ (λ i. c.at.ensures i +ℤ (c.at-2.ensures i +ℤ c.at-3.ensures i))
    ∙ (λ i. line_of a.x (to_z-of_z f.dx i) a.y (to_z-of_z f.dy i) a.z (to_z-of_z f.dz i) a.s)
