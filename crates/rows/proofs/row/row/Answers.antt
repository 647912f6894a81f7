-- `row` meets its contract: each entry is a change at its place or a field of d. No assumptions.
use Rattle.std.proofs.Common.{[], ◌∷◌, ◌∙◌, rules}
use mir.Facts.{to_z-of_z}
use Rattle.numeric.proofs.Machine.{kept_is, result_is}
use Rattle.rows.specs.Inner.Code.{line_of, row_list}
use Rattle.rows.proofs.row.row.Goals as goal

pub returns : goal.returns
unfolding row_list
returns c =
    let a = c.args in
    let d = a.d in
    let f = c.ranges in
    (λ t.
    (result_is _ c.change_of.ensures c.change_of.type_inv t)
    ∷ (result_is _ c.change_of-2.ensures c.change_of-2.type_inv t)
    ∷ (kept_is d.nh4 (search rules) t)
    ∷ (kept_is d.no2 (search rules) t)
    ∷ (kept_is d.no3 (search rules) t)
    ∷ (kept_is d.hpo4 (search rules) t)
    ∷ (kept_is d.o2 (search rules) t)
    ∷ (kept_is d.hco3 (search rules) t)
    ∷ (kept_is d.h (search rules) t)
    ∷ (result_is _ c.change_of-3.ensures c.change_of-3.type_inv t)
    ∷ (result_is _ c.change_of-4.ensures c.change_of-4.type_inv t)
    ∷ (result_is _ c.change_of-5.ensures c.change_of-5.type_inv t)
    ∷ (result_is _ c.change_of-6.ensures c.change_of-6.type_inv t)
    ∷ (result_is _ c.change_of-7.ensures c.change_of-7.type_inv t)
    ∷ (result_is _ c.change_of-8.ensures c.change_of-8.type_inv t)
    ∷ (kept_is d.xp (search rules) t)
    ∷ (kept_is d.h2o (search rules) t)
    ∷ (kept_is d.n2 (search rules) t)
    ∷ [])
    ∙ (λ t. row_list (line_of a.x (to_z-of_z f.dx t) a.y (to_z-of_z f.dy t) a.z (to_z-of_z f.dz t)) d)
