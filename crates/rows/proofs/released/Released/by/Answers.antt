-- `Released::by` meets its contract: each field is what `released_part` ensures. No assumptions.
use Rattle.std.proofs.Common.{◌≡◌, ◌∙◌, to_z-of_z}
use Rattle.numeric.proofs.Machine.{kept, result_is}
use Rattle.stoichiometry.specs.Rows.{Released}
use Rattle.rows.specs.Inner.Code.{released_by}
use Rattle.rows.proofs.RowArithmetic.{released_in}
use Rattle.rows.proofs.released.Released.by.Goals as goal
use Rattle.rows.proofs.released.Released.by.Goals.{After-released_part-5}

made : (c : After-released_part-5) →
    let fields : Released =
    record {
      c = kept c.released_part.result;
      h = kept c.released_part-2.result;
      o = kept c.released_part-3.result;
      n = kept c.released_part-4.result;
      p = kept c.released_part-5.result;
    } in
    fields ≡ released_by c.args.x c.args.a.of c.args.y c.args.b.of c.args.z c.args.c.of
unfolding released_by
made c =
    let a = c.args in
    let f = c.ranges in
    (λ t.
    record {
      c = result_is _ c.released_part.ensures c.released_part.type_inv t;
      h = result_is _ c.released_part-2.ensures c.released_part-2.type_inv t;
      o = result_is _ c.released_part-3.ensures c.released_part-3.type_inv t;
      n = result_is _ c.released_part-4.ensures c.released_part-4.type_inv t;
      p = result_is _ c.released_part-5.ensures c.released_part-5.type_inv t;
    })
    ∙ (λ t. released_by (to_z-of_z f.x t) a.a.of (to_z-of_z f.y t) a.b.of (to_z-of_z f.z t) a.c.of)

pub invariant_of-result : goal.invariant_of-result
invariant_of-result c =
    let a = c.args in
    let f = c.ranges in
    record { small = rw (made c) (released_in f.x f.y f.z a.a.thousandths a.b.thousandths a.c.thousandths) }

pub returns : goal.returns
returns c = made (search)
