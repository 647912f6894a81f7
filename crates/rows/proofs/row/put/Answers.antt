-- `put` meets its contract: the row is stored from its place on, and its E. No assumptions.
use Rattle.std.proofs.Common.{◌≡◌, ◌∙◌, ◌*◌, arith, rules, pos, get_or, ap, to_z-of_z, List, ℤ}
use lib.ListN.{set}
use Rattle.numeric.specs.Table.{run}
use Rattle.numeric.proofs.Filling.{run_none, run_more}
use Rattle.numeric.proofs.Machine.{kept_is}
use Rattle.stoichiometry.specs.Substances.{substances}
use Rattle.rows.specs.Inner.Code.{row_list, line_of, row_stored}
use Rattle.rows.proofs.row.put.Goals as goal

pub loop-s-init : goal.loop-s-init
loop-s-init c = run_none _ _ _

pub loop-s-preserved : goal.loop-s-preserved
loop-s-preserved c = run_more _ _ c.loop-s.s _ _ _ c.loop-s.invariant (kept_is _ (search rules))

pub returns : goal.returns
unfolding row_stored
returns c =
    let a = c.args in
    let f = c.ranges in
    let line =
    c.row-line.ensures
    ∙ (λ t. row_list (line_of a.x (to_z-of_z f.dx t) a.y (to_z-of_z f.dy t) a.z (to_z-of_z f.dz t)) a.d) in
    let all : c.loop-s.s ≡ substances = omega (arith, c.loop-s-test.false, c.loop-s.auto.s-end) in
    record {
      entries_after =
          (rw all at c.loop-s.invariant)
          ∙ ap (λ (l : List ℤ). run a.entries.now (a.p * substances) substances (λ s. get_or l s (pos 0))) line;
      oxygen_after = λ i. set a.oxygen.now a.p (kept_is a.d.e (search rules) i);
    }
