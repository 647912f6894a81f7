-- `RangedSet::nitrifiers` meets its contract: 7 to 10, each with the organic changes that it is called with; each row is
-- stored after the one before. No assumptions.
use Rattle.std.proofs.Common.{◌≤◌, refl, arith, nat_abs}
use Rattle.numeric.proofs.Machine.{kept, kept_is, result_is}
use Rattle.stoichiometry.specs.declared.Further.TheVariants.{Nh4ToNo2, No2ToNo3}
use Rattle.stoichiometry.specs.Substances.{xn1, xn2, xi}
use Rattle.stoichiometry.specs.Rows.{processes_of, process_at}
use Rattle.rows.proofs.RowEntries.{same_one, same_two}
use Rattle.rows.proofs.Storing.{figure_is, none_stored, one_more}
use Rattle.rows.proofs.processes.RangedSet.nitrifiers.Goals as goal

pub invariant_of-xn1 : goal.invariant_of-xn1
invariant_of-xn1 c = record { thousandths = c.args.self.now.ranged.fractions xn1 }

pub invariant_of-xn2 : goal.invariant_of-xn2
invariant_of-xn2 c = record { thousandths = c.args.self.now.ranged.fractions xn2 }

pub invariant_of-xi : goal.invariant_of-xi
invariant_of-xi c = record { thousandths = c.args.self.now.ranged.fractions xi }

pub others_of-d7-requires : goal.others_of-d7-requires
others_of-d7-requires c =
    let k7 = c.excess_of in
    let small : nat_abs (kept k7.result) ≤ 100000 = rw (kept_is _ k7.type_inv) k7.ensures.result_bound in
    omega arith

pub others_of-d9-requires : goal.others_of-d9-requires
others_of-d9-requires c =
    let k9 = c.excess_of-2 in
    let small : nat_abs (kept k9.result) ≤ 100000 = rw (kept_is _ k9.type_inv) k9.ensures.result_bound in
    omega arith

pub returns : goal.returns
unfolding process_at processes_of
returns c =
    let set = c.args.self.now.set.now in
    let g = c.args.self.now.ranged in
    let k7 = c.excess_of in
    let k9 = c.excess_of-2 in
    let s1 =
    one_more set 6 0 xn1 xi xi (none_stored set 6 _ _) (same_one (figure_is g.xn1))
    (λ i. Nh4ToNo2 (result_is _ k7.ensures.value k7.type_inv i)) c.others_of-d7.ensures (c.put.ensures.entries_after, c.put.ensures.oxygen_after) in
    let s2 = one_more set 6 1 xn1 xi xi s1 (same_two refl (figure_is g.bacteria)) refl c.others_of-d8.ensures (c.put-2.ensures.entries_after, c.put-2.ensures.oxygen_after) in
    let s3 =
    one_more set 6 2 xn2 xi xi s2 (same_one (figure_is g.xn2))
    (λ i. No2ToNo3 (result_is _ k9.ensures.value k9.type_inv i)) c.others_of-d9.ensures (c.put-3.ensures.entries_after, c.put-3.ensures.oxygen_after) in
    let s4 = one_more set 6 3 xn2 xi xi s3 (same_two refl (figure_is g.bacteria)) refl c.others_of-d10.ensures (c.put-4.ensures.entries_after, c.put-4.ensures.oxygen_after) in
    record { entries_after = s4.rows; oxygen_after = s4.oxygen }
