-- `RangedSet::algae` meets its contract: 11 to 14, each with the organic changes that it is called with; each row is stored
-- after the one before. No assumptions.
use Rattle.std.proofs.Common.{◌*◌, ◌-◌, ◌≤◌, refl}
use native.Mathlib.Nat.{mul-le-mul, sub-le}
use Rattle.stoichiometry.specs.declared.Set.{Set}
use Rattle.stoichiometry.specs.Substances.{xalg, xs, xi}
use Rattle.stoichiometry.specs.Rows.{processes_of, process_at}
use Rattle.rows.specs.Inner.Code.{Ranged}
use Rattle.rows.proofs.RowEntries.{same_one, same_two, same_three}
use Rattle.rows.proofs.Storing.{amount-is, figure_is, none_stored, one_more}
use Rattle.rows.proofs.processes.RangedSet.algae.Goals as goal

-- What a death makes of XS and of XI.
made_le : (set : Set) → Ranged set → set.yields.death * (100 - set.inert.algae) ≤ 10000
made_le set g = mul-le-mul g.death (sub-le 100 set.inert.algae)

lost_le : (set : Set) → Ranged set → set.yields.death * set.inert.algae ≤ 10000
lost_le set g = mul-le-mul g.death g.algae

pub invariant_of-xalg : goal.invariant_of-xalg
invariant_of-xalg c = record { thousandths = c.args.self.now.ranged.fractions xalg }

pub invariant_of-xs : goal.invariant_of-xs
invariant_of-xs c = record { thousandths = c.args.self.now.ranged.fractions xs }

pub invariant_of-xi : goal.invariant_of-xi
invariant_of-xi c = record { thousandths = c.args.self.now.ranged.fractions xi }

pub returns : goal.returns
unfolding process_at processes_of
returns c =
    let set = c.args.self.now.set.now in
    let g = c.args.self.now.ranged in
    let s1 = one_more set 10 0 xalg xi xi (none_stored set 10 _ _) (same_one refl) refl c.others_of-d11.ensures (c.put.ensures.entries_after, c.put.ensures.oxygen_after) in
    let s2 = one_more set 10 1 xalg xi xi s1 (same_one refl) refl c.others_of-d12.ensures (c.put-2.ensures.entries_after, c.put-2.ensures.oxygen_after) in
    let s3 = one_more set 10 2 xalg xi xi s2 (same_two refl (figure_is g.algae)) refl c.others_of-d13.ensures (c.put-3.ensures.entries_after, c.put-3.ensures.oxygen_after) in
    let s4 =
    one_more set 10 3 xalg xs xi s3 (same_three refl (amount-is (made_le set g)) (amount-is (lost_le set g))) refl
    c.others_of-d14.ensures (c.put-4.ensures.entries_after, c.put-4.ensures.oxygen_after) in
    record { entries_after = s4.rows; oxygen_after = s4.oxygen }
