-- `RangedSet::rest` meets its contract: 15 to 17, each with the organic changes that it is called with; each row is stored
-- after the one before. No assumptions.
use Rattle.std.proofs.Common.{refl}
use Rattle.stoichiometry.specs.Substances.{ss, xs, xi}
use Rattle.stoichiometry.specs.Rows.{processes_of, process_at}
use Rattle.rows.proofs.RowEntries.{same_none, same_two}
use Rattle.rows.proofs.Storing.{figure_is, none_stored, one_more}
use Rattle.rows.proofs.processes.RangedSet.rest.Goals as goal

pub invariant_of-xs : goal.invariant_of-xs
invariant_of-xs c = record { thousandths = c.args.self.now.ranged.fractions xs }

pub invariant_of-ss : goal.invariant_of-ss
invariant_of-ss c = record { thousandths = c.args.self.now.ranged.fractions ss }

pub invariant_of-xi : goal.invariant_of-xi
invariant_of-xi c = record { thousandths = c.args.self.now.ranged.fractions xi }

pub returns : goal.returns
unfolding process_at processes_of
returns c =
    let set = c.args.self.now.set.now in
    let s1 =
    one_more set 14 0 xs ss xi (none_stored set 14 _ _) (same_two refl (figure_is c.args.self.now.ranged.hydrolysis)) refl
    c.others_of-d15.ensures (c.put.ensures.entries_after, c.put.ensures.oxygen_after) in
    let s2 = one_more set 14 1 xi xi xi s1 same_none refl c.others_of-d16.ensures (c.put-2.ensures.entries_after, c.put-2.ensures.oxygen_after) in
    let s3 = one_more set 14 2 xi xi xi s2 same_none refl c.others_of-d17.ensures (c.put-3.ensures.entries_after, c.put-3.ensures.oxygen_after) in
    record { entries_after = s3.rows; oxygen_after = s3.oxygen }
