-- `RangedSet::heterotrophs` meets its contract: 1 to 6, each with the organic changes that it is called with; each row is
-- stored after the one before. No assumptions.
use Rattle.std.proofs.Common.{refl}
use Rattle.stoichiometry.specs.Substances.{ss, xh, xi}
use Rattle.stoichiometry.specs.Rows.{processes_of, process_at}
use Rattle.rows.proofs.RowEntries.{same_two}
use Rattle.rows.proofs.Storing.{figure_is, none_stored, one_more}
use Rattle.rows.proofs.processes.RangedSet.heterotrophs.Goals as goal

pub invariant_of-xh : goal.invariant_of-xh
invariant_of-xh c = record { thousandths = c.args.self.now.ranged.fractions xh }

pub invariant_of-ss : goal.invariant_of-ss
invariant_of-ss c = record { thousandths = c.args.self.now.ranged.fractions ss }

pub invariant_of-xi : goal.invariant_of-xi
invariant_of-xi c = record { thousandths = c.args.self.now.ranged.fractions xi }

pub returns : goal.returns
unfolding process_at processes_of
returns c =
    let set = c.args.self.now.set.now in
    let g = c.args.self.now.ranged in
    let s1 =
    one_more set 0 0 xh ss xi (none_stored set 0 _ _) (same_two (figure_is g.aerobic) refl) refl c.others_of-d1.ensures (c.put.ensures.entries_after, c.put.ensures.oxygen_after) in
    let s2 = one_more set 0 1 xh ss xi s1 (same_two (figure_is g.aerobic) refl) refl c.others_of-d2.ensures (c.put-2.ensures.entries_after, c.put-2.ensures.oxygen_after) in
    let s3 = one_more set 0 2 xh xi xi s2 (same_two refl (figure_is g.bacteria)) refl c.others_of-d3.ensures (c.put-3.ensures.entries_after, c.put-3.ensures.oxygen_after) in
    let s4 = one_more set 0 3 xh ss xi s3 (same_two (figure_is g.nitrate) refl) refl c.others_of-d4.ensures (c.put-4.ensures.entries_after, c.put-4.ensures.oxygen_after) in
    let s5 = one_more set 0 4 xh ss xi s4 (same_two (figure_is g.nitrite) refl) refl c.others_of-d5.ensures (c.put-5.ensures.entries_after, c.put-5.ensures.oxygen_after) in
    let s6 = one_more set 0 5 xh xi xi s5 (same_two refl (figure_is g.bacteria)) refl c.others_of-d6.ensures (c.put-6.ensures.entries_after, c.put-6.ensures.oxygen_after) in
    record { entries_after = s6.rows; oxygen_after = s6.oxygen }
