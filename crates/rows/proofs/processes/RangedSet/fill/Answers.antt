-- `RangedSet::fill` meets its contract: the rows of each group are stored after those of the one before. No assumptions.
use Rattle.std.proofs.Common.{◌-◌, ◌∙◌, rules}
use Rattle.stoichiometry.specs.Rows.{processes}
use Rattle.rows.proofs.Storing.{Stored, then_stored, all_rows, all_oxygen}
use Rattle.rows.proofs.processes.RangedSet.fill.Goals as goal

pub returns : goal.returns
returns c =
    let set = c.args.self.now.set.now in
    let h = c.heterotrophs.ensures in
    let n = c.nitrifiers.ensures in
    let g = c.algae.ensures in
    let r = c.rest.ensures in
    let six : Stored set 0 6 _ _ _ _ = record { rows = h.entries_after; oxygen = h.oxygen_after } in
    let ten = then_stored set 0 6 4 six (record { rows = n.entries_after; oxygen = n.oxygen_after }) in
    let fourteen = then_stored set 0 10 4 ten (record { rows = g.entries_after; oxygen = g.oxygen_after }) in
    let all = then_stored set 0 14 (processes - 14) fourteen (record { rows = r.entries_after; oxygen = r.oxygen_after }) in
    record {
      entries_after = all.rows ∙ all_rows set _ (search rules);
      oxygen_after = all.oxygen ∙ all_oxygen set _ (search rules);
    }
