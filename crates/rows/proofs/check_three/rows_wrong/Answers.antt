-- Check 3 meets its contract: the rows of 14 and 15 are cut out of the entries (proofs/CheckThree.antt). No assumptions.
use Rattle.std.proofs.Common.{rules}
use lib.Dec.{lit<}
use Rattle.rows.specs.Inner.Code.{wrong_of}
use Rattle.rows.proofs.CheckThree.{row_cut}
use Rattle.rows.proofs.check_three.rows_wrong.Goals as goal

pub returns : goal.returns
unfolding wrong_of
returns c =
    let cut = row_cut c.args.entries.now _ c.told-entries c.as_chunks.ensures.front in
    let fourteenth = cut 13 (lit< tt) in
    let fifteenth = cut 14 (lit< tt) in
    rw (← fourteenth, ← fifteenth) (search rules)
