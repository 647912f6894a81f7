-- The loop's invariant: the first c rows are written. No assumptions.
use Rattle.std.proofs.Common.{◌≡◌}
use Rattle.text.specs.Blocks.{blocks}
use Rattle.text.specs.Writes.{put}
use Rattle.page.specs.Pages.{row_of}
use Rattle.page.proofs.writing.write_rows.Given as goal

abbrev pub invariant-loop-c : goal.invariant-loop-c
invariant-loop-c l = l.out ≡ put l.fn.out 0 (blocks l.c (row_of l.checked.river.now.amounts))
