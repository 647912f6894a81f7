-- The loop's invariant: the first i levels are written. No assumptions.
use Rattle.std.proofs.Common.{◌≡◌, map}
use Rattle.text.specs.Writes.{put}
use Rattle.page.specs.Inner.Stages.{levels_text}
use Rattle.page.proofs.writing.write_levels.Given as goal

abbrev pub invariant-loop-i : goal.invariant-loop-i
invariant-loop-i l = l.text ≡ put l.fn.text 0 (levels_text (map (λ level. level.micrograms) l.levels) l.i)
