-- `write_line` meets its contract: what stands before the value, the value and the line feed (proofs/Written.antt).
-- No assumptions.
use Rattle.std.proofs.Common.{ap, ◌∙◌, refl, to_z-of_z}
use Rattle.text.specs.Decimals.{decimal}
use Rattle.record.specs.Inner.Stages.{labelled}
use Rattle.record.proofs.Written.{line_written}
use Rattle.record.proofs.writing.write_line.Goals as goal

pub returns : goal.returns
unfolding labelled
returns c =
    line_written c.args.line.now _ _ _ c.args.value c.requires refl c.copy_from_slice.ensures.after
    (c.write_value.ensures.columns ∙ ap (decimal _) (to_z-of_z c.ranges.value))
