-- `write_row` meets its contract: the stores, the levels and the line feed (proofs/Written.antt). No assumptions.
use Rattle.std.proofs.Common.{rules}
use Rattle.std.proofs.lemmas.List.{length-map}
use Rattle.page.proofs.Written.{row_written}
use Rattle.page.proofs.writing.write_row.Goals as goal

pub returns : goal.returns
returns c =
    row_written c.args.text.now _ c.args.cell c.args.letter _ c.requires.0 c.requires.1
    (rw length-map (search rules))
    c.write_levels.ensures
