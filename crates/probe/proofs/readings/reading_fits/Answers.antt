-- The comparisons with 0 and with 256 are the definition's. No assumptions.
use Rattle.std.proofs.Common.{◌∙◌}
use lib.Ieee.{of_bits}
use Rattle.probe.proofs.ReadingLaws.{fits_from_zero, fits_below_zero}
use Rattle.probe.proofs.readings.reading_fits.Goals as goal

pub returns-then-x : goal.returns-then-x
unfolding of_bits
returns-then-x c = fits_from_zero c.args.x c.if-x.true

pub returns-else-x : goal.returns-else-x
unfolding of_bits
returns-else-x c = c.if-x.false ∙ fits_below_zero c.args.x c.if-x.false
