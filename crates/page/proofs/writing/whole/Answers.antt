-- `whole` meets its contract: two pairs of columns. No assumptions.
use Rattle.page.proofs.FigureLaws.{whole_short, whole_long}
use Rattle.page.proofs.writing.whole.Goals as goal

pub returns-then-grams-lt100 : goal.returns-then-grams-lt100
returns-then-grams-lt100 c = rw c.justified.ensures (whole_short c.args.grams c.if-grams-lt100.true)

pub returns : goal.returns
returns c = rw (c.justified-2.ensures, c.pair.ensures) (whole_long c.args.grams c.if-grams-lt100.false)
