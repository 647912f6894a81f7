-- `blanks` meets its contract: the first byte that is no blank, or blanks alone. No assumptions.
use mathlib.Core.Bool.{not}
use lib.Dec.{eqb}
use borrow.Author.Tests.{tests}
use Rattle.std.proofs.Common.{rules}
use Rattle.std.proofs.lemmas.Iterator.{YieldsList-from_slice}
use Rattle.std.proofs.lemmas.Iterator.Search.{position_from_yields_List}
use Rattle.text_reading.proofs.ReadingLoop.{leading_blanks}
use Rattle.text_reading.proofs.reading.blanks.Goals as goal

pub returns : goal.returns
returns c =
    let t = c.args.columns.now in
    let found =
    position_from_yields_List (λ b. not (eqb b 32)) _ _ c.position.result c.position.ensures.ran
    (YieldsList-from_slice t (search rules)) (λ x b q k. search (rules, tests)) in
    rw (c.unwrap_or.ensures, found) (leading_blanks t)
