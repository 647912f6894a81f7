-- `write_whole` meets its contract: blanks, then all digits with the mark before them, where there is a column for it. No
-- assumptions.
use Rattle.std.proofs.Common.{rules, arith}
use Rattle.std.proofs.lemmas.Fmt.{length-decimal-le}
use Rattle.text.proofs.DigitLaws.{digits_marked, digits_whole}
use Rattle.text.proofs.writing.Figure.write_whole.Goals as goal

pub write_digits-start-requires : goal.write_digits-start-requires
write_digits-start-requires c = search (rules, length-decimal-le 20)

pub returns-then-start-gt0 : goal.returns-then-start-gt0
returns-then-start-gt0 c =
    let w = c.write_digits-start in
    digits_marked w.new.buf c.fill.new.self _ w.result c.args.self.mark c.args.self.n (search rules) (c.fill.ensures.after (λ y h. h))
    w.ensures.start w.ensures.written w.ensures.before c.if-start-gt0.true (omega arith)

pub returns-else-start-gt0 : goal.returns-else-start-gt0
returns-else-start-gt0 c =
    let w = c.write_digits-start in
    digits_whole w.new.buf c.fill.new.self _ w.result c.args.self.mark c.args.self.n (search rules) (c.fill.ensures.after (λ y h. h))
    w.ensures.start w.ensures.written w.ensures.before (omega arith)
