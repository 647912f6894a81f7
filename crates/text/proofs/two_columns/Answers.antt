-- `two_columns` meets its contract: the digits of the last two over blanks or zeros. No assumptions.
use Rattle.std.proofs.Common.{rules, arith}
use Rattle.std.proofs.lemmas.Fmt.{length-decimal-le}
use Rattle.text.proofs.DigitLaws.{two_below_ten, two_from_ten}
use Rattle.text.proofs.two_columns.Goals as goal
use Rattle.text.proofs.two_columns.Goals.{then-n-lt10, else-n-lt10}

pub write_digits-requires : goal.write_digits-requires
write_digits-requires c = search (rules, length-decimal-le 2)

pub returns : goal.returns
returns c =
    let w = c.write_digits in
    elim c.if-n-lt10.branch [
      | then-n-lt10 b ↦
          record {
            columns =
                two_below_ten _ w.result c.args.n c.from.result c.if-n-lt10.columns (omega arith) w.ensures.start
                w.ensures.written w.ensures.before b.if-n-lt10.true b.columns-is;
          }
      | else-n-lt10 b ↦
          record {
            columns =
                two_from_ten _ w.result c.args.n c.from.result c.if-n-lt10.columns (omega arith) w.ensures.start
                w.ensures.written w.ensures.before b.if-n-lt10.false b.columns-is;
          }
    ]
