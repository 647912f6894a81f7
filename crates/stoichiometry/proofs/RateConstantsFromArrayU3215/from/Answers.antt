use Rattle.std.proofs.Common.{rules, sym}
use Rattle.numeric.specs.Table.{tab}
use Rattle.numeric.proofs.TableLaws.{tab_of_list}
use Rattle.stoichiometry.proofs.RateConstantsFromArrayU3215.from.Goals as goal

pub returns : goal.returns
unfolding tab
returns c =
    rw (c.new.ensures.answer, c.new-2.ensures.answer, c.new-3.ensures.answer, c.new-4.ensures.answer)
    (sym (tab_of_list 15 0 c.args.list (search rules)))
