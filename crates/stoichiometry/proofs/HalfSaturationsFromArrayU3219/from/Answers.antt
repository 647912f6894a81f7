use Rattle.std.proofs.Common.{rules, sym}
use Rattle.numeric.specs.Table.{tab}
use Rattle.numeric.proofs.TableLaws.{tab_of_list}
use Rattle.stoichiometry.proofs.HalfSaturationsFromArrayU3219.from.Goals as goal

pub returns : goal.returns
unfolding tab
returns c = sym (tab_of_list 19 0 c.args.list (search rules))
