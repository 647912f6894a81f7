-- The organics of the array are those of the definition, in its order. No assumptions.
use Rattle.std.specs.Slice.Iter.{iter_rest}
use Rattle.std.proofs.Common.{◌≡◌, not, ap, rules}
use borrow.Author.Tests.{tests}
use Rattle.std.proofs.lemmas.Iterator.{YieldsList-from_slice}
use Rattle.std.proofs.lemmas.Iterator.Search.{all_from_yields_List}
use Rattle.numeric.specs.Check.{all_of}
use Rattle.stoichiometry.specs.Parameters.{adds_up, fractions_wrong, organic_list}
use Rattle.stoichiometry.proofs.Set.fractions_wrong.Goals as goal

pub returns : goal.returns
unfolding fractions_wrong all_of
returns c =
    let same : iter_rest c.iter.result ≡ organic_list c.args.self.fractions = search rules in
    let each = YieldsList-from_slice _ same in
    record { answer = ap not (all_from_yields_List adds_up _ _ _ c.all.ensures.ran each (λ x b q k. search (rules, tests))) }
