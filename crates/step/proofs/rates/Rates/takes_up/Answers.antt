-- The entry that is tested is the definition's. No assumptions.
use mir.Syntax.{w64}
use Rattle.std.proofs.Common.{◌+◌, ◌*◌, ap, arith}
use Rattle.std.proofs.lemmas.Int.{fits_signed_from_abs}
use lib.IntN.{pos}
use lib.ListN.{get_or}
use lib.Signed.{lt_z}
use mir.Facts.{to_z-of_z}
use Rattle.stoichiometry.specs.Substances.{substances}
use Rattle.step.specs.Inner.Rating.{takes_up}
use Rattle.step.proofs.rates.Rates.takes_up.Goals as goal

pub returns : goal.returns
unfolding takes_up
returns c =
    let a = c.args in
    let rates = a.self.now in
    let k = a.process * substances + a.substance in
    let fits = fits_signed_from_abs w64 (get_or rates.entries.now k (pos 0)) (omega (arith, rates.entries_fit.bounded.each k)) in
    ap (λ z. lt_z z (pos 0)) (to_z-of_z fits)
