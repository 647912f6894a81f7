-- `level_pairs` meets its contract: blanks, the whole grams, the point and the thousandths. No assumptions.
use Rattle.std.proofs.Common.{ℕ, List, ◌∷◌, sym, ap, ◌∙◌}
use Rattle.page.proofs.FigureLaws.{rest_figures}
use Rattle.page.proofs.LevelLaws.{grams_split}
use Rattle.page.proofs.writing.level_pairs.Goals as goal

pub returns : goal.returns
returns c =
    let level = c.args.level in
    rw (c.whole.ensures, c.pair.ensures)
    (ap (λ (l : List ℕ). 32 ∷ 32 ∷ l) (rest_figures level.micrograms) ∙ sym (grams_split level.micrograms level.most))
