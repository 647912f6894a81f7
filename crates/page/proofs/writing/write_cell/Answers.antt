-- `write_cell` meets its contract: the levels of the cell, the letter by two of them, and its row. No assumptions.
use Rattle.std.proofs.Common.{◌≡◌, ◌+◌, ◌<◌, ℕ, List, sym, ap, ap₂, ◌∙◌, length, get_or, rules}
use Rattle.std.proofs.lemmas.List.{get_or-map}
use Rattle.river.specs.Cells.{byte, letter_by, letter_of}
use Rattle.page.specs.Pages.{row, levels_at}
use Rattle.page.specs.declared.writing.Level.{Level}
use Rattle.page.proofs.writing.write_cell.Goals as goal

pub returns : goal.returns
unfolding levels_at letter_of
returns c =
    let cell = c.args.cell.now.amounts.now in
    let levels = c.levels-levels.result in
    let levels_are = c.levels-levels.ensures in
    let level_is : (i : ℕ) (d : Level) → i < length levels
    → (get_or levels i d).micrograms ≡ get_or (levels_at cell 0) i 0 =
    λ i d h.
    sym (get_or-map (λ level. level.micrograms) levels i d 0 h) ∙ ap (λ (l : List ℕ). get_or l i 0) levels_are in
    let oxygen = c.from.ensures ∙ level_is 5 _ (search rules) in
    let ammonium = c.from-2.ensures ∙ level_is 1 _ (search rules) in
    let letter_is : c.byte.result ≡ byte (letter_of cell 0) =
    c.byte.ensures.answer
    ∙ ap byte c.letter_by-letter.ensures.answer
    ∙ ap byte (ap₂ letter_by oxygen ammonium) in
    c.write_row.ensures ∙ ap₂ (row (c.args.c + 1)) letter_is levels_are
