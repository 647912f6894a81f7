-- `read_cells` meets its contract: a cell without its values, or a cell more. No assumptions.
use Rattle.std.proofs.Common.{◌≡◌, ◌+◌, ◌<◌, sym, ap, ◌∙◌, arith, is_some, nat_abs}
use lib.IntN.{pos}
use Rattle.numeric.proofs.CheckLaws.{every-none, every_more, every_fails}
use Rattle.numeric.proofs.GridLaws.{made_none, made_next, made_done}
use Rattle.numeric.proofs.TableLaws.{tab_eq}
use Rattle.stoichiometry.specs.Rows.{processes}
use Rattle.stoichiometry.specs.Substances.{substances}
use Rattle.river.specs.Rivers.{most_cells}
use Rattle.record_reading.specs.Reading.{cells_in, lines_right, amounts_in, carries_in}
use Rattle.record_reading.proofs.ReadCells.{cell_is, number_in_cell, cell_found_lem}
use Rattle.record_reading.proofs.reading.read_cells.Goals as goal

pub loop-c-init : goal.loop-c-init
loop-c-init c =
    (every-none _, made_none most_cells substances _ (pos 0) _, made_none most_cells processes _ 0 _)

pub returns-in_err-read_cell-clause-value : goal.returns-in_err-read_cell-clause-value
unfolding lines_right
returns-in_err-read_cell-clause-value c =
    let t = c.args.text.now in
    let n = c.loop-c.c in
    let inside : n < cells_in t = omega (arith, c.loop-c-test.true, c.as_chunks.ensures.front_len) in
    let found = cell_found_lem t _ n (cell_is t _ n c.as_chunks.ensures.front inside) in
    let wrong = sym found ∙ sym c.read_cell.ensures.value ∙ ap is_some c.in_err-read_cell.was in
    ap is_some c.from_residual.ensures ∙ sym (every_fails _ _ _ inside wrong)

pub loop-c-preserved : goal.loop-c-preserved
loop-c-preserved c =
    let t = c.args.text.now in
    let n = c.loop-c.c in
    let most = c.requires in
    let ok = c.in_ok-read_cell.ensures in
    let inside : n < cells_in t = omega (arith, c.loop-c-test.true, c.as_chunks.ensures.front_len) in
    let cut = cell_is t _ n c.as_chunks.ensures.front inside in (
      every_more n _ c.loop-c.invariant.0 (sym (cell_found_lem t _ n cut) ∙ sym ok.value),
      made_next most_cells substances _ (pos 0) _ n _ _ c.loop-c.invariant.1 inside most
          (ok.amounts_after ∙ tab_eq substances _ _ (λ k h. number_in_cell t _ n cut k (omega arith))),
      made_next most_cells processes _ 0 _ n _ _ c.loop-c.invariant.2 inside most
          (ok.carries_after
          ∙ tab_eq processes _ _ (λ p h. ap nat_abs (number_in_cell t _ n cut (substances + p) (omega arith)))),
    )

pub returns-clause-value : goal.returns-clause-value
unfolding lines_right
returns-clause-value c =
    let finished : c.loop-c.c ≡ cells_in c.args.text.now = omega (arith, c.as_chunks.ensures.front_len) in
    sym (rw finished at c.loop-c.invariant.0)

pub returns-clause-amounts_after : goal.returns-clause-amounts_after
unfolding amounts_in
returns-clause-amounts_after c =
    let finished : c.loop-c.c ≡ cells_in c.args.text.now = omega (arith, c.as_chunks.ensures.front_len) in
    c.copy_from_slice.ensures.after ∙ c.as_flattened.ensures.value
    ∙ made_done most_cells substances _ (pos 0) _ c.loop-c.c _ finished c.loop-c.invariant.1

pub returns-clause-carries_after : goal.returns-clause-carries_after
unfolding carries_in
returns-clause-carries_after c =
    let finished : c.loop-c.c ≡ cells_in c.args.text.now = omega (arith, c.as_chunks.ensures.front_len) in
    c.copy_from_slice-2.ensures.after ∙ c.as_flattened-2.ensures.value
    ∙ made_done most_cells processes _ 0 _ c.loop-c.c _ finished c.loop-c.invariant.2
