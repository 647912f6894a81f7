-- `write_rows` meets its contract: one row more. No assumptions.
use Rattle.std.proofs.Common.{◌≡◌, ℕ, List, [], false, rules, ◌+◌, ◌*◌, ◌/◌, ◌≤◌, ◌<◌, sym, ap, ◌∙◌, arith, length, take, length-take, length-drop}
use Rattle.std.proofs.lemmas.List.{get_or-take, length-take-le}
use lib.IntN.{ℤ}
use Rattle.std.specs.Simd.{first_chunks}
use Rattle.stoichiometry.specs.Substances.{substances}
use Rattle.river.specs.declared.River.{River}
use Rattle.river.specs.Rivers.{most_cells, river_wrong}
use Rattle.river.proofs.Rivers.{river-cells}
use Rattle.text.specs.Blocks.{blocks}
use Rattle.text.proofs.BlockLaws.{no_block, next_block}
use Rattle.text.specs.Writes.{put}
use Rattle.page.specs.Pages.{row_bytes, row_of, page_of}
use Rattle.page.specs.Inner.Stages.{cell_row}
use Rattle.page.proofs.PageLaws.{row_of-length, cell_row_is, cell_fits_lem}
use Rattle.page.proofs.writing.write_rows.Goals as goal
use Rattle.page.proofs.writing.write_rows.Goals.{In-loop-c}

-- The cells that the amounts are cut into: as many as a river has at most, so its own are among them.
module _ (r : River) (right : river_wrong r ≡ false) (long : length r.amounts ≡ most_cells * substances)
    (cells : List (List ℤ)) (count : length cells ≡ length r.amounts / substances) where
  own : r.cells ≤ length cells
  own = omega (arith, long, count, (river-cells r right).1)

  own_count : length (take r.cells cells) ≡ r.cells
  own_count = length-take-le r.cells cells own

pub slice_bounds-amounts-items-end : goal.slice_bounds-amounts-items-end
slice_bounds-amounts-items-end c =
    sym (own_count c.args.checked.now.river.now c.args.checked.now.right (search rules) _ c.as_chunks.ensures.front_len)

-- Cell c of the loop is the river's own, and is cut out of its amounts.
inside : (c : In-loop-c) → c.loop-c.c < c.args.checked.now.river.now.cells
inside c =
    let r = c.args.checked.now.river.now in
    let count = own_count r c.args.checked.now.right (search rules) c.as_chunks.result.0.now c.as_chunks.ensures.front_len in
    omega (arith, c.loop-c-test.true, count)

cut : (c : In-loop-c) → c.as_chunks.result.0.now ≡ first_chunks substances most_cells c.args.checked.now.river.now.amounts
cut c =
    let long : length c.args.checked.now.river.now.amounts ≡ most_cells * substances = search rules in
    rw long at c.as_chunks.ensures.front

pub loop-c-init : goal.loop-c-init
loop-c-init c = no_block row_bytes _ (row_of-length c.args.checked.now.river.now.amounts) c.args.out.now

pub loop-c-preserved : goal.loop-c-preserved
loop-c-preserved c =
    let n = c.loop-c.c in
    let r = c.args.checked.now.river.now in
    let h : n < r.cells = inside (search) in
    let room : n * row_bytes + row_bytes ≤ length c.args.out.now = omega arith in
    next_block row_bytes _ (row_of-length r.amounts) c.args.out.now c.loop-c.out _ n _ (omega arith) room c.loop-c.invariant
    (c.write_cell.ensures
    ∙ ap (cell_row n) (get_or-take r.cells c.as_chunks.result.0.now n [] h)
    ∙ cell_row_is r c.args.checked.now.right n h _ (cut (search)))

pub invariant_of-cell : goal.invariant_of-cell
invariant_of-cell c =
    let n = c.loop-c.c in
    let r = c.args.checked.now.river.now in
    let h : n < r.cells = inside (search) in
    record {
      fits =
          rw (get_or-take r.cells c.as_chunks.result.0.now n [] h)
          (cell_fits_lem r c.args.checked.now.right n h _ (cut (search)));
    }

pub write_cell-requires : goal.write_cell-requires
write_cell-requires c =
    let n = c.loop-c.c in
    let h : n < c.args.checked.now.river.now.cells = inside (search) in
    let room : n * row_bytes + row_bytes ≤ length c.loop-c.out = omega arith in
    let most = (river-cells c.args.checked.now.river.now c.args.checked.now.right).1 in
    (simp (length-take, length-drop) (omega arith), omega arith)

pub returns : goal.returns
unfolding page_of
returns c =
    let r = c.args.checked.now.river.now in
    let count = own_count r c.args.checked.now.right (search rules) c.as_chunks.result.0.now c.as_chunks.ensures.front_len in
    let all : c.loop-c.c ≡ r.cells = omega (arith, count) in
    c.loop-c.invariant ∙ ap (λ (n : ℕ). put c.args.out.now 0 (blocks n (row_of r.amounts))) all
