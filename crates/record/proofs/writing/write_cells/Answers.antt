-- `write_cells` meets its contract: one cell more. No assumptions.
use Rattle.std.proofs.Common.{◌≡◌, ℕ, [], rules, ◌+◌, ◌*◌, ◌≤◌, ◌<◌, ap, ◌∙◌, arith, length, length-append, length-take, length-drop, get_or}
use Rattle.std.specs.Simd.{first_chunks}
use Rattle.std.proofs.lemmas.Iterator.{YieldsList-from_slice, YieldsList-from_zip, YieldsList-from_take}
use Rattle.std.proofs.lemmas.Iterator.Consumers.{YieldsList-from_enumerate, YieldsList-turn, YieldsList-end}
use Rattle.numeric.proofs.PairLaws.{first_at, firsts-length}
use Rattle.stoichiometry.specs.Rows.{processes}
use Rattle.stoichiometry.specs.Substances.{substances}
use Rattle.river.specs.declared.River.{River}
use Rattle.river.specs.Rivers.{most_cells}
use Rattle.river.proofs.Rivers.{river-cells}
use Rattle.text.proofs.BlockLaws.{no_block, next_block}
use Rattle.text.specs.Writes.{put}
use Rattle.record.specs.Lines.{cell_text, record_text, record_of, value_of, lines, cell_bytes}
use Rattle.record.proofs.LineLaws.{cell-length}
use Rattle.record.proofs.Written.{labelled_lines_are}
use Rattle.record.proofs.writing.write_cells.Goals as goal
use Rattle.record.proofs.writing.write_cells.Goals.{In-Some, In-None}

-- The lines of a cell have their bytes.
each : (r : River) (c : ℕ) → length (cell_text lines (value_of r.amounts r.carries) c) ≡ cell_bytes
each r c = cell-length lines (value_of r.amounts r.carries) c

-- The cells that the river's amounts and carries are cut into.
amounts_cut : (c : In-Some) → c.as_chunks.result.0.now ≡ first_chunks substances most_cells c.args.checked.now.river.now.amounts
amounts_cut c =
    let long : length c.args.checked.now.river.now.amounts ≡ most_cells * substances = search rules in
    rw long at c.as_chunks.ensures.front

carries_cut : (c : In-Some) → c.as_chunks-2.result.0.now ≡ first_chunks processes most_cells c.args.checked.now.river.now.carries
carries_cut c =
    let long : length c.args.checked.now.river.now.carries ≡ most_cells * processes = search rules in
    rw long at c.as_chunks-2.ensures.front

-- The amounts and the carries that come are those of the place that is counted.
turn : (c : In-Some) → (c.in-Some.c ≡ length c.loop-c.yielded)
    × (length c.loop-c.yielded < c.args.checked.now.river.now.cells)
    × (c.in-Some.amounts.now ≡ get_or c.as_chunks.result.0.now (length c.loop-c.yielded) [])
    × (c.in-Some.carries.now ≡ get_or c.as_chunks-2.result.0.now (length c.loop-c.yielded) [])
turn c =
    first_at c.as_chunks.result.0.now c.as_chunks-2.result.0.now c.args.checked.now.river.now.cells (length c.loop-c.yielded)
    (c.in-Some.c, (c.in-Some.amounts.now, c.in-Some.carries.now)) [] []
    (YieldsList-turn
    (YieldsList-from_enumerate
    (YieldsList-from_take c.args.checked.now.river.now.cells
    (YieldsList-from_zip (YieldsList-from_slice c.as_chunks.result.0.now cc) (YieldsList-from_slice c.as_chunks-2.result.0.now cc)) cc) cc)
    c.loop-c.yielded _ c.loop-c.yielded_by _ c.next.new.self _ c.in-Some.is c.next.ensures.steps)

pub loop-c-init : goal.loop-c-init
unfolding record_text
loop-c-init c = no_block cell_bytes _ (each c.args.checked.now.river.now) c.args.out.now

pub loop-c-preserved : goal.loop-c-preserved
unfolding record_text
loop-c-preserved c =
    let t = turn (search) in
    let n = length c.loop-c.yielded in
    let r = c.args.checked.now.river.now in
    let room : n * cell_bytes + cell_bytes ≤ length c.args.out.now = omega (arith, t.1) in
    rw (length-append, t.0)
    (next_block cell_bytes _ (each r) c.args.out.now c.loop-c.out _ n _ (omega arith) room c.loop-c.invariant
    (rw (t.2, t.3) at c.write_cell.ensures
    ∙ labelled_lines_are r c.args.checked.now.right _ _ (amounts_cut (search)) (carries_cut (search)) n t.1 _ (rw t.0 at c.two_columns-number.ensures.columns)))

-- All cells of the river came.
finished : (c : In-None) → length c.loop-c.yielded ≡ c.args.checked.now.river.now.cells
finished c =
    let r = c.args.checked.now.river.now in
    let most = (river-cells r c.args.checked.now.right).1 in
    let amounts : length r.amounts ≡ most_cells * substances = search rules in
    let carries : length r.carries ≡ most_cells * processes = search rules in
    (YieldsList-end
    (YieldsList-from_enumerate
    (YieldsList-from_take r.cells
    (YieldsList-from_zip (YieldsList-from_slice c.as_chunks.result.0.now cc) (YieldsList-from_slice c.as_chunks-2.result.0.now cc)) cc) cc)
    c.loop-c.yielded _ c.loop-c.yielded_by _ c.next.new.self c.in-None.is c.next.ensures.steps).1
    ∙ firsts-length c.as_chunks.result.0.now c.as_chunks-2.result.0.now r.cells
    (omega (arith, most, c.as_chunks.ensures.front_len, amounts)) (omega (arith, most, c.as_chunks-2.ensures.front_len, carries))

pub write_cell-requires-clause-room : goal.write_cell-requires-clause-room
write_cell-requires-clause-room c =
    let t = turn (search) in
    let n = c.in-Some.c in
    let room : n * cell_bytes + cell_bytes ≤ length c.loop-c.out = omega (arith, t.0, t.1) in
    simp (length-take, length-drop) (omega arith)

pub returns : goal.returns
unfolding record_of
returns c =
    let r = c.args.checked.now.river.now in
    c.loop-c.invariant
    ∙ ap (λ (n : ℕ). put c.args.out.now 0 (record_text n lines (value_of r.amounts r.carries))) (finished (search))
