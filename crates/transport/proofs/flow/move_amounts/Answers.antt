-- `flow::move_amounts` meets its contract: nothing wraps, and what stayed with what came are the amounts after.
-- No assumptions.
use Rattle.std.proofs.Common.{◌≡◌, ◌+◌, ◌-◌, ◌*◌, [], ◌∷◌, ap, sym, ◌∙◌, arith, get_or, pos, ℤ, ◌+ℤ◌, ◌-ℤ◌, ℕ}
use native.Mathlib.Nat.{zero-add}
use lib.ListN.{set, take}
use lib.Seq.{get_or-take}
use Rattle.numeric.proofs.Expression.{v, ◌⊕◌, ◌⊖◌}
use Rattle.numeric.proofs.Filling.{run_none, run_more, run_beyond}
use Rattle.numeric.proofs.Fitting.{Bounded, ◌&◌, all}
use Rattle.numeric.proofs.Machine.{asked, kept, ran}
use Rattle.stoichiometry.specs.Substances.{substances, most_net}
use Rattle.river.specs.Rivers.{most_cells}
use Rattle.transport.proofs.FlowLists.{stayed_within, joined_moved}
use Rattle.transport.specs.Inner.Stages.{stayed_of}
use Rattle.transport.proofs.flow.move_amounts.Goals as goal
use Rattle.transport.proofs.flow.move_amounts.Goals.{In-loop-k, In-loop-j}

pub loop-k-init : goal.loop-k-init
loop-k-init c = run_none c.args.amounts.now 0 _

-- An amount from which nothing is taken yet, and what is taken.
taken_still : (c : In-loop-k) → get_or c.loop-k.amounts c.loop-k.k (pos 0) ≡ get_or c.args.amounts.now c.loop-k.k (pos 0)
taken_still c =
    ap (λ l. get_or l c.loop-k.k (pos 0)) c.loop-k.invariant
    ∙ run_beyond c.args.amounts.now 0 c.loop-k.k _ c.loop-k.k (pos 0) (omega arith)

taken_known : (c : In-loop-k)
    → Bounded (get_or c.loop-k.amounts c.loop-k.k (pos 0) ∷ get_or c.args.left.now c.loop-k.k (pos 0) ∷ []) (most_net ∷ most_net ∷ [])
taken_known c =
    let k = c.loop-k.k in
    let within = c.requires.amounts_within in
    (rw (taken_still c) (within.0.small k (omega arith))) & within.1.small k (omega arith) & all

pub overflow_sub-amounts : goal.overflow_sub-amounts
overflow_sub-amounts c =
    asked (taken_known (search)) (v 0 ⊖ v 1) tt

pub loop-k-preserved : goal.loop-k-preserved
loop-k-preserved c =
    let k = c.loop-k.k in
    let taken = get_or c.args.left.now k (pos 0) in
    let value = kept (kept (get_or c.loop-k.amounts k (pos 0)) -ℤ kept taken) in
    ap (λ (i : ℕ). set c.loop-k.amounts i value) (sym (zero-add k))
    ∙ run_more _ 0 k _ c.loop-k.amounts value c.loop-k.invariant
    (ran (taken_known (search)) (v 0 ⊖ v 1) tt ∙ ap (λ (z : ℤ). z -ℤ taken) (taken_still (search)))

pub loop-j-init : goal.loop-j-init
loop-j-init c =
    let done : c.loop-k.k ≡ most_cells * substances = omega arith in
    (rw done at c.loop-k.invariant) ∙ run_none _ substances _

-- An amount that nothing is added to yet, and what comes.
came_still : (c : In-loop-j) → get_or c.loop-j.amounts (substances + c.loop-j.j) (pos 0)
    ≡ get_or (stayed_of c.args.amounts.now c.args.left.now) (substances + c.loop-j.j) (pos 0)
came_still c =
    let at = substances + c.loop-j.j in
    ap (λ l. get_or l at (pos 0)) c.loop-j.invariant ∙ run_beyond _ substances c.loop-j.j _ at (pos 0) (omega arith)

-- What comes is an element of the front of the list that is gone over.
came_same : (c : In-loop-j) → let left = c.args.left.now in
    get_or (take ((c.args.cells - 1) * substances) left) c.loop-j.j (pos 0) ≡ get_or left c.loop-j.j (pos 0)
came_same c = get_or-take _ c.args.left.now c.loop-j.j (pos 0) (omega arith)

came_known : (c : In-loop-j)
    → Bounded (get_or c.loop-j.amounts (substances + c.loop-j.j) (pos 0) ∷ get_or c.args.left.now c.loop-j.j (pos 0) ∷ [])
    (2 * most_net ∷ most_net ∷ [])
came_known c =
    let j = c.loop-j.j in
    let within = c.requires.amounts_within in
    let stayed = stayed_within c.args.cells c.args.amounts.now c.args.left.now c.told-amounts within.0 within.1 in
    (rw (came_still c) (stayed.small (substances + j) (omega arith))) & within.1.small j (omega arith) & all

pub overflow_add-amounts-in-loop-j : goal.overflow_add-amounts-in-loop-j
overflow_add-amounts-in-loop-j c =
    rw (came_same (search)) (asked (came_known (search)) (v 0 ⊕ v 1) tt)

pub loop-j-preserved : goal.loop-j-preserved
loop-j-preserved c =
    let j = c.loop-j.j in
    let came = get_or c.args.left.now j (pos 0) in
    rw (came_same (search)) (run_more _ substances j _ c.loop-j.amounts _ c.loop-j.invariant
    (ran (came_known (search)) (v 0 ⊕ v 1) tt ∙ ap (λ (z : ℤ). z +ℤ came) (came_still (search))))

pub returns : goal.returns
returns c =
    let cells = c.requires.cells_in_bounds in
    let done : c.loop-j.j ≡ (c.args.cells - 1) * substances = omega arith in
    (rw done at c.loop-j.invariant)
    ∙ joined_moved c.args.cells c.args.amounts.now c.args.left.now c.told-amounts cells.0 cells.1
