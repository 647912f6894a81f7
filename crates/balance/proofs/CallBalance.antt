-- One call on a sound river, under any set and with any arguments: the river that it hands on is sound, and what cells
-- i to j hold changes by what the call adds to their book. Each of the four calls is refused, and hands on the river it
-- got, or none of its checks holds. Lists of calls: ListBalance.antt. No assumptions.
use Prim.Native.Nat.{ℕ, suc, ◌+◌, ◌*◌, ◌-◌, ◌≤◌, ◌<◌}
use mathlib.Core.Bool.{true, false, cond}
use mathlib.Core.Path.{◌≡◌, refl, sym, ◌∙◌}
use native.Mathlib.Omega.{arith}
use lib.Dec.{eqb, lit<}
use lib.ListN.{length}
use lib.IntN.{ℤ, pos, ◌+ℤ◌, +ℤ_idr}
use borrow.Author.Tests.{eq-eqb, ne_eqb, eqb-true, not-false}
use Rattle.numeric.proofs.CheckLaws.{and_left, and_right, none_holds}
use Rattle.std.proofs.lemmas.Bool.{cond_both}
use Rattle.std.specs.Prelude.{Result}
use Rattle.std.specs.Result.{result_unwrap_or}
use Rattle.stoichiometry.specs.declared.refusals.Refusal.{Refusal}
use Rattle.stoichiometry.specs.declared.Set.{Set}
use Rattle.stoichiometry.proofs.RefusalLaws.{number-positive}
use Rattle.stoichiometry.specs.Substances.{substances, o2, place, Total, contents}
use Rattle.stoichiometry.specs.Totals.{cell_total}
use Rattle.stoichiometry.proofs.Totals.{added}
use Rattle.kinetics.specs.declared.Conditions.{Conditions}
use Rattle.river.specs.declared.River.{River}
use Rattle.river.specs.Rivers.{amounts_fit, river_wrong, cell_exists, substance_exists}
use Rattle.river.proofs.Rivers.{river-cells, cell_bound, substance_bound}
use Rattle.transport.specs.Load.{load_number, load_answer}
use Rattle.transport.specs.Flow.{left_of, flow_number, flow_answer}
use Rattle.transport.specs.Air.{gain_at, air_number, air_answer}
use Rattle.step.specs.Steps.{stepped_amounts, step_number, step_answer}
use Rattle.balance.specs.Calls.{Call, load, flow, air, step, Answer, among, booked}
use Rattle.balance.specs.Held.{CallDone, act, held, changed, flowed, aired}
use Rattle.balance.specs.Held.{refused as refused_call}
use Rattle.balance.proofs.CellBalance.{step_keeps_cell}
use Rattle.balance.proofs.HeldLaws.{held_added, held-flow, held-step}
use Rattle.balance.proofs.Soundness.{SoundRiver, sound_cells, sound_amount, sound_flow, sound_step}

-- What a call adds to the book of cells i to j.
abbrev pub entered : Set → Total → ℕ → ℕ → Call → Answer → ℤ
entered set t i j call a = cond (eqb a.number 0) (booked set t i j call a) (pos 0)

-- From one river of n cells to another, what cells i to j hold changes by this much.
abbrev ChangedBy : Set → ℕ → River → River → (ℕ → ℕ → Total → ℤ) → Type 0
ChangedBy set n r q by =
    (i j : ℕ) → 1 ≤ i → i ≤ j → j ≤ n → (t : Total)
    → held set t q.amounts i j ≡ held set t r.amounts i j +ℤ by i j t

-- A call on a river r of n cells with this answer and this river after: that one is sound, and the book is met.
record CallKept (set : Set) (n : ℕ) (r : River) (call : Call) (a : Answer) (q : River) : Type 0 where
  sound : SoundRiver n q
  balance : ChangedBy set n r q (λ i j t. entered set t i j call a)

-- A step that is not refused.
step-passes : (set : Set) (r : River) (conditions : Conditions) → step_number set r conditions ≡ 0
    → (river_wrong r ≡ false) × (amounts_fit r.cells (stepped_amounts set conditions r) ≡ true)
unfolding step_number
step-passes set r conditions e =
    let none = none_holds _ refl e in
    (none.1.1.1.0, not-false _ none.1.1.1.1.1.1.0)

module _ (set : Set) (n : ℕ) (r : River) (sound : SoundRiver n r) where
  accepted : (call : Call) (a : Answer) (q : River) → a.number ≡ 0 → SoundRiver n q
      → ChangedBy set n r q (λ i j t. booked set t i j call a) → CallKept set n r call a q
  accepted call a q e s h = record { sound = s; balance = λ i j p l m t. rw (eq-eqb a.number 0 e) (h i j p l m t) }

  refused : (call : Call) (a : Answer) → (a.number ≡ 0 → ⊥) → CallKept set n r call a r
  refused call a f =
      record {
        sound = sound;
        balance = λ i j p l m t. rw (ne_eqb a.number 0 f) (sym (+ℤ_idr (held set t r.amounts i j)));
      }

  -- A number x added to the amount at place s of a cell, as load and air do.
  added_balance : (cell s : ℕ) (x : ℤ) → (1 ≤ cell) × (cell ≤ r.cells) → s < substances
      → (i j : ℕ) → 1 ≤ i → (t : Total)
      → held set t (added r.amounts (cell - 1) s x) i j
      ≡ held set t r.amounts i j +ℤ cond (among i j cell) (contents set t s x) (pos 0)
  added_balance cell s x at_cell k i j p t =
      let most = (sound_cells n r sound).1 in
      let there : (cell - 1) * substances + s < length r.amounts = omega (arith, sound.long, sound.cells) in
      let e : suc (cell - 1) ≡ cell = omega arith in
      rw e at (held_added set t r.amounts (cell - 1) s x i j k there p)

  -- What is known of a call by what it answers: a call done, or its refusal.
  abbrev Kept : Call → CallDone → Type 0
  Kept call d = CallKept set n r call d.answer d.river

  refused_kept : (call : Call) (refusal : Refusal) → Kept call (refused_call r refusal)
  refused_kept call refusal = refused call _ (number-positive refusal)

  -- Load: one amount changed.
  load_kept : (cell substance : ℕ) (x : ℤ)
      → Kept (load cell substance x) (changed r (load_answer r cell substance x))
  unfolding load_answer load_number
  load_kept cell substance x =
      let call = load cell substance x in
      cond_both (eqb (load_number r cell substance x) 0) _ _ (λ a. Kept call (changed r a))
      (λ e. let none = none_holds _ refl (eqb-true _ 0 e) in
      let exist = not-false _ none.1.0 in
      let at_cell = cell_bound r cell (and_left (cell_exists r cell) (substance_exists substance) exist) in
      let at_place = substance_bound substance (and_right (cell_exists r cell) (substance_exists substance) exist) in
      let there : substance - 1 < substances = omega arith in
      let fits = not-false _ none.1.1.0 in
      accepted call _ _ refl
      (sound_amount n r sound (cell - 1) (substance - 1) _ (omega (arith, sound.cells)) there fits)
      (λ i j p l m t. added_balance cell (substance - 1) x at_cell there i j p t))
      (λ f. refused_kept call _)

  -- Flow: what leaves a cell comes to the next.
  flow_kept : (part : ℕ) → Kept (flow part) (flowed r (flow_answer r part))
  unfolding flow_answer flow_number
  flow_kept part =
      let left = left_of part r.amounts in
      let most = (river-cells r sound.right).1 in
      cond_both (eqb (flow_number r part) 0) _ _ (λ a. Kept (flow part) (flowed r a))
      (λ e. accepted (flow part) _ _ refl
      (sound_flow n r sound left (not-false _ (none_holds _ refl (eqb-true _ 0 e)).1.1.0))
      (λ i j p l m t.
      held-flow set t r.cells r.amounts left i j p l (omega (arith, sound.cells)) most))
      (λ f. refused_kept (flow part) _)

  -- Air: one amount changed, by the gain.
  air_kept : (cell k seconds saturation : ℕ)
      → Kept (air cell k seconds saturation) (aired r (air_answer r cell k seconds saturation))
  unfolding air_answer air_number
  air_kept cell k seconds saturation =
      let call = air cell k seconds saturation in
      let gain = gain_at r (cell - 1) k seconds saturation in
      cond_both (eqb (air_number r cell k seconds saturation) 0) _ _ (λ a. Kept call (aired r a))
      (λ e. let none = none_holds _ refl (eqb-true _ 0 e) in
      let at_cell = cell_bound r cell (not-false _ none.1.0) in
      let fits = not-false _ none.1.1.1.0 in
      accepted call _ _ refl
      (sound_amount n r sound (cell - 1) (place o2) _ (omega (arith, sound.cells)) (lit< tt) fits)
      (λ i j p l m t. added_balance cell (place o2) gain at_cell (lit< tt) i j p t))
      (λ f. refused_kept call _)

  -- Step: every cell keeps what it holds.
  step_kept : (conditions : Conditions) → Kept (step conditions) (changed r (step_answer set r conditions))
  unfolding step_answer
  step_kept conditions =
      let call = step conditions in
      cond_both (eqb (step_number set r conditions) 0) _ _ (λ a. Kept call (changed r a))
      (λ e. accepted call _ _ refl
      (sound_step set conditions n r sound (step-passes set r conditions (eqb-true _ 0 e)).1)
      (λ i j p l m t.
      held-step set t conditions r i j p (omega (arith, sound.cells)) (river-cells r sound.right).1
      ∙ sym (+ℤ_idr (held set t r.amounts i j))))
      (λ f. refused_kept call _)

  call_kept : (call : Call) → Kept call (act set call r)
  unfolding act
  call_kept (load cell substance x) = load_kept cell substance x
  call_kept (flow part) = flow_kept part
  call_kept (air cell k seconds saturation) = air_kept cell k seconds saturation
  call_kept (step conditions) = step_kept conditions

  -- A call hands on a sound river.
  pub call_keeps : (call : Call) → SoundRiver n (act set call r).river
  call_keeps call = (call_kept call).sound

  -- What cells i to j hold after a call is what they held and what the call adds to their book.
  pub call_balance : (call : Call) (i j : ℕ) → 1 ≤ i → i ≤ j → j ≤ n → (t : Total)
      → held set t (act set call r).river.amounts i j
      ≡ held set t r.amounts i j +ℤ entered set t i j call (act set call r).answer
  call_balance call = (call_kept call).balance

-- Accepted or refused, a step alone keeps every total of every cell of any river.
pub step_keeps_totals : (set : Set) (r : River) (conditions : Conditions) (t : Total) (c : ℕ) → c < r.cells
    → cell_total set t (result_unwrap_or (step_answer set r conditions) r).amounts c ≡ cell_total set t r.amounts c
unfolding step_answer
step_keeps_totals set r conditions t c h =
    cond_both (eqb (step_number set r conditions) 0) _ _
    (λ (a : Result River Refusal). cell_total set t (result_unwrap_or a r).amounts c ≡ cell_total set t r.amounts c)
    (λ e. let right = (step-passes set r conditions (eqb-true _ 0 e)).0 in
    step_keeps_cell set t conditions r c h (omega (arith, river-cells r right)))
    (λ f. refl)
