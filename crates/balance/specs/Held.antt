-- A list of calls on a river, made of the definitions that the contracts of the calls cite: the river after it, the
-- calls with their answers, and what cells hold. The theorem: proofs/Demand3.antt. No assumptions.
use Rattle.std.specs.Prelude.{ℕ, suc, ◌+◌, ◌-◌, List, [], ◌∷◌, ℤ, pos, Result, Ok, Err}
use Rattle.numeric.specs.Sum.{sum}
use Rattle.stoichiometry.specs.declared.refusals.Refusal.{Refusal}
use Rattle.stoichiometry.specs.declared.Set.{Set}
use Rattle.stoichiometry.specs.Refusals.{number}
use Rattle.stoichiometry.specs.Substances.{Total}
use Rattle.river.specs.declared.River.{River}
use Rattle.transport.specs.declared.Aired.{Aired}
use Rattle.transport.specs.declared.Flowed.{Flowed}
use Rattle.transport.specs.Load.{load_answer}
use Rattle.transport.specs.Flow.{flow_answer}
use Rattle.transport.specs.Air.{air_answer}
use Rattle.stoichiometry.specs.Totals.{cell_total}
use Rattle.step.specs.Steps.{step_answer}
use Rattle.balance.specs.Calls.{Call, load, flow, air, step, Answer, Entry}

-- A call done: its answer and the river it hands on.
pub record CallDone : Type 0 where
  pub answer : Answer
  pub river : River

-- A call that is refused hands on the river it was given. The book is told of its number; it lists nothing and brings
-- nothing.
abbrev pub refused : River → Refusal → CallDone
refused r refusal = record { answer = record { number = number refusal; left = []; amount = pos 0 }; river = r }

-- A call that is not refused: by its answer, what a flow lists, the amount of O2 of air, and the river after.
abbrev pub done : List ℤ → ℤ → River → CallDone
done left amount after = record { answer = record { number = 0; left = left; amount = amount }; river = after }

-- A load or a step, by its answer; a flow; air.
abbrev pub changed : River → Result River Refusal → CallDone
changed r (Ok a) = done [] (pos 0) a
changed r (Err refusal) = refused r refusal

abbrev pub flowed : River → Result Flowed Refusal → CallDone
flowed r (Ok a) = done a.left (pos 0) a.river
flowed r (Err refusal) = refused r refusal

abbrev pub aired : River → Result Aired Refusal → CallDone
aired r (Ok a) = done [] a.amount a.river
aired r (Err refusal) = refused r refusal

-- What a call does to a river, under the list's one set.
unfoldable pub act : Set → Call → River → CallDone
act set (load cell substance added) r = changed r (load_answer r cell substance added)
act set (flow part) r = flowed r (flow_answer r part)
act set (air cell k seconds saturation) r = aired r (air_answer r cell k seconds saturation)
act set (step conditions) r = changed r (step_answer set r conditions)

-- The river after a list of calls.
abbrev pub after : Set → List Call → River → River
after set [] r = r
after set (call ∷ calls) r = after set calls (act set call r).river

-- The calls with their answers.
abbrev pub answered : Set → List Call → River → List Entry
answered set [] r = []
answered set (call ∷ calls) r =
    let d = act set call r in
    record { call = call; answer = d.answer } ∷ answered set calls d.river

-- What cells i to j hold, numbered from 1, i at most j: one total.
unfoldable pub held : Set → Total → List ℤ → ℕ → ℕ → ℤ
held set t amounts i j = sum (suc j - i) (λ d. cell_total set t amounts (i - 1 + d))
