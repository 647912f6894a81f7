-- A list of calls on a sound river, under any set: by induction over the list, the river after it is sound, and what
-- cells i to j hold is what they held and what the book of the list says. A fresh river holds nothing. No assumptions.
use Prim.Native.Nat.{ℕ, ◌+◌, ◌*◌, ◌≤◌}
use mathlib.Core.List.{List, [], ◌∷◌}
use mathlib.Core.Path.{◌≡◌, sym, ap, ◌∙◌}
use lib.IntN.{ℤ, pos, ◌+ℤ◌, +ℤ_idl, +ℤ_idr, +ℤ_assoc}
use Rattle.numeric.proofs.Filling.{replicate_at}
use Rattle.stoichiometry.specs.declared.Set.{Set}
use Rattle.stoichiometry.specs.Substances.{substances, Total}
use Rattle.stoichiometry.proofs.Totals.{cell_zero}
use Rattle.river.specs.declared.River.{River}
use Rattle.river.specs.Rivers.{most_cells, zero_river}
use Rattle.balance.specs.Calls.{Call, book}
use Rattle.balance.specs.Held.{act, after, answered, held}
use Rattle.balance.proofs.HeldLaws.{held_zero}
use Rattle.balance.proofs.Soundness.{SoundRiver, sound_zero}
use Rattle.balance.proofs.CallBalance.{entered, call_keeps, call_balance}

module _ (set : Set) (n : ℕ) where
  -- Calls hand on a sound river.
  pub after_keeps : (calls : List Call) (r : River) → SoundRiver n r → SoundRiver n (after set calls r)
  after_keeps [] r sound = sound
  after_keeps (call ∷ calls) r sound = after_keeps calls (act set call r).river (call_keeps set n r sound call)

  -- What cells i to j hold after calls is what they held and their book of the calls.
  pub after_balance : (calls : List Call) (r : River) → SoundRiver n r → (i j : ℕ) → 1 ≤ i → i ≤ j → j ≤ n → (t : Total)
      → held set t (after set calls r).amounts i j
      ≡ held set t r.amounts i j +ℤ book set t i j (answered set calls r)
  after_balance [] r sound i j h l m t = sym (+ℤ_idr (held set t r.amounts i j))
  after_balance (call ∷ calls) r sound i j h l m t =
      let d = act set call r in
      let rest = book set t i j (answered set calls d.river) in
      after_balance calls d.river (call_keeps set n r sound call) i j h l m t
      ∙ ap (λ (x : ℤ). x +ℤ rest) (call_balance set n r sound call i j h l m t)
      ∙ +ℤ_assoc (held set t r.amounts i j) (entered set t i j call d.answer) rest

-- A fresh river holds nothing.
pub fresh_empty : (set : Set) (t : Total) (n i j : ℕ) → held set t (zero_river n).amounts i j ≡ pos 0
fresh_empty set t n i j =
    held_zero set t (zero_river n).amounts i j
    (λ c. cell_zero set t (zero_river n).amounts c
    (λ s l. replicate_at (most_cells * substances) (c * substances + s) (pos 0)))

-- So after calls on it, cells i to j hold what their book of the calls says.
pub fresh_balance : (set : Set) (calls : List Call) (n : ℕ) → 1 ≤ n → n ≤ most_cells → (i j : ℕ) → 1 ≤ i → i ≤ j → j ≤ n
    → (t : Total)
    → held set t (after set calls (zero_river n)).amounts i j ≡ book set t i j (answered set calls (zero_river n))
fresh_balance set calls n low high i j h l m t =
    let whole = book set t i j (answered set calls (zero_river n)) in
    after_balance set n calls (zero_river n) (sound_zero n low high) i j h l m t
    ∙ ap (λ (x : ℤ). x +ℤ whole) (fresh_empty set t n i j) ∙ +ℤ_idl whole
