-- Laws of contents (multiples, differences, sums) and of a cell's totals, for any set: cells of equal amounts, of
-- zeros, one amount changed. Batches of rows, any number of each, hold nothing together. No assumptions.
use Prim.Native.Nat.{ℕ, zero, suc, ◌+◌, ◌*◌, ◌<◌}
use mathlib.Core.List.{List, [], ◌∷◌}
use mathlib.Core.Path.{◌≡◌, ap, ◌∙◌}
use native.Mathlib.Omega.{arith}
use lib.ListN.{set, length}
use lib.Seq.{get_or-set_same, get_or-set_other}
use lib.IntN.{ℤ, pos, ◌+ℤ◌, ◌-ℤ◌, ◌*ℤ◌, *ℤ-zero}
use Rattle.numeric.specs.Sum.{sum}
use Rattle.numeric.proofs.Expression.{v, ◌⊕◌, ◌⊖◌, ◌⊗◌}
use Rattle.numeric.proofs.Ring.{solve}
use Rattle.numeric.proofs.SumLaws.{sum_eq, sum_zero, sum_scale, sum_change, sum_exchange}
use Rattle.stoichiometry.specs.declared.Set.{Set}
use Rattle.stoichiometry.specs.Substances.{substances, Total, held_at, contents}
use Rattle.stoichiometry.specs.Totals.{amount_at, cell_total}
use Rattle.stoichiometry.specs.Rows.{row_entry}
use Rattle.stoichiometry.proofs.Contents.{contents_zero, contents_add}
use Rattle.stoichiometry.proofs.Balance.{process_balance}

-- One amount with a number added: place s of cell c, both from 0.
abbrev pub added : List ℤ → ℕ → ℕ → ℤ → List ℤ
added amounts c s x = set amounts (c * substances + s) (amount_at amounts c s +ℤ x)

module _ (set : Set) (t : Total) where
  -- The contents of a multiple, of a difference and of a sum.
  pub contents_scale : (k : ℕ) (b x : ℤ) → contents set t k (b *ℤ x) ≡ b *ℤ contents set t k x
  unfolding contents
  contents_scale k b x = solve (b ∷ x ∷ held_at set t k ∷ []) (v 0 ⊗ v 1 ⊗ v 2) (v 0 ⊗ (v 1 ⊗ v 2)) tt

  pub contents_sub : (k : ℕ) (x y : ℤ) → contents set t k (x -ℤ y) ≡ contents set t k x -ℤ contents set t k y
  unfolding contents
  contents_sub k x y = solve (x ∷ y ∷ held_at set t k ∷ []) ((v 0 ⊖ v 1) ⊗ v 2) (v 0 ⊗ v 2 ⊖ v 1 ⊗ v 2) tt

  pub contents-sum : (k n : ℕ) (f : ℕ → ℤ) → contents set t k (sum n f) ≡ sum n (λ p. contents set t k (f p))
  unfolding sum
  contents-sum k zero f = contents_zero set t k
  contents-sum k (suc n) f =
      contents_add set t k (sum n f) (f n) ∙ ap (λ (x : ℤ). x +ℤ contents set t k (f n)) (contents-sum k n f)

  -- Cells whose amounts are equal have equal totals.
  pub cell_eq : (a b : List ℤ) (c d : ℕ) → ((s : ℕ) → s < substances → amount_at a c s ≡ amount_at b d s)
      → cell_total set t a c ≡ cell_total set t b d
  unfolding cell_total
  cell_eq a b c d h = sum_eq substances _ _ (λ s l. ap (contents set t s) (h s l))

  -- A cell whose amounts are 0 holds nothing.
  pub cell_zero : (a : List ℤ) (c : ℕ) → ((s : ℕ) → s < substances → amount_at a c s ≡ pos 0)
      → cell_total set t a c ≡ pos 0
  unfolding cell_total
  cell_zero a c h =
      sum_eq substances _ (λ s. pos 0) (λ s l. ap (contents set t s) (h s l) ∙ contents_zero set t s)
      ∙ sum_zero substances

  -- A number added to an amount: its cell gets the contents of that number, other cells stay.
  pub cell_added : (a : List ℤ) (c s : ℕ) (x : ℤ) → s < substances → c * substances + s < length a
      → cell_total set t (added a c s x) c ≡ cell_total set t a c +ℤ contents set t s x
  unfolding cell_total
  cell_added a c s x h l =
      let at : List ℤ → ℕ → ℤ = λ list k. contents set t k (amount_at list c k) in
      sum_change substances s (at a) (at (added a c s x)) h
      (λ k d. ap (contents set t k)
      (get_or-set_other a (c * substances + s) (c * substances + k) (amount_at a c s +ℤ x) (pos 0) (λ e. d (omega arith))))
      ∙ rw (get_or-set_same a (c * substances + s) (amount_at a c s +ℤ x) (pos 0) l, contents_add)
      (solve (sum substances (at a) ∷ at a s ∷ contents set t s x ∷ []) (v 0 ⊕ (v 1 ⊕ v 2 ⊖ v 1)) (v 0 ⊕ v 2) tt)

  pub cell_beside : (a : List ℤ) (b c s : ℕ) (x : ℤ) → s < substances → (b ≡ c → ⊥)
      → cell_total set t (added a c s x) b ≡ cell_total set t a b
  cell_beside a b c s x h d =
      cell_eq (added a c s x) a b b
      (λ k l.
      get_or-set_other a (c * substances + s) (b * substances + k) (amount_at a c s +ℤ x) (pos 0) (λ e. d (omega arith)))

  -- Batches of rows, any number of each, hold nothing together.
  pub batches_balance : (n : ℕ) (b : ℕ → ℤ)
      → sum substances (λ s. contents set t s (sum n (λ p. b p *ℤ row_entry set p s))) ≡ pos 0
  batches_balance n b =
      sum_eq substances _ (λ s. sum n (λ p. b p *ℤ contents set t s (row_entry set p s)))
      (λ s l. contents-sum s n (λ p. b p *ℤ row_entry set p s)
      ∙ sum_eq n _ _ (λ p j. contents_scale s (b p) (row_entry set p s)))
      ∙ sum_exchange substances n (λ s p. b p *ℤ contents set t s (row_entry set p s))
      ∙ sum_eq n _ (λ p. pos 0)
      (λ p j. sum_scale substances (b p) (λ s. contents set t s (row_entry set p s))
      ∙ ap (λ (x : ℤ). b p *ℤ x) (process_balance set p t) ∙ *ℤ-zero (b p))
      ∙ sum_zero n
