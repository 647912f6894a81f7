-- Laws of places, of a test of every organic, of weighted sums and entries of changes, and of contents.
-- `entry-weighted` joins them: a sum over all substances is a weighted sum over a list of changes. No assumptions.
use Prim.Native.Nat.{ℕ, ◌<◌}
use mathlib.Core.Bool.{Bool, true, false, cond}
use mathlib.Core.List.{List, [], ◌∷◌, ◌++◌, map}
use mathlib.Core.Path.{◌≡◌, refl, sym, ap₂, ◌∙◌}
use lib.Dec.{T, ltb, eqb, lit<}
use lib.ListN.{get_or}
use lib.IntN.{ℤ, pos, neg_ℤ, ◌+ℤ◌, ◌*ℤ◌, +ℤ_idl, +ℤ_assoc, zero-*ℤ}
use borrow.Author.Tests.{eq-eqb, ne_eqb}
use Rattle.numeric.specs.Check.{all_of}
use Rattle.numeric.specs.Sum.{sum}
use Rattle.numeric.proofs.CheckLaws.{all_of_at}
use Rattle.numeric.proofs.RingLaws.{*ℤ_distrib_right, neg_*ℤ}
use Rattle.numeric.proofs.SumLaws.{sum_zero, sum_add, sum_single}
use Rattle.stoichiometry.specs.declared.Set.{Set}
use Rattle.stoichiometry.specs.Substances.{substances, Organic, ss, si, xh, xn1, xn2, xalg, xs, xi, Substance, organic, nh4, no2, no3, hpo4, o2, hco3, h_plus, xp, h2o, n2, order, organics, place, Total, held, held_at, contents}
use Rattle.stoichiometry.specs.Rows.{Change, ◌by◌, weighted, entry}

order_at : (w : Substance → ℤ) (s : Substance) → (place s < substances) × (get_or (map w order) (place s) (pos 0) ≡ w s)
order_at w (organic ss) = (lit< tt, refl)
order_at w (organic si) = (lit< tt, refl)
order_at w nh4 = (lit< tt, refl)
order_at w no2 = (lit< tt, refl)
order_at w no3 = (lit< tt, refl)
order_at w hpo4 = (lit< tt, refl)
order_at w o2 = (lit< tt, refl)
order_at w hco3 = (lit< tt, refl)
order_at w h_plus = (lit< tt, refl)
order_at w (organic xh) = (lit< tt, refl)
order_at w (organic xn1) = (lit< tt, refl)
order_at w (organic xn2) = (lit< tt, refl)
order_at w (organic xalg) = (lit< tt, refl)
order_at w (organic xs) = (lit< tt, refl)
order_at w (organic xi) = (lit< tt, refl)
order_at w xp = (lit< tt, refl)
order_at w h2o = (lit< tt, refl)
order_at w n2 = (lit< tt, refl)

-- Every substance stands in the order.
pub place_lt : (s : Substance) → place s < substances
place_lt s = (order_at (λ x. pos 0) s).0

-- A test that every organic of the list passes.
pub each-organic : (p : Organic → Bool) → all_of p organics ≡ true → (x : Organic) → p x ≡ true
each-organic p e x =
    elim x as (λ y. p y ≡ true) [
      | ss ↦ at 0 tt
      | si ↦ at 1 tt
      | xh ↦ at 2 tt
      | xn1 ↦ at 3 tt
      | xn2 ↦ at 4 tt
      | xalg ↦ at 5 tt
      | xs ↦ at 6 tt
      | xi ↦ at 7 tt
    ]
  where
    at : (i : ℕ) → T (ltb i 8) → p (get_or organics i ss) ≡ true
    at i h = all_of_at p organics i ss e (lit< h)

-- At its place stands what the substance holds.
pub order-place : (set : Set) (t : Total) (s : Substance) → held_at set t (place s) ≡ held set t s
unfolding held_at
order-place set t s = (order_at (held set t) s).1

-- The weighted sum of two lists of changes.
pub weighted-append : {A : Type 0} (w : A → ℤ) (a b : List (Change A))
    → weighted w (a ++ b) ≡ weighted w a +ℤ weighted w b
weighted-append w [] b = sym (+ℤ_idl (weighted w b))
weighted-append w (s by x ∷ a) b = rw (weighted-append w a b, +ℤ_assoc)

-- The entries of two lists of changes.
pub entry-append : (a b : List (Change Substance)) (k : ℕ) → entry (a ++ b) k ≡ entry a k +ℤ entry b k
unfolding entry
entry-append [] b k = sym (+ℤ_idl (entry b k))
entry-append (s by x ∷ a) b k = rw (entry-append a b k, +ℤ_assoc)

-- Organic changes as changes of substances.
abbrev pub organic_part : List (Change Organic) → List (Change Substance)
organic_part changes = map (λ change. elim change [ x by d ↦ organic x by d ]) changes

-- Their weighted sum is the same.
pub weighted-organic : (w : Substance → ℤ) (changes : List (Change Organic))
    → weighted w (organic_part changes) ≡ weighted (λ x. w (organic x)) changes
weighted-organic w [] = refl
weighted-organic w (x by d ∷ changes) = rw (weighted-organic w changes)

-- They change nothing at a place where no organic stands.
pub entry-organic : (k : ℕ) → ((x : Organic) → eqb (place (organic x)) k ≡ false) → (changes : List (Change Organic))
    → entry (organic_part changes) k ≡ pos 0
unfolding entry
entry-organic k h [] = refl
entry-organic k h (x by d ∷ changes) = rw (h x, entry-organic k h changes)

entry-one : (w : ℕ → ℤ) (s : Substance) (x : ℤ)
    → sum substances (λ k. cond (eqb (place s) k) x (pos 0) *ℤ w k) ≡ x *ℤ w (place s)
entry-one w s x =
    sum_single substances (place s) (λ k. cond (eqb (place s) k) x (pos 0) *ℤ w k) (place_lt s)
    (λ k h. rw (ne_eqb (place s) k (λ e. h (sym e))) (zero-*ℤ (w k)))
    ∙ rw (eq-eqb (place s) (place s) refl)

-- All entries, each times the weight of its place, make the sum of change × weight.
pub entry-weighted : (w : ℕ → ℤ) (changes : List (Change Substance))
    → sum substances (λ k. entry changes k *ℤ w k) ≡ weighted (λ s. w (place s)) changes
unfolding entry
entry-weighted w [] = simp zero-*ℤ (sum_zero substances)
entry-weighted w (s by x ∷ changes) =
    simp *ℤ_distrib_right
    (sum_add substances (λ k. cond (eqb (place s) k) x (pos 0) *ℤ w k) (λ k. entry changes k *ℤ w k)
    ∙ ap₂ ◌+ℤ◌ (entry-one w s x) (entry-weighted w changes))

-- The contents of none.
pub contents_zero : (set : Set) (t : Total) (k : ℕ) → contents set t k (pos 0) ≡ pos 0
unfolding contents
contents_zero set t k = zero-*ℤ (held_at set t k)

-- The contents of two numbers together.
pub contents_add : (set : Set) (t : Total) (k : ℕ) (x y : ℤ)
    → contents set t k (x +ℤ y) ≡ contents set t k x +ℤ contents set t k y
unfolding contents
contents_add set t k x y = *ℤ_distrib_right x y (held_at set t k)

-- The contents of a number with the other sign.
pub contents_neg : (set : Set) (t : Total) (k : ℕ) (x : ℤ) → contents set t k (neg_ℤ x) ≡ neg_ℤ (contents set t k x)
unfolding contents
contents_neg set t k x = neg_*ℤ x (held_at set t k)
