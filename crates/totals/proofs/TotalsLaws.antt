-- Totals of a cell: a turn of the loop that adds them up; what a cell of a right river holds under an accepted set is
-- small enough to be added in 64 bits; the number of a call by that of the set. No assumptions.
use Prim.Native.Nat.{ℕ, zero, suc, ◌-◌, ◌<◌, ◌≤◌, ◌+◌, ◌^◌}
use mathlib.Core.Bool.{Bool, true, false, not, cond}
use mathlib.Core.List.{List, [], ◌∷◌, map}
use mathlib.Core.Path.{◌≡◌, refl, sym, ap, ◌∙◌}
use native.Mathlib.Nat.{zero-add}
use native.Mathlib.Omega.{arith}
use borrow.Author.Tests.{ne_eqb, eqb-true, leb-true}
use lib.Dec.{eqb, leb, lit<}
use lib.IntN.{ℤ, pos, nat_abs, ◌+ℤ◌, ◌*ℤ◌}
use lib.ListN.{length, get_or}
use Rattle.numeric.specs.Check.{all_of, ◌when◌, first_holding}
use Rattle.numeric.specs.Sum.{sum}
use Rattle.numeric.proofs.Bounds.{abs_at, abs_mul_le}
use Rattle.numeric.proofs.CheckLaws.{all_of_at, abs_all_at, first_append}
use Rattle.numeric.proofs.SumLaws.{sum-none, sum_more, sum_eq, added, sum-within, added_le}
use Rattle.numeric.proofs.TableLaws.{AtMost, done, ◌also◌, at_most_at}
use Rattle.stoichiometry.specs.declared.Fractions.{Fractions}
use Rattle.stoichiometry.specs.declared.Set.{Set}
use Rattle.stoichiometry.specs.Substances.{Substance, organic, nh4, no2, no3, hpo4, o2, hco3, h_plus, xp, h2o, n2}
use Rattle.stoichiometry.specs.Substances.{Total, carbon, hydrogen, oxygen, nitrogen, phosphorus, charge, amount_of}
use Rattle.stoichiometry.specs.Substances.{substances, order, fractions_of, organic_composition, composition_of}
use Rattle.stoichiometry.specs.Substances.{held, held_at, contents}
use Rattle.stoichiometry.specs.Totals.{amount_at, cell_total}
use Rattle.stoichiometry.specs.Parameters.{adds_up, fractions_wrong}
use Rattle.stoichiometry.specs.Sets.{set_checks, set_number}
use Rattle.stoichiometry.proofs.SetNumber.{adds_up_lem}
use Rattle.stoichiometry.proofs.Totals.{cell_eq}
use Rattle.river.specs.declared.River.{River}
use Rattle.river.specs.Rivers.{highest_at, river_wrong, cell_exists}
use Rattle.river.proofs.Bounds.{fits_size}
use Rattle.river.proofs.Rivers.{amount_fits_at}
use Rattle.std.specs.Prelude.{Err}
use Rattle.stoichiometry.specs.declared.refusals.Refusal.{Refusal}
use Rattle.stoichiometry.proofs.RefusalLaws.{answer-err, answer-refused}
use Rattle.rows.specs.Answers.{check_answer}
use Rattle.totals.specs.declared.Totals.{Totals}
use Rattle.totals.specs.Totals.{totals_number, totals_in, totals_answer}
use Rattle.totals.specs.Inner.TotalsCode.{totals_from, total_in, as_totals, compositions, with_amount, heaviest, most_held}
use Rattle.totals.specs.Inner.TotalsCode.{Addable, AddableAmounts}

-- All that the amounts of a cell may hold: below 2 ^ 63.
all_held : added substances most_held ≡ 5739840000000000000
unfolding added most_held highest_at
all_held = refl

-- The six totals, and a test that each passes.
abbrev totals : List Total
totals = carbon ∷ hydrogen ∷ oxygen ∷ nitrogen ∷ phosphorus ∷ charge ∷ []

each_total : (p : Total → Bool) → all_of p totals ≡ true → (t : Total) → p t ≡ true
each_total p e carbon = all_of_at p totals 0 carbon e (lit< tt)
each_total p e hydrogen = all_of_at p totals 1 carbon e (lit< tt)
each_total p e oxygen = all_of_at p totals 2 carbon e (lit< tt)
each_total p e nitrogen = all_of_at p totals 3 carbon e (lit< tt)
each_total p e phosphorus = all_of_at p totals 4 carbon e (lit< tt)
each_total p e charge = all_of_at p totals 5 carbon e (lit< tt)

-- Each of six totals, and totals of which each is the same.
total_from : (f : Total → ℤ) (t : Total) → total_in t (totals_from f) ≡ f t
total_from f carbon = refl
total_from f hydrogen = refl
total_from f oxygen = refl
total_from f nitrogen = refl
total_from f phosphorus = refl
total_from f charge = refl

same_totals : (f g : Total → ℤ) → ((t : Total) → f t ≡ g t) → totals_from f ≡ totals_from g
same_totals f g same = λ i. totals_from (λ t. same t i)

-- Grains of an element in a thousandth of a µg of it, and the fractions, both by the place of the total.
abbrev pub element_grains : List ℤ
element_grains = pos 26040 ∷ pos 312480 ∷ pos 19530 ∷ pos 22320 ∷ pos 10080 ∷ pos 0 ∷ []

abbrev pub fraction_list : Fractions → List ℕ
fraction_list f = f.carbon ∷ f.hydrogen ∷ f.oxygen ∷ f.nitrogen ∷ f.phosphorus ∷ 0 ∷ []

pub grains_le : (t : ℕ) → t < 6 → nat_abs (get_or element_grains t (pos 0)) ≤ 312480
unfolding all_of
grains_le t h = abs_all_at 312480 element_grains t refl h

-- Fractions of at most m each.
pub fraction_le : (f : Fractions) (m : ℕ) → f.carbon ≤ m → f.hydrogen ≤ m → f.oxygen ≤ m → f.nitrogen ≤ m
    → f.phosphorus ≤ m → (t : ℕ) → get_or (fraction_list f) t 0 ≤ m
fraction_le f m c h o n p t =
    let none : 0 ≤ m = omega arith in
    let small : AtMost (λ x. x) m (fraction_list f) = c also h also o also n also p also none also done in
    at_most_at small 0 none t

-- One µg of an organic holds at most 1,000 thousandths of an element.
organic-light : (f : Fractions) → adds_up f ≡ true → (t : Total)
    → nat_abs (amount_of t (organic_composition f)) ≤ 312480000
unfolding adds_up
organic-light f e carbon = omega (arith, eqb-true _ 1000 e)
organic-light f e hydrogen = omega (arith, eqb-true _ 1000 e)
organic-light f e oxygen = omega (arith, eqb-true _ 1000 e)
organic-light f e nitrogen = omega (arith, eqb-true _ 1000 e)
organic-light f e phosphorus = omega (arith, eqb-true _ 1000 e)
organic-light f e charge = omega arith

formula_light : (set : Set) (t : Total) (s : Substance)
    → all_of (λ x. leb (nat_abs (held set x s)) (heaviest s)) totals ≡ true → nat_abs (held set t s) ≤ heaviest s
formula_light set t s e = leb-true _ (heaviest s) (each_total (λ x. leb (nat_abs (held set x s)) (heaviest s)) e t)

-- No substance holds more than `heaviest` of a total; the numbers of a formula by computation.
light : (set : Set) → fractions_wrong set ≡ false → (t : Total) (s : Substance) → nat_abs (held set t s) ≤ heaviest s
unfolding all_of
light set e t (organic x) = organic-light (fractions_of set x) (adds_up_lem set e x) t
light set e t nh4 = formula_light set t nh4 refl
light set e t no2 = formula_light set t no2 refl
light set e t no3 = formula_light set t no3 refl
light set e t hpo4 = formula_light set t hpo4 refl
light set e t o2 = formula_light set t o2 refl
light set e t hco3 = formula_light set t hco3 refl
light set e t h_plus = formula_light set t h_plus refl
light set e t xp = formula_light set t xp refl
light set e t h2o = formula_light set t h2o refl
light set e t n2 = formula_light set t n2 refl

first_cell : (amounts : List ℤ) (s : ℕ) → amount_at amounts 0 s ≡ get_or amounts s (pos 0)
first_cell amounts s = ap (λ (j : ℕ). get_or amounts j (pos 0)) (zero-add s)

-- The amounts of cell c alone, as the code cuts them out: they hold what the cell holds.
pub cell_alone : (set : Set) (amounts cell : List ℤ) (c : ℕ)
    → ((s : ℕ) → s < substances → get_or cell s (pos 0) ≡ amount_at amounts c s)
    → totals_in set cell 0 ≡ totals_in set amounts c
cell_alone set amounts cell c cut =
    same_totals (λ t. cell_total set t cell 0) (λ t. cell_total set t amounts c)
    (λ t. cell_eq set t cell amounts 0 c (λ s l. first_cell cell s ∙ cut s l))

-- They are those of a right river, under a set of which check 1 does not hold.
pub cell_addable : (set : Set) (r : River) → fractions_wrong set ≡ false → river_wrong r ≡ false → (cell : List ℤ)
    → (c : ℕ) → c < r.cells → ((s : ℕ) → s < substances → get_or cell s (pos 0) ≡ amount_at r.amounts c s)
    → AddableAmounts set cell
unfolding contents held_at most_held
cell_addable set r e right cell c h cut = record { within = small }
  where
    small : (t : Total) (s : ℕ) → s < substances → nat_abs (contents set t s (get_or cell s (pos 0))) ≤ most_held s
    small t s l =
        let amount = amount_at r.amounts c s in
        rw (cut s l)
        (abs_mul_le amount (held_at set t s) (fits_size s amount l (amount_fits_at r right c s h l))
        (abs_at order (held set t) heaviest s (light set e t)))

-- What the amounts at places below k of a cell hold of each total.
pub record HeldBelow (set : Set) (amounts : List ℤ) (k : ℕ) (sums : Totals) : Type 0 where
  pub held_sum : (t : Total) → total_in t sums ≡ sum k (λ s. contents set t s (get_or amounts s (pos 0)))

-- At place k of the compositions stands what the substance there holds.
composed_at : (set : Set) (t : Total) (l : List Substance) (k : ℕ) (d : Totals) → k < length l
    → total_in t (get_or (map (λ s. as_totals (composition_of set s)) l) k d) ≡ get_or (map (held set t) l) k (pos 0)
composed_at set t [] k d h = absurd (omega arith)
composed_at set t (s ∷ l) zero d h = total_from (λ x. held set x s) t
composed_at set t (s ∷ l) (suc k) d h = composed_at set t l k d (omega arith)

-- A turn of the loop over the substances, at place k: the sums with what the amount holds fit 64 bits, and are the
-- next ones.
module _ (set : Set) (amounts : List ℤ) (k : ℕ) (sums d : Totals) (h : k < substances)
    (so_far : HeldBelow set amounts k sums) where
  abbrev one : Totals
  one = get_or (compositions set) k d

  product-is : (t : Total) → get_or amounts k (pos 0) *ℤ total_in t one ≡ contents set t k (get_or amounts k (pos 0))
  unfolding contents held_at compositions
  product-is t = ap (λ (z : ℤ). get_or amounts k (pos 0) *ℤ z) (composed_at set t order k d h)

  pub turn_fits : AddableAmounts set amounts → Addable sums (get_or amounts k (pos 0)) one
  turn_fits small = record { fits = fits }
    where
      fits : (t : Total) → nat_abs (total_in t sums) + nat_abs (get_or amounts k (pos 0) *ℤ total_in t one) < 2 ^ 63
      fits t =
          let at : ℕ → ℤ = λ s. contents set t s (get_or amounts s (pos 0)) in
          let below = sum-within k at most_held (λ j l. small.within t j (omega arith)) in
          rw (so_far.held_sum t, product-is t)
          (omega (arith, small.within t k h, added_le substances k most_held h, all_held, below))

  pub turn_next : HeldBelow set amounts (k + 1) (with_amount sums (get_or amounts k (pos 0)) one)
  turn_next =
      let with_one : Total → ℤ = λ t. total_in t sums +ℤ get_or amounts k (pos 0) *ℤ total_in t one in
      record { held_sum = λ t. total_from with_one t ∙ rw (so_far.held_sum t, product-is t, sum_more) refl }

-- Totals of zeros.
abbrev pub ZeroTotals : Totals → Type 0
ZeroTotals t =
    (t.carbon ≡ pos 0)
    × ((t.hydrogen ≡ pos 0)
    × ((t.oxygen ≡ pos 0) × ((t.nitrogen ≡ pos 0) × ((t.phosphorus ≡ pos 0) × (t.charge ≡ pos 0)))))

zero_at : (sums : Totals) → ZeroTotals sums → (t : Total) → total_in t sums ≡ pos 0
zero_at sums e carbon = e.0
zero_at sums e hydrogen = e.1.0
zero_at sums e oxygen = e.1.1.0
zero_at sums e nitrogen = e.1.1.1.0
zero_at sums e phosphorus = e.1.1.1.1.0
zero_at sums e charge = e.1.1.1.1.1

pub held_none : (set : Set) (amounts : List ℤ) (sums : Totals) → ZeroTotals sums → HeldBelow set amounts 0 sums
held_none set amounts sums e = record { held_sum = λ t. zero_at sums e t ∙ sym (sum-none _) }

pub held_all : (set : Set) (amounts : List ℤ) (k : ℕ) (sums : Totals) → k ≡ substances → HeldBelow set amounts k sums
    → sums ≡ totals_in set amounts 0
unfolding cell_total
held_all set amounts k sums e held =
    same_totals (λ t. total_in t sums) (λ t. cell_total set t amounts 0)
    (λ t. held.held_sum t
    ∙ rw e (sum_eq substances _ _ (λ s l. ap (contents set t s) (sym (first_cell amounts s)))))

-- The number of a call by that of the set.
pub totals_number_lem : (set : Set) (r : River) (cell : ℕ)
    → let others = 4 when river_wrong r ∷ 5 when not (cell_exists r cell) ∷ [] in
    totals_number set r cell ≡ cond (eqb (set_number set) 0) (first_holding others) (set_number set)
unfolding totals_number set_number
totals_number_lem set r cell = first_append (set_checks set) _ refl

-- The answer where the set is refused, and where it is not: by the number of the river and the cell.
module _ (set : Set) (r : River) (cell : ℕ) where
  pub set_refused : (refusal : Refusal) → Err refusal ≡ check_answer set → Err refusal ≡ totals_answer set r cell
  unfolding totals_answer check_answer
  set_refused refusal e =
      let n = set_number set in
      let told = answer-err n tt refusal e in
      rw (totals_number_lem set r cell, ne_eqb n 0 told.0, told.1)
      (sym (answer-refused n (totals_in set r.amounts (cell - 1)) told.0))

  pub number_beside : set_number set ≡ 0
      → totals_number set r cell ≡ first_holding (4 when river_wrong r ∷ 5 when not (cell_exists r cell) ∷ [])
  number_beside e = rw (totals_number_lem set r cell, e) refl
