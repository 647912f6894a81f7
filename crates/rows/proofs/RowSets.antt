-- The rows of a set depend on its fractions, yields and inert fractions alone: those of the set that has these and no
-- constants (`row_set`) are the set's, and so are the ranges. No assumptions.
use Prim.Native.Nat.{ℕ, ◌*◌, ◌/◌, ◌%◌}
use mathlib.Core.List.{List, [], ◌∷◌}
use mathlib.Core.Path.{◌≡◌, refl, ap}
use lib.IntN.{pos}
use Rattle.numeric.proofs.TableLaws.{tab_eq}
use Rattle.stoichiometry.specs.declared.Fractions.{Fractions}
use Rattle.stoichiometry.specs.declared.Set.{Set}
use Rattle.stoichiometry.specs.Substances.{substances, Organic, ss, si, xh, xn1, xn2, xalg, xs, xi, fractions_of}
use Rattle.stoichiometry.specs.Rows.{processes, Change, ◌by◌, weighted, Process, oxygen_change, row, entry}
use Rattle.stoichiometry.specs.Rows.{processes_of, process_at, row_entry, rows_of}
use Rattle.rows.specs.Inner.Code.{Ranged, row_set, oxygen_of}

module _ (set : Set) where
  abbrev made : Set
  made = row_set set.fractions set.yields set.inert

  same_fractions : (x : Organic) → fractions_of made x ≡ fractions_of set x
  same_fractions x =
      elim x [ ss ↦ refl | si ↦ refl | xh ↦ refl | xn1 ↦ refl | xn2 ↦ refl | xalg ↦ refl | xs ↦ refl | xi ↦ refl ]

  weighted_same : (fraction : Fractions → ℕ) (changes : List (Change Organic))
      → weighted (λ x. pos (fraction (fractions_of made x))) changes ≡ weighted (λ x. pos (fraction (fractions_of set x))) changes
  weighted_same fraction [] = refl
  weighted_same fraction (x by d ∷ changes) = rw (same_fractions x, weighted_same fraction changes)

  pub ranged_parts : Ranged set → Ranged made
  ranged_parts g =
      record {
        aerobic = g.aerobic;
        nitrate = g.nitrate;
        nitrite = g.nitrite;
        xn1 = g.xn1;
        xn2 = g.xn2;
        death = g.death;
        hydrolysis = g.hydrolysis;
        bacteria = g.bacteria;
        algae = g.algae;
        fractions = λ x. rw (same_fractions x) (g.fractions x);
      }

  row_same : (q : Process) → (row made q ≡ row set q) × (oxygen_change made q ≡ oxygen_change set q)
  unfolding row oxygen_change
  row_same q =
      let c = weighted_same (λ f. f.carbon) q.changes in
      let h = weighted_same (λ f. f.hydrogen) q.changes in
      let o = weighted_same (λ f. f.oxygen) q.changes in
      let n = weighted_same (λ f. f.nitrogen) q.changes in
      let p = weighted_same (λ f. f.phosphorus) q.changes in
      (rw (c, h, o, n, p), rw (c, h, o, n, p))

  pub rows-parts : rows_of made ≡ rows_of set
  unfolding rows_of row_entry process_at processes_of
  rows-parts =
      tab_eq (processes * substances) _ _
      (λ k h. ap (λ l. entry l (k % substances)) (row_same (process_at set (k / substances))).0)

  pub oxygen-parts : oxygen_of made ≡ oxygen_of set
  unfolding oxygen_of process_at processes_of
  oxygen-parts = tab_eq processes _ _ (λ p h. (row_same (process_at set p)).1)
