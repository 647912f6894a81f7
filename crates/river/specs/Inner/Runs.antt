-- What the inner functions of check 4 say of a substance by its place, and of a run of neighbouring ones (scope, "Units
-- and substances": the bounds). Laws: proofs/Runs.antt. No assumptions.
use Rattle.std.specs.Prelude.{ℕ, ◌+◌, ◌-◌, ◌≤◌, ◌<◌, Bool, true, ◌&&◌, ◌||◌, List, ◌≡◌, ltb, eqb, length, get_or, ℤ, pos, ◌≤ℤ◌}
use Rattle.std.specs.Int.Signed.{le_z}
use Rattle.numeric.specs.Check.{in_range, every}
use Rattle.stoichiometry.specs.Substances.{organic, xh, xi, nh4, h_plus, h2o, place}
use Rattle.river.specs.Rivers.{lowest_at, highest_at, amount_fits}

-- The substance at a place is an organic: these stand before NH4 and from XH to XI. It is H+ or H2O.
abbrev pub organic_at : ℕ → Bool
organic_at s = ltb s (place nh4) || in_range (place (organic xh)) (place (organic xi)) s

abbrev pub net_at : ℕ → Bool
net_at s = eqb s (place h_plus) || eqb s (place h2o)

-- The amounts of a cell of the substances at places first to end - 1 are in their bounds.
abbrev pub RunFits : List ℤ → ℕ → ℕ → Type 0
RunFits cell first end = (s : ℕ) → first ≤ s → s < end → amount_fits s (get_or cell s (pos 0)) ≡ true

-- The bounds of the substance at place `first` are from 0 on, and no substance up to end - 1 has narrower ones.
abbrev pub same_bounds : ℕ → ℕ → Bool
same_bounds first end =
    le_z (pos 0) (lowest_at first)
    && every (end - first) (λ i. le_z (lowest_at (first + i)) (pos 0) && le_z (highest_at first) (highest_at (first + i)))

-- Where z is not below zero, each of the first `count` amounts is from 0 to z.
abbrev pub CoversFirst : List ℤ → ℕ → ℤ → Type 0
CoversFirst amounts count z =
    pos 0 ≤ℤ z → (i : ℕ) → i < count → (pos 0 ≤ℤ get_or amounts i (pos 0)) × (get_or amounts i (pos 0) ≤ℤ z)

-- The same of all amounts.
abbrev pub Covers : List ℤ → ℤ → Type 0
Covers amounts z = CoversFirst amounts (length amounts) z
