-- Which substances a process can change, whatever the set's figures (scope, "Rows, per batch"), and what that says of
-- the entries of rows: all others are 0. That the rows of every set are so: proofs/RowZeros.antt. No assumptions.
use Rattle.std.specs.Prelude.{ℕ, zero, suc, ◌+◌, ◌*◌, ◌/◌, ◌%◌, ◌<◌, Bool, false, ◌||◌, List, [], ◌∷◌, ◌++◌, map, ◌≡◌, eqb, get_or, ℤ, pos}
use Rattle.stoichiometry.specs.declared.Nitrogen.{Nitrogen}
use Rattle.stoichiometry.specs.declared.Nitrogen.TheVariants.{Nh4, No3, No2}
use Rattle.stoichiometry.specs.declared.Further.{Further}
use Rattle.stoichiometry.specs.declared.Further.TheVariants.{Nothing, Nh4ToNo2, No2ToNo3, Adsorbed}
use Rattle.stoichiometry.specs.declared.Acceptor.{Acceptor}
use Rattle.stoichiometry.specs.declared.Acceptor.TheVariants.{Oxygen, No3ToNo2, No2ToN2, No3ToN2}
use Rattle.stoichiometry.specs.Substances.{substances, Organic, Substance, organic, nh4, no2, no3, hpo4, o2, hco3, h_plus, xp, h2o, n2, place}
use Rattle.stoichiometry.specs.Rows.{processes, Change, ◌by◌, Process, process_at}
use Rattle.stoichiometry.specs.Sets.{zero_set}

-- Where nitrogen goes; what takes up electrons: O2 itself, or nothing that is O2.
abbrev pub nitrogen_in : Nitrogen → Substance
nitrogen_in Nh4 = nh4
nitrogen_in No3 = no3
nitrogen_in No2 = no2

abbrev pub oxygen_in : Acceptor → List Substance
oxygen_in Oxygen = o2 ∷ []
oxygen_in No3ToNo2 = []
oxygen_in No2ToN2 = []
oxygen_in No3ToN2 = []

-- What the closure changes with the nitrogen's form, if there is an organic change.
abbrev pub closed_in : Nitrogen → Acceptor → List (Change Organic) → List Substance
closed_in n a [] = []
closed_in n a (x by d ∷ changes) = nitrogen_in n ∷ hpo4 ∷ hco3 ∷ h_plus ∷ h2o ∷ oxygen_in a

-- What is turned over besides, and what the acceptor changes in place of O2.
abbrev pub turned_in : Further → Acceptor → List Substance
turned_in Nothing a = []
turned_in (Nh4ToNo2 k) a = nh4 ∷ no2 ∷ h2o ∷ h_plus ∷ oxygen_in a
turned_in (No2ToNo3 k) a = no2 ∷ no3 ∷ oxygen_in a
turned_in (Adsorbed x) a = hpo4 ∷ xp ∷ []

abbrev pub reduced_in : Acceptor → List Substance
reduced_in Oxygen = []
reduced_in No3ToNo2 = no3 ∷ no2 ∷ []
reduced_in No2ToN2 = no2 ∷ h_plus ∷ n2 ∷ h2o ∷ []
reduced_in No3ToN2 = no3 ∷ h_plus ∷ n2 ∷ h2o ∷ []

-- All that a process can change.
unfoldable pub changed_by : Process → List Substance
changed_by q =
    map (λ change. elim change [ x by d ↦ organic x ]) q.changes
    ++ closed_in q.nitrogen q.acceptor q.changes ++ turned_in q.further q.acceptor ++ reduced_in q.acceptor

-- One of the substances stands at place s.
unfoldable pub stands_at : ℕ → List Substance → Bool
stands_at s [] = false
stands_at s (x ∷ xs) = eqb (place x) s || stands_at s xs

-- The process at place p can change the substance at place s. Its kind is the same in every set, so one of zeros serves.
unfoldable pub may_change : ℕ → ℕ → Bool
may_change p s = stands_at s (changed_by (process_at zero_set p))

-- No process has an entry for a substance that it cannot change.
pub record EntriesZero (entries : List ℤ) : Type 0 where
  pub each : (p s : ℕ) → p < processes → s < substances → may_change p s ≡ false
      → get_or entries (p * substances + s) (pos 0) ≡ pos 0

-- The digit at place p of a number in binary is 1; the last digit has place 0.
unfoldable pub digit : ℕ → ℕ → Bool
digit n zero = eqb (n % 2) 1
digit n (suc p) = digit (n / 2) p

-- The digits of a number say which processes can change the substance at place s.
abbrev pub Digits : ℕ → ℕ → Type 0
Digits changing s = (p : ℕ) → p < processes → digit changing p ≡ may_change p s
