-- Checks: a number from low to high, a test of every number below n or of every element of a list, and the number of
-- the first check that holds, which is what a call refuses with. Laws: proofs/CheckLaws.antt. No assumptions.
use Rattle.std.specs.Prelude.{ℕ, zero, suc, Bool, true, false, ◌&&◌, List, [], ◌∷◌, leb}
use Rattle.std.specs.List.{list_all}

-- A number is from low to high, both included.
abbrev pub in_range : ℕ → ℕ → ℕ → Bool
in_range low high x = leb low x && leb x high

-- Every number below n passes the test p.
unfoldable pub every : ℕ → (ℕ → Bool) → Bool
every zero p = true
every (suc n) p = every n p && p n

-- Every element of the list passes the test p.
unfoldable pub all_of : {A : Type 0} → (A → Bool) → List A → Bool
all_of p xs = list_all p xs

infix 68 ◌when◌
-- A check: the number that a call refuses with when the test holds.
pub data Check : Type 0 where
  ◌when◌ : ℕ → Bool → Check

-- The number of the first check of the list that holds, 0 where none does.
unfoldable pub first_holding : List Check → ℕ
first_holding [] = 0
first_holding (number when holds ∷ checks) = elim holds [ true ↦ number | false ↦ first_holding checks ]
