-- A table of cases holds where one test passes, which computes each value and compares it with the stated one. (`refl`
-- of the two lists compares them definition by definition, which takes too long for the answers of whole calls.)
-- No assumptions.
use mathlib.Core.Bool.{Bool, true, false, true≢false}
use mathlib.Core.List.{List, [], ◌∷◌}
use mathlib.Core.Path.{◌≡◌, refl, sym, ap, ap₂}
use borrow.Author.Tests.{eqb-true}
use lib.Dec.{eqb}
use lib.IntN.{ℤ, pos, negsuc}
use Rattle.numeric.specs.Case.{Case, ◌gives◌, computed, stated, AllHold}
use Rattle.numeric.specs.Check.{all_of}
use Rattle.numeric.proofs.CheckLaws.{and_left, and_right}

abbrev pub holds : Case → Bool
holds (pos a gives pos b) = eqb a b
holds (pos a gives negsuc b) = false
holds (negsuc a gives pos b) = false
holds (negsuc a gives negsuc b) = eqb a b

holds_eq : (c : Case) → holds c ≡ true → computed c ≡ stated c
holds_eq (pos a gives pos b) e = ap pos (eqb-true a b e)
holds_eq (pos a gives negsuc b) e = absurd (true≢false (sym e))
holds_eq (negsuc a gives pos b) e = absurd (true≢false (sym e))
holds_eq (negsuc a gives negsuc b) e = ap negsuc (eqb-true a b e)

pub all_hold : (cases : List Case) → all_of holds cases ≡ true → AllHold cases
unfolding all_of
all_hold [] e = refl
all_hold (c ∷ cases) e =
    ap₂ (λ (x : ℤ) (xs : List ℤ). x ∷ xs) (holds_eq c (and_left (holds c) (all_of holds cases) e))
    (all_hold cases (and_right (holds c) (all_of holds cases) e))
