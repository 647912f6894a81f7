-- Expressions over integers, and `omega` for them: `equal`, `at_most` and `below` prove `≡`, `◌≤ℤ◌` and `◌<ℤ◌` of two
-- expressions from a statement on ℕ, which `omega arith` proves; `at_most_of` and `below_of` go the other way, for
-- facts. Identities without a hypothesis are shorter by `solve` (Ring.antt). No assumptions.
use mathlib.Core.Path.{◌≡◌}
use mathlib.Core.Bool.{Bool, true, false, not}
use mathlib.Core.List.{List}
use Prim.Native.Nat.{ℕ, ◌+◌, ◌*◌, ◌≤◌, ◌<◌}
use lib.ListN.{get_or}
use lib.IntN.{ℤ, pos, neg_ℤ, ◌+ℤ◌, ◌-ℤ◌, ◌*ℤ◌}
use lib.Signed.{◌≤ℤ◌, ◌<ℤ◌}
use Rattle.numeric.proofs.Difference.{up, dn, Rep, rep_self, rep_add, rep_neg, rep_mul, rep_eq, rep_le, le_rep, rep_lt, lt_rep}

infixl 6 ◌⊕◌ ◌⊖◌
infixl 7 ◌⊗◌
pub data Operation : Type 0 where
  plus minus times : Operation

-- v i is the i-th of a list of integers, # c a constant.
pub data Ex : Type 0 where
  v : ℕ → Ex
  # : ℤ → Ex
  op : Operation → Ex → Ex → Ex
  ⊝ : Ex → Ex

abbrev pub ◌⊕◌ : Ex → Ex → Ex
a ⊕ b = op plus a b

abbrev pub ◌⊖◌ : Ex → Ex → Ex
a ⊖ b = op minus a b

abbrev pub ◌⊗◌ : Ex → Ex → Ex
a ⊗ b = op times a b

abbrev pub apply : Operation → ℤ → ℤ → ℤ
apply plus x y = x +ℤ y
apply minus x y = x -ℤ y
apply times x y = x *ℤ y

abbrev pub eval : List ℤ → Ex → ℤ
eval env (v i) = get_or env i (pos 0)
eval env (# c) = c
eval env (op o a b) = apply o (eval env a) (eval env b)
eval env (⊝ a) = neg_ℤ (eval env a)

-- The expression is `part true` − `part false`.
abbrev pub part : Bool → List ℤ → Ex → ℕ
part true env (v i) = up (get_or env i (pos 0))
part false env (v i) = dn (get_or env i (pos 0))
part true env (# c) = up c
part false env (# c) = dn c
part s env (op plus a b) = part s env a + part s env b
part s env (op minus a b) = part s env a + part (not s) env b
part s env (op times a b) = part s env a * part true env b + part (not s) env a * part false env b
part s env (⊝ a) = part (not s) env a

pub rep : (env : List ℤ) (e : Ex) → Rep (eval env e) (part true env e) (part false env e)
rep env (v i) = rep_self (get_or env i (pos 0))
rep env (# c) = rep_self c
rep env (op plus a b) = rep_add (rep env a) (rep env b)
rep env (op minus a b) = rep_add (rep env a) (rep_neg (rep env b))
rep env (op times a b) = rep_mul (rep env a) (rep env b)
rep env (⊝ a) = rep_neg (rep env a)

module _ (env : List ℤ) (e f : Ex) where
  pub equal : part true env e + part false env f ≡ part true env f + part false env e → eval env e ≡ eval env f
  equal h = rep_eq (rep env e) (rep env f) h

  pub at_most : part true env e + part false env f ≤ part true env f + part false env e → eval env e ≤ℤ eval env f
  at_most h = rep_le (rep env e) (rep env f) h

  pub at_most_of : eval env e ≤ℤ eval env f → part true env e + part false env f ≤ part true env f + part false env e
  at_most_of h = le_rep (rep env e) (rep env f) h

  pub below : part true env e + part false env f < part true env f + part false env e → eval env e <ℤ eval env f
  below h = rep_lt (rep env e) (rep env f) h

  pub below_of : eval env e <ℤ eval env f → part true env e + part false env f < part true env f + part false env e
  below_of h = lt_rep (rep env e) (rep env f) h
