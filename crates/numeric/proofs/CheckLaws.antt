-- Laws of `every`, as the invariant of a checking loop wants them (start, a turn, both exits) and as its users do; of
-- `all_of` and of `first_holding`. No assumptions.
use Prim.Native.Nat.{ℕ, zero, suc, ◌<◌, ◌≤◌, ◌+◌, ◌*◌, ◌-◌, ◌/◌}
use mathlib.Core.Bool.{Bool, true, false, not, ◌&&◌, and_assoc, and_comm, and-true, cond, true≢false}
use mathlib.Core.List.{List, [], ◌∷◌, ◌++◌}
use mathlib.Core.Path.{◌≡◌, refl, sym, ap, ap₂, ◌∙◌}
use native.Mathlib.Numerals.{add-one}
use native.Mathlib.Nat.{lt-suc_self, le_refl, add-zero, add-suc, zero-mul, suc-mul, mul-le-mul, div-lt_iff_lt-mul, le-div_iff_mul-le}
use native.Mathlib.Decide.{dec_lt}
use native.Mathlib.Omega.{arith}
use lib.Dec.{leb, ltb, eqb}
use lib.IntN.{ℤ, pos, nat_abs}
use lib.ListN.{length, get_or}
use borrow.Author.Tests.{ne_eqb, eqb-false, not-true, leb-true, ltb-true, lt-ltb, le-ltb}
use Rattle.std.specs.Bool.{Decides}
use Rattle.std.proofs.lemmas.Bool.{false_from_ne_true}
use Rattle.std.proofs.lemmas.Bool.Decides.{Decides-below_and}
use Rattle.numeric.specs.Check.{every, all_of, Check, ◌when◌, first_holding}

-- std has both in one; each is cited for its half.
pub and_left : (a b : Bool) → a && b ≡ true → a ≡ true
and_left true b e = refl
and_left false b e = e

pub and_right : (a b : Bool) → a && b ≡ true → b ≡ true
and_right true b e = e
and_right false b e = cc

-- A number is from low to high, both included.
pub leb-within : (low x high : ℕ) → leb low x && leb x high ≡ true → (low ≤ x) × (x ≤ high)
leb-within low x high e =
    (leb-true low x (and_left (leb low x) (leb x high) e), leb-true x high (and_right (leb low x) (leb x high) e))

pub every-none : (p : ℕ → Bool) → every 0 p ≡ true
unfolding every
every-none p = refl

pub every-next : (n : ℕ) (p : ℕ → Bool) → every (n + 1) p ≡ every n p && p n
unfolding every
every-next n p = rw add-one

pub every_more : (n : ℕ) (p : ℕ → Bool) → every n p ≡ true → p n ≡ true → every (n + 1) p ≡ true
unfolding every
every_more n p e h = rw (add-one, e, h)

-- `every` decides that each number below n passes.
pub every-Decides : (n : ℕ) (p : ℕ → Bool) → Decides (every n p) ((i : ℕ) → i < n → p i ≡ true)
unfolding every
every-Decides n p =
    Decides-below_and p (λ i. p i ≡ true) (λ m. every m p) (λ i. (λ e. e, λ e. e)) refl
    (λ m. and_comm (every m p) (p m)) n

pub every_at : (n i : ℕ) (p : ℕ → Bool) → every n p ≡ true → i < n → p i ≡ true
every_at n i p e h = (every-Decides n p).0 e i h

pub every_all : (n : ℕ) (p : ℕ → Bool) → ((i : ℕ) → i < n → p i ≡ true) → every n p ≡ true
every_all n p = (every-Decides n p).1

pub every_fails : (n i : ℕ) (p : ℕ → Bool) → i < n → p i ≡ false → every n p ≡ false
every_fails n i p h e = false_from_ne_true (every n p) (λ all. true≢false (sym (every_at n i p all h) ∙ e))

-- Tests that agree below n give the same answer.
pub every_eq : (n : ℕ) (p q : ℕ → Bool) → ((i : ℕ) → i < n → p i ≡ q i) → every n p ≡ every n q
unfolding every
every_eq zero p q h = refl
every_eq (suc n) p q h = ap₂ ◌&&◌ (every_eq n p q (λ i l. h i (omega arith))) (h n (lt-suc_self n))

-- A test of the first m + n numbers is one of the first m and one of the next n.
pub every_append : (m n : ℕ) (p : ℕ → Bool) → every (m + n) p ≡ every m p && every n (λ i. p (m + i))
unfolding every
every_append m zero p = rw (add-zero, and-true)
every_append m (suc n) p = rw (add-suc, every_append m n p, and_assoc)

-- A test of the first n * m numbers is one of n rows of m.
pub every-rows : (n m : ℕ) (p : ℕ → Bool) → every (n * m) p ≡ every n (λ c. every m (λ s. p (c * m + s)))
unfolding every
every-rows zero m p = rw zero-mul
every-rows (suc n) m p = rw (suc-mul, every_append (n * m) m p, every-rows n m p)

-- Number k is in the first n rows of w, or beyond them.
pub row_in : (w n k : ℕ) → 0 < w → k < n * w → ltb (k / w) n ≡ true
row_in w n k h l = lt-ltb (k / w) n ((div-lt_iff_lt-mul h).1 l)

pub row_beyond : (w n k : ℕ) → 0 < w → n * w ≤ k → ltb (k / w) n ≡ false
row_beyond w n k h l = le-ltb (k / w) n ((le-div_iff_mul-le h).1 l)

-- Of m rows of w numbers, the first n pass one test and the others another.
pub every_split : (w n m : ℕ) (p q : ℕ → Bool) → 0 < w → n ≤ m
    → every (m * w) (λ k. cond (ltb (k / w) n) (p k) (q k)) ≡ every (n * w) p && every (m * w - n * w) (λ i. q (n * w + i))
every_split w n m p q h l =
    let test : ℕ → Bool = λ k. cond (ltb (k / w) n) (p k) (q k) in
    let rest = m * w - n * w in
    let whole : m * w ≡ n * w + rest = omega (arith, mul-le-mul l (le_refl w)) in
    ap (λ (k : ℕ). every k test) whole
    ∙ every_append (n * w) rest test
    ∙ ap₂ ◌&&◌ (every_eq (n * w) test p (λ i k. rw (row_in w n i h k)))
    (every_eq rest (λ i. test (n * w + i)) (λ i. q (n * w + i)) (λ i k. rw (row_beyond w n (n * w + i) h (omega arith))))

-- The same number by number: the test of one in the first n rows and of one beyond them, and back.
module _ (w n m : ℕ) (p q : ℕ → Bool) (some : 0 < w) where
  pub split_at : every (m * w) (λ k. cond (ltb (k / w) n) (p k) (q k)) ≡ true → (k : ℕ) → k < m * w
      → (k < n * w → p k ≡ true) × (n * w ≤ k → q k ≡ true)
  split_at e k h =
      let test = every_at (m * w) k (λ j. cond (ltb (j / w) n) (p j) (q j)) e h in
      (λ l. rw (row_in w n k some l) at test, λ l. rw (row_beyond w n k some l) at test)

  pub split_all : ((k : ℕ) → k < m * w → (k < n * w → p k ≡ true) × (n * w ≤ k → q k ≡ true))
      → every (m * w) (λ k. cond (ltb (k / w) n) (p k) (q k)) ≡ true
  split_all h = every_all (m * w) (λ k. cond (ltb (k / w) n) (p k) (q k)) (λ k l. by_row k l (dec_lt k (n * w)))
    where
      by_row : (k : ℕ) → k < m * w → Dec (k < n * w) → cond (ltb (k / w) n) (p k) (q k) ≡ true
      by_row k l (yes j) = rw (row_in w n k some j) ((h k l).0 j)
      by_row k l (no g) = let j : n * w ≤ k = omega arith in rw (row_beyond w n k some j) ((h k l).1 j)

-- `d` is what `get_or` answers past the end.
module _ {A : Type 0} (p : A → Bool) where
  pub all_of_at : (xs : List A) (i : ℕ) (d : A) → all_of p xs ≡ true → i < length xs → p (get_or xs i d) ≡ true
  unfolding all_of
  all_of_at [] i d e h = absurd (omega arith)
  all_of_at (x ∷ xs) zero d e h = and_left (p x) (all_of p xs) e
  all_of_at (x ∷ xs) (suc i) d e h = all_of_at xs i d (and_right (p x) (all_of p xs) e) (omega arith)

-- The numbers of a list are from −m to m, by computation.
pub abs_all_at : (m : ℕ) (l : List ℤ) (k : ℕ) → all_of (λ z. leb (nat_abs z) m) l ≡ true → k < length l
    → nat_abs (get_or l k (pos 0)) ≤ m
abs_all_at m l k e h = leb-true _ m (all_of_at (λ z. leb (nat_abs z) m) l k (pos 0) e h)

pub first_nil : first_holding [] ≡ 0
unfolding first_holding
first_nil = refl

-- The first check holds: its number.
pub first_holds : (number : ℕ) (holds : Bool) (checks : List Check) → holds ≡ true
    → first_holding (number when holds ∷ checks) ≡ number
unfolding first_holding
first_holds number true checks e = refl
first_holds number false checks e = cc

-- It does not: the number of the others.
pub first_fails : (number : ℕ) (holds : Bool) (checks : List Check) → holds ≡ false
    → first_holding (number when holds ∷ checks) ≡ first_holding checks
unfolding first_holding
first_fails number true checks e = cc
first_fails number false checks e = refl

-- No check holds where the number is 0 and the first check's number is not.
pub first_zero : (number : ℕ) (holds : Bool) (checks : List Check) → 0 < number
    → first_holding (number when holds ∷ checks) ≡ 0 → holds ≡ false
unfolding first_holding
first_zero number true checks h e = let z : ◌≡◌ {A = ℕ} 0 1 = omega arith in cc
first_zero number false checks h e = refl

-- The number of every check of the list is above 0; no check of the list holds.
abbrev pub numbered : List Check → Bool
numbered [] = true
numbered (number when holds ∷ checks) = ltb 0 number && numbered checks

abbrev pub NoneHolds : List Check → Type 0
NoneHolds [] = Unit {0}
NoneHolds (number when holds ∷ checks) = (holds ≡ false) × NoneHolds checks

-- The number 0 says that no check holds, which `(none_holds _ refl e).1.0` tells of the second, and so on.
pub none_holds : (checks : List Check) → numbered checks ≡ true → first_holding checks ≡ 0 → NoneHolds checks
none_holds [] n e = tt
none_holds (number when holds ∷ checks) n e =
    let above = ltb-true 0 number (and_left (ltb 0 number) (numbered checks) n) in
    let fails = first_zero number holds checks above e in
    let others = sym (first_fails number holds checks fails) ∙ e in
    (fails, none_holds checks (and_right (ltb 0 number) (numbered checks) n) others)

-- Checks after others decide where none of those holds.
pub first_append : (xs ys : List Check) → numbered xs ≡ true
    → first_holding (xs ++ ys) ≡ cond (eqb (first_holding xs) 0) (first_holding ys) (first_holding xs)
unfolding first_holding
first_append [] ys e = refl
first_append (number when true ∷ xs) ys e =
    let above = ltb-true 0 number (and_left (ltb 0 number) (numbered xs) e) in
    rw (ne_eqb number 0 (λ z. omega arith))
first_append (number when false ∷ xs) ys e = first_append xs ys (and_right (ltb 0 number) (numbered xs) e)

-- A last check that does not hold where none before it does, and whose number is its own, never decides.
pub first_last : (checks : List Check) (number : ℕ) (holds : Bool) → 0 < number
    → all_of (λ c. elim c [ m when h ↦ not (eqb m number) ]) checks ≡ true → (NoneHolds checks → holds ≡ false)
    → first_holding (checks ++ (number when holds ∷ [])) ≡ number → ⊥
unfolding first_holding all_of
first_last [] number true above own never e = true≢false (never tt)
first_last [] number false above own never e = omega arith
first_last (m when true ∷ checks) number holds above own never e =
    eqb-false m number (not-true _ (and_left (not (eqb m number)) _ own)) e
first_last (m when false ∷ checks) number holds above own never e =
    first_last checks number holds above (and_right (not (eqb m number)) _ own) (λ none. never (refl, none)) e
