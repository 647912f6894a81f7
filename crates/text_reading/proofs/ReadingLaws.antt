-- The strict reader passes exactly the texts of values within its limits: `parse-decimal` and `parse_plain` (what is
-- written is read back), `parse_only` (what passes is the text of its value). First: runs over bytes. The laws of the
-- loops that read: ReadingLoop.antt, DigitLoop.antt. No assumptions.
use Prim.Native.Nat.{ℕ, zero, suc, ◌+◌, ◌-◌, ◌*◌, ◌/◌, ◌%◌, ◌^◌, ◌≤◌, ◌<◌}
use mathlib.Core.Bool.{Bool, true, false, cond, ◌&&◌, true≢false}
use mathlib.Core.List.{List, [], ◌∷◌, ◌++◌, append_assoc, append-nil}
use mathlib.Core.Logic.{◌⊎◌, inl, inr}
use mathlib.Core.Path.{◌≡◌, refl, sym, ap, ap₂, ◌∙◌, subst}
use native.Mathlib.Decide.{dec_lt}
use native.Mathlib.Nat.{one-le-pow, pow-suc}
use native.Mathlib.Numerals.{add-one}
use native.Mathlib.Omega.{arith}
use borrow.Author.Tests.{lt-ltb, le-ltb, le-leb, lt-leb, ne_eqb, eqb-true, eqb-false, leb-true, ltb-true, ltb-false}
use lib.Dec.{leb, ltb, eqb}
use lib.IntN.{ℤ, pos, negsuc, neg_ℤ, nat_abs}
use lib.ListN.{length, length-append}
use lib.Signed.{le_z}
use Rattle.numeric.proofs.Bounds.{abs_neg}
use Rattle.numeric.proofs.CheckLaws.{and_left, and_right}
use Rattle.std.proofs.lemmas.Bool.{cond_both}
use Rattle.std.proofs.lemmas.Option.{same_Some}
use Rattle.std.specs.Char.{is_ascii_digit}
use Rattle.std.specs.Prelude.{Option, Some, None, option_and_then}
use Rattle.text.specs.Decimals.{glyph, next_mark, columns, plain, decimal}
use Rattle.text_reading.specs.Reading.{Seen, cols, lone_zero, bad, most, is_digit, digit, other, next, run_on, start}
use Rattle.text_reading.specs.Inner.Digits.{largest}
use Rattle.text_reading.specs.Reading.{signed, finish, value_of, within, parse}

pub run-append : (s : Seen) (xs ys : List ℕ) → run_on s (xs ++ ys) ≡ run_on (run_on s xs) ys
unfolding run_on
run-append s [] ys = refl
run-append s (x ∷ xs) ys = run-append (next s x) xs ys

-- One byte more at the end.
pub run_snoc : (s : Seen) (xs : List ℕ) (b : ℕ) → run_on s (xs ++ (b ∷ [])) ≡ next (run_on s xs) b
unfolding run_on
run_snoc s xs b = run-append s xs (b ∷ [])

pub run-bad : (xs : List ℕ) → run_on bad xs ≡ bad
unfolding run_on next
run-bad [] = refl
run-bad (x ∷ xs) = run-bad xs

-- A digit more, where the value may grow.
pub next-digit : (m r b : ℕ) → is_digit b ≡ true → next (cols m r) b ≡ digit m r (b - 48)
unfolding next
next-digit m r b e = rw e refl

pub digit_more : (m r d : ℕ) → (r + d ≡ 0 → ⊥) → r ≤ most → digit m r d ≡ cols m (r * 10 + d)
unfolding digit
digit_more m r d k l = rw (ne_eqb (r + d) 0 k, le-leb r most l) refl

-- The library's test, which answered a, is the definition's.
pub ascii_digit : (b : ℕ) {r a : Bool} → r ≡ is_ascii_digit b → r ≡ a → is_digit b ≡ a
unfolding is_digit
ascii_digit b e f = sym (e ∙ at (dec_lt b 48) (dec_lt b 58)) ∙ f
  where
    at : Dec (b < 48) → Dec (b < 58) → is_ascii_digit b ≡ cond (ltb b 48) false (ltb b 58)
    at (yes l) d = rw (lt-ltb b 48 l, lt-leb 48 b l) refl
    at (no g) (yes l) = rw (le-ltb b 48 (omega arith), lt-ltb b 58 l, le-leb 48 b (omega arith), le-leb b 57 (omega arith)) refl
    at (no g) (no k) = rw (le-ltb b 48 (omega arith), le-ltb b 58 (omega arith), le-leb 48 b (omega arith), lt-leb b 57 (omega arith)) refl

pub digit_range : (b : ℕ) → is_digit b ≡ true → (48 ≤ b) × (b < 58)
unfolding is_digit
digit_range b h = go (ltb b 48) refl h
  where
    go : (t : Bool) → ltb b 48 ≡ t → cond t false (ltb b 58) ≡ true → (48 ≤ b) × (b < 58)
    go false e h = (ltb-false b 48 e, ltb-true b 58 h)
    go true e h = absurd (true≢false (sym h))

-- What is written is read back. The last digit of a value that is not 0.
last_run : (w m n : ℕ) → run_on start (columns w m (suc n / 10)) ≡ cols m (suc n / 10) → suc n / 10 ≤ most
    → run_on start (columns w m (suc n / 10) ++ ((48 + suc n % 10) ∷ [])) ≡ cols m (suc n)
unfolding is_digit
last_run w m n e l =
    let b = 48 + suc n % 10 in
    let seen : is_digit b ≡ true = rw (le-ltb b 48 (omega arith), lt-ltb b 58 (omega arith)) refl in
    rw (run_snoc start (columns w m (suc n / 10)) b, e, next-digit m (suc n / 10) b seen)
    (digit_more m (suc n / 10) (b - 48) (λ z. omega arith) l ∙ ap (cols m) (omega arith))

blank_run : (i r : ℕ) → r < 10 ^ i → r / 10 ≤ most → run_on start (columns i 32 r) ≡ cols 32 r
unfolding columns run_on next glyph next_mark
blank_run zero r k l = let j : r < 1 = k in let e : 0 ≡ r = omega arith in ap (cols 32) e
blank_run (suc i) zero k l =
    run_snoc start (columns i 32 0) 32
    ∙ ap (λ (s : Seen). next s 32) (blank_run i 0 (one-le-pow i 10 (omega arith)) (omega arith))
blank_run (suc i) (suc r) k l =
    let below : suc r < 10 ^ i * 10 = rw (pow-suc 10 i) at k in
    last_run i 32 r (blank_run i (suc r / 10) (omega arith) (omega arith)) l

minus_run : (i r : ℕ) → r < 10 ^ i → r / 10 ≤ most → run_on start (columns (suc i) 45 r) ≡ cols 45 r
unfolding columns run_on next glyph next_mark
minus_run zero zero k l = refl
minus_run (suc i) zero k l =
    run_snoc start (columns (suc i) 32 0) 45
    ∙ ap (λ (s : Seen). next s 45) (blank_run (suc i) 0 (omega arith) (omega arith))
minus_run zero (suc r) k l = let j : suc r < 1 = k in absurd (omega arith)
minus_run (suc i) (suc r) k l =
    let below : suc r < 10 ^ i * 10 = rw (pow-suc 10 i) at k in
    last_run (suc i) 45 r (minus_run i (suc r / 10) (omega arith) (omega arith)) l

module _ (lowest highest : ℤ) where
  pub within_passed : (z : ℤ) → le_z lowest z && le_z z highest ≡ true → within lowest highest z ≡ Some z
  unfolding within
  within_passed z h = rw h refl

  pub within_refused : (z : ℤ) → le_z lowest z && le_z z highest ≡ false → within lowest highest z ≡ None
  unfolding within
  within_refused z h = rw h refl

  finish-cols : (m n : ℕ) → finish (cols m (suc n)) ≡ Some (signed m (suc n))
  unfolding finish
  finish-cols m n = rw (ne_eqb (suc n) 0 (λ e. omega arith)) refl

  -- A value that is not below zero, in columns enough for its digits, is read.
  pub parse_plain : (w n : ℕ) → le_z lowest (pos n) ≡ true → le_z (pos n) highest ≡ true
      → n / 10 < 10 ^ w
      → n / 10 ≤ most
      → parse lowest highest (decimal (suc w) (pos n)) ≡ Some (pos n)
  unfolding parse value_of decimal plain signed finish next
  parse_plain w zero a b k l =
      rw (run_snoc start (columns w 32 0) 48, blank_run w 0 k (omega arith)) (within_passed (pos 0) (ap₂ ◌&&◌ a b))
  parse_plain w (suc n) a b k l =
      rw (last_run w 32 n (blank_run w (suc n / 10) k (omega arith)) l)
      (ap (option_and_then (within lowest highest)) (finish-cols 32 n) ∙ within_passed (pos (suc n)) (ap₂ ◌&&◌ a b))

  -- Any value, with one column more for a minus.
  pub parse-decimal : (w : ℕ) (z : ℤ) → le_z lowest z ≡ true → le_z z highest ≡ true
      → nat_abs z / 10 < 10 ^ w
      → nat_abs z / 10 ≤ most
      → parse lowest highest (decimal (suc (suc w)) z) ≡ Some z
  unfolding parse value_of decimal plain signed
  parse-decimal w (pos n) a b k l = parse_plain (suc w) n a b (rw (pow-suc 10 w) (omega arith)) l
  parse-decimal w (negsuc n) a b k l =
      rw (last_run (suc w) 45 n (minus_run w (suc n / 10) k (omega arith)) l)
      (ap (option_and_then (within lowest highest)) (finish-cols 45 n) ∙ within_passed (negsuc n) (ap₂ ◌&&◌ a b))

-- And nothing else passes: what was seen of the bytes xs says which columns they are.
Reads : List ℕ → Seen → Type 0
Reads xs (cols m r) = (xs ≡ columns (length xs) m r) × ((m ≡ 32) ⊎ (m ≡ 45))
Reads xs lone_zero = xs ≡ plain (length xs) 32 0
Reads xs bad = xs ≡ xs

longer : (xs : List ℕ) (b : ℕ) → length (xs ++ (b ∷ [])) ≡ suc (length xs)
longer xs b = length-append xs (b ∷ []) ∙ add-one (length xs)

-- The columns of one digit more.
more_digit : (xs : List ℕ) (m r d : ℕ) → xs ≡ columns (length xs) m r → d < 10 → (r + d ≡ 0 → ⊥)
    → xs ++ ((48 + d) ∷ []) ≡ columns (suc (length xs)) m (r * 10 + d)
unfolding columns glyph next_mark
more_digit xs m r d e h k = at (r * 10 + d) refl
  where
    at : (n : ℕ) → r * 10 + d ≡ n
        → xs ++ ((48 + d) ∷ []) ≡ columns (length xs) (next_mark n m) (n / 10) ++ (glyph n m ∷ [])
    at zero q = absurd (k (omega arith))
    at (suc n) q =
        let q1 : r ≡ suc n / 10 = omega arith in
        let q2 : d ≡ suc n % 10 = omega arith in
        ap₂ (λ (l : List ℕ) (b : ℕ). l ++ (b ∷ [])) (e ∙ ap (columns (length xs) m) q1) (ap (λ (x : ℕ). 48 + x) q2)

module _ (xs : List ℕ) (m r : ℕ) (h : Reads xs (cols m r)) where
  one_more : (b n q : ℕ) → xs ++ (b ∷ []) ≡ columns (suc (length xs)) n q → (n ≡ 32) ⊎ (n ≡ 45)
      → Reads (xs ++ (b ∷ [])) (cols n q)
  unfolding Reads
  one_more b n q e mark = (e ∙ ap (λ (w : ℕ). columns w n q) (sym (longer xs b)), mark)

  digit_reads : (d : ℕ) → d < 10 → Reads (xs ++ ((48 + d) ∷ [])) (digit m r d)
  unfolding Reads digit plain
  digit_reads d l =
      let P = Reads (xs ++ ((48 + d) ∷ [])) in
      cond_both (eqb (r + d) 0) _ _ P
      (λ e. cond_both (eqb m 32) _ _ P
      (λ f.
      let er : r ≡ 0 = let q = eqb-true (r + d) 0 e in omega arith in
      let ed : d ≡ 0 = let q = eqb-true (r + d) 0 e in omega arith in
      ap₂ (λ (l : List ℕ) (b : ℕ). l ++ ((48 + b) ∷ [])) (h.0 ∙ ap₂ (columns (length xs)) (eqb-true m 32 f) er) ed
      ∙ ap (λ (n : ℕ). plain n 32 0) (sym (longer xs (48 + d))))
      (λ f. refl))
      (λ e. cond_both (leb r most) _ _ P
      (λ f. one_more (48 + d) m (r * 10 + d) (more_digit xs m r d h.0 l (eqb-false (r + d) 0 e)) h.1)
      (λ f. refl))

  other_reads : (b : ℕ) → Reads (xs ++ (b ∷ [])) (other m r b)
  unfolding Reads other columns glyph next_mark
  other_reads b =
      let P = Reads (xs ++ (b ∷ [])) in
      cond_both (eqb r 0) _ _ P
      (λ e. cond_both (eqb m 32) _ _ P
      (λ f.
      let blank : xs ≡ columns (length xs) 32 0 = h.0 ∙ ap₂ (columns (length xs)) (eqb-true m 32 f) (eqb-true r 0 e) in
      cond_both (eqb b 32) _ _ P
      (λ g. one_more b 32 0 (ap₂ (λ (l : List ℕ) (x : ℕ). l ++ (x ∷ [])) blank (eqb-true b 32 g)) (inl refl))
      (λ g. cond_both (eqb b 45) _ _ P
      (λ g2. one_more b 45 0 (ap₂ (λ (l : List ℕ) (x : ℕ). l ++ (x ∷ [])) blank (eqb-true b 45 g2)) (inr refl))
      (λ g2. refl)))
      (λ f. refl))
      (λ e. refl)

next_reads : (xs : List ℕ) (s : Seen) (b : ℕ) → Reads xs s → Reads (xs ++ (b ∷ [])) (next s b)
unfolding next Reads
next_reads xs (cols m r) b h =
    cond_both (is_digit b) _ _ (Reads (xs ++ (b ∷ [])))
    (λ e.
    let q = digit_range b e in
    let back : 48 + (b - 48) ≡ b = omega arith in
    subst (λ (x : ℕ). Reads (xs ++ (x ∷ [])) (digit m r (b - 48))) back (digit_reads xs m r h (b - 48) (omega arith)))
    (λ e. other_reads xs m r h b)
next_reads xs lone_zero b h = refl
next_reads xs bad b h = refl

run_reads : (ys xs : List ℕ) (s : Seen) → Reads xs s → Reads (xs ++ ys) (run_on s ys)
unfolding run_on
run_reads [] xs s h = rw append-nil h
run_reads (y ∷ ys) xs s h = rw append_assoc at (run_reads ys (xs ++ (y ∷ [])) (next s y) (next_reads xs s y h))

-- A value that is read is at most the largest.
Bounded : Seen → Type 0
Bounded (cols m r) = r ≤ largest
Bounded lone_zero = Unit {0}
Bounded bad = Unit {0}

next_bounded : (s : Seen) (b : ℕ) → Bounded s → Bounded (next s b)
unfolding Bounded next digit other
next_bounded (cols m r) b h =
    cond_both (is_digit b) _ _ Bounded
    (λ e.
    cond_both (eqb (r + (b - 48)) 0) _ _ Bounded (λ f. cond_both (eqb m 32) _ _ Bounded (λ g. tt) (λ g. tt))
    (λ f. cond_both (leb r most) _ _ Bounded (λ g. omega (arith, digit_range b e, leb-true r most g)) (λ g. tt)))
    (λ e.
    cond_both (eqb r 0) _ _ Bounded
    (λ f.
    cond_both (eqb m 32) _ _ Bounded
    (λ g. cond_both (eqb b 32) _ _ Bounded (λ i. omega arith)
    (λ i. cond_both (eqb b 45) _ _ Bounded (λ j. omega arith) (λ j. tt)))
    (λ g. tt))
    (λ f. tt))
next_bounded lone_zero b h = tt
next_bounded bad b h = tt

run_bounded : (xs : List ℕ) (s : Seen) → Bounded s → Bounded (run_on s xs)
unfolding run_on
run_bounded [] s h = h
run_bounded (x ∷ xs) s h = run_bounded xs (next s x) (next_bounded s x h)

Small : Option ℤ → Type 0
Small o = (z : ℤ) → o ≡ Some z → nat_abs z ≤ largest

small_some : (x : ℤ) → nat_abs x ≤ largest → Small (Some x)
unfolding Small
small_some x h z q = rw (same_Some x z q) at h

small_none : Small None
unfolding Small
small_none z q = absurd (cc)

finish_bounded : (s : Seen) → Bounded s → Small (finish s)
unfolding Bounded finish signed
finish_bounded (cols m r) h =
    cond_both (eqb r 0) _ _ Small (λ e. small_none)
    (λ e.
    cond_both (eqb m 45) _ _ (λ (x : ℤ). Small (Some x))
    (λ f. small_some (neg_ℤ (pos r)) (omega (arith, abs_neg (pos r)))) (λ f. small_some (pos r) h))
finish_bounded lone_zero h = small_some (pos 0) (omega arith)
finish_bounded bad h = small_none

pub value_bound : (t : List ℕ) (z : ℤ) → value_of t ≡ Some z → nat_abs z ≤ largest
unfolding value_of Bounded Small
value_bound t = finish_bounded (run_on start t) (run_bounded t start (omega arith))

signed_decimal : (n m r : ℕ) → (r ≡ 0 → ⊥) → (m ≡ 32) ⊎ (m ≡ 45) → columns n m r ≡ decimal n (signed m r)
unfolding columns plain glyph next_mark decimal signed
signed_decimal n m zero h q = absurd (h refl)
signed_decimal zero m (suc r) h q = refl
signed_decimal (suc n) m (suc r) h (inl e) = rw e refl
signed_decimal (suc n) m (suc r) h (inr e) = rw e refl

-- The text t is the decimal of z, which is within the limits.
pub record DecimalText (lowest highest : ℤ) (t : List ℕ) (z : ℤ) : Type 0 where
  pub form : t ≡ decimal (length t) z
  pub from : le_z lowest z ≡ true
  pub to : le_z z highest ≡ true

-- An answer of the reader for the text t: none, or the value that t is the text of.
pub data Answers (lowest highest : ℤ) (t : List ℕ) : Option ℤ → Type 0 where
  refused : Answers lowest highest t None
  read : (z : ℤ) → DecimalText lowest highest t z → Answers lowest highest t (Some z)

module _ (lowest highest : ℤ) (t : List ℕ) where
  within_answers : (z : ℤ) → t ≡ decimal (length t) z → Answers lowest highest t (within lowest highest z)
  unfolding within
  within_answers z e =
      let low = le_z lowest z in
      let high = le_z z highest in
      cond_both (low && high) _ _ (Answers lowest highest t)
      (λ f. read z (record { form = e; from = and_left low high f; to = and_right low high f }))
      (λ f. refused)

  finish_answers : (s : Seen) → Reads t s → Answers lowest highest t (option_and_then (within lowest highest) (finish s))
  unfolding finish Reads decimal
  finish_answers (cols m r) h =
      cond_both (eqb r 0) _ _ (λ (o : Option ℤ). Answers lowest highest t (option_and_then (within lowest highest) o))
      (λ e. refused)
      (λ e. within_answers (signed m r) (h.0 ∙ signed_decimal (length t) m r (eqb-false r 0 e) h.1))
  finish_answers lone_zero h = within_answers (pos 0) h
  finish_answers bad h = refused

  pub parse_only : Answers lowest highest t (parse lowest highest t)
  unfolding parse value_of Reads columns
  parse_only = finish_answers (run_on start t) (run_reads t [] start (refl, inl refl))
