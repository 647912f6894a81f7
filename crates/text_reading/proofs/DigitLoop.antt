-- The loop over the digits, which are counted without a test of their value at each: `DigitsRead` is its invariant,
-- with laws for its start, for one digit more and for two, and for each exit; then the answer for a value. No
-- assumptions.
use Prim.Native.Nat.{ℕ, zero, suc, ◌+◌, ◌-◌, ◌*◌, ◌^◌, ◌≤◌, ◌<◌}
use mathlib.Core.Bool.{Bool, true, false, ◌&&◌}
use mathlib.Core.List.{List}
use mathlib.Core.Logic.{◌⊎◌, inl, inr, ⊎_elim}
use mathlib.Core.Path.{◌≡◌, refl, ap, ◌∙◌}
use native.Mathlib.Decide.{dec_lt}
use native.Mathlib.Nat.{lt_of_lt_of_le, one-le-pow, pow-suc, pow-le-pow_right}
use native.Mathlib.Omega.{arith}
use borrow.Author.Tests.{le-leb, lt-leb, ne_eqb, eq-eqb}
use lib.Dec.{leb}
use lib.ListN.{length, take, get_or}
use Rattle.std.specs.Prelude.{Some, None}
use Rattle.text_reading.specs.Reading.{bad, most, is_digit, digit, other, next, run_on, start}
use Rattle.text_reading.specs.Reading.{signed, finish, value_of}
use Rattle.text_reading.specs.Inner.Digits.{largest, digits_seen}
use Rattle.text_reading.specs.Inner.Stages.{DigitsFrom}
use Rattle.text_reading.proofs.ReadingLaws.{next-digit, digit_more, digit_range}
use Rattle.text_reading.proofs.ReadingLoop.{run_turn, lost, stuck, ended}

-- A digit more, of digits that are counted without a test of each.
digit-seen : (m v b : ℕ) → is_digit b ≡ true → (v ≡ 0 → b ≡ 48 → ⊥)
    → next (digits_seen m v) b ≡ digits_seen m (v * 10 + (b - 48))
unfolding digits_seen next digit
digit-seen m v b e q = at (digit_range b e) (dec_lt most v) (dec_lt largest v)
  where
    at : (48 ≤ b) × (b < 58) → Dec (most < v) → Dec (largest < v)
        → next (digits_seen m v) b ≡ digits_seen m (v * 10 + (b - 48))
    at range (no g) f =
        rw (le-leb v largest (omega arith), le-leb (v * 10 + (b - 48)) largest (omega arith))
        (next-digit m v b e ∙ digit_more m v (b - 48) (λ z. q (omega arith) (omega arith)) (omega arith))
    at range (yes g) (no f) =
        rw (le-leb v largest (omega arith), lt-leb (v * 10 + (b - 48)) largest (omega arith), e)
        (rw (ne_eqb (v + (b - 48)) 0 (λ z. omega arith), lt-leb v most g) refl)
    at range (yes g) (yes l) =
        rw (lt-leb v largest l, lt-leb (v * 10 + (b - 48)) largest (omega arith)) refl

-- The loop over the digits from i on: v is the value of those before k, of which the first is no zero.
pub record DigitsRead (t : List ℕ) (m i v k : ℕ) : Type 0 where
  pub within : k ≤ length t
  pub from : i ≤ k
  pub below : v < 10 ^ (k - i)
  pub above : i < k → 10 ^ (k - i) ≤ v * 10
  pub seen : run_on start (take k t) ≡ digits_seen m v
  pub stop : v ≡ 0 → k < length t → other m 0 (get_or t k 0) ≡ bad
  pub first : v ≡ 0 → k < length t → get_or t k 0 ≡ 48 → ⊥

pub digits_start : (t : List ℕ) (i m : ℕ) → DigitsFrom t i m → (get_or t i 0 ≡ 48 → ⊥) → DigitsRead t m i 0 i
unfolding digits_seen
digits_start t i m h k =
    record {
      within = h.within;
      from = omega arith;
      below = one-le-pow (i - i) 10 (omega arith);
      above = λ l. absurd (omega arith);
      seen = h.seen;
      stop = λ e. h.stop;
      first = λ e l. k;
    }

module _ (t : List ℕ) (m i v k : ℕ) (h : DigitsRead t m i v k) where
  -- How large the value can be after so many digits.
  pub digits_fit : (n : ℕ) → k - i ≤ n → v < 10 ^ n
  digits_fit n l = lt_of_lt_of_le h.below (pow-le-pow_right (omega arith) l)

  pub digits_more : k < length t → is_digit (get_or t k 0) ≡ true → DigitsRead t m i (v * 10 + (get_or t k 0 - 48)) (k + 1)
  digits_more l d = at h.from h.below (digit_range (get_or t k 0) d) (dec_lt i k)
    where
      some : 48 ≤ get_or t k 0 → v * 10 + (get_or t k 0 - 48) ≡ 0 → ⊥
      some low e = h.first (omega arith) l (omega arith)

      at : i ≤ k → v < 10 ^ (k - i) → (48 ≤ get_or t k 0) × (get_or t k 0 < 58) → Dec (i < k)
          → DigitsRead t m i (v * 10 + (get_or t k 0 - 48)) (k + 1)
      at from below range later =
          let longer : k + 1 - i ≡ suc (k - i) = omega arith in
          record {
            within = omega arith;
            from = omega arith;
            below = rw (longer, pow-suc 10 (k - i)) (omega arith);
            above = λ _. rw (longer, pow-suc 10 (k - i)) (least later);
            seen = run_turn t k (digits_seen m v) l h.seen ∙ digit-seen m v (get_or t k 0) d (λ e. h.first e l);
            stop = λ e r. absurd (some range.0 e);
            first = λ e r. absurd (some range.0 e);
          }
        where
          least : Dec (i < k) → 10 ^ (k - i) * 10 ≤ (v * 10 + (get_or t k 0 - 48)) * 10
          least (yes c) = let a = h.above c in omega arith
          least (no c) = let e : k - i ≡ 0 = omega arith in rw e (omega (arith, some range.0))

  digits_other : k < length t → other m v (get_or t k 0) ≡ bad
  unfolding other
  digits_other l = at v refl
    where
      at : (x : ℕ) → v ≡ x → other m v (get_or t k 0) ≡ bad
      at zero e = ap (λ (y : ℕ). other m y (get_or t k 0)) e ∙ h.stop e l
      at (suc x) e = rw (ne_eqb v 0 (λ q. omega arith)) refl

  pub digits_not : k < length t → is_digit (get_or t k 0) ≡ false → value_of t ≡ None
  unfolding digits_seen next
  digits_not l e = stuck t k (digits_seen m v) l h.seen (at (leb v largest) refl)
    where
      at : (b : Bool) → leb v largest ≡ b → next (digits_seen m v) (get_or t k 0) ≡ bad
      at true q = rw (q, e) (digits_other l)
      at false q = rw q refl

  pub digits_end : length t ≤ k → value_of t ≡ finish (digits_seen m v)
  digits_end l = ended t k (digits_seen m v) l h.seen

-- Two digits.
module _ (t : List ℕ) (m i v k : ℕ) (h : DigitsRead t m i v k) (l : k + 1 < length t) where
  pub digits_two : is_digit (get_or t k 0) ≡ true → is_digit (get_or t (k + 1) 0) ≡ true
      → DigitsRead t m i (v * 100 + ((get_or t k 0 - 48) * 10 + (get_or t (k + 1) 0 - 48))) (k + 2)
  digits_two d e =
      let one = digits_more t m i v k h (omega arith) d in
      let two = digits_more t m i (v * 10 + (get_or t k 0 - 48)) (k + 1) one l e in
      let value : (v * 10 + (get_or t k 0 - 48)) * 10 + (get_or t (k + 1) 0 - 48)
      ≡ v * 100 + ((get_or t k 0 - 48) * 10 + (get_or t (k + 1) 0 - 48)) = omega arith in
      let place : k + 1 + 1 ≡ k + 2 = omega arith in
      rw (value, place) at two

  pub two_not : is_digit (get_or t k 0) && is_digit (get_or t (k + 1) 0) ≡ false
      → value_of t ≡ None
  two_not q = at (is_digit (get_or t k 0)) refl q
    where
      at : (b : Bool) → is_digit (get_or t k 0) ≡ b → b && is_digit (get_or t (k + 1) 0) ≡ false
          → value_of t ≡ None
      at true e q = digits_not t m i _ (k + 1) (digits_more t m i v k h (omega arith) e) l q
      at false e q = digits_not t m i v k h (omega arith) e

-- More digits than 19 are none: their value, without a zero before them, is not below 10^19 then.
module _ (t : List ℕ) (i m : ℕ) (h : DigitsFrom t i m) (some : get_or t i 0 ≡ 48 → ⊥) where
  -- The first j bytes are digits, or there is none.
  Many : ℕ → Type 0
  Many j = (value_of t ≡ None) ⊎ ((v : ℕ) × DigitsRead t m i v (i + j))

  many : (j : ℕ) → i + j ≤ length t → Many j
  unfolding Many
  many zero l = let place : i + 0 ≡ i = omega arith in inr (0, rw place (digits_start t i m h some))
  many (suc j) l = ⊎_elim inl (λ w. at w.0 w.1 (is_digit (get_or t (i + j) 0)) refl) (many j (omega arith))
    where
      at : (v : ℕ) → DigitsRead t m i v (i + j) → (b : Bool) → is_digit (get_or t (i + j) 0) ≡ b → Many (suc j)
      at v seen true e =
          let place : i + suc j ≡ i + j + 1 = omega arith in
          inr (v * 10 + (get_or t (i + j) 0 - 48), rw place (digits_more t m i v (i + j) seen (omega arith) e))
      at v seen false e = inl (digits_not t m i v (i + j) seen (omega arith) e)

  pub many_none : 19 < length t - i → value_of t ≡ None
  unfolding Many digits_seen
  many_none l =
      ⊎_elim (λ e. e)
      (λ w.
      let twenty : i + 20 - i ≡ 20 = omega arith in
      let large = rw twenty at (w.1.above (omega arith)) in
      lost t (i + 20) (w.1.seen ∙ rw (lt-leb w.0 largest (omega arith)) refl))
      (many 20 (omega arith))

-- The answer for the value of digits.
module _ (m v : ℕ) where
  pub counted_none : v ≡ 0 → finish (digits_seen m v) ≡ None
  unfolding digits_seen finish
  counted_none e = rw (le-leb v largest (omega arith), eq-eqb v 0 e) refl

  pub counted_large : largest < v → finish (digits_seen m v) ≡ None
  unfolding digits_seen finish
  counted_large l = rw (lt-leb v largest l) refl

  pub counted_within : (v ≡ 0 → ⊥) → v ≤ largest
      → finish (digits_seen m v) ≡ Some (signed m v)
  unfolding digits_seen finish
  counted_within e l = rw (le-leb v largest l, ne_eqb v 0 e) refl
