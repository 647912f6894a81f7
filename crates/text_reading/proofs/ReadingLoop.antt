-- What the reading functions do at each byte: the blanks, the mark, a zero. `stuck` is a return at a byte that no
-- decimal has there, `ended` the end of the text. The digits after them: DigitLoop.antt. No assumptions.
use Prim.Native.Nat.{ℕ, zero, suc, ◌+◌, ◌≤◌, ◌<◌}
use mathlib.Core.Bool.{Bool, true, false, not, cond}
use mathlib.Core.List.{List, ◌++◌}
use mathlib.Core.Path.{◌≡◌, refl, sym, ap, ◌∙◌, subst}
use native.Mathlib.Decide.{dec_lt}
use native.Mathlib.Numerals.{add-one}
use native.Mathlib.Omega.{arith}
use borrow.Author.Tests.{ne_eqb, eqb-true, eqb-false, lt-ltb, le-ltb}
use lib.Dec.{eqb, ltb}
use lib.IntN.{pos}
use lib.ListN.{length, take, drop, get_or, take-append-drop}
use lib.Seq.{take-suc, take_all}
use Rattle.std.specs.Prelude.{Some, None, unwrap_or}
use Rattle.std.specs.List.{position_or_len}
use Rattle.std.proofs.lemmas.Bool.{not-false, not-true}
use Rattle.std.proofs.lemmas.List.Sums.{prefix_len-le-length, fails_before_first, passes_at_first}
use Rattle.text_reading.specs.Reading.{Seen, cols, lone_zero, bad, digit, other, next, run_on, start}
use Rattle.text_reading.specs.Reading.{finish, value_of}
use Rattle.text_reading.specs.Inner.Stages.{LeadingBlanks, DigitsFrom}
use Rattle.text_reading.proofs.ReadingLaws.{run-append, run_snoc, run-bad}

pub run_turn : (t : List ℕ) (i : ℕ) (s : Seen) → i < length t → run_on start (take i t) ≡ s
    → run_on start (take (i + 1) t) ≡ next s (get_or t i 0)
run_turn t i s h e = rw (add-one i, take-suc t i 0, run_snoc start (take i t) (get_or t i 0), e)

module _ (t : List ℕ) (i : ℕ) where
  -- Where no decimal begins so, there is none.
  pub lost : run_on start (take i t) ≡ bad → value_of t ≡ None
  unfolding value_of finish
  lost e =
      let on : run_on start (take i t ++ drop i t) ≡ bad =
      rw (run-append start (take i t) (drop i t), e) (run-bad (drop i t)) in
      ap finish (rw take-append-drop at on)

  -- After the last byte.
  pub ended : (s : Seen) → length t ≤ i → run_on start (take i t) ≡ s → value_of t ≡ finish s
  unfolding value_of
  ended s h e = ap finish (ap (run_on start) (sym (take_all i t h)) ∙ e)

-- After a byte that no decimal has there, there is none.
pub stuck : (t : List ℕ) (i : ℕ) (s : Seen) → i < length t → run_on start (take i t) ≡ s
    → next s (get_or t i 0) ≡ bad → value_of t ≡ None
stuck t i s h e b = lost t (i + 1) (run_turn t i s h e ∙ b)

after_zero : (b : ℕ) → next lone_zero b ≡ bad
unfolding next
after_zero b = refl

-- The loop over the blanks, and what comes after it.
pub blanks_turn : (t : List ℕ) (i : ℕ) → i < length t → get_or t i 0 ≡ 32 → run_on start (take i t) ≡ cols 32 0
    → run_on start (take (i + 1) t) ≡ cols 32 0
unfolding next
blanks_turn t i l e h = run_turn t i (cols 32 0) l h ∙ ap (next (cols 32 0)) e

-- The first place of another byte, or the length where blanks alone stand.
module _ (t : List ℕ) where
  abbrev pub is_other : ℕ → Bool
  is_other b = not (eqb b 32)

  abbrev p : ℕ
  p = position_or_len is_other t

  blanks_seen : (i : ℕ) → i ≤ p → run_on start (take i t) ≡ cols 32 0
  unfolding run_on
  blanks_seen zero h = refl
  blanks_seen (suc i) h =
      let within = prefix_len-le-length (λ b. not (is_other b)) t in
      let blank : get_or t i 0 ≡ 32 = eqb-true _ 32 (not-false _ (fails_before_first is_other t i 0 (omega arith))) in
      rw (← add-one i) (blanks_turn t i (omega arith) blank (blanks_seen i (omega arith)))

  pub leading_blanks : LeadingBlanks t (unwrap_or (cond (ltb p (length t)) (Some p) None) (length t))
  leading_blanks =
      let within : p ≤ length t = prefix_len-le-length (λ b. not (is_other b)) t in
      let first : LeadingBlanks t p =
      record {
        within = within;
        seen = blanks_seen p (omega arith);
        stop = λ l. eqb-false _ 32 (not-true _ (passes_at_first is_other t 0 l));
      } in
      at (dec_lt p (length t)) within first
    where
      at : Dec (p < length t) → p ≤ length t → LeadingBlanks t p
          → LeadingBlanks t (unwrap_or (cond (ltb p (length t)) (Some p) None) (length t))
      at (yes l) w first = rw (lt-ltb p (length t) l) first
      at (no g) w first =
          let all : p ≡ length t = omega arith in
          rw (le-ltb p (length t) (omega arith)) (subst (λ (n : ℕ). LeadingBlanks t n) all first)

pub digits_from_minus : (t : List ℕ) (i : ℕ) → LeadingBlanks t i → i < length t → get_or t i 0 ≡ 45
    → DigitsFrom t (i + 1) 45
unfolding next other
digits_from_minus t i h l e =
    record {
      within = omega arith;
      seen = run_turn t i (cols 32 0) l h.seen ∙ ap (next (cols 32 0)) e;
      stop = λ k. refl;
    }

pub digits_from_blanks : (t : List ℕ) (i : ℕ) → LeadingBlanks t i → (i < length t → get_or t i 0 ≡ 45 → ⊥)
    → DigitsFrom t i 32
unfolding other
digits_from_blanks t i h k =
    record {
      within = h.within;
      seen = h.seen;
      stop = λ l. rw (ne_eqb (get_or t i 0) 32 (h.stop l), ne_eqb (get_or t i 0) 45 (k l)) refl;
    }

-- The exits before the first digit.
module _ (t : List ℕ) (i m : ℕ) (h : DigitsFrom t i m) where
  pub empty_none : length t ≤ i → value_of t ≡ None
  unfolding finish
  empty_none l = ended t i (cols m 0) l h.seen

  pub minus_zero_none : i < length t → get_or t i 0 ≡ 48 → (m ≡ 32 → ⊥) → value_of t ≡ None
  unfolding next digit
  minus_zero_none l e q =
      stuck t i (cols m 0) l h.seen (ap (next (cols m 0)) e ∙ rw (ne_eqb m 32 q) refl)

  zero_seen : i < length t → get_or t i 0 ≡ 48 → m ≡ 32 → run_on start (take (i + 1) t) ≡ lone_zero
  unfolding next
  zero_seen l e q = run_turn t i (cols m 0) l h.seen ∙ rw (e, q) refl

  pub zeros-none : i + 1 < length t → get_or t i 0 ≡ 48 → value_of t ≡ None
  zeros-none l e = at (eqb m 32) refl
    where
      at : (b : Bool) → eqb m 32 ≡ b → value_of t ≡ None
      at true q = stuck t (i + 1) lone_zero l (zero_seen (omega arith) e (eqb-true m 32 q)) (after_zero _)
      at false q = minus_zero_none (omega arith) e (eqb-false m 32 q)

  pub zero_read : i < length t → length t ≤ i + 1 → get_or t i 0 ≡ 48 → m ≡ 32
      → value_of t ≡ Some (pos 0)
  unfolding finish
  zero_read l k e q = ended t (i + 1) lone_zero k (zero_seen l e q)
