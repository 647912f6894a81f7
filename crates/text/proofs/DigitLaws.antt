-- The only digit of a number behind the columns that are left; the digits of a number as std writes them, behind blanks and
-- a mark, are the number in columns; and the last of these columns are the number in fewer. No assumptions.
use Prim.Native.Nat.{ℕ, zero, suc, ◌+◌, ◌-◌, ◌/◌, ◌%◌, ◌^◌, ◌≤◌, ◌<◌}
use mathlib.Core.List.{List, [], ◌∷◌, ◌++◌, append_assoc, append-nil}
use mathlib.Core.Logic.{⊎_elim}
use mathlib.Core.Path.{◌≡◌, refl, sym, ap, ap₂, ◌∙◌}
use native.Mathlib.Numerals.{add-one}
use native.Mathlib.Omega.{arith}
use lib.ListN.{length, take, drop, set, replicate, length-append, take-append-drop}
use lib.Seq.{drop-length}
use Rattle.std.specs.Fmt as fmt
use Rattle.std.proofs.lemmas.Bool.{cases_lt}
use Rattle.std.proofs.lemmas.Fmt.{decimal_by_steps, decimal_digit, decimal_step}
use Rattle.text.specs.Writes.{put}
use Rattle.text.proofs.WriteLaws.{set-put}
use Rattle.text.proofs.DecimalLaws.{columns-length, plain-length, glyph_zero, glyph-digit, next_mark-digit, columns_turn}
use Rattle.std.proofs.lemmas.List.{drop_all, drop-append-le, take-take, take-replicate, length-replicate, replicate-append-replicate}
use Rattle.text.specs.Decimals.{glyph, next_mark, columns, plain}

-- The only digit of a number.
pub digit_turn : (l : List ℕ) (at i m n : ℕ) → 0 < i → at + i ≤ length l → 0 < n → n < 10
    → put (set l (at + (i - 1)) (48 + n)) at (columns (i - 1) m 0) ≡ put l at (columns i m n)
digit_turn l at i m n some room digit one =
    let none : 0 ≡ n / 10 = omega arith in
    let ones : 48 + n ≡ 48 + n % 10 = omega arith in
    let not_zero : n ≡ 0 → ⊥ = λ e. omega arith in
    ap (λ (r : ℕ). put (set l (at + (i - 1)) (48 + n)) at (columns (i - 1) m r)) none
    ∙ columns_turn l at i m n (48 + n) m some room
    (ones ∙ sym (glyph-digit n m not_zero)) (sym (next_mark-digit n m not_zero))

-- Blanks before a blank.
blanks : (i : ℕ) → columns i 32 0 ≡ replicate i 32
unfolding columns glyph next_mark
blanks zero = refl
blanks (suc i) =
    ap (λ (x : List ℕ). x ++ (32 ∷ [])) (blanks i)
    ∙ replicate-append-replicate i 1 32
    ∙ ap (λ (k : ℕ). replicate {A = ℕ} k 32) (add-one i)

-- A number that is not 0 has a digit in the last column by itself.
digits_plain : (i m r : ℕ) → 0 < r → columns i m r ≡ plain i m r
unfolding columns plain glyph next_mark
digits_plain zero m r h = refl
digits_plain (suc i) m zero h = absurd (omega arith)
digits_plain (suc i) m (suc r) h = refl

-- The last w of more columns are w columns.
last_columns : (k w m r : ℕ) → drop k (columns (k + w) m r) ≡ columns w m r
unfolding columns
last_columns k zero m r = drop_all k _ (omega (arith, columns-length))
last_columns k (suc w) m r =
    let e : k + suc w ≡ suc (k + w) = omega arith in
    ap (λ (i : ℕ). drop k (columns i m r)) e
    ∙ drop-append-le k _ (glyph r m ∷ []) (omega (arith, columns-length))
    ∙ ap (λ (x : List ℕ). x ++ (glyph r m ∷ [])) (last_columns k w (next_mark r m) (r / 10))

pub last_plain : (k w m n : ℕ) → drop k (plain (k + w) m n) ≡ plain w m n
unfolding plain
last_plain k zero m n = drop_all k _ (omega (arith, plain-length))
last_plain k (suc w) m n =
    let e : k + suc w ≡ suc (k + w) = omega arith in
    ap (λ (i : ℕ). drop k (plain i m n)) e
    ∙ drop-append-le k _ ((48 + n % 10) ∷ []) (omega (arith, columns-length))
    ∙ ap (λ (x : List ℕ). x ++ ((48 + n % 10) ∷ [])) (last_columns k w m (n / 10))

-- A number of two digits or more has those of its tenth before its last.
plain_step : (v m n : ℕ) → 10 ≤ n → plain (suc v) m n ≡ plain v m (n / 10) ++ ((48 + n % 10) ∷ [])
unfolding plain
plain_step v m n h = ap (λ (x : List ℕ). x ++ ((48 + n % 10) ∷ [])) (digits_plain v m (n / 10) (omega arith))

-- The text ds is number n in columns: with the mark and blanks before it, or over all columns.
record Columns (n : ℕ) (ds : List ℕ) : Type 0 where
  marked : (w m : ℕ) → length ds < w → plain w m n ≡ replicate (w - length ds - 1) 32 ++ (m ∷ ds)
  whole : (w m : ℕ) → length ds ≡ w → plain w m n ≡ ds

one_digit : (n : ℕ) → n < 10 → Columns n ((48 + n) ∷ [])
unfolding plain columns glyph next_mark
one_digit n h =
    let tens : n / 10 ≡ 0 = omega arith in
    let ones : 48 + n % 10 ≡ 48 + n = omega arith in
    record {
      marked =
          λ w m l.
          let all : w ≡ suc (suc (w - 2)) = omega arith in
          let count : w - 2 ≡ w - 1 - 1 = omega arith in
          ap (λ (k : ℕ). plain k m n) all
          ∙ rw (tens, ones) (ap (λ (x : List ℕ). (x ++ (m ∷ [])) ++ ((48 + n) ∷ [])) (blanks (w - 2))
          ∙ append_assoc (replicate (w - 2) 32) (m ∷ []) ((48 + n) ∷ [])
          ∙ ap (λ (k : ℕ). replicate k 32 ++ (m ∷ (48 + n) ∷ [])) count);
      whole = λ w m e. ap (λ (k : ℕ). plain k m n) (sym e) ∙ rw ones refl;
    }

more_digits : (n : ℕ) (ds : List ℕ) → 10 ≤ n → Columns (n / 10) ds → Columns n (ds ++ ((48 + n % 10) ∷ []))
more_digits n ds h rest =
    let last = (48 + n % 10) ∷ [] in
    let long = length-append ds last in
    record {
      marked =
          λ w m l.
          let v = w - 1 in
          let all : w ≡ suc v = omega (arith, long) in
          let count : v - length ds - 1 ≡ w - length (ds ++ last) - 1 = omega (arith, long) in
          ap (λ (k : ℕ). plain k m n) all
          ∙ plain_step v m n h
          ∙ ap (λ (x : List ℕ). x ++ last) (rest.marked v m (omega (arith, long)))
          ∙ append_assoc (replicate (v - length ds - 1) 32) (m ∷ ds) last
          ∙ ap (λ (k : ℕ). replicate k 32 ++ (m ∷ (ds ++ last))) count;
      whole =
          λ w m e.
          let v = length ds in
          let all : w ≡ suc v = omega (arith, long) in
          ap (λ (k : ℕ). plain k m n) all ∙ plain_step v m n h ∙ ap (λ (x : List ℕ). x ++ last) (rest.whole v m refl);
    }

decimal_columns : (n : ℕ) → n < 2 ^ 64 → Columns n (fmt.decimal n)
decimal_columns = decimal_by_steps Columns one_digit more_digits

-- The digits of n stand at the end of the columns l, over w blanks b: with the mark before them they are the number in
-- columns, and without one where there is no column for it.
module _ (l b : List ℕ) (w start m n : ℕ) (small : n < 2 ^ 64) (blank : b ≡ replicate w 32)
    (end : start + length (fmt.decimal n) ≡ length b) (digits : drop start l ≡ fmt.decimal n ++ drop (length b) b)
    (before : take start l ≡ take start b) where
  abbrev ds : List ℕ
  ds = fmt.decimal n

  wide : length b ≡ w
  wide = ap length blank ∙ length-replicate w 32

  digits_alone : drop start l ≡ ds
  digits_alone = digits ∙ ap (λ (x : List ℕ). ds ++ x) (drop-length b) ∙ append-nil ds

  blanks_before : (k : ℕ) → k ≤ start → take k l ≡ replicate k 32
  blanks_before k h =
      sym (take-take k start l h)
      ∙ ap (take k) (before ∙ ap (take start) blank ∙ take-replicate start w 32 (omega (arith, wide)))
      ∙ take-replicate k start 32 h

  pub digits_marked : 0 < start → start ≤ length l → set l (start - 1) m ≡ plain w m n
  unfolding put
  digits_marked some long =
      let k = start - 1 in
      let next : k + 1 ≡ start = omega arith in
      let count : w - length ds - 1 ≡ k = omega (arith, wide) in
      set-put l k m (omega arith)
      ∙ ap₂ (λ (x y : List ℕ). x ++ (m ∷ y)) (blanks_before k (omega arith)) (ap (λ (i : ℕ). drop i l) next ∙ digits_alone)
      ∙ ap (λ (i : ℕ). replicate i 32 ++ (m ∷ ds)) (sym count)
      ∙ sym ((decimal_columns n small).marked w m (omega (arith, wide)))

  pub digits_whole : start ≡ 0 → l ≡ plain w m n
  digits_whole none =
      ap (λ (k : ℕ). drop k l) (sym none) ∙ digits_alone
      ∙ sym ((decimal_columns n small).whole w m (omega (arith, wide)))

-- The last two digits of n, written as a number r over two columns x: blanks below ten, otherwise zeros.
module _ (l : List ℕ) (s n r x : ℕ) (low : r ≡ n % 100) (end : s + length (fmt.decimal r) ≡ 2)
    (digits : drop s l ≡ fmt.decimal r ++ []) (before : take s l ≡ take s (x ∷ x ∷ [])) where
  parts : l ≡ take s (x ∷ x ∷ []) ++ fmt.decimal r
  parts = sym (take-append-drop s l) ∙ ap₂ (λ (a b : List ℕ). a ++ b) before (digits ∙ append-nil (fmt.decimal r))

  one : r < 10 → l ≡ x ∷ (48 + n % 10) ∷ []
  one h =
      let digit = decimal_digit r h in
      let last : 48 + r ≡ 48 + n % 10 = omega arith in
      let first : s ≡ 1 = omega (arith, ap length digit) in
      parts
      ∙ ap₂ (λ (i : ℕ) (ds : List ℕ). take i (x ∷ x ∷ []) ++ ds) first (digit ∙ ap (λ (y : ℕ). y ∷ []) last)

  two : 10 ≤ r → l ≡ (48 + n / 10 % 10) ∷ (48 + n % 10) ∷ []
  two h =
      let tens : 48 + r / 10 ≡ 48 + n / 10 % 10 = omega arith in
      let ones : 48 + r % 10 ≡ 48 + n % 10 = omega arith in
      let both : fmt.decimal r ≡ (48 + r / 10) ∷ (48 + r % 10) ∷ [] =
      decimal_step r h (omega arith) ∙ ap (λ (ds : List ℕ). ds ++ ((48 + r % 10) ∷ [])) (decimal_digit (r / 10) (omega arith)) in
      let first : s ≡ 0 = omega (arith, ap length both) in
      parts
      ∙ ap₂ (λ (i : ℕ) (ds : List ℕ). take i (x ∷ x ∷ []) ++ ds) first
      (both ∙ ap₂ (λ (y z : ℕ). y ∷ z ∷ []) tens ones)

  pub two_below_ten : n < 10 → x ≡ 32 → l ≡ plain 2 32 n
  unfolding columns plain
  two_below_ten h blank =
      one (omega arith)
      ∙ ap (λ (y : ℕ). y ∷ (48 + n % 10) ∷ []) (blank ∙ sym (glyph_zero (n / 10) 32 (omega arith)))

  pub two_from_ten : 10 ≤ n → x ≡ 48 → l ≡ plain 2 32 n
  unfolding columns plain
  two_from_ten h nought =
      let glyphs : (48 + n / 10 % 10) ∷ (48 + n % 10) ∷ [] ≡ plain 2 32 n =
      ap (λ (y : ℕ). y ∷ (48 + n % 10) ∷ []) (sym (glyph-digit (n / 10) 32 (λ e. omega arith))) in
      ⊎_elim (λ a. let tens : x ≡ 48 + n / 10 % 10 = omega arith in
      one a ∙ ap (λ (y : ℕ). y ∷ (48 + n % 10) ∷ []) tens ∙ glyphs) (λ a. two a ∙ glyphs) (cases_lt r 10)
