-- Laws of the lines of a record as they are read: `same_bytes` is equality; a line is read as its value (`line_value_lem`)
-- and what is read as a value is the line of it (`value_line`). Then a line as the code reads it: what stands before the
-- value, the line feed, the value. No assumptions.
use Prim.Native.Nat.{ℕ, ◌+◌, ◌≤◌}
use mathlib.Core.Bool.{Bool, true, false, ◌&&◌, cond, and_assoc, and-true, true≢false}
use mathlib.Core.List.{List, [], ◌∷◌, ◌++◌, append_assoc}
use mathlib.Core.Path.{◌≡◌, refl, sym, ap, ◌∙◌}
use native.Mathlib.Nat.{add-zero}
use native.Mathlib.Omega.{arith}
use lib.Dec.{eqb, ltb}
use lib.IntN.{ℤ, pos, neg_ℤ, nat_abs}
use lib.ListN.{length, get_or, length-append, length-take, length-drop}
use lib.Seq.{take_at, take_all, drop_at, take-add, take-suc, get_or_at}
use lib.Signed.{le_z}
use Rattle.numeric.proofs.Machine.{kept}
use Rattle.std.specs.Bool.{Decides}
use Rattle.std.proofs.lemmas.Slice.Eq.{compares_Decides}
use Rattle.std.specs.Prelude.{Option, Some, None, is_some, unwrap_or, option_and_then}
use Rattle.text.proofs.BlockLaws.{part-tab}
use Rattle.numeric.specs.Table.{tab}
use Rattle.text.specs.Blocks.{part}
use Rattle.text.specs.Decimals.{columns, plain, decimal}
use Rattle.text_reading.specs.Reading.{parse}
use Rattle.text.proofs.DecimalLaws.{decimal-length}
use Rattle.text_reading.proofs.ReadingLaws.{Answers, refused, read, parse-decimal, parse_only}
use Rattle.record.specs.Lines.{line_bytes, front, line}
use Rattle.record_reading.specs.Reading.{same_bytes, line_value, lowest_on, highest_on}
use Rattle.record.proofs.LineLaws.{front_length}
use Rattle.stoichiometry.specs.Substances.{substances, most_net}
use Rattle.river.specs.Rivers.{most_carry}

-- `same_bytes` decides that two texts are equal.
pub same_bytes-Decides : (xs ys : List ℕ) → Decides (same_bytes xs ys) (xs ≡ ys)
unfolding same_bytes
same_bytes-Decides =
    compares_Decides same_bytes
    (record { empty = refl; shorter = λ y ys. refl; longer = λ x xs. refl; heads = λ x y xs ys. refl })

-- The parts of a text of 6, 20 and 1 bytes.
Parts : List ℕ → List ℕ → List ℕ → ℕ → Type 0
Parts l a b x = (part 0 6 l ≡ a) × (part 6 20 l ≡ b) × (get_or l 26 0 ≡ x)

parts : (l a b : List ℕ) (x : ℕ) → length a ≡ 6 → length b ≡ 20 → l ≡ a ++ b ++ (x ∷ []) → Parts l a b x
unfolding Parts
parts l a b x ha hb e = (
  rw (e, append_assoc a b (x ∷ [])) (take_at a (b ++ (x ∷ [])) 6 ha),
  rw (e, append_assoc a b (x ∷ []), drop_at a (b ++ (x ∷ [])) 6 ha) (take_at b (x ∷ []) 20 hb),
  rw e (get_or_at (a ++ b) x [] 0 26 (rw (length-append, ha, hb))),
)

-- The parts of a line: what stands before the value, the value, the line feed.
line-parts : (cell k : ℕ) (z : ℤ) → Parts (line cell k z) (front cell k) (decimal 20 z) 10
unfolding line
line-parts cell k z =
    parts (line cell k z) (front cell k) (decimal 20 z) 10 (front_length cell k) (decimal-length 20 z) refl

-- A line is read as its value.
pub line_value_lem : (cell k : ℕ) (z lowest highest : ℤ) → le_z lowest z ≡ true → le_z z highest ≡ true
    → nat_abs z ≤ most_net → line_value (line cell k z) cell k lowest highest ≡ Some z
unfolding line_value Parts
line_value_lem cell k z lowest highest from to small =
    rw ((line-parts cell k z).1, parse-decimal lowest highest 18 z from to (omega arith) (omega arith))
    (rw ((same_bytes-Decides (line cell k z) (line cell k z)).1 refl) refl)

-- What is read as a value is the line of that value, which is within the limits.
LineOf : List ℕ → ℕ → ℕ → ℤ → ℤ → ℤ → Type 0
LineOf l cell k lowest highest z = (l ≡ line cell k z) × (le_z lowest z ≡ true) × (le_z z highest ≡ true)

pub value_line : (l : List ℕ) (cell k : ℕ) (lowest highest : ℤ) → is_some (line_value l cell k lowest highest) ≡ true
    → let z = unwrap_or (line_value l cell k lowest highest) (pos 0) in
    (l ≡ line cell k z) × (le_z lowest z ≡ true) × (le_z z highest ≡ true)
unfolding line_value LineOf
value_line l cell k lowest highest = go (parse lowest highest (part 6 20 l)) (parse_only lowest highest (part 6 20 l))
  where
    of : Option ℤ → Option ℤ
    of = option_and_then (λ z. cond (same_bytes l (line cell k z)) (Some z) None)

    go : (n : Option ℤ) → Answers lowest highest (part 6 20 l) n
        → is_some (of n) ≡ true → LineOf l cell k lowest highest (unwrap_or (of n) (pos 0))
    go n refused e = absurd (true≢false (sym e))
    go n (read z text) e = at (same_bytes l (line cell k z)) refl e
      where
        at : (b : Bool) → same_bytes l (line cell k z) ≡ b
            → let m = cond b (Some z) None in is_some m ≡ true → LineOf l cell k lowest highest (unwrap_or m (pos 0))
        at true same e = ((same_bytes-Decides l (line cell k z)).0 same, text.from, text.to)
        at false same e = absurd (true≢false (sym e))

-- What stands before a value of a text, byte by byte: the columns of the cell, a blank, those of the line, a blank.
pub front_read : (t : List ℕ) (at cell k : ℕ) → at + 6 ≤ length t
    → same_bytes (part at 6 t) (front cell k)
    ≡ (eqb (get_or t at 0) (get_or (plain 2 32 cell) 0 0)
    && (eqb (get_or t (at + 1) 0) (get_or (plain 2 32 cell) 1 0)
    && (eqb (get_or t (at + 2) 0) 32
    && (eqb (get_or t (at + 3) 0) (get_or (plain 2 32 k) 0 0)
    && (eqb (get_or t (at + 4) 0) (get_or (plain 2 32 k) 1 0) && eqb (get_or t (at + 5) 0) 32)))))
unfolding same_bytes tab front plain columns
front_read t at cell k h =
    rw (part-tab t at 6 h) (rw (add-zero, and-true))

-- The first six bytes are compared with the columns of the cell and of the line.
pub front_compared : (l a b : List ℕ) (cell k : ℕ) → 6 ≤ length l → a ≡ plain 2 32 cell → b ≡ plain 2 32 k
    → (eqb (get_or l 0 0) (get_or a 0 0)
    && eqb (get_or l 1 0) (get_or a 1 0)
    && eqb (get_or l 2 0) 32
    && eqb (get_or l 3 0) (get_or b 0 0)
    && eqb (get_or l 4 0) (get_or b 1 0)
    && eqb (get_or l 5 0) 32)
    ≡ same_bytes (part 0 6 l) (front cell k)
front_compared l a b cell k h ea eb =
    simp and_assoc (rw (ea, eb) (sym (front_read l 0 cell k h)))

-- The limits of a line's value as the machine keeps them.
pub limits_kept : (k : ℕ) → (kept (lowest_on k) ≡ lowest_on k) × (kept (highest_on k) ≡ highest_on k)
unfolding lowest_on highest_on
limits_kept k = go (ltb k substances)
  where
    go : (b : Bool)
        → let low = cond b (neg_ℤ (pos most_net)) (pos 0) in
        let high = cond b (pos most_net) (pos most_carry) in
        (kept low ≡ low) × (kept high ≡ high)
    go true = (refl, refl)
    go false = (refl, refl)

-- A text of a line's bytes.
module _ (l : List ℕ) (long : length l ≡ line_bytes) where
  value_long : length (part 6 20 l) ≡ 20
  value_long = simp (length-take, length-drop) (omega arith)

  whole : l ≡ part 0 6 l ++ part 6 20 l ++ (get_or l 26 0 ∷ [])
  whole =
      sym (take_all 27 l (omega arith))
      ∙ take-suc l 26 0 (omega arith)
      ∙ ap (λ (a : List ℕ). a ++ (get_or l 26 0 ∷ [])) (take-add 6 20 l)

  module _ (cell k : ℕ) where
    module _ (lowest highest : ℤ) where
      -- A text that is no line of this cell and place is refused.
      no_line : ((z : ℤ) → l ≡ line cell k z → ⊥) → line_value l cell k lowest highest ≡ None
      unfolding line_value
      no_line h = go (parse lowest highest (part 6 20 l))
        where
          at : (z : ℤ) (b : Bool) → same_bytes l (line cell k z) ≡ b → cond b (Some z) None ≡ None
          at z true e = absurd (h z ((same_bytes-Decides l (line cell k z)).0 e))
          at z false e = refl

          go : (n : Option ℤ) → option_and_then (λ z. cond (same_bytes l (line cell k z)) (Some z) None) n ≡ None
          go None = refl
          go (Some z) = at z (same_bytes l (line cell k z)) refl

      -- The bytes before the value are not those of this cell and line.
      pub front_refused : same_bytes (part 0 6 l) (front cell k) ≡ false → line_value l cell k lowest highest ≡ None
      unfolding Parts
      front_refused e =
          no_line (λ z q.
          let same = ap (part 0 6) q ∙ (line-parts cell k z).0 in
          true≢false (sym ((same_bytes-Decides (part 0 6 l) (front cell k)).1 same) ∙ e))

      -- The last byte is no line feed.
      pub end_refused : (get_or l 26 0 ≡ 10 → ⊥) → line_value l cell k lowest highest ≡ None
      unfolding Parts
      end_refused h = no_line (λ z q. h (ap (λ (a : List ℕ). get_or a 26 0) q ∙ (line-parts cell k z).2))

      -- Both are right: the line's value is that of its columns.
      pub line_read : same_bytes (part 0 6 l) (front cell k) ≡ true → get_or l 26 0 ≡ 10
          → line_value l cell k lowest highest ≡ parse lowest highest (part 6 20 l)
      unfolding line_value line Parts
      line_read e feed = go (parse lowest highest (part 6 20 l)) (parse_only lowest highest _)
        where
          go : (n : Option ℤ) → Answers lowest highest (part 6 20 l) n
              → option_and_then (λ z. cond (same_bytes l (line cell k z)) (Some z) None) n ≡ n
          go n refused = refl
          go n (read z text) =
              let columns : part 6 20 l ≡ decimal 20 z = text.form ∙ ap (λ (w : ℕ). decimal w z) value_long in
              let same : l ≡ line cell k z =
              whole ∙ rw ((same_bytes-Decides (part 0 6 l) (front cell k)).0 e, columns, feed) refl in
              ap (λ (b : Bool). cond b (Some z) None) ((same_bytes-Decides l (line cell k z)).1 same)
