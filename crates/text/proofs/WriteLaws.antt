-- Laws of `put`: a byte that was written, writes one behind the other are one write, stores are a write, a write over a
-- write, over all of a text, over a part of one and over its beginning. Then of `put_within` and `copied`. Sequences of
-- writes go by `grow` and `store`. No assumptions.
use Prim.Native.Nat.{ℕ, ◌+◌, ◌≤◌, ◌<◌}
use mathlib.Core.Bool.{false, ◌&&◌}
use mathlib.Core.List.{List, [], ◌∷◌, ◌++◌, append_assoc, append-nil}
use mathlib.Core.Path.{◌≡◌, refl, sym, ap, ◌∙◌}
use native.Mathlib.Nat.{zero-add, add-zero, add_assoc}
use native.Mathlib.Omega.{arith}
use borrow.Author.Tests.{le-leb, lt-leb}
use borrow.Rule.Slice.PartMut.{put_mid}
use lib.Dec.{leb}
use lib.ListN.{length, take, drop, set, get_or, length-append, length-take, length-drop, take-append-drop}
use lib.ListN.{get_or-append}
use lib.Seq.{sets, sets-eq, take-add, take_at, drop_at, drop-drop, drop-length, drop-append-add}
use lib.Seq.{length-take-le, get_or-append-add}
use Rattle.text.specs.Writes.{put, put_within, copied}

pub put-none : (l : List ℕ) (at : ℕ) → put l at [] ≡ l
unfolding put
put-none l at = rw (add-zero at) (take-append-drop at l)

pub put-length : (l : List ℕ) (at : ℕ) (xs : List ℕ) → at + length xs ≤ length l → length (put l at xs) ≡ length l
unfolding put
put-length l at xs h = simp (length-append, length-take, length-drop) (omega arith)

-- A byte that was written.
pub put_at : (l : List ℕ) (at : ℕ) (xs : List ℕ) (j : ℕ) → at + length xs ≤ length l → j < length xs
    → get_or (put l at xs) (at + j) 0 ≡ get_or xs j 0
unfolding put
put_at l at xs j h k =
    ap (λ (n : ℕ). get_or (put l at xs) (n + j) 0) (sym (length-take-le at l (omega arith)))
    ∙ get_or-append-add (take at l) (xs ++ drop (at + length xs) l) j 0
    ∙ get_or-append xs (drop (at + length xs) l) 0 j k

-- A write over all of a text.
pub put_all : (l xs : List ℕ) → length xs ≡ length l → put l 0 xs ≡ xs
unfolding put
put_all l xs e = rw (zero-add (length xs), e, drop-length l) (append-nil xs)

-- A part of a text, and its beginning, in whose place stands another text of its length.
pub mid_written : (l ys xs : List ℕ) (at k w : ℕ) → length xs ≡ w → k ≡ w → ys ≡ xs → put_mid at k l ys ≡ put l at xs
unfolding put
mid_written l ys xs at k w long count e = rw (e, count, drop-drop w at l, long) refl

pub front_written : (l ys xs : List ℕ) (w : ℕ) → length xs ≡ w → ys ≡ xs → ys ++ drop w l ≡ put l 0 xs
unfolding put
front_written l ys xs w long e = rw (e, zero-add (length xs), long) refl

-- A write behind the text a.
behind : (a b xs : List ℕ) (k : ℕ) → length a ≡ k → put (a ++ b) k xs ≡ a ++ (xs ++ drop (length xs) b)
unfolding put
behind a b xs k e = rw (take_at a b k e, ← e, drop-append-add)

-- Of two writes to one place, of one length, the second stays.
pub put_over : (l : List ℕ) (at : ℕ) (xs ys : List ℕ) → at + length xs ≤ length l → length ys ≡ length xs
    → put (put l at xs) at ys ≡ put l at ys
unfolding put
put_over l at xs ys h e =
    behind (take at l) (xs ++ drop (at + length xs) l) ys at (length-take-le at l (omega arith))
    ∙ rw (e, drop_at xs (drop (at + length xs) l) (length xs) refl)

-- Two writes are one: the second behind the first, with the length of the first as a number.
pub grow : (l l₁ : List ℕ) (at n m : ℕ) (xs ys : List ℕ) → length xs ≡ n → m ≡ at + n → at + n ≤ length l
    → l₁ ≡ put l at xs
    → put l₁ m ys ≡ put l at (xs ++ ys)
unfolding put
grow l l₁ at n m xs ys e em h el =
    let long : length (take at l ++ xs) ≡ m = simp (length-append, length-take) (omega arith) in
    rw (el, ← append_assoc (take at l) xs (drop (at + length xs) l))
    (behind (take at l ++ xs) (drop (at + length xs) l) ys m long
    ∙ simp (append_assoc, drop-drop, length-append, add_assoc))

-- And the second before the first, for a loop that goes down.
pub put_before : (l : List ℕ) (at k : ℕ) (xs ys : List ℕ) → k ≡ at + length xs → k + length ys ≤ length l
    → put (put l k ys) at xs ≡ put l at (xs ++ ys)
unfolding put
put_before l at k xs ys e h =
    let mid = take (length xs) (drop at l) in
    let rest = ys ++ drop (at + length xs + length ys) l in
    let long : length mid ≡ length xs = simp (length-take, length-drop) (omega arith) in
    rw (e, take-add at (length xs) l, append_assoc (take at l) mid rest)
    (behind (take at l) (mid ++ rest) xs at (length-take-le at l (omega arith))
    ∙ rw (drop_at mid rest (length xs) long) (simp (append_assoc, length-append, add_assoc)))

-- Stores side by side are a write; and one store.
pub sets_put : (l : List ℕ) (at : ℕ) (xs : List ℕ) → at + length xs ≤ length l → sets l at xs ≡ put l at xs
unfolding put
sets_put l at xs h = sets-eq xs l at h ∙ append_assoc (take at l) xs (drop (at + length xs) l)

pub set-put : (l : List ℕ) (at b : ℕ) → at < length l → set l at b ≡ put l at (b ∷ [])
set-put l at b h = sets_put l at (b ∷ []) (omega arith)

-- A store behind a write.
pub store : (l l₁ : List ℕ) (at n m b : ℕ) (xs : List ℕ) → length xs ≡ n → m ≡ at + n → at + n < length l
    → l₁ ≡ put l at xs
    → set l₁ m b ≡ put l at (xs ++ (b ∷ []))
store l l₁ at n m b xs e em h el =
    let len : length l₁ ≡ length l = ap length el ∙ put-length l at xs (omega arith) in
    set-put l₁ m b (omega arith) ∙ grow l l₁ at n m xs (b ∷ []) e em (omega arith) el

-- What fits is written; what does not changes nothing.
module _ (l : List ℕ) (at w : ℕ) (xs : List ℕ) (long : length xs ≡ w) where
  pub put_within_lem : at + w ≤ length l → put_within l at xs ≡ put l at xs
  unfolding put_within
  put_within_lem h = rw (le-leb (at + length xs) (length l) (omega arith)) refl

  pub put_refused : length l < at + w → put_within l at xs ≡ l
  unfolding put_within
  put_refused h = rw (lt-leb (at + length xs) (length l) (omega arith)) refl

-- Both texts are long enough: the bytes are copied. One is shorter: nothing changes.
module _ (from : List ℕ) (count : ℕ) (to : List ℕ) where
  pub copied-accepted : count ≤ length from → count ≤ length to → copied from count to ≡ put to 0 (take count from)
  unfolding copied
  copied-accepted h k = rw (le-leb count (length from) h, le-leb count (length to) k) refl

  pub copied_refused : leb count (length from) && leb count (length to) ≡ false → copied from count to ≡ to
  unfolding copied
  copied_refused e = rw e refl
