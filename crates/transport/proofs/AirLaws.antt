-- Air never takes O2 out of its bounds, so it never answers 8, and never moves the level of O2 past the saturation: the
-- level moves toward the saturation by a whole number of µg that is at most the difference of the two. First on plain
-- numbers, then of a river and a cell. No assumptions.
use Prim.Native.Nat.{ℕ, ◌+◌, ◌*◌, ◌-◌, ◌/◌, ◌≤◌, zero-le}
use native.Mathlib.Nat.{mul-le-mul, le_refl}
use native.Mathlib.Omega.{arith}
use native.Mathlib.Decide.{dec_le}
use mathlib.Core.Bool.{true, false, not, ◌&&◌}
use mathlib.Core.List.{[], ◌∷◌}
use mathlib.Core.Path.{◌≡◌, refl, ap}
use borrow.Author.Tests.{leb-true, le-leb, not-false}
use lib.Dec.{leb, lit<}
use lib.IntN.{ℤ, pos, neg_ℤ, nat_abs, ◌+ℤ◌, ◌-ℤ◌}
use lib.Signed.{pos-nat_abs, yes_non_neg}
use Rattle.numeric.specs.Check.{in_range, all_of, ◌when◌}
use Rattle.numeric.proofs.CheckLaws.{and_left, and_right, leb-within, first_last}
use Rattle.numeric.proofs.Expression.{v, ◌⊖◌, ⊝, equal}
use Rattle.numeric.proofs.Quotient.{quot_neg}
use Rattle.numeric.proofs.RingLaws.{neg_*ℤ}
use Rattle.stoichiometry.specs.Limits.{most_seconds, most_saturation}
use Rattle.stoichiometry.specs.Substances.{o2, place, grains_per_microgram_o, most_grains}
use Rattle.stoichiometry.specs.Totals.{amount_at}
use Rattle.stoichiometry.specs.Levels.{level_of}
use Rattle.river.specs.declared.River.{River}
use Rattle.river.specs.Rivers.{lowest_at, highest_at, amount_fits, river_wrong, cell_exists}
use Rattle.river.proofs.Bounds.{fits-level}
use Rattle.river.proofs.Rivers.{amount_known}
use Rattle.transport.specs.Air.{exchanged, gain, aired_amount, air_figure_wrong, air_number}

-- An amount of O2 in its bounds is a number of grains up to 10^16, and such a number is in them.
pub oxygen_grains : (x : ℤ) → amount_fits (place o2) x ≡ true → (pos (nat_abs x) ≡ x) × (nat_abs x ≤ most_grains)
oxygen_grains x e =
    let level = fits-level (place o2) x (lit< tt) refl e in
    (pos-nat_abs x (yes_non_neg level.0), level.1)

oxygen_fits_lem : (n : ℕ) → n ≤ most_grains → amount_fits (place o2) (pos n) ≡ true
unfolding amount_fits lowest_at highest_at
oxygen_fits_lem n h = rw (le-leb 0 n zero-le, le-leb n most_grains h)

pub exchange_bound : (k seconds : ℕ) → k ≤ 20000 → seconds ≤ most_seconds → k * 1000000 * seconds ≤ 72000000000000
exchange_bound k seconds hk hs = mul-le-mul (mul-le-mul hk (le_refl 1000000)) hs

pub exchanged_bound : (k seconds : ℕ) → k ≤ 20000 → seconds ≤ most_seconds → exchanged k seconds ≤ 833333333
unfolding exchanged
exchanged_bound k seconds hk hs = omega (arith, exchange_bound k seconds hk hs)

-- The µg that are exchanged where the level and the saturation are d apart.
moved : ℕ → ℕ → ℕ → ℕ
moved k seconds d = d * exchanged k seconds / 1000000000

-- What air makes of n grains of O2: grains within the bounds, of a level between the one before and the saturation.
record OxygenAfter (saturation n : ℕ) (x : ℤ) : Type 0 where
  grains : ℕ
  is : x ≡ pos grains
  most : grains ≤ most_grains
  rising : level_of o2 (pos n) ≤ saturation → (level_of o2 (pos n) ≤ level_of o2 x) × (level_of o2 x ≤ saturation)
  falling : saturation ≤ level_of o2 (pos n) → (saturation ≤ level_of o2 x) × (level_of o2 x ≤ level_of o2 (pos n))

-- Figures of which check 6 does not hold.
pub record AirFigures (k seconds saturation : ℕ) : Type 0 where
  pub constant : k ≤ 20000
  pub time : seconds ≤ most_seconds
  pub most : saturation ≤ most_saturation

pub air-figures : (k seconds saturation : ℕ) → air_figure_wrong k seconds saturation ≡ false
    → AirFigures k seconds saturation
unfolding air_figure_wrong
air-figures k seconds saturation right =
    let all = not-false _ right in
    let rate = and_left _ (leb saturation most_saturation) all in
    record {
      constant = leb-true k 20000 (and_left _ (in_range 1 most_seconds seconds) rate);
      time = (leb-within 1 seconds most_seconds (and_right (leb k 20000) _ rate)).1;
      most = leb-true saturation most_saturation (and_right (leb k 20000 && in_range 1 most_seconds seconds) _ all);
    }

module _ (k seconds saturation : ℕ) (figures : AirFigures k seconds saturation) where
  moved_le : (d : ℕ) → moved k seconds d ≤ d
  unfolding moved
  moved_le d =
      let part = exchanged_bound k seconds figures.constant figures.time in
      let most : d * exchanged k seconds ≤ d * 1000000000 = mul-le-mul (le_refl d) (omega arith) in
      omega arith

  -- From below the saturation the amount grows by the µg moved, from above it shrinks by them.
  aired_rising : (n : ℕ) → level_of o2 (pos n) ≤ saturation
      → pos n +ℤ gain k seconds saturation (pos n)
      ≡ pos (n + moved k seconds (saturation - level_of o2 (pos n)) * grains_per_microgram_o)
  unfolding gain moved level_of
  aired_rising n h =
      let level = n / grains_per_microgram_o in
      let apart : pos saturation -ℤ pos level ≡ pos (saturation - level) =
      equal (pos saturation ∷ pos level ∷ pos (saturation - level) ∷ []) (v 0 ⊖ v 1) (v 2) (omega arith) in
      rw apart

  aired_falling : (n : ℕ) → saturation ≤ level_of o2 (pos n)
      → pos n +ℤ gain k seconds saturation (pos n)
      ≡ pos (n - moved k seconds (level_of o2 (pos n) - saturation) * grains_per_microgram_o)
  unfolding gain moved level_of
  aired_falling n h =
      let level = n / grains_per_microgram_o in
      let d = level - saturation in
      let less = moved k seconds d * grains_per_microgram_o in
      let apart : pos saturation -ℤ pos level ≡ neg_ℤ (pos d) =
      equal (pos saturation ∷ pos level ∷ pos d ∷ []) (v 0 ⊖ v 1) (⊝ (v 2)) (omega arith) in
      rw (
        apart,
        neg_*ℤ (pos d) (pos (exchanged k seconds)),
        quot_neg (d * exchanged k seconds) 1000000000,
        neg_*ℤ (pos (moved k seconds d)) (pos grains_per_microgram_o),
      )
      (equal (pos n ∷ pos less ∷ pos (n - less) ∷ []) (v 0 ⊖ v 1) (v 2) (omega (arith, moved_le d)))

  aired_grains : (n : ℕ) → n ≤ most_grains → Dec (level_of o2 (pos n) ≤ saturation)
      → OxygenAfter saturation n (pos n +ℤ gain k seconds saturation (pos n))
  unfolding level_of
  aired_grains n h (yes l) =
      let d = saturation - n / grains_per_microgram_o in
      let less = moved_le d in
      rw (aired_rising n l)
      record {
        grains = n + moved k seconds d * grains_per_microgram_o;
        is = refl;
        most = omega (arith, figures.most);
        rising = λ g. (omega arith, omega arith);
        falling = λ g. (omega arith, omega arith);
      }
  aired_grains n h (no g) =
      let d = n / grains_per_microgram_o - saturation in
      let less = moved_le d in
      rw (aired_falling n (omega arith))
      record {
        grains = n - moved k seconds d * grains_per_microgram_o;
        is = refl;
        most = omega arith;
        rising = λ l. (omega arith, omega arith);
        falling = λ l. (omega arith, omega arith);
      }

  aired-after : (x : ℤ) → amount_fits (place o2) x ≡ true
      → OxygenAfter saturation (nat_abs x) (x +ℤ gain k seconds saturation x)
  aired-after x e =
      let grains = oxygen_grains x e in
      rw grains.0 at (aired_grains (nat_abs x) grains.1 (dec_le (level_of o2 (pos (nat_abs x))) saturation))

-- A river of which check 4 does not hold, a cell that exists, and figures in range.
module _
    (r : River) (cell k seconds saturation : ℕ) (right : river_wrong r ≡ false) (exists : cell_exists r cell ≡ true)
    (figures : air_figure_wrong k seconds saturation ≡ false) where
  after : let before = amount_at r.amounts (cell - 1) (place o2) in
      OxygenAfter saturation (nat_abs before) (aired_amount r (cell - 1) k seconds saturation)
  after =
      aired-after k seconds saturation (air-figures k seconds saturation figures)
      (amount_at r.amounts (cell - 1) (place o2)) (amount_known r right cell (place o2) exists (lit< tt)).fits

  -- The O2 after is in its bounds.
  pub air_never_eight : amount_fits (place o2) (aired_amount r (cell - 1) k seconds saturation) ≡ true
  air_never_eight = rw after.is (oxygen_fits_lem after.grains after.most)

  -- The level after is between the level before and the saturation, from either side.
  pub air_never_past :
      let before = level_of o2 (amount_at r.amounts (cell - 1) (place o2)) in
      let level = level_of o2 (aired_amount r (cell - 1) k seconds saturation) in
      (before ≤ saturation → (before ≤ level) × (level ≤ saturation))
      × (saturation ≤ before → (saturation ≤ level) × (level ≤ before))
  unfolding level_of
  air_never_past = (after.rising, after.falling)

-- So air is never refused with 8, whatever it is called with.
pub air_number_eight : (r : River) (cell k seconds saturation : ℕ) → air_number r cell k seconds saturation ≡ 8 → ⊥
unfolding air_number all_of
air_number_eight r cell k seconds saturation =
    first_last
    (4 when river_wrong r ∷ 5 when not (cell_exists r cell) ∷ 6 when air_figure_wrong k seconds saturation ∷ []) 8 _
    (lit< tt) refl
    (λ none. ap not
    (air_never_eight r cell k seconds saturation none.0 (not-false _ none.1.0) none.1.1.0))
