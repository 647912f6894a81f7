-- The river (scope, "Units and substances" and "Numbers a caller may get"): the bounds of its amounts and carries,
-- check 4, and a fresh river. Laws: proofs/. No assumptions.
use Rattle.std.specs.Prelude.{ℕ, ◌+◌, ◌*◌, ◌/◌, ◌%◌, Bool, not, ◌&&◌, cond, List, [], ◌∷◌, map, leb, ltb, eqb, get_or, replicate, ℤ, pos, neg_ℤ, nat_abs, Result}
use Rattle.std.specs.Int.Signed.{le_z}
use Rattle.numeric.specs.Check.{in_range, every, first_holding, ◌when◌}
use Rattle.stoichiometry.specs.declared.refusals.Refusal.{Refusal}
use Rattle.stoichiometry.specs.Refusals.{answer_of}
use Rattle.stoichiometry.specs.Substances.{Substance, organic, nh4, no2, no3, hpo4, o2, hco3, h_plus, xp, h2o, n2}
use Rattle.stoichiometry.specs.Substances.{substances, order, most_organic, most_grains, most_net}
use Rattle.stoichiometry.specs.Rows.{processes}
use Rattle.river.specs.declared.River.{River}

-- The most cells of a river.
abbrev pub most_cells : ℕ
most_cells = 8

-- The most of a carry, millionths of a batch.
abbrev pub most_carry : ℕ
most_carry = 999999

-- The least and the most of a substance: organics in µg, the others in grains; H+ and H2O are net changes.
abbrev pub lowest : Substance → ℤ
lowest (organic x) = pos 0
lowest nh4 = pos 0
lowest no2 = pos 0
lowest no3 = pos 0
lowest hpo4 = pos 0
lowest o2 = pos 0
lowest hco3 = pos 0
lowest h_plus = neg_ℤ (pos most_net)
lowest xp = pos 0
lowest h2o = neg_ℤ (pos most_net)
lowest n2 = pos 0

abbrev pub highest : Substance → ℤ
highest (organic x) = pos most_organic
highest nh4 = pos most_grains
highest no2 = pos most_grains
highest no3 = pos most_grains
highest hpo4 = pos most_grains
highest o2 = pos most_grains
highest hco3 = pos most_grains
highest h_plus = pos most_net
highest xp = pos most_grains
highest h2o = pos most_net
highest n2 = pos most_grains

-- The same by the substance's place.
unfoldable pub lowest_at : ℕ → ℤ
lowest_at s = get_or (map lowest order) s (pos 0)

unfoldable pub highest_at : ℕ → ℤ
highest_at s = get_or (map highest order) s (pos 0)

-- An amount of the substance at place s is in its bounds.
unfoldable pub amount_fits : ℕ → ℤ → Bool
amount_fits s x = le_z (lowest_at s) x && le_z x (highest_at s)

-- Carry p of cell c, both counted from 0. Amount s of cell c: amount_at in stoichiometry/specs/Totals.antt.
abbrev pub carry_at : List ℕ → ℕ → ℕ → ℕ
carry_at carries c p = get_or carries (c * processes + p) 0

-- All amounts of the first n cells are in their bounds, all others are 0.
unfoldable pub amounts_fit : ℕ → List ℤ → Bool
amounts_fit n amounts =
    every (most_cells * substances) (λ k.
    let x = get_or amounts k (pos 0) in
    cond (ltb (k / substances) n) (amount_fits (k % substances) x) (eqb (nat_abs x) 0))

-- All carries of the first n cells are at most 999,999 millionths, all others are 0.
unfoldable pub carries_fit : ℕ → List ℕ → Bool
carries_fit n carries =
    every (most_cells * processes) (λ k.
    let x = get_or carries k 0 in
    cond (ltb (k / processes) n) (leb x most_carry) (eqb x 0))

-- A river is of 1 to 8 cells.
unfoldable pub cells_fit : ℕ → Bool
cells_fit = in_range 1 most_cells

-- A river of these parts is of 1 to 8 cells, its amounts and carries are in their bounds, and beyond its last cell are
-- zeros.
abbrev pub river_fits : ℕ → List ℤ → List ℕ → Bool
river_fits n amounts carries = cells_fit n && amounts_fit n amounts && carries_fit n carries

-- Check 4: a river is not of 1 to 8 cells, or holds an amount or carry outside its bounds, or anything but zeros
-- beyond its last cell.
unfoldable pub river_wrong : River → Bool
river_wrong r = not (river_fits r.cells r.amounts r.carries)

-- A cell of the river by its number, 1 to the number of cells; a substance by its number, 1 to 18.
abbrev pub cell_exists : River → ℕ → Bool
cell_exists r = in_range 1 r.cells

abbrev pub substance_exists : ℕ → Bool
substance_exists = in_range 1 substances

-- A river of n cells, all zeros.
abbrev pub zero_river : ℕ → River
zero_river n =
    record {
      cells = n;
      amounts = replicate (most_cells * substances) (pos 0);
      carries = replicate (most_cells * processes) 0;
    }

-- A fresh river of n cells; 4 where n is not 1 to 8.
unfoldable pub fresh_answer : ℕ → Result River Refusal
fresh_answer n = answer_of (first_holding (4 when not (cells_fit n) ∷ [])) (zero_river n)
