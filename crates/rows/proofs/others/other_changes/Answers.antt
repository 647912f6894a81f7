-- `other_changes` meets its contract: each operation fits, by what `Released` and `Kind` keep and the bound of e. The
-- expressions have their names in RowArithmetic.antt. No assumptions.
use Rattle.std.proofs.Common.{[], ◌∷◌, pos}
use Rattle.numeric.proofs.Expression.{Ex, v, #, ◌⊕◌, ◌⊖◌, ◌⊗◌}
use Rattle.numeric.proofs.Fitting.{Bounded, all, ◌&◌}
use Rattle.numeric.proofs.Machine.{asked, ran}
use Rattle.rows.specs.Inner.Code.{most_fifteenth, others_of}
use Rattle.rows.specs.Inner.Held.{elements_of, numbers_of}
use Rattle.rows.proofs.RowArithmetic.{◌·◌, atoms, limits, atoms_bounded}
use Rattle.rows.proofs.RowArithmetic.{hydrogen, nitrogen, phosphorus, adsorbed, no3no2, no2n2, no3n2}
use Rattle.rows.proofs.RowArithmetic.{freed, to_nitrate, to_nitrite, nh4_oxidised, no2_oxidised, moved, bicarbonate}
use Rattle.rows.proofs.RowArithmetic.{nh4_change, no2_change, no3_change, hpo4_change, o2_change, h_change}
use Rattle.rows.proofs.RowArithmetic.{h2o_change, n2_change}
use Rattle.rows.proofs.others.other_changes.Goals as goal

known : (c : goal.After-struct_told-12-1)
    → Bounded (atoms (elements_of c.args.r) (numbers_of c.args.k) (c.args.e ∷ [])) (limits (most_fifteenth ∷ []))
known c = atoms_bounded c.args.r.small c.args.k.small (c.requires & all)

abbrev e : Ex
e = v 13

pub overflow_mul-a : goal.overflow_mul-a
overflow_mul-a c = asked (known c) freed tt

pub overflow_mul-a3 : goal.overflow_mul-a3
overflow_mul-a3 c = asked (known c) to_nitrate tt

pub overflow_mul-a2 : goal.overflow_mul-a2
overflow_mul-a2 c = asked (known c) to_nitrite tt

pub overflow_mul-m7 : goal.overflow_mul-m7
overflow_mul-m7 c = asked (known c) nh4_oxidised tt

pub overflow_mul-m9 : goal.overflow_mul-m9
overflow_mul-m9 c = asked (known c) no2_oxidised tt

pub overflow_add-moved : goal.overflow_add-moved
overflow_add-moved c = asked (known c) (to_nitrate ⊕ to_nitrite) tt

pub overflow_add-moved-2 : goal.overflow_add-moved-2
overflow_add-moved-2 c = asked (known c) moved tt

pub overflow_mul-e4 : goal.overflow_mul-e4
overflow_mul-e4 c = asked (known c) (e ⊗ no3no2) tt

pub overflow_mul-e5 : goal.overflow_mul-e5
overflow_mul-e5 c = asked (known c) (e ⊗ no2n2) tt

pub overflow_mul-e6 : goal.overflow_mul-e6
overflow_mul-e6 c = asked (known c) (e ⊗ no3n2) tt

pub overflow_mul-hco3 : goal.overflow_mul-hco3
overflow_mul-hco3 c = asked (known c) bicarbonate tt

pub overflow_sub-result : goal.overflow_sub-result
overflow_sub-result c = asked (known c) nh4_change tt

pub overflow_add-result : goal.overflow_add-result
overflow_add-result c = asked (known c) (to_nitrite ⊕ nh4_oxidised) tt

pub overflow_sub-result-2 : goal.overflow_sub-result-2
overflow_sub-result-2 c = asked (known c) (to_nitrite ⊕ nh4_oxidised ⊖ no2_oxidised) tt

pub overflow_mul-result : goal.overflow_mul-result
overflow_mul-result c = asked (known c) (30 · (e ⊗ no3no2)) tt

pub overflow_sub-result-3 : goal.overflow_sub-result-3
overflow_sub-result-3 c = asked (known c) (to_nitrite ⊕ nh4_oxidised ⊖ no2_oxidised ⊖ 30 · (e ⊗ no3no2)) tt

pub overflow_mul-result-2 : goal.overflow_mul-result-2
overflow_mul-result-2 c = asked (known c) (20 · (e ⊗ no2n2)) tt

pub overflow_add-result-2 : goal.overflow_add-result-2
overflow_add-result-2 c = asked (known c) (no2_change e) tt

pub overflow_add-result-3 : goal.overflow_add-result-3
overflow_add-result-3 c = asked (known c) (to_nitrate ⊕ no2_oxidised) tt

pub overflow_mul-result-3 : goal.overflow_mul-result-3
overflow_mul-result-3 c = asked (known c) (30 · (e ⊗ no3no2)) tt

pub overflow_add-result-4 : goal.overflow_add-result-4
overflow_add-result-4 c = asked (known c) (to_nitrate ⊕ no2_oxidised ⊕ 30 · (e ⊗ no3no2)) tt

pub overflow_mul-result-4 : goal.overflow_mul-result-4
overflow_mul-result-4 c = asked (known c) (12 · (e ⊗ no3n2)) tt

pub overflow_add-result-5 : goal.overflow_add-result-5
overflow_add-result-5 c = asked (known c) (no3_change e) tt

pub overflow_mul-result-5 : goal.overflow_mul-result-5
overflow_mul-result-5 c = asked (known c) (10080 · phosphorus) tt

pub overflow_sub-result-4 : goal.overflow_sub-result-4
overflow_sub-result-4 c = asked (known c) hpo4_change tt

pub overflow_sub-result-5 : goal.overflow_sub-result-5
overflow_sub-result-5 c = asked (known c) (e ⊖ (e ⊗ no3no2)) tt

pub overflow_sub-result-6 : goal.overflow_sub-result-6
overflow_sub-result-6 c = asked (known c) (e ⊖ (e ⊗ no3no2) ⊖ (e ⊗ no2n2)) tt

pub overflow_sub-result-7 : goal.overflow_sub-result-7
overflow_sub-result-7 c = asked (known c) (e ⊖ (e ⊗ no3no2) ⊖ (e ⊗ no2n2) ⊖ (e ⊗ no3n2)) tt

pub overflow_mul-result-6 : goal.overflow_mul-result-6
overflow_mul-result-6 c = asked (known c) (o2_change e) tt

pub overflow_mul-result-7 : goal.overflow_mul-result-7
overflow_mul-result-7 c = asked (known c) (20160 · phosphorus) tt

pub overflow_add-result-6 : goal.overflow_add-result-6
overflow_add-result-6 c = asked (known c) (bicarbonate ⊕ 20160 · phosphorus) tt

pub overflow_sub-result-8 : goal.overflow_sub-result-8
overflow_sub-result-8 c = asked (known c) (bicarbonate ⊕ 20160 · phosphorus ⊖ freed) tt

pub overflow_mul-result-8 : goal.overflow_mul-result-8
overflow_mul-result-8 c = asked (known c) (2 · moved) tt

pub overflow_add-result-7 : goal.overflow_add-result-7
overflow_add-result-7 c = asked (known c) (bicarbonate ⊕ 20160 · phosphorus ⊖ freed ⊕ 2 · moved) tt

pub overflow_mul-result-9 : goal.overflow_mul-result-9
overflow_mul-result-9 c = asked (known c) (20 · (e ⊗ no2n2)) tt

pub overflow_add-result-8 : goal.overflow_add-result-8
overflow_add-result-8 c =
    asked (known c) (bicarbonate ⊕ 20160 · phosphorus ⊖ freed ⊕ 2 · moved ⊕ 20 · (e ⊗ no2n2)) tt

pub overflow_mul-result-10 : goal.overflow_mul-result-10
overflow_mul-result-10 c = asked (known c) (12 · (e ⊗ no3n2)) tt

pub overflow_add-result-9 : goal.overflow_add-result-9
overflow_add-result-9 c = asked (known c) (h_change e) tt

pub overflow_mul-result-11 : goal.overflow_mul-result-11
overflow_mul-result-11 c = asked (known c) (156240 · hydrogen) tt

pub overflow_sub-result-9 : goal.overflow_sub-result-9
overflow_sub-result-9 c = asked (known c) (156240 · hydrogen ⊖ bicarbonate) tt

pub overflow_mul-result-12 : goal.overflow_mul-result-12
overflow_mul-result-12 c = asked (known c) (33480 · nitrogen) tt

pub overflow_sub-result-10 : goal.overflow_sub-result-10
overflow_sub-result-10 c = asked (known c) (156240 · hydrogen ⊖ bicarbonate ⊖ 33480 · nitrogen) tt

pub overflow_mul-result-13 : goal.overflow_mul-result-13
overflow_mul-result-13 c = asked (known c) (15120 · phosphorus) tt

pub overflow_sub-result-11 : goal.overflow_sub-result-11
overflow_sub-result-11 c =
    asked (known c) (156240 · hydrogen ⊖ bicarbonate ⊖ 33480 · nitrogen ⊖ 15120 · phosphorus) tt

pub overflow_add-result-10 : goal.overflow_add-result-10
overflow_add-result-10 c =
    asked (known c)
    (156240 · hydrogen ⊖ bicarbonate ⊖ 33480 · nitrogen ⊖ 15120 · phosphorus ⊕ moved) tt

pub overflow_mul-result-14 : goal.overflow_mul-result-14
overflow_mul-result-14 c = asked (known c) (10 · (e ⊗ no2n2)) tt

pub overflow_sub-result-12 : goal.overflow_sub-result-12
overflow_sub-result-12 c =
    asked (known c)
    (156240 · hydrogen ⊖ bicarbonate ⊖ 33480 · nitrogen ⊖ 15120 · phosphorus ⊕ moved ⊖ 10 · (e ⊗ no2n2)) tt

pub overflow_mul-result-15 : goal.overflow_mul-result-15
overflow_mul-result-15 c = asked (known c) (6 · (e ⊗ no3n2)) tt

pub overflow_sub-result-13 : goal.overflow_sub-result-13
overflow_sub-result-13 c = asked (known c) (h2o_change e) tt

pub overflow_mul-result-16 : goal.overflow_mul-result-16
overflow_mul-result-16 c = asked (known c) (10 · (e ⊗ no2n2)) tt

pub overflow_sub-result-14 : goal.overflow_sub-result-14
overflow_sub-result-14 c = asked (known c) (# (pos 0) ⊖ 10 · (e ⊗ no2n2)) tt

pub overflow_mul-result-17 : goal.overflow_mul-result-17
overflow_mul-result-17 c = asked (known c) (6 · (e ⊗ no3n2)) tt

pub overflow_sub-result-15 : goal.overflow_sub-result-15
overflow_sub-result-15 c = asked (known c) (n2_change e) tt

pub overflow_mul-result-18 : goal.overflow_mul-result-18
overflow_mul-result-18 c = asked (known c) (15 · e) tt

pub returns : goal.returns
unfolding others_of
returns c = λ i.
    record {
      nh4 = ran (known c) nh4_change tt i;
      no2 = ran (known c) (no2_change e) tt i;
      no3 = ran (known c) (no3_change e) tt i;
      hpo4 = ran (known c) hpo4_change tt i;
      o2 = ran (known c) (o2_change e) tt i;
      hco3 = ran (known c) bicarbonate tt i;
      h = ran (known c) (h_change e) tt i;
      xp = ran (known c) adsorbed tt i;
      h2o = ran (known c) (h2o_change e) tt i;
      n2 = ran (known c) (n2_change e) tt i;
      e = ran (known c) (15 · e) tt i;
    }
