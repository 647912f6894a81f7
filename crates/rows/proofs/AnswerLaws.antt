-- The answers of `rows_of` and `check` (specs/Answers.antt): refused by the number of the set, or all its rows; and what
-- stands where the rows were to be written (specs/Inner/Written.antt). No assumptions.
use Prim.Native.Nat.{ℕ, zero, suc, ◌+◌, ◌*◌}
use mathlib.Core.List.{List}
use mathlib.Core.Path.{◌≡◌, refl, sym, ap, ◌∙◌}
use native.Mathlib.Omega.{arith}
use lib.Dec.{lit≤, eqb-suc-zero}
use lib.IntN.{ℤ, pos, nat_abs}
use lib.ListN.{get_or-replicate}
use Rattle.std.specs.Prelude.{Result, Ok, Err}
use Rattle.stoichiometry.specs.declared.Set.{Set}
use Rattle.stoichiometry.specs.declared.refusals.Refusal.{Refusal}
use Rattle.stoichiometry.specs.Refusals.{refusal_of, answer_of}
use Rattle.numeric.proofs.TableLaws.{done, at_most_at, at_most-run}
use Rattle.stoichiometry.specs.Substances.{substances}
use Rattle.stoichiometry.specs.Rows.{processes, rows_of}
use Rattle.stoichiometry.specs.Sets.{set_number}
use Rattle.stoichiometry.proofs.RefusalLaws.{answer-ok, answer-err, answer-refused}
use Rattle.stoichiometry.proofs.SetNumber.{accepted-passes}
use Rattle.rows.specs.declared.Rows.{Rows}
use Rattle.rows.specs.Answers.{rows_answer, check_answer, EntriesBounded}
use Rattle.rows.specs.Changing.{EntriesZero}
use Rattle.rows.specs.Inner.Written.{refused_entries, entries_written}
use Rattle.rows.proofs.EntryBounds.{rows_bound}
use Rattle.rows.proofs.RowZeros.{rows_none}

pub rows_refused : (set : Set) (n : ℕ) → set_number set ≡ suc n → rows_answer set ≡ Err (refusal_of (suc n))
unfolding rows_answer
rows_refused set n e = rw (e, eqb-suc-zero n) refl

pub rows_accepted : (set : Set) → set_number set ≡ 0 → rows_answer set ≡ Ok (record { entries = rows_of set })
unfolding rows_answer
rows_accepted set e = rw e refl

-- An answer without what it is.
abbrev pub without : Result Rows Refusal → Result (Unit {0}) Refusal
without (Ok rows) = Ok tt
without (Err refusal) = Err refusal

without_is : (n : ℕ) (rows : Rows) → without (answer_of n rows) ≡ answer_of n tt
without_is zero rows = refl
without_is (suc n) rows = rw (eqb-suc-zero n) refl

-- The answer of `check` is that of `rows_of` without the rows.
pub checked : (set : Set) (r : Result Rows Refusal) → r ≡ rows_answer set → without r ≡ check_answer set
unfolding rows_answer check_answer
checked set r e = ap without e ∙ without_is (set_number set) (record { entries = rows_of set })

-- What `write_rows` refuses, `rows_of` refuses.
pub rows_handed : (set : Set) {result : Result Rows Refusal} {refusal : Refusal}
    → (x : Refusal) × (result ≡ Err x) × (x ≡ refusal) → Err refusal ≡ check_answer set → result ≡ rows_answer set
unfolding check_answer rows_answer
rows_handed set {refusal = refusal} (x, is, same) e =
    let known = answer-err (set_number set) tt refusal e in
    rw (is, same, known.1) (sym (answer-refused (set_number set) _ known.0))

-- The rows of an answer are bounded, and have no entry for a substance that a process may not change.
pub answer_entries : (set : Set) (rows : Rows) → Ok rows ≡ rows_answer set
    → EntriesBounded rows.entries × EntriesZero rows.entries
unfolding rows_answer
answer_entries set rows e =
    let known = answer-ok (set_number set) _ rows e in
    let right = accepted-passes set known.0 in
    let entries = ap (λ (r : Rows). r.entries) known.1 in
    rw entries (rows_bound set right.0 right.1, rows_none set)

-- What a refusal leaves is bounded, and 0 where a process may not change a substance.
refused_bounded : EntriesBounded refused_entries
refused_bounded =
    let zeros = at_most-run (processes * substances) (pos 0) (lit≤ tt) done in
    record { each = at_most_at {size = nat_abs} zeros (pos 0) (lit≤ tt) }

refused_zeros : EntriesZero refused_entries
refused_zeros =
    let n = processes * substances in
    record { each = λ p s h l e. get_or-replicate n (p * substances + s) (pos 0) (pos 0) (omega arith) }

module _ (set : Set) where
  -- What `write_rows` answers and leaves of a refused set: its refusal, and zeros. Of one that is accepted: its rows.
  pub written_refused : (n : ℕ) → set_number set ≡ suc n
      → (check_answer set ≡ Err (refusal_of (suc n))) × (entries_written set ≡ refused_entries)
  unfolding check_answer entries_written
  written_refused n e = (rw (e, eqb-suc-zero n) refl, rw (e, eqb-suc-zero n) refl)

  pub written_accepted : set_number set ≡ 0 → (check_answer set ≡ Ok tt) × (entries_written set ≡ rows_of set)
  unfolding check_answer entries_written
  written_accepted e = (rw e refl, rw e refl)

  -- Whatever the set, what is left is bounded, and has no entry for a substance that a process may not change.
  written-by : (n : ℕ) → set_number set ≡ n → EntriesBounded (entries_written set) × EntriesZero (entries_written set)
  written-by zero e =
      let right = accepted-passes set e in
      rw (written_accepted e).1 (rows_bound set right.0 right.1, rows_none set)
  written-by (suc n) e = rw (written_refused n e).1 (refused_bounded, refused_zeros)

  pub written_bounded : {entries : List ℤ} → entries ≡ entries_written set → EntriesBounded entries
  written_bounded is = rw is (written-by (set_number set) refl).0

  pub written_zeros : {entries : List ℤ} → entries ≡ entries_written set → EntriesZero entries
  written_zeros is = rw is (written-by (set_number set) refl).1

  -- Where `write_rows` accepts a set, what it wrote is the answer of `rows_of`.
  pub rows_answered : {entries : List ℤ} → Ok tt ≡ check_answer set → entries ≡ entries_written set
      → Ok (record { entries = entries }) ≡ rows_answer set
  unfolding check_answer
  rows_answered e is =
      let none = (answer-ok (set_number set) tt tt e).0 in
      rw (is, (written_accepted none).1) (sym (rows_accepted set none))
