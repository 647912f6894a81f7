-- Check 3 as the code asks it, on the rows and the E's that it made (specs/Inner/Code.antt), is check 3 of Sets.antt:
-- `wrong_of_made`. No assumptions.
use Prim.Native.Nat.{ℕ, ◌*◌, ◌/◌, ◌<◌}
use mathlib.Core.Bool.{and_assoc, and-true}
use mathlib.Core.List.{List, []}
use mathlib.Core.Path.{◌≡◌, refl, ◌∙◌}
use native.Mathlib.Omega.{arith}
use lib.Dec.{lit<}
use lib.IntN.{ℤ, pos}
use lib.ListN.{length, get_or, drop}
use lib.Seq.{get_or-take, get_or-drop}
use Rattle.std.specs.Simd.{first_chunks}
use Rattle.numeric.proofs.ChunkLaws.{chunk_is}
use Rattle.numeric.specs.Check.{every, all_of}
use Rattle.numeric.specs.Table.{tab}
use Rattle.stoichiometry.specs.declared.Set.{Set}
use Rattle.stoichiometry.specs.Rows.{processes, processes_of, process_at, rows_of, row_entry}
use Rattle.stoichiometry.specs.Substances.{substances}
use Rattle.stoichiometry.specs.Rows as rows
use Rattle.stoichiometry.specs.Sets.{asked_met, rows_wrong}
use Rattle.rows.specs.Inner.Code.{oxygen_of, takes_up_nothing, row_in, consume_o2, wrong_of}
use Rattle.stoichiometry.proofs.Balance.{get_or_rows}

-- A row that was cut out of the entries.
pub row_cut : (entries : List ℤ) (cut : List (List ℤ)) → length entries ≡ processes * substances
    → cut ≡ first_chunks substances (length entries / substances) entries → (p : ℕ) → p < processes
    → get_or cut p [] ≡ row_in entries p
row_cut entries cut long e p h = rw e (chunk_is substances (length entries / substances) entries p (omega arith))

-- An entry of the row of the process at p, and the code's test of that row.
entry_in : (set : Set) (p s : ℕ) → p < processes → s < substances
    → get_or (row_in (rows_of set) p) s (pos 0) ≡ row_entry set p s
entry_in set p s h l =
    get_or-take substances (drop (p * substances) (rows_of set)) s (pos 0) l
    ∙ get_or-drop (p * substances) (rows_of set) s (pos 0)
    ∙ get_or_rows set p s h l

taken_is : (set : Set) (p : ℕ) → p < processes
    → takes_up_nothing (row_in (rows_of set) p) ≡ asked_met set p rows.takes_up_nothing
taken_is set p h =
    rw (entry_in set p 2 h (lit< tt), entry_in set p 5 h (lit< tt), entry_in set p 6 h (lit< tt), entry_in set p 7 h (lit< tt))

-- Nothing is asked of the other processes.
by_parts : (set : Set) → wrong_of (rows_of set) (oxygen_of set) ≡ rows_wrong set
unfolding wrong_of consume_o2 rows_wrong oxygen_of tab every all_of process_at processes_of
by_parts set = rw (taken_is set 13 (lit< tt), taken_is set 14 (lit< tt)) (simp (and_assoc, and-true) refl)

-- Of what was made of the set.
pub wrong_of_made : {entries es : List ℤ} (set : Set) → entries ≡ rows_of set → es ≡ oxygen_of set
    → wrong_of entries es ≡ rows_wrong set
wrong_of_made set e f = rw (e, f) (by_parts set)
