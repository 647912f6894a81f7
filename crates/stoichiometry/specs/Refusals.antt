-- What a call answers (scope, "Numbers a caller may get"; requests of document 02): its result, or a refusal, by the
-- number of the first check that holds. Laws: proofs/RefusalLaws.antt. No assumptions.
use Rattle.std.specs.Prelude.{ℕ, ◌-◌, cond, List, [], ◌∷◌, eqb, get_or, Result, Ok, Err, codes}
use Rattle.stoichiometry.specs.declared.refusals.Refusal.{Refusal}
use Rattle.stoichiometry.specs.declared.refusals.Refusal.TheVariants.{Fractions, Figures, Rows, River, Place, Conditions}
use Rattle.stoichiometry.specs.declared.refusals.Refusal.TheVariants.{Batches, Bounds, Reading, Space, Text, Page}

-- The documents' number of a refusal.
abbrev pub number : Refusal → ℕ
number Fractions = 1
number Figures = 2
number Rows = 3
number River = 4
number Place = 5
number Conditions = 6
number Batches = 7
number Bounds = 8
number Reading = 9
number Space = 10
number Text = 11
number Page = 12

-- What a refusal says, in bytes of ASCII.
abbrev pub message : Refusal → List ℕ
message Fractions = codes "the fractions of some organic do not add to 1,000"
message Figures = codes "a figure of the set is outside its range"
message Rows = codes "a process does not consume oxygen, or takes up what it must not"
message River = codes "the river is not of 1 to 8 cells with amounts and carries in their bounds"
message Place = codes "the cell or the substance does not exist"
message Conditions = codes "a figure of the call is outside its range"
message Batches = codes "some process reaches too many whole batches"
message Bounds = codes "some amount would end outside its bounds"
message Reading = codes "a reading is not a number, below zero, or too large"
message Space = codes "the output or the work area is too short"
message Text = codes "the text is not exactly a record"
message Page = codes "the output is too short for the page"

-- The refusals in the order of their numbers, and the refusal of a number from 1 on.
abbrev pub refusals : List Refusal
refusals =
    Fractions ∷ Figures ∷ Rows ∷ River ∷ Place ∷ Conditions ∷ Batches ∷ Bounds ∷ Reading ∷ Space ∷ Text ∷ Page ∷ []

abbrev pub refusal_of : ℕ → Refusal
refusal_of n = get_or refusals (n - 1) Page

-- The answer of a call whose first check that holds has this number: its result where none does (0), else the refusal.
abbrev pub answer_of : {A : Type 0} → ℕ → A → Result A Refusal
answer_of n done = cond (eqb n 0) (Ok done) (Err (refusal_of n))

-- The number of an answer, 0 for none.
abbrev pub number_of : {A : Type 0} → Result A Refusal → ℕ
number_of (Ok done) = 0
number_of (Err refusal) = number refusal
