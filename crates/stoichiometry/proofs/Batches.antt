-- The batch size b of every process is the µg by which the organic that X names changes, which stands first among its
-- changes; 100 for processes that change no organic. No assumptions.
use Prim.Native.Nat.{ℕ}
use mathlib.Core.List.{List, [], ◌∷◌, map}
use mathlib.Core.Path.{◌≡◌, refl, sym, ap, ◌∙◌}
use lib.ListN.{get_or, get_or-map}
use lib.IntN.{nat_abs}
use Rattle.stoichiometry.specs.declared.Set.{Set}
use Rattle.stoichiometry.specs.Substances.{Organic}
use Rattle.stoichiometry.specs.Rows.{Change, ◌by◌, Process, no_process, processes_of, process_at}

abbrev named : List (Change Organic) → ℕ
named [] = 100
named (x by d ∷ changes) = nat_abs d

all_named : (set : Set) → map (λ q. q.batch) (processes_of set) ≡ map (λ q. named q.changes) (processes_of set)
unfolding processes_of
all_named set = refl

pub batch_named : (set : Set) (p : ℕ) → (process_at set p).batch ≡ named (process_at set p).changes
unfolding process_at
batch_named set p =
    sym (get_or-map (λ (q : Process). q.batch) (processes_of set) p no_process)
    ∙ ap (λ (l : List ℕ). get_or l p 100) (all_named set)
    ∙ get_or-map (λ (q : Process). named q.changes) (processes_of set) p no_process
