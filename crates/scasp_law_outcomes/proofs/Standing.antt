-- The checks that a state has told and those that it still owes: together they stay the same.
use Rattle.std.specs.Prelude.{◌≡◌, ℕ, suc, Bool, true, false, List, [], ◌∷◌, ◌++◌, map, length}
use Rattle.std.specs.List.{flat_map}
use Rattle.std.proofs.Common.{◌∙◌, refl, ap, sym, subst, append_assoc}
use Rattle.std.proofs.lemmas.Grind.{flat_map-append}
use Rattle.std.proofs.lemmas.List.{append-nil}
use Rattle.scasp_list.specs.Each.{Each}
use Rattle.scasp_list.proofs.EachLemmas.{Each-append}
use Rattle.scasp_search_rules.specs.declared.states.covers.Cover.{Cover}
use Rattle.scasp_search_rules.specs.declared.states.lines.Line.{Line}
use Rattle.scasp_search_rules.specs.declared.states.lines.Line.TheVariants as line
use Rattle.scasp_search_rules.specs.declared.states.state.State.{State}
use Rattle.scasp_search_rules.specs.declared.states.tasks.Task.{Task}
use Rattle.scasp_search_rules.specs.declared.states.tasks.Task.TheVariants as task
use Rattle.scasp_syntax.specs.declared.clause.FlatItem.{FlatItem}
use Rattle.scasp_search_rules.specs.Successors.Items.{with_line}
use Rattle.scasp_search_rules.specs.Successors.Regions.{before}
use Rattle.scasp_search_rules.specs.Successors.Steps.{Step, only_if}

-- ---- what lines tell

-- the clause that a line checks
abbrev pub check_in : Line → List ℕ
check_in (line.Check k first) = k ∷ []
check_in l = []

abbrev pub checks_in : List Line → List ℕ
checks_in ls = flat_map check_in ls

-- the clauses that the lines before the innermost case check, the outermost first
abbrev pub checks_before : List Cover → List ℕ
checks_before [] = []
checks_before (c ∷ cs) = checks_before cs ++ checks_in c.before

abbrev pub told : State → List ℕ
told s = checks_before s.covers ++ checks_in s.lines

-- ---- what tasks owe

-- the clauses that are still to be checked, and how many cases are still to be closed
pub record Owed : Type 0 where
  pub checks : List ℕ
  pub closes : ℕ

abbrev pub owed : List Task → Owed
owed [] = record { checks = []; closes = 0 }
owed (task.Check k checks_head ∷ ts) = record { checks = k ∷ (owed ts).checks; closes = (owed ts).closes }
owed (task.Close ∷ ts) = record { checks = (owed ts).checks; closes = suc (owed ts).closes }
owed (t ∷ ts) = owed ts

-- tasks that owe neither a check nor a close
abbrev pub Idle : List Task → Type 0
Idle ts = (us : List Task) → owed (ts ++ us) ≡ owed us

pub idle-append : (ts us : List Task) → Idle ts → Idle us → Idle (ts ++ us)
idle-append ts us h k ws = ap owed (append_assoc ts us ws) ∙ h (us ++ ws) ∙ k ws

pub idle-shows : (is : List FlatItem) → Idle (map task.Show is)
idle-shows [] us = refl
idle-shows (i ∷ is) us = idle-shows is us

-- ---- states

-- The clauses told and then those owed are all of them, and for each open cover a close is owed.
pub record Stands (all told : List ℕ) (owed : Owed) (depth : ℕ) : Type 0 where
  pub checks : told ++ owed.checks ≡ all
  pub closes : owed.closes ≡ depth

abbrev pub Keeps : List ℕ → State → Type 0
Keeps all s = Stands all (told s) (owed s.work) (length s.covers)

pub keeps-before : (all : List ℕ) (s : State) (ts : List Task) → Idle ts → Keeps all s → Keeps all (before ts s)
keeps-before all s ts idle h =
    let P : Owed → Type 0 = λ o. Stands all (told s) o (length s.covers) in
    subst P (sym (idle s.work)) h

-- one more line tells what it checks
pub told-line : (s : State) (l : Line) → told (with_line s l) ≡ told s ++ check_in l
told-line s l =
    let behind : checks_in (s.lines ++ l ∷ []) ≡ checks_in s.lines ++ check_in l =
    flat_map-append check_in s.lines (l ∷ []) ∙ ap (λ (z : List ℕ). checks_in s.lines ++ z) (append-nil (check_in l)) in
    ap (λ (z : List ℕ). checks_before s.covers ++ z) behind ∙ sym (append_assoc (checks_before s.covers) (checks_in s.lines) (check_in l))

pub keeps-line : (all : List ℕ) (s : State) (l : Line) → check_in l ≡ [] → Keeps all s → Keeps all (with_line s l)
keeps-line all s l none h =
    let same : told (with_line s l) ≡ told s = told-line s l ∙ ap (λ (z : List ℕ). told s ++ z) none ∙ append-nil (told s) in
    let P : List ℕ → Type 0 = λ z. Stands all z (owed s.work) (length s.covers) in
    subst P (sym same) h

-- ---- each of the states of a step

pub each-only_if : (P : State → Type 0) (b : Bool) (s : State) → P s → Each P (only_if b s)
each-only_if P true s h = (h, tt)
each-only_if P false s h = tt

pub each-followed : (P : State → Type 0) (f : State → Step) → ((s : State) → P s → Each P (f s).states) → (ss : List State) → Each P ss
    → Each P (flat_map (λ s. (f s).states) ss)
each-followed P f k [] h = tt
each-followed P f k (s ∷ ss) h = Each-append P (f s).states (flat_map (λ s. (f s).states) ss) (k s h.0) (each-followed P f k ss h.1)

pub each-mapped : (P : State → Type 0) (f : State → State) → ((s : State) → P s → P (f s)) → (ss : List State) → Each P ss → Each P (map f ss)
each-mapped P f k [] h = tt
each-mapped P f k (s ∷ ss) h = (k s h.0, each-mapped P f k ss h.1)

pub each-made : {A : Type 0} (P : State → Type 0) (f : A → State) → ((x : A) → P (f x)) → (xs : List A) → Each P (map f xs)
each-made P f k [] = tt
each-made P f k (x ∷ xs) = (k x, each-made P f k xs)
