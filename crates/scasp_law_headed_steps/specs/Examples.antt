-- Programs to which the laws apply, and one to which they do not, with their searches computed.
use Rattle.std.specs.Prelude.{◌≡◌, ℕ, zero, suc, Bool, true, false, ◌||◌, None, List, [], ◌∷◌, ◌++◌, pos, negsuc}
use Rattle.std.specs.List.{list_any}
use Rattle.std.proofs.Common.{refl}
use Rattle.scasp_checker_rules.specs.ExampleWords.{program, row}
use Rattle.scasp_lines.specs.Samples.{ask, atom, constant, one, is_true, is_not, rule}
use Rattle.scasp_num.specs.Arithmetic.{IsReduced-from_test}
use Rattle.scasp_num.specs.Gcd.{gcd, gcd_within}
use Rattle.scasp_num.specs.Linear.{normal_form, put_of, join_of}
use Rattle.scasp_num.specs.Number.{Number}
use Rattle.scasp_num.specs.declared.linear.Op.TheVariants as op
use Rattle.scasp_rows.specs.PlainRows.{is_met}
use Rattle.scasp_search_rules.specs.declared.states.lines.Line.{Line}
use Rattle.scasp_search_rules.specs.declared.states.lines.Line.TheVariants as line
use Rattle.scasp_search_rules.specs.declared.states.state.State.{State}
use Rattle.scasp_search_rules.specs.Successors.ExampleWords.{problem}
use Rattle.scasp_search_rules.specs.Successors.Problems.{Problem}
use Rattle.scasp_search_rules.specs.Successors.Search.{search_for, start}
use Rattle.scasp_syntax.specs.Tm.{Tm, Tms, var, num, app, nil, cons}
use Rattle.scasp_syntax.specs.declared.atom.Atom.{Atom}
use Rattle.scasp_syntax.specs.declared.clause.Item.{Item}
use Rattle.scasp_syntax.specs.declared.clause.Item.TheVariants.{Call, Differ, Equal, Linear as LinearItem}
use Rattle.scasp_syntax.specs.declared.clause.Query.{Query}
use Rattle.scasp_syntax.specs.declared.program.Program.{Program}
use Rattle.scasp_syntax.specs.declared.term.Term.TheVariants.{Var, App}
use Rattle.scasp_unify.specs.Unification.{unifier}
use Rattle.scasp_law_sorted.specs.Asking.{has_universal_made}
use Rattle.scasp_law_headed_steps.specs.Calm.{IsHeaded}
use Rattle.scasp_law_headed_steps.specs.Headed.{is_headed_program}

-- ---- words

abbrev is_split : Line → Bool
is_split (line.Split c parts) = true
is_split (line.Test c) = false
is_split (line.Pos a k ts n) = false
is_split (line.Neg a n) = false
is_split (line.Loop l at) = false
is_split (line.Seen l at) = false
is_split (line.Rule a k first) = false
is_split (line.Check k first) = false
is_split line.Void = false
is_split (line.Leaf k) = false
is_split (line.Head n) = false

-- some cover is open
abbrev is_open : {A : Type 0} → List A → Bool
is_open [] = false
is_open (c ∷ cs) = true

-- the state has a universal variable, or tells of a split
abbrev parts_cases : State → Bool
parts_cases s = has_universal_made s || list_any is_split s.lines

-- so it is with some state that the walk meets within so many steps
abbrev pub some_within : (State → Bool) → ℕ → Problem → Query → List State → Bool
some_within f zero p q ss = false
some_within f (suc n) p q [] = false
some_within f (suc n) p q (s ∷ ss) = f s || some_within f n p q ((search_for p q).next s ++ ss)

abbrev pub p : Tms → Atom
p ts = atom 2 ts

abbrev pub q : Tms → Atom
q ts = atom 3 ts

abbrev pub two : Tm → Tm → Tms
two t u = cons t (cons u nil)

abbrev pub a : Tm
a = constant 6

-- ---- p(f(X), Y) :- X #> 3, Y \= b, not q(X, Y). q(7, a). ?- p(Z, W), not p(Z, a). Terms, a disequation and a row.

abbrev pub seven : Number
unfolding gcd gcd_within
seven = record { num = pos 7; den = pos 1; reduced = IsReduced-from_test (pos 7) (pos 1) refl }

abbrev pub above : Item
above = LinearItem (record { vars = 0 ∷ []; row = row 0 (negsuc 0) (pos 3) op.Lt })

abbrev pub ask_p : Query
ask_p = record {
  body = Call (is_true (p (two (var 0) (var 1)))) ∷ Call (is_not (p (two (var 0) a))) ∷ [];
  names = None ∷ None ∷ [];
}

abbrev pub rows : Program
unfolding gcd gcd_within
rows =
    program
    (rule 2 (p (two (app 4 (one (var 0))) (var 1)))
    (above ∷ Differ (Var 1) (App 7 nil) ∷ Call (is_not (q (two (var 0) (var 1)))) ∷ [])
    ∷ rule 0 (q (two (num seven) a)) [] ∷ [])
    (ask_p ∷ []) refl

-- the laws apply
rows_is_headed : IsHeaded (problem rows []) ask_p
unfolding gcd gcd_within
rows_is_headed = record { program = refl; query = refl; test = refl }

-- covers open on the way, and no case is parted
rows_opens : some_within (λ s. is_open s.covers) 60 (problem rows []) ask_p (start ask_p [] ∷ []) ≡ true
unfolding is_met unifier gcd gcd_within normal_form put_of join_of
rows_opens = refl

rows_parts_none : some_within parts_cases 60 (problem rows []) ask_p (start ask_p [] ∷ []) ≡ false
unfolding is_met unifier gcd gcd_within normal_form put_of join_of
rows_parts_none = refl

-- ---- p(X) :- not q(X). q(X) :- not p(X). ?- p(Z). It loops through negation.

abbrev pub ask_loop : Query
ask_loop = record { body = Call (is_true (p (one (var 0)))) ∷ []; names = None ∷ [] }

abbrev pub even : Program
even =
    program
    (rule 1 (p (one (var 0))) (Call (is_not (q (one (var 0)))) ∷ [])
    ∷ rule 1 (q (one (var 0))) (Call (is_not (p (one (var 0)))) ∷ []) ∷ [])
    (ask_loop ∷ []) refl

even_is_headed : IsHeaded (problem even []) ask_loop
even_is_headed = record { program = refl; query = refl; test = refl }

even_opens : some_within (λ s. is_open s.covers) 60 (problem even []) ask_loop (start ask_loop [] ∷ []) ≡ true
unfolding is_met unifier
even_opens = refl

even_parts_none : some_within parts_cases 60 (problem even []) ask_loop (start ask_loop [] ∷ []) ≡ false
unfolding is_met unifier
even_parts_none = refl

-- ---- p :- q(X), X = b. q(a). ?- not p. The body has a variable that the head lacks, and its case is parted.

abbrev ask_not_p : Query
ask_not_p = ask (Call (is_not (p nil)))

abbrev hidden : Program
hidden =
    program
    (rule 1 (p nil) (Call (is_true (q (one (var 0)))) ∷ Equal (Var 0) (App 7 nil) ∷ [])
    ∷ rule 0 (q (one a)) [] ∷ [])
    (ask_not_p ∷ []) refl

hidden_is_none : is_headed_program hidden [] ≡ false
hidden_is_none = refl

hidden_parts : some_within parts_cases 60 (problem hidden []) ask_not_p (start ask_not_p [] ∷ []) ≡ true
unfolding is_met unifier
hidden_parts = refl

hidden_splits : some_within (λ s. list_any is_split s.lines) 60 (problem hidden []) ask_not_p (start ask_not_p [] ∷ []) ≡ true
unfolding is_met unifier
hidden_splits = refl
