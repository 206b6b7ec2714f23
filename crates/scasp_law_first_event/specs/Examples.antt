-- Searches with their first events, computed.
use Rattle.std.specs.Prelude.{◌≡◌, true, false, Option, None, Some, List, [], ◌∷◌}
use Rattle.std.proofs.Common.{inr, refl}
use Rattle.scasp_checker_rules.specs.ExampleWords.{program}
use Rattle.scasp_cert.specs.Certificate.{Certificate}
use Rattle.scasp_lines.specs.Samples.{atom, one, is_true, rule}
use Rattle.scasp_rows.specs.PlainRows.{is_met}
use Rattle.scasp_search_rules.specs.declared.states.state.Kind.TheVariants.{Existential, Universal}
use Rattle.scasp_search_rules.specs.declared.states.state.State.{State}
use Rattle.scasp_search_rules.specs.declared.states.tasks.Task.TheVariants.{Close, Equate}
use Rattle.scasp_search_rules.specs.Successors.ExampleWords.{problem}
use Rattle.scasp_search_rules.specs.Successors.Machine.{Found, ended, first_event, spent}
use Rattle.scasp_search_rules.specs.Successors.Problems.{Problem}
use Rattle.scasp_search_rules.specs.Successors.Search.{nothing, search_for, start}
use Rattle.scasp_syntax.specs.Tm.{Tm, var, app}
use Rattle.scasp_syntax.specs.declared.atom.Atom.{Atom}
use Rattle.scasp_syntax.specs.declared.clause.Item.TheVariants.{Call}
use Rattle.scasp_syntax.specs.declared.clause.Query.{Query}
use Rattle.scasp_syntax.specs.declared.program.Program.{Program}
use Rattle.scasp_syntax.specs.declared.term.Term.TheVariants.{Var, App}
use Rattle.scasp_unify.specs.Unification.{unifier}
use Rattle.scasp_law_first_event.specs.Events.{HasEvent, TellsOverflow}
use Rattle.scasp_law_first_event.specs.Positive.{is_positive}
use Rattle.scasp_law_first_event.specs.Replaced.{replaces_inside}
use Rattle.scasp_law_first_event.specs.Solved.{is_solved}

-- ---- p(X) :- p(f(X)). ?- p(X). It has no answer and no end.

abbrev p : Tm → Atom
p t = atom 2 (one t)

abbrev ask_p : Query
ask_p = record { body = Call (is_true (p (var 0))) ∷ []; names = None ∷ [] }

abbrev endless : Program
endless = program (rule 1 (p (var 0)) (Call (is_true (p (app 3 (one (var 0))))) ∷ []) ∷ []) (ask_p ∷ []) refl

abbrev plain : Problem
plain = problem endless []

abbrev states : List State
states = start ask_p [] ∷ []

abbrev found_or_end : Option (Found State Certificate) → Found State Certificate
found_or_end None = record { event = ended; calls = 0; may = false; rest = [] }
found_or_end (Some found) = found

abbrev found : Found State Certificate
found = found_or_end (first_event (search_for plain ask_p) 5 100 states 0 false)

-- within a budget of 5 calls its first event is the end of the budget
comes : HasEvent (search_for plain ask_p) 5 states 0
unfolding first_event is_met unifier
comes = (found, (100, refl))

is_spent : found.event ≡ spent
unfolding first_event is_met unifier
is_spent = refl

-- which less than three steps do not find
later : first_event (search_for plain ask_p) 5 2 states 0 false ≡ None
unfolding first_event is_met unifier
later = refl

-- no list that it asks overflows
is_quiet : found.may ≡ false
unfolding first_event is_met unifier
is_quiet = refl

-- neither the query nor the clause has a negated literal, and no clause is checked
has_no_negation : is_positive plain ask_p ≡ true
has_no_negation = refl

-- ---- the same, where each list that is asked overflows

abbrev flagged : Problem
flagged = record plain { overflows = λ cs. true }

abbrev flagged_found : Found State Certificate
flagged_found = found_or_end (first_event (search_for flagged ask_p) 5 100 states 0 false)

tells : TellsOverflow (search_for flagged ask_p) 5 states 0
unfolding first_event is_met unifier
tells = (flagged_found, (100, refl), inr refl)

-- ---- a state in which a variable is bound to a term in which it stands, where each list is said to have a valuation

abbrev trusting : Problem
trusting = record plain { sat = λ cs. true }

abbrev circular : State
circular = record nothing {
  made = record { kind = Existential; depth = 0 } ∷ record { kind = Existential; depth = 0 } ∷ [];
  bound = record { x = 0; term = App 3 (one (var 0)) } ∷ [];
  work = Equate (Var 0) (Var 1) ∷ [];
}

-- it is not in solved form
is_circular : is_solved circular ≡ false
is_circular = refl

-- and no event comes: the second variable gets the name of the first, and so its argument, and so on
goes_on : first_event (search_for trusting ask_p) 5 20 (circular ∷ []) 0 false ≡ None
unfolding first_event is_met unifier
goes_on = refl

-- ---- a case that ends, where the other side of its split replaces a variable by a term in which it stands

abbrev turning : State
turning = record nothing {
  made = record { kind = Universal; depth = 1 } ∷ [];
  covers =
      record {
        clause = 1;
        first = 0;
        checks_head = false;
        plain = false;
        depth = 1;
        case = 0;
        universals = 0 ∷ [];
        region = [];
        waiting = record { region = []; universals = 0 ∷ []; replaced = []; equation = Some (record { x = 0; term = App 3 (one (var 0)) }) } ∷ [];
        before = [];
      } ∷ [];
  work = Close ∷ [];
}

turns : replaces_inside turning ≡ true
turns = refl

-- not if another task is done first
waits : replaces_inside (record turning { work = Equate (Var 0) (Var 0) ∷ Close ∷ [] }) ≡ false
waits = refl
