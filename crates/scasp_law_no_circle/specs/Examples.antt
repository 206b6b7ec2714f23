-- Searches and states, computed.
use Rattle.std.specs.Prelude.{◌≡◌, ℕ, zero, suc, Bool, true, false, ◌&&◌, ◌||◌, Option, None, Some, List, [], ◌∷◌, ◌++◌}
use Rattle.std.proofs.Common.{refl}
use Rattle.scasp_cert.specs.Certificate.{Certificate}
use Rattle.scasp_checker_rules.specs.ExampleWords.{program}
use Rattle.scasp_lines.specs.Samples.{ask, atom, one, is_true, is_not, rule}
use Rattle.scasp_rows.specs.PlainRows.{is_met}
use Rattle.scasp_search_rules.specs.declared.states.covers.Cover.{Cover}
use Rattle.scasp_search_rules.specs.declared.states.covers.Remainder.{Remainder}
use Rattle.scasp_search_rules.specs.declared.states.state.Kind.TheVariants.{Universal}
use Rattle.scasp_search_rules.specs.declared.states.state.State.{State}
use Rattle.scasp_search_rules.specs.declared.states.tasks.Task.TheVariants.{Close}
use Rattle.scasp_search_rules.specs.Successors.ExampleWords.{is_answer, problem}
use Rattle.scasp_search_rules.specs.Successors.Machine.{Found, ended, first_event}
use Rattle.scasp_search_rules.specs.Successors.Problems.{Problem}
use Rattle.scasp_search_rules.specs.Successors.Replacing.{closes}
use Rattle.scasp_search_rules.specs.Successors.Search.{nothing, search_for, start}
use Rattle.scasp_syntax.specs.Tm.{Tms, var, nil, cons}
use Rattle.scasp_syntax.specs.declared.clause.Item.TheVariants.{Call, Differ}
use Rattle.scasp_syntax.specs.declared.clause.Query.{Query}
use Rattle.scasp_syntax.specs.declared.program.Program.{Program}
use Rattle.scasp_syntax.specs.declared.term.Term.TheVariants.{Var, App}
use Rattle.scasp_unify.specs.Unification.{unifier}
use Rattle.scasp_unify.specs.declared.bindings.Binding.{Binding}
use Rattle.scasp_law_first_event.specs.Events.{HasEvent}
use Rattle.scasp_law_first_event.specs.Replaced.{replaces_inside}

-- ---- r :- s(Y, Z), Y \= Z. s(W, W). ?- not r. Both variables of the cover are universal, and its case is parted by whether they are one.

abbrev two : Tms
two = cons (var 0) (cons (var 1) nil)

abbrev same : Tms
same = cons (var 0) (cons (var 0) nil)

abbrev ask_not_r : Query
ask_not_r = ask (Call (is_not (atom 2 nil)))

abbrev rules : Program
rules =
    program (rule 2 (atom 2 nil) (Call (is_true (atom 3 two)) ∷ Differ (Var 0) (Var 1) ∷ []) ∷ rule 1 (atom 3 same) [] ∷ []) (ask_not_r ∷ []) refl

abbrev plain : Problem
plain = problem rules []

abbrev states : List State
states = start ask_not_r [] ∷ []

abbrev found_or_end : Option (Found State Certificate) → Found State Certificate
found_or_end None = record { event = ended; calls = 0; may = false; rest = [] }
found_or_end (Some found) = found

abbrev found : Found State Certificate
found = found_or_end (first_event (search_for plain ask_not_r) 50 200 states 0 false)

-- the search comes to an event
comes : HasEvent (search_for plain ask_not_r) 50 states 0
unfolding first_event is_met unifier
comes = (found, (200, refl))

-- an answer
is_answered : is_answer found.event ≡ true
unfolding first_event is_met unifier
is_answered = refl

-- the first remainder has an equation
abbrev equates : List Remainder → Bool
equates [] = false
equates (r ∷ rs) = has r.equation
  where
    has : Option Binding → Bool
    has None = false
    has (Some b) = true

abbrev innermost_equates : List Cover → Bool
innermost_equates [] = false
innermost_equates (c ∷ cs) = equates c.waiting

-- a case ends next, and the other side of its split replaces a variable
abbrev turns : State → Bool
turns s = closes s.work && innermost_equates s.covers

abbrev turns_within : ℕ → List State → Bool
turns_within zero ss = false
turns_within (suc n) [] = false
turns_within (suc n) (s ∷ ss) = turns s || turns_within n ((search_for plain ask_not_r).next s ++ ss)

-- on the way a case ends whose other side replaces one universal variable by the other
is_turned : turns_within 200 states ≡ true
unfolding is_met unifier
is_turned = refl

-- ---- a case that ends where x = y waits as the other side, and y stands for f(x)

abbrev closing : List ℕ → State
closing owned = record nothing {
  made = record { kind = Universal; depth = 1 } ∷ record { kind = Universal; depth = 1 } ∷ [];
  bound = record { x = 1; term = App 3 (one (var 0)) } ∷ [];
  covers =
      record {
        clause = 1;
        first = 0;
        checks_head = false;
        plain = false;
        depth = 1;
        case = 0;
        universals = owned;
        region = [];
        waiting = record { region = []; universals = owned; replaced = []; equation = Some (record { x = 0; term = Var 1 }) } ∷ [];
        before = [];
      } ∷ [];
  work = Close ∷ [];
}

-- if the cover does not own y, the binding of y stays, and x is replaced by a term in which it stands
makes_circle : replaces_inside (closing (0 ∷ [])) ≡ true
makes_circle = refl

-- if it owns both, no circle is made
makes_none : replaces_inside (closing (0 ∷ 1 ∷ [])) ≡ false
makes_none = refl
