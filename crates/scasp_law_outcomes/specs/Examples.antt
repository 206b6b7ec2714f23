-- A search with a check that meets two answers, computed.
use Rattle.std.specs.Prelude.{ℕ, false, Option, None, Some, List, [], ◌∷◌}
use Rattle.std.proofs.Common.{refl}
use Rattle.scasp_checker_rules.specs.ExampleWords.{program}
use Rattle.scasp_cert.specs.Certificate.{Certificate}
use Rattle.scasp_cert.specs.Trees.{Branch, pos_tree, neg_tree, leaf, listed, covering}
use Rattle.scasp_lines.specs.Samples.{atom, is_true, rule, ask, answer, by_fact}
use Rattle.scasp_rows.specs.PlainRows.{is_met}
use Rattle.scasp_search_rules.specs.declared.states.state.State.{State}
use Rattle.scasp_syntax.specs.Tm.{nil}
use Rattle.scasp_syntax.specs.declared.atom.Atom.{Atom}
use Rattle.scasp_syntax.specs.declared.clause.Item.TheVariants.{Call}
use Rattle.scasp_syntax.specs.declared.clause.Query.{Query}
use Rattle.scasp_syntax.specs.declared.program.Program.{Program}
use Rattle.scasp_unify.specs.Unification.{unifier}
use Rattle.scasp_search_rules.specs.Successors.ExampleWords.{problem}
use Rattle.scasp_search_rules.specs.Successors.Machine.{Found, ended, first_event}
use Rattle.scasp_search_rules.specs.Successors.Problems.{Problem}
use Rattle.scasp_search_rules.specs.Successors.Search.{search_for, start}
use Rattle.scasp_law_outcomes.specs.Giving.{at_once, later}
use Rattle.scasp_law_outcomes.specs.Problems.{IsAnswer}

abbrev p : Atom
p = atom 2 nil

abbrev q : Atom
q = atom 3 nil

abbrev x : Atom
x = atom 4 nil

abbrev ask_p : Query
ask_p = ask (Call (is_true p))

-- ---- p. p :- q. q. :- x. ?- p.

abbrev denying : Program
denying =
    program
    (rule 0 p [] ∷ rule 0 p (Call (is_true q) ∷ []) ∷ rule 0 q []
    ∷ record { head = None; body = Call (is_true x) ∷ []; vars = 0 } ∷ [])
    (ask_p ∷ []) refl

abbrev checked : Problem
checked = problem denying (record { clause = 4; head = false } ∷ [])

-- the denial is checked: x is false
abbrev check : ℕ × Branch
check = (4, leaf 1 (listed (neg_tree x (covering []) ∷ [])))

abbrev found_or_end : Option (Found State Certificate) → Found State Certificate
found_or_end None = record { event = ended; calls = 0; may = false; rest = [] }
found_or_end (Some found) = found

abbrev found_from : List State → ℕ → Found State Certificate
found_from states calls = found_or_end (first_event (search_for checked ask_p) 60 1000 states calls false)

abbrev at_start : Found State Certificate
at_start = found_from (start ask_p checked.checks ∷ []) 0

by_the_fact : IsAnswer checked ask_p 60 (answer (by_fact p 1 ∷ []) (check ∷ []))
unfolding first_event is_met unifier
by_the_fact = at_once (start ask_p checked.checks ∷ []) 0 at_start (1000, refl) refl

by_the_rule : IsAnswer checked ask_p 60 (answer (pos_tree p 2 nil (listed (by_fact q 3 ∷ [])) ∷ []) (check ∷ []))
unfolding first_event is_met unifier
by_the_rule =
    later (start ask_p checked.checks ∷ []) 0 at_start (answer (by_fact p 1 ∷ []) (check ∷ [])) (1000, refl) refl
    (at_once at_start.rest at_start.calls (found_from at_start.rest at_start.calls) (1000, refl) refl)
