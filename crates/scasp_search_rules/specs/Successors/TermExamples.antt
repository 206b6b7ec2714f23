-- Worked searches over terms: given constraints, cases that are split, budgets.
use Rattle.std.specs.Prelude.{◌≡◌, List, [], ◌∷◌, None}
use Rattle.std.proofs.Common.{refl}
use Rattle.scasp_checker_rules.specs.ExampleWords.{program}
use Rattle.scasp_cert.specs.Certificate.{Certificate}
use Rattle.scasp_cert.specs.Trees.{Tree, pos_tree, neg_tree, loop_tree, split, void, leaf, listed, covering}
use Rattle.scasp_lines.specs.Samples.{atom, one, constant, is_true, is_not, rule, ask, answer, by_fact}
use Rattle.scasp_rows.specs.PlainRows.{is_met}
use Rattle.scasp_syntax.specs.Tm.{Tm, var, app, nil, cons}
use Rattle.scasp_syntax.specs.declared.atom.Atom.{Atom}
use Rattle.scasp_syntax.specs.declared.clause.Item.{Item}
use Rattle.scasp_syntax.specs.declared.clause.Item.TheVariants.{Call, Equal}
use Rattle.scasp_syntax.specs.declared.clause.Query.{Query}
use Rattle.scasp_syntax.specs.declared.con.Con.{Con}
use Rattle.scasp_syntax.specs.declared.con.Con.TheVariants as con
use Rattle.scasp_syntax.specs.declared.hint.Hint.TheVariants as hint
use Rattle.scasp_syntax.specs.declared.program.Program.{Program}
use Rattle.scasp_syntax.specs.declared.term.Term.TheVariants.{Var, App}
use Rattle.scasp_unify.specs.Unification.{unifier}
use Rattle.scasp_search_rules.specs.Successors.ExampleWords.{problem, events, calls_of}
use Rattle.scasp_search_rules.specs.Successors.Machine.{answered, ended, spent, first_event}

abbrev p : Tm → Atom
p t = atom 2 (one t)

abbrev q : Tm → Atom
q t = atom 3 (one t)

abbrev r : Tm → Atom
r t = atom 4 (one t)

abbrev bare : Atom
bare = atom 5 nil

abbrev a : Tm
a = constant 6

abbrev b : Tm
b = constant 7

abbrev f : Tm → Tm
f t = app 8 (one t)

-- a query with one variable
abbrev ask_one : Item → Query
ask_one i = record { body = i ∷ []; names = None ∷ [] }

-- an answer with one term and given constraints
abbrev answer_one : Tm → List Con → List Tree → Certificate
answer_one t given trees =
    record { query = 1; terms = one t; given = given; sample = nil; trees = trees; checks = []; clashes = []; map = [] }

-- ---- p(X) :- not q(X). q(a). ?- p(X).

abbrev default : Program
default =
    program (rule 1 (p (var 0)) (Call (is_not (q (var 0))) ∷ []) ∷ rule 0 (q a) [] ∷ []) (ask_one (Call (is_true (p (var 0)))) ∷ []) refl

default_over_variable : events (problem default []) (ask_one (Call (is_true (p (var 0))))) 60 3
    ≡ (
      answered
          (answer_one (var 0) (con.NotShape 0 6 0 ∷ [])
          (pos_tree (p (var 0)) 1 (one (var 0)) (listed (neg_tree (q (var 0)) (covering ((2, void hint.Terms) ∷ [])) ∷ [])) ∷ [])),
      2,
    ) ∷ (ended, 3) ∷ []
unfolding first_event is_met unifier
default_over_variable = refl

-- ---- p :- q(X), not r(X). q(a). q(b). r(a). r(b). ?- not p.

abbrev facts : Program
facts =
    program
    (rule 1 bare (Call (is_true (q (var 0))) ∷ Call (is_not (r (var 0))) ∷ [])
    ∷ rule 0 (q a) [] ∷ rule 0 (q b) [] ∷ rule 0 (r a) [] ∷ rule 0 (r b) [] ∷ [])
    (ask (Call (is_not bare)) ∷ []) refl

-- the first of five answers
forall_over_facts : events (problem facts []) (ask (Call (is_not bare))) 60 1
    ≡ (
      answered
          (answer
          (neg_tree bare
          (covering
          ((
            1,
            split (con.NotShape 0 6 0)
                (split (con.NotShape 0 7 0)
                (leaf 1 (listed (neg_tree (q (var 0)) (covering ((2, void hint.Terms) ∷ (3, void hint.Terms) ∷ [])) ∷ [])))
                (leaf 2 (listed (by_fact (q b) 3 ∷ by_fact (r b) 5 ∷ []))))
                (leaf 2 (listed (by_fact (q a) 2 ∷ by_fact (r a) 4 ∷ []))),
          ) ∷ [])) ∷ []) []),
      13,
    ) ∷ []
unfolding first_event is_met unifier
forall_over_facts = refl

-- an answer for each way through the two splits, and the end
forall_over_facts_calls : calls_of (events (problem facts []) (ask (Call (is_not bare))) 60 6) ≡ 13 ∷ 22 ∷ 26 ∷ 35 ∷ 39 ∷ 40 ∷ []
unfolding first_event is_met unifier
forall_over_facts_calls = refl

-- ---- p(X) :- X = f(X). ?- p(Y).

abbrev inside : Program
inside =
    program (rule 1 (p (var 0)) (Equal (Var 0) (App 8 (one (var 0))) ∷ []) ∷ []) (ask_one (Call (is_true (p (var 0)))) ∷ []) refl

occurs_check : events (problem inside []) (ask_one (Call (is_true (p (var 0))))) 60 1 ≡ (ended, 1) ∷ []
unfolding first_event is_met unifier
occurs_check = refl

-- ---- p(f(X)) :- p(X). ?- p(Y). Call 11 would begin.

abbrev endless : Program
endless =
    program (rule 1 (p (f (var 0))) (Call (is_true (p (var 0))) ∷ []) ∷ []) (ask_one (Call (is_true (p (var 0)))) ∷ []) refl

endless_recursion : events (problem endless []) (ask_one (Call (is_true (p (var 0))))) 10 1 ≡ (spent, 10) ∷ []
unfolding first_event is_met unifier
endless_recursion = refl

-- ---- p :- not r(X). r(X) :- q(f(X)). q(Y). ?- not p.

abbrev domain : Program
domain =
    program
    (rule 1 bare (Call (is_not (r (var 0))) ∷ []) ∷ rule 1 (r (var 0)) (Call (is_true (q (f (var 0)))) ∷ []) ∷ rule 1 (q (var 0)) [] ∷ [])
    (ask (Call (is_not bare)) ∷ []) refl

closed_domain_only : events (problem domain []) (ask (Call (is_not bare))) 60 2
    ≡ (
      answered
          (answer
          (neg_tree bare
          (covering
          ((
            1,
            leaf 1
                (listed
                (pos_tree (r (var 0)) 2 (one (var 0)) (listed (pos_tree (q (f (var 0))) 3 (one (f (var 0))) (listed []) ∷ [])) ∷ [])),
          ) ∷ [])) ∷ []) []),
      4,
    ) ∷ (ended, 4) ∷ []
unfolding first_event is_met unifier
closed_domain_only = refl

-- ---- p(X) :- not q(X). q(X) :- not p(X). ?- p(X), not p(Y). The two are to be apart.

abbrev ask_two : Query
ask_two = record { body = Call (is_true (p (var 0))) ∷ Call (is_not (p (var 1))) ∷ []; names = None ∷ None ∷ [] }

abbrev even : Program
even =
    program (rule 1 (p (var 0)) (Call (is_not (q (var 0))) ∷ []) ∷ rule 1 (q (var 0)) (Call (is_not (p (var 0))) ∷ []) ∷ [])
    (ask_two ∷ []) refl

opposites_are_apart : events (problem even []) ask_two 60 1
    ≡ (
      answered
          (record {
            query = 1;
            terms = cons (var 0) (one (var 1));
            given = con.Neq (Var 1) (Var 0) ∷ [];
            sample = nil;
            trees =
                pos_tree (p (var 0)) 1 (one (var 0))
                (listed (neg_tree (q (var 0)) (covering ((2, leaf 1 (listed (loop_tree (is_true (p (var 0))) 1 ∷ []))) ∷ [])) ∷ []))
                ∷ neg_tree (p (var 1))
                (covering
                ((
                  1,
                  leaf 1 (listed (pos_tree (q (var 1)) 2 (one (var 1)) (listed (loop_tree (is_not (p (var 1))) 6 ∷ [])) ∷ [])),
                ) ∷ []))
                ∷ [];
            checks = [];
            clashes = [];
            map = [];
          }),
      8,
    ) ∷ []
unfolding first_event is_met unifier
opposites_are_apart = refl

-- ---- p(X) :- bare. bare :- s. ?- not p(a), not bare. The second `not bare` stands outside the case in which the first was shown.

abbrev s : Atom
s = atom 9 nil

abbrev ask_scoped : Query
ask_scoped = record { body = Call (is_not (p a)) ∷ Call (is_not bare) ∷ []; names = [] }

abbrev scoped : Program
scoped = program (rule 1 (p (var 0)) (Call (is_true bare) ∷ []) ∷ rule 0 bare (Call (is_true s) ∷ []) ∷ []) (ask_scoped ∷ []) refl

abbrev not_bare : Tree
not_bare = neg_tree bare (covering ((2, leaf 1 (listed (neg_tree s (covering []) ∷ []))) ∷ []))

case_is_out_of_scope : events (problem scoped []) ask_scoped 60 2
    ≡ (answered (answer (neg_tree (p a) (covering ((1, leaf 1 (listed (not_bare ∷ []))) ∷ [])) ∷ not_bare ∷ []) []), 8) ∷ (ended, 8) ∷ []
unfolding first_event is_met unifier
case_is_out_of_scope = refl
