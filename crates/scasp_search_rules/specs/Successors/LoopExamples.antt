-- Worked searches without variables: loops, literals that are seen, checks.
use Rattle.std.specs.Prelude.{◌≡◌, true, [], ◌∷◌}
use Rattle.std.proofs.Common.{refl}
use Rattle.scasp_checker_rules.specs.ExampleWords.{program}
use Rattle.scasp_cert.specs.Trees.{Tree, pos_tree, neg_tree, loop_tree, seen_tree, leaf, listed, covering}
use Rattle.scasp_lines.specs.Samples.{atom, is_true, is_not, rule, ask, answer, by_fact}
use Rattle.scasp_syntax.specs.Tm.{nil}
use Rattle.scasp_syntax.specs.declared.atom.Atom.{Atom}
use Rattle.scasp_syntax.specs.declared.clause.Item.TheVariants.{Call}
use Rattle.scasp_syntax.specs.declared.clause.Query.{Query}
use Rattle.scasp_syntax.specs.declared.program.Program.{Program}
use Rattle.scasp_unify.specs.Unification.{unifier}
use Rattle.scasp_rows.specs.PlainRows.{is_met}
use Rattle.scasp_search_rules.specs.Successors.ExampleWords.{problem, events}
use Rattle.scasp_search_rules.specs.Successors.Machine.{answered, ended, spent, first_event}

abbrev p : Atom
p = atom 2 nil

abbrev q : Atom
q = atom 3 nil

abbrev x : Atom
x = atom 4 nil

abbrev ask_p : Query
ask_p = ask (Call (is_true p))

abbrev ask_not_p : Query
ask_not_p = ask (Call (is_not p))

-- the literal's one rule fails at its first item, which the tree shows
abbrev denied : Atom → Tree → Tree
denied a t = neg_tree a (covering ((1, leaf 1 (listed (t ∷ []))) ∷ []))

-- ---- p :- p.

abbrev itself : Program
itself = program (rule 0 p (Call (is_true p) ∷ []) ∷ []) (ask_p ∷ []) refl

positive_loop_fails : events (problem itself []) ask_p 60 2 ≡ (ended, 2) ∷ []
unfolding first_event is_met unifier
positive_loop_fails = refl

-- ?- not p.
positive_loop_is_denied : events (problem itself []) ask_not_p 60 2
    ≡ (answered (answer (denied p (loop_tree (is_not p) 1) ∷ []) []), 3) ∷ (ended, 3) ∷ []
unfolding first_event is_met unifier
positive_loop_is_denied = refl

-- ---- p :- not q, x. q :- not x. x :- p.

abbrev through : Program
through =
    program (rule 0 p (Call (is_not q) ∷ Call (is_true x) ∷ []) ∷ rule 0 q (Call (is_not x) ∷ []) ∷ rule 0 x (Call (is_true p) ∷ []) ∷ [])
    (ask_p ∷ []) refl

loop_through_negation_fails : events (problem through []) ask_p 60 2 ≡ (ended, 7) ∷ []
unfolding first_event is_met unifier
loop_through_negation_fails = refl

-- ?- not p.
loop_through_negation_is_denied : events (problem through []) ask_not_p 60 2
    ≡ (
      answered
          (answer
          (denied p
          (pos_tree q 2 nil
          (listed (neg_tree x (covering ((3, leaf 1 (listed (loop_tree (is_not p) 1 ∷ []))) ∷ [])) ∷ []))) ∷ []) []),
      6,
    ) ∷ (ended, 10) ∷ []
unfolding first_event is_met unifier
loop_through_negation_is_denied = refl

-- ---- p :- not p. q. The first is an odd rule, whose check fails.

abbrev odd : Program
odd = program (rule 0 p (Call (is_not p) ∷ []) ∷ rule 0 q [] ∷ []) (ask (Call (is_true q)) ∷ []) refl

odd_loop_fails : events (problem odd (record { clause = 1; head = true } ∷ [])) (ask (Call (is_true q))) 60 2 ≡ (ended, 7) ∷ []
unfolding first_event is_met unifier
odd_loop_fails = refl

-- without the check q is an answer
odd_loop_unchecked : events (problem odd []) (ask (Call (is_true q))) 60 1 ≡ (answered (answer (by_fact q 2 ∷ []) []), 1) ∷ []
unfolding first_event is_met unifier
odd_loop_unchecked = refl

-- ---- p :- not q. q :- not p. It takes 4 calls.

abbrev even : Program
even = program (rule 0 p (Call (is_not q) ∷ []) ∷ rule 0 q (Call (is_not p) ∷ []) ∷ []) (ask_p ∷ []) refl

even_loop_holds : events (problem even []) ask_p 4 1
    ≡ (
      answered
          (answer
          (pos_tree p 1 nil
          (listed (neg_tree q (covering ((2, leaf 1 (listed (loop_tree (is_true p) 1 ∷ []))) ∷ [])) ∷ [])) ∷ []) []),
      4,
    ) ∷ []
unfolding first_event is_met unifier
even_loop_holds = refl

even_loop_is_cut : events (problem even []) ask_p 3 1 ≡ (spent, 3) ∷ []
unfolding first_event is_met unifier
even_loop_is_cut = refl

-- ---- p :- q, x. x :- q. q. The second call of q is seen.

abbrev twice : Program
twice =
    program (rule 0 p (Call (is_true q) ∷ Call (is_true x) ∷ []) ∷ rule 0 x (Call (is_true q) ∷ []) ∷ rule 0 q [] ∷ []) (ask_p ∷ []) refl

positive_literal_is_seen : events (problem twice []) ask_p 60 2
    ≡ (
      answered
          (answer (pos_tree p 1 nil (listed (by_fact q 3 ∷ pos_tree x 2 nil (listed (seen_tree (is_true q) 2 ∷ [])) ∷ [])) ∷ []) []),
      4,
    ) ∷ (ended, 4) ∷ []
unfolding first_event is_met unifier
positive_literal_is_seen = refl
