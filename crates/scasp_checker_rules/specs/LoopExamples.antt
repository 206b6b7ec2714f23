-- Worked cases of loops and of literals seen before. Names: 2 is p, 3 q, 4 r, 5 s, 6 a constant a.
use Rattle.std.specs.Prelude.{◌≡◌, ℕ, false, List, [], ◌∷◌}
use Rattle.std.proofs.Common.{refl}
use Rattle.scasp_syntax.specs.Tm.{nil}
use Rattle.scasp_syntax.specs.declared.atom.Atom.{Atom}
use Rattle.scasp_syntax.specs.declared.clause.Item.TheVariants.{Call}
use Rattle.scasp_syntax.specs.declared.program.Program.{Program}
use Rattle.scasp_cert.specs.Certificate.{Certificate}
use Rattle.scasp_cert.specs.Trees.{Tree, pos_tree, neg_tree, loop_tree, seen_tree, leaf, listed, covering}
use Rattle.scasp_lines.specs.Samples.{atom, is_true, is_not, rule, ask, answer}
use Rattle.scasp_checker_rules.specs.ExampleWords.{program, ask_all, refused_at}
use Rattle.scasp_checker_rules.specs.Faults.{faults, faults_where}
use Rattle.scasp_checker_rules.specs.Refusals.{first}
use Rattle.scasp_checker_rules.specs.declared.refusal.Reason.TheVariants as reason

abbrev p : Atom
p = atom 2 nil

abbrev q : Atom
q = atom 3 nil

abbrev r : Atom
r = atom 4 nil

-- a negated literal with one rule, of one item
abbrev refutes : Atom → ℕ → Tree → Tree
refutes a k t = neg_tree a (covering ((k, leaf 1 (listed (t ∷ []))) ∷ []))

abbrev holds : Atom → ℕ → List Tree → Tree
holds a k ts = pos_tree a k nil (listed ts)

-- p :- p. ?- p.
abbrev circle : Program
circle = program (rule 0 p (Call (is_true p) ∷ []) ∷ []) (ask (Call (is_true p)) ∷ ask (Call (is_not p)) ∷ []) refl

positive_loop : first (faults circle (answer (holds p 1 (loop_tree (is_true p) 1 ∷ []) ∷ []) [])) ≡ refused_at 2 reason.LoopWithoutNegation
positive_loop = refl

-- ?- not p.
abbrev of_negation : Tree → Certificate
of_negation t = record { query = 2; terms = nil; given = []; sample = nil; trees = t ∷ []; checks = []; clashes = []; map = [] }

negated_loop : faults circle (of_negation (refutes p 1 (loop_tree (is_not p) 1))) ≡ []
negated_loop = refl

-- a literal above is not one that has been shown
ancestor : first (faults circle (of_negation (refutes p 1 (seen_tree (is_not p) 1)))) ≡ refused_at 4 reason.NotInScope
ancestor = refl

no_line : first (faults circle (of_negation (refutes p 1 (loop_tree (is_not p) 5)))) ≡ refused_at 4 reason.NoAncestor
no_line = refl

-- p :- not q. q :- not p. ?- p. The loop leads back to p over a negated literal.
abbrev even : Program
even = program (rule 0 p (Call (is_not q) ∷ []) ∷ rule 0 q (Call (is_not p) ∷ []) ∷ []) (ask (Call (is_true p)) ∷ []) refl

even_loop : faults even (answer (holds p 1 (refutes q 2 (loop_tree (is_true p) 1) ∷ []) ∷ []) []) ≡ []
even_loop = refl

-- q. p :- q. r :- not p. ?- p, q. A positive literal may be seen again once it has been shown, and where that is allowed.
abbrev twice : Program
twice = program (rule 0 q [] ∷ rule 0 p (Call (is_true q) ∷ []) ∷ []) (ask_all (is_true p ∷ is_true q ∷ []) ∷ []) refl

abbrev q_again : Certificate
q_again = answer (holds p 2 (holds q 1 [] ∷ []) ∷ seen_tree (is_true q) 2 ∷ []) []

seen_again : faults twice q_again ≡ []
seen_again = refl

not_yet : first (faults_where false twice q_again) ≡ refused_at 3 reason.WrongNode
not_yet = refl

before_its_line : first (faults twice (answer (holds p 2 (seen_tree (is_true q) 3 ∷ []) ∷ holds q 1 [] ∷ []) [])) ≡ refused_at 2 reason.NotInScope
before_its_line = refl

-- p :- not q, r. q :- not r. r :- p. ?- p. A literal that rests on a positive loop may not be seen again.
abbrev through : Program
through =
    program (rule 0 p (Call (is_not q) ∷ Call (is_true r) ∷ []) ∷ rule 0 q (Call (is_not r) ∷ []) ∷ rule 0 r (Call (is_true p) ∷ []) ∷ [])
    (ask (Call (is_true p)) ∷ []) refl

-- below `not q` the literal r is shown by a loop to p
abbrev resting : Tree
resting = holds p 1 (refutes q 2 (holds r 3 (loop_tree (is_true p) 1 ∷ [])) ∷ seen_tree (is_true r) 5 ∷ [])

not_firm : first (faults through (answer (resting ∷ []) [])) ≡ refused_at 7 reason.NotInScope
not_firm = refl
