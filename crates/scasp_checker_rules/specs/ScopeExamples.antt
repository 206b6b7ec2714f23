-- Worked cases of what may be said in one case and what in another. Names: 2 is a, 3 b, 4 g, 5 u, 6 w, 7 s, 8 the constant c.
use Rattle.std.specs.Prelude.{◌≡◌, ℕ, List, [], ◌∷◌}
use Rattle.std.proofs.Common.{refl}
use Rattle.scasp_syntax.specs.Tm.{Tm, var, nil}
use Rattle.scasp_syntax.specs.declared.atom.Atom.{Atom}
use Rattle.scasp_syntax.specs.declared.clause.Item.TheVariants.{Call, Equal}
use Rattle.scasp_syntax.specs.declared.con.Con.TheVariants as con
use Rattle.scasp_syntax.specs.declared.program.Program.{Program}
use Rattle.scasp_syntax.specs.declared.term.Term.{Term}
use Rattle.scasp_syntax.specs.declared.term.Term.TheVariants.{Var, App}
use Rattle.scasp_cert.specs.Trees.{Tree, Branch, pos_tree, neg_tree, loop_tree, seen_tree, split, leaf, listed, covering}
use Rattle.scasp_unify.specs.Unification.{unifier}
use Rattle.scasp_lines.specs.Samples.{atom, one, constant, is_true, is_not, rule, ask, answer}
use Rattle.scasp_checker_rules.specs.ExampleWords.{program, test, refused_at}
use Rattle.scasp_checker_rules.specs.Faults.{faults}
use Rattle.scasp_checker_rules.specs.Refusals.{first}
use Rattle.scasp_checker_rules.specs.declared.refusal.Reason.TheVariants as reason

abbrev a : Atom
a = atom 2 nil

abbrev b : Atom
b = atom 3 nil

abbrev g : Atom
g = atom 4 nil

abbrev u : Atom
u = atom 5 nil

abbrev w : Atom
w = atom 6 nil

abbrev s : Tm → Atom
s t = atom 7 (one t)

abbrev c : Term
c = App 8 nil

abbrev leaf_of : List Tree → Branch
leaf_of ts = leaf 1 (listed ts)

-- a negated literal with one rule
abbrev refutes : Atom → ℕ → Branch → Tree
refutes x k case = neg_tree x (covering ((k, case) ∷ []))

-- a :- not b. b :- not a. g :- a, X = c, b. ?- not g.
abbrev two_values : Program
two_values =
    program
    (rule 0 a (Call (is_not b) ∷ []) ∷ rule 0 b (Call (is_not a) ∷ []) ∷ rule 1 g (Call (is_true a) ∷ Equal (Var 0) c ∷ Call (is_true b) ∷ []) ∷ [])
    (ask (Call (is_not g)) ∷ []) refl

-- where X = c the literal a is true, and elsewhere it is false: X may have both values
both_values :
    first
    (faults two_values
    (answer
    (refutes g 3
    (split (con.Eq (Var 0) c)
    (leaf 3
    (listed
    (pos_tree a 1 nil (listed (refutes b 2 (leaf_of (loop_tree (is_true a) 5 ∷ [])) ∷ []))
    ∷ test (con.Eq c c) ∷ refutes b 2 (leaf_of (seen_tree (is_true a) 5 ∷ [])) ∷ [])))
    (leaf_of (refutes a 1 (leaf_of (pos_tree b 2 nil (listed (loop_tree (is_not a) 16 ∷ [])) ∷ [])) ∷ []))) ∷ []) []))
    ≡ refused_at 5 reason.Clash
unfolding unifier
both_values = refl

-- g :- u, s(X). u :- w. s(c). ?- not g.
abbrev unused : Program
unused =
    program
    (rule 1 g (Call (is_true u) ∷ Call (is_true (s (var 0))) ∷ []) ∷ rule 0 u (Call (is_true w) ∷ []) ∷ rule 0 (s (constant 8)) [] ∷ [])
    (ask (Call (is_not g)) ∷ []) refl

-- what is shown on one side of a split is not shown on the other
other_side :
    first
    (faults unused
    (answer
    (refutes g 1
    (leaf_of
    (refutes u 2 (split (con.Num (Var 0)) (leaf_of (neg_tree w (covering []) ∷ [])) (leaf_of (seen_tree (is_not w) 8 ∷ []))) ∷ [])) ∷ []) []))
    ≡ refused_at 10 reason.NotInScope
other_side = refl
