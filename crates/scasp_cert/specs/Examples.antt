-- Small cases of the definitions, computed.
use Rattle.std.specs.Prelude.{◌≡◌, ℕ, true, false, pos, negsuc, List, [], ◌∷◌}
use Rattle.std.proofs.Common.{refl}
use Rattle.scasp_num.specs.Linear.{Linear}
use Rattle.scasp_num.specs.declared.linear.Op.TheVariants as op
use Rattle.scasp_syntax.specs.Tm.{Tms, var, app, nil, cons}
use Rattle.scasp_syntax.specs.declared.atom.Atom.{Atom}
use Rattle.scasp_syntax.specs.declared.con.Con.{Con}
use Rattle.scasp_syntax.specs.declared.con.Con.TheVariants as con
use Rattle.scasp_syntax.specs.declared.hint.Hint.TheVariants as hint
use Rattle.scasp_syntax.specs.declared.term.Term.TheVariants.{Var}
use Rattle.scasp_cert.specs.Certificate.{Certificate}
use Rattle.scasp_cert.specs.Flat.{is_flat}
use Rattle.scasp_cert.specs.Lines.{all_lines}
use Rattle.scasp_cert.specs.Trees.{Tree, Branch, pos_tree, neg_tree, loop_tree, test_tree, split, leaf, listed, covering}

abbrev atom : ℕ → Tms → Atom
atom name ts = record { minus = false; name = name; args = ts }

abbrev p : Atom
p = atom 2 nil

abbrev q : Atom
q = atom 3 nil

abbrev r : Atom
r = atom 4 nil

abbrev by_rule : Atom → ℕ → List Tree → Tree
by_rule a rule children = pos_tree a rule nil (listed children)

abbrev answer : List Tree → List (ℕ × Branch) → Certificate
answer trees checks = record { query = 1; terms = nil; given = []; sample = nil; trees = trees; checks = checks; clashes = []; map = [] }

-- p :- q, r. q. r :- q. ?- p.
abbrev shared_goal : Certificate
shared_goal = answer (by_rule p 1 (by_rule q 2 [] ∷ by_rule r 3 (by_rule q 2 [] ∷ []) ∷ []) ∷ []) []

shared_goal_lines : all_lines shared_goal ≡ 4
shared_goal_lines = refl

-- p :- not q, r. q :- not r. r :- p. ?- not p.
abbrev loop_through_negation : Certificate
loop_through_negation =
    answer
    (neg_tree p (covering ((1, leaf 1 (listed (by_rule q 2 (neg_tree r (covering ((3, leaf 1 (listed (loop_tree (record { positive = false; atom = p }) 1 ∷ []))) ∷ [])) ∷ []) ∷ []))) ∷ [])) ∷ [])
    []

loop_lines : all_lines loop_through_negation ≡ 8
loop_lines = refl

-- q. :- 2*X #> 3, 2*X #< 3. ?- q.
abbrev below : Linear
below = record { coeffs = record { x = 0; c = pos 2 } ∷ []; constant = negsuc 2; op = op.Lt }

abbrev above : Linear
above = record { coeffs = record { x = 0; c = negsuc 1 } ∷ []; constant = pos 3; op = op.Lt }

abbrev at_most : Linear
at_most = record { coeffs = record { x = 0; c = pos 2 } ∷ []; constant = negsuc 2; op = op.Le }

abbrev at_least : Linear
at_least = record { coeffs = record { x = 0; c = negsuc 1 } ∷ []; constant = pos 3; op = op.Le }

abbrev test : Con → Tree
test c = test_tree c hint.Terms

abbrev cases : Branch
cases =
    split (con.NotNum (Var 0)) (leaf 1 (listed (test (con.NotNum (Var 0)) ∷ [])))
    (split (con.Row at_most) (leaf 2 (listed (test (con.Num (Var 0)) ∷ test (con.Row at_most) ∷ [])))
    (leaf 3 (listed (test (con.Num (Var 0)) ∷ test (con.Row above) ∷ test (con.Row at_least) ∷ []))))

linear_denial_lines : all_lines (answer (by_rule q 1 [] ∷ []) ((2, cases) ∷ [])) ≡ 13
linear_denial_lines = refl

-- p :- not r(X). r(X) :- s(f(X)). s(Y). ?- not p.
abbrev over_variable : List Tree → Certificate
over_variable trees =
    answer (neg_tree p (covering ((1, leaf 1 (listed (pos_tree (atom 4 (cons (var 0) nil)) 2 (cons (var 0) nil) (listed trees) ∷ []))) ∷ [])) ∷ []) []

variable_is_flat : is_flat (over_variable []) ≡ true
variable_is_flat = refl

compound_is_not :
    is_flat (over_variable (pos_tree (atom 5 (cons (app 6 (cons (var 0) nil)) nil)) 3 (cons (app 6 (cons (var 0) nil)) nil) (listed []) ∷ [])) ≡ false
compound_is_not = refl
