-- Worked searches over numbers: rows that are given, and cases that are split by rows.
use Rattle.std.specs.Prelude.{◌≡◌, ℕ, false, List, [], ◌∷◌, None, pos, negsuc}
use Rattle.std.proofs.Common.{refl}
use Rattle.scasp_checker_rules.specs.ExampleWords.{program, row, test}
use Rattle.scasp_cert.specs.Certificate.{Certificate}
use Rattle.scasp_cert.specs.Trees.{Tree, Branch, pos_tree, neg_tree, split, void, leaf, listed, covering}
use Rattle.scasp_lines.specs.Samples.{atom, one, is_true, is_not, rule, ask, answer, by_fact}
use Rattle.scasp_num.specs.Arithmetic.{IsReduced-from_test}
use Rattle.scasp_num.specs.Gcd.{gcd, gcd_within}
use Rattle.scasp_num.specs.Linear.{Linear, normal_form, put_of, join_of}
use Rattle.scasp_num.specs.Number.{Number}
use Rattle.scasp_num.specs.declared.linear.Op.TheVariants as op
use Rattle.scasp_rows.specs.PlainRows.{is_met}
use Rattle.scasp_syntax.specs.Tm.{Tm, var, num, nil}
use Rattle.scasp_syntax.specs.declared.atom.Atom.{Atom}
use Rattle.scasp_syntax.specs.declared.clause.Item.{Item}
use Rattle.scasp_syntax.specs.declared.clause.Item.TheVariants.{Call, Linear as LinearItem}
use Rattle.scasp_syntax.specs.declared.clause.Query.{Query}
use Rattle.scasp_syntax.specs.declared.con.Con.{Con}
use Rattle.scasp_syntax.specs.declared.con.Con.TheVariants as con
use Rattle.scasp_syntax.specs.declared.hint.Hint.TheVariants as hint
use Rattle.scasp_syntax.specs.declared.program.Program.{Program}
use Rattle.scasp_syntax.specs.declared.term.Term.TheVariants.{Var, Num}
use Rattle.scasp_unify.specs.Unification.{unifier}
use Rattle.scasp_search_rules.specs.Successors.ExampleWords.{problem, events}
use Rattle.scasp_search_rules.specs.Successors.Machine.{answered, ended, first_event}

abbrev p : Tm → Atom
p t = atom 2 (one t)

abbrev q : Tm → Atom
q t = atom 3 (one t)

abbrev bare : Atom
bare = atom 4 nil

abbrev three : Number
unfolding gcd gcd_within
three = record { num = pos 3; den = pos 1; reduced = IsReduced-from_test (pos 3) (pos 1) refl }

abbrev seven : Number
unfolding gcd gcd_within
seven = record { num = pos 7; den = pos 1; reduced = IsReduced-from_test (pos 7) (pos 1) refl }

abbrev ask_p : Query
ask_p = record { body = Call (is_true (p (var 0))) ∷ []; names = None ∷ [] }

abbrev answer_one : Tm → List Con → List Tree → Certificate
answer_one t given trees =
    record { query = 1; terms = one t; given = given; sample = nil; trees = trees; checks = []; clashes = []; map = [] }

-- a row on variable 0
abbrev with_row : Linear → Item
with_row r = LinearItem (record { vars = 0 ∷ []; row = r })

-- ---- p(X) :- not q(X). q(3). ?- p(X).

abbrev default : Program
default = program (rule 1 (p (var 0)) (Call (is_not (q (var 0))) ∷ []) ∷ rule 0 (q (num three)) [] ∷ []) (ask_p ∷ []) refl

abbrev not_q : List Tree
not_q = pos_tree (p (var 0)) 1 (one (var 0)) (listed (neg_tree (q (var 0)) (covering ((2, void hint.Terms) ∷ [])) ∷ [])) ∷ []

number_or_not : events (problem default []) ask_p 60 3
    ≡ (answered (answer_one (var 0) (con.NotNum (Var 0) ∷ []) not_q), 2)
    ∷ (answered (answer_one (var 0) (con.Num (Var 0) ∷ con.Neq (Var 0) (Num three) ∷ []) not_q), 2)
    ∷ (ended, 3) ∷ []
unfolding first_event is_met unifier gcd gcd_within normal_form put_of join_of
number_or_not = refl

-- ---- p(X) :- X #> 3, X #< 5. ?- p(X).

abbrev above : Linear
above = row 0 (negsuc 0) (pos 3) op.Lt

abbrev below : Linear
below = row 0 (pos 1) (negsuc 4) op.Lt

abbrev interval : Program
unfolding gcd gcd_within
interval = program (rule 1 (p (var 0)) (with_row above ∷ with_row below ∷ []) ∷ []) (ask_p ∷ []) refl

open_interval : events (problem interval []) ask_p 60 2
    ≡ (
      answered
          (answer_one (var 0) (con.Num (Var 0) ∷ con.Row above ∷ con.Row below ∷ [])
          (pos_tree (p (var 0)) 1 (one (var 0))
          (listed (test (con.Num (Var 0)) ∷ test (con.Row above) ∷ test (con.Row below) ∷ [])) ∷ [])),
      1,
    ) ∷ (ended, 1) ∷ []
unfolding first_event is_met unifier gcd gcd_within normal_form put_of join_of
open_interval = refl

-- ---- bare :- q(X), X #> 10. q(3). q(7). ?- not bare.

abbrev above_ten : Linear
above_ten = row 0 (negsuc 0) (pos 10) op.Lt

abbrev numbers : Program
unfolding gcd gcd_within
numbers =
    program
    (rule 1 bare (Call (is_true (q (var 0))) ∷ with_row above_ten ∷ []) ∷ rule 0 (q (num three)) [] ∷ rule 0 (q (num seven)) [] ∷ [])
    (ask (Call (is_not bare)) ∷ []) refl

-- no value of X is a q
abbrev no_q : Branch
no_q = leaf 1 (listed (neg_tree (q (var 0)) (covering ((2, void hint.Terms) ∷ (3, void hint.Terms) ∷ [])) ∷ []))

-- the number is a q, and not above 10
abbrev a_q : Number → ℕ → Branch
a_q n k =
    leaf 3
    (listed
    (by_fact (q (num n)) k ∷ test (con.Num (Num n)) ∷ test (con.Row (record { coeffs = []; constant = negsuc 0; op = op.Le })) ∷ []))

-- the first of nine answers
forall_over_numbers : events (problem numbers []) (ask (Call (is_not bare))) 60 1
    ≡ (
      answered
          (answer
          (neg_tree bare
          (covering
          ((
            1,
            split (con.NotNum (Var 0)) no_q
                (split (con.Neq (Var 0) (Num three)) (split (con.Neq (Var 0) (Num seven)) no_q (a_q seven 3)) (a_q three 2)),
          ) ∷ [])) ∷ []) []),
      15,
    ) ∷ []
unfolding first_event is_met unifier gcd gcd_within normal_form put_of join_of
forall_over_numbers = refl

-- ---- bare. :- 2*X #> 3, 2*X #< 3. ?- bare. A call, a check and two remainders.

abbrev double_above : Linear
double_above = row 0 (negsuc 1) (pos 3) op.Lt

abbrev double_below : Linear
double_below = row 0 (pos 2) (negsuc 2) op.Lt

abbrev denied : Program
unfolding gcd gcd_within
denied =
    program (rule 0 bare [] ∷ record { head = None; body = with_row double_above ∷ with_row double_below ∷ []; vars = 1 } ∷ [])
    (ask (Call (is_true bare)) ∷ []) refl

abbrev is_number : Tree
is_number = test (con.Num (Var 0))

linear_denial : events (problem denied (record { clause = 2; head = false } ∷ [])) (ask (Call (is_true bare))) 60 1
    ≡ (
      answered
          (answer (by_fact bare 1 ∷ [])
          ((
            2,
            split (con.NotNum (Var 0)) (leaf 1 (listed (test (con.NotNum (Var 0)) ∷ [])))
                (split (con.Row (row 0 (pos 2) (negsuc 2) op.Le))
                (leaf 2 (listed (is_number ∷ test (con.Row (row 0 (pos 2) (negsuc 2) op.Le)) ∷ [])))
                (leaf 3 (listed (is_number ∷ test (con.Row double_above) ∷ test (con.Row (row 0 (negsuc 1) (pos 3) op.Le)) ∷ [])))),
          ) ∷ [])),
      4,
    ) ∷ []
unfolding first_event is_met unifier gcd gcd_within normal_form put_of join_of
linear_denial = refl
