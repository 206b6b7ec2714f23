-- Searches whose lists are sorted, computed; and a list that is not.
use Rattle.std.specs.Prelude.{◌≡◌, ℕ, zero, suc, Bool, true, false, ◌&&◌, ◌||◌, not, Option, Some, None, List, [], ◌∷◌, ◌++◌, pos, negsuc}
use Rattle.std.specs.List.{list_all, list_any}
use Rattle.std.proofs.Common.{refl}
use Rattle.scasp_cert.specs.Certificate.{Certificate}
use Rattle.scasp_checker_rules.specs.ExampleWords.{program, row}
use Rattle.scasp_hint.specs.Satisfying.{sat}
use Rattle.scasp_lines.specs.Samples.{atom, one, is_true, is_not, rule}
use Rattle.scasp_num.specs.Arithmetic.{IsReduced-from_test}
use Rattle.scasp_num.specs.Gcd.{gcd, gcd_within}
use Rattle.scasp_num.specs.Linear.{Linear, normal_form, put_of, join_of}
use Rattle.scasp_num.specs.Number.{Number}
use Rattle.scasp_num.specs.declared.linear.Op.TheVariants as op
use Rattle.scasp_rows.specs.PlainRows.{is_met}
use Rattle.scasp_search_rules.specs.declared.states.state.State.{State}
use Rattle.scasp_search_rules.specs.Successors.ExampleWords.{problem}
use Rattle.scasp_search_rules.specs.Successors.Problems.{Problem}
use Rattle.scasp_search_rules.specs.Successors.Search.{search_for, start}
use Rattle.scasp_syntax.specs.Tm.{Tm, var, num, app, cons}
use Rattle.scasp_syntax.specs.declared.atom.Atom.{Atom}
use Rattle.scasp_syntax.specs.declared.clause.Item.{Item}
use Rattle.scasp_syntax.specs.declared.clause.Item.TheVariants.{Call, Equal, Linear as LinearItem}
use Rattle.scasp_syntax.specs.declared.clause.Query.{Query}
use Rattle.scasp_syntax.specs.declared.con.Con.{Con}
use Rattle.scasp_syntax.specs.declared.con.Con.TheVariants as con
use Rattle.scasp_syntax.specs.declared.program.Program.{Program}
use Rattle.scasp_syntax.specs.declared.term.Term.TheVariants.{Var, Num}
use Rattle.scasp_unify.specs.Sorted.{is_typed}
use Rattle.scasp_unify.specs.Unification.{unifier}
use Rattle.scasp_law_sorted.specs.Asking.{asked_next, has_universal_made, is_loose}

-- no state that the walk meets within so many steps has a universal variable, and each list that is asked has its rows' variables as numbers
abbrev typed_within : ℕ → Problem → Query → List State → Bool
typed_within zero p q ss = true
typed_within (suc n) p q [] = true
typed_within (suc n) p q (s ∷ ss) =
    (not (has_universal_made s) && list_all is_typed (asked_next p s)) && typed_within n p q ((search_for p q).next s ++ ss)

abbrev pub p : Tm → Atom
p t = atom 2 (one t)

abbrev q : Tm → Atom
q t = atom 3 (one t)

abbrev seven : Number
unfolding gcd gcd_within
seven = record { num = pos 7; den = pos 1; reduced = IsReduced-from_test (pos 7) (pos 1) refl }

abbrev above : Linear
above = row 0 (negsuc 0) (pos 3) op.Lt

abbrev with_row : Linear → Item
with_row r = LinearItem (record { vars = 0 ∷ []; row = r })

abbrev ask_p : Query
ask_p = record { body = Call (is_true (p (var 0))) ∷ []; names = None ∷ [] }

-- ---- p(X) :- X #> 3, not q(f(X)), not q(X). q(7). ?- p(X). No variable is universal, though two covers begin.

abbrev rules : Program
unfolding gcd gcd_within
rules =
    program
    (rule 1 (p (var 0)) (with_row above ∷ Call (is_not (q (app 4 (one (var 0))))) ∷ Call (is_not (q (var 0))) ∷ []) ∷ rule 0 (q (num seven)) [] ∷ [])
    (ask_p ∷ []) refl

all_typed : typed_within 60 (problem rules []) ask_p (start ask_p [] ∷ []) ≡ true
unfolding is_met unifier gcd gcd_within normal_form put_of join_of
all_typed = refl

-- ---- V0 #< 0, not num(V0) passes the test. What is no number counts as 0 in a row, so no valuation meets the list. No state has it.

abbrev loose : List Con
loose = con.Row (row 0 (pos 1) (pos 0) op.Lt) ∷ con.NotNum (Var 0) ∷ []

passes : sat loose ≡ true
unfolding is_met unifier
passes = refl

untyped : is_typed loose ≡ false
unfolding unifier
untyped = refl

-- with the number test in place of its opposite it is sorted
tight : is_typed (con.Num (Var 0) ∷ con.Row (row 0 (pos 1) (pos 0) op.Lt) ∷ []) ≡ true
unfolding unifier
tight = refl

-- ---- p(A) :- not r(A, B). r(A, B) :- B = M - 1, A - 2*B #< 0, A = 2. ?- not p(Y). M is the greatest number of the range.
-- The row is given where B stands for M - 1, and 2*(M - 1) passes the range, so the row stays as it was. Once A is 2 the row can be read, by its
-- half 1 - B #< 0. So the state in which the case ends is no overflow. But then B is free again, and what is given is not sorted.

abbrev pub is_overflow : Option (Option Certificate) → Bool
is_overflow (Some None) = true
is_overflow (Some (Some c)) = false
is_overflow None = false

-- a state that the walk meets within so many steps asks a list that is not sorted, and no state before is an overflow
abbrev pub loose_within : ℕ → Problem → Query → List State → Bool
loose_within zero p q ss = false
loose_within (suc n) p q [] = false
loose_within (suc n) p q (s ∷ ss) =
    list_any is_loose (asked_next p s) || (not (is_overflow ((search_for p q).answer s)) && loose_within n p q ((search_for p q).next s ++ ss))

abbrev pub two : Number
unfolding gcd gcd_within
two = record { num = pos 2; den = pos 1; reduced = IsReduced-from_test (pos 2) (pos 1) refl }

abbrev pub great : Number
unfolding gcd gcd_within
great = record { num = pos 170141183460469231731687303715884105726; den = pos 1; reduced = IsReduced-from_test (pos 170141183460469231731687303715884105726) (pos 1) refl }

-- A - 2*B #< 0
abbrev pub less_than_twice : Linear
less_than_twice = record { coeffs = record { x = 0; c = pos 1 } ∷ record { x = 1; c = negsuc 1 } ∷ []; constant = pos 0; op = op.Lt }

abbrev pub r : Tm → Tm → Atom
r t u = atom 5 (cons t (one u))

abbrev pub ask_not_p : Query
ask_not_p = record { body = Call (is_not (p (var 0))) ∷ []; names = None ∷ [] }

abbrev pub loose_rules : Program
unfolding gcd gcd_within
loose_rules =
    program
    (rule 2 (p (var 0)) (Call (is_not (r (var 0) (var 1))) ∷ [])
    ∷ rule 2 (r (var 0) (var 1)) (Equal (Var 1) (Num great) ∷ LinearItem (record { vars = 0 ∷ 1 ∷ []; row = less_than_twice }) ∷ Equal (Var 0) (Num two) ∷ []) ∷ [])
    (ask_not_p ∷ []) refl

abbrev pub LooseIsAsked : Type 0
LooseIsAsked = loose_within 60 (problem loose_rules []) ask_not_p (start ask_not_p [] ∷ []) ≡ true

pub meets_loose : LooseIsAsked
unfolding is_met unifier gcd gcd_within normal_form put_of join_of
meets_loose = refl
