-- A program with linear items: no tree is good for what a search over it ends with, and the search tells no overflow.
use Rattle.std.specs.Prelude.{◌≡◌, Bool, true, false, ◌&&◌, not, Some, None, List, [], ◌∷◌, pos, negsuc}
use Rattle.std.specs.List.{list_any}
use Rattle.std.proofs.Common.{refl}
use Rattle.scasp_checker_rules.specs.ExampleWords.{program, row}
use Rattle.scasp_law_headed_steps.specs.Calm.{IsHeaded}
use Rattle.scasp_law_headed_steps.specs.Examples.{p, q, some_within, two}
use Rattle.scasp_law_sorted.specs.Asking.{is_rowless}
use Rattle.scasp_lines.specs.Dues.{Due, fact, goal, nothing}
use Rattle.scasp_lines.specs.Samples.{is_not, is_true, rule}
use Rattle.scasp_num.specs.Arithmetic.{IsReduced-from_test}
use Rattle.scasp_num.specs.Gcd.{gcd, gcd_within}
use Rattle.scasp_num.specs.Linear.{Linear, join_of, normal_form, put_of}
use Rattle.scasp_num.specs.Number.{Number}
use Rattle.scasp_num.specs.declared.linear.Op.TheVariants as op
use Rattle.scasp_rows.specs.PlainRows.{is_met}
use Rattle.scasp_search_rules.specs.Successors.Cases.{failing_at}
use Rattle.scasp_search_rules.specs.Successors.ExampleWords.{problem}
use Rattle.scasp_search_rules.specs.Successors.Items.{body_of}
use Rattle.scasp_search_rules.specs.Successors.Replacing.{end_overflows}
use Rattle.scasp_search_rules.specs.Successors.Search.{start}
use Rattle.scasp_search_rules.specs.Successors.Variables.{meaning}
use Rattle.scasp_search_rules.specs.declared.states.state.State.{State}
use Rattle.scasp_syntax.specs.Tm.{var}
use Rattle.scasp_syntax.specs.declared.clause.Item.TheVariants.{Call, Equal, Linear as LinearItem}
use Rattle.scasp_syntax.specs.declared.clause.Query.{Query}
use Rattle.scasp_syntax.specs.declared.program.Program.{Program}
use Rattle.scasp_syntax.specs.declared.term.Term.TheVariants.{Num, Var}
use Rattle.scasp_unify.specs.Unification.{unifier}
use Rattle.scasp_law_headed.specs.Examples.{is_finished}
use Rattle.scasp_law_headed.specs.Reading.{due_read}

-- q(X, Y) :- M*X + N*Y #=< 0. p(X, Y) :- Y = 0, X #> 0, not q(X, Y), X = 2. ?- p(X, Y). Here M is 2^127 - 1, and N is M - 1. The case of q is
-- told with 0 for Y, as a row that says that X is positive. With 2 for X the clause's row is out of range.

abbrev none : Number
unfolding gcd gcd_within
none = record { num = pos 0; den = pos 1; reduced = IsReduced-from_test (pos 0) (pos 1) refl }

abbrev pair : Number
unfolding gcd gcd_within
pair = record { num = pos 2; den = pos 1; reduced = IsReduced-from_test (pos 2) (pos 1) refl }

abbrev sum : Linear
sum =
    record {
      coeffs = record { x = 0; c = pos 170141183460469231731687303715884105727 } ∷ record { x = 1; c = pos 170141183460469231731687303715884105726 } ∷ [];
      constant = pos 0;
      op = op.Le;
    }

abbrev ask_wide : Query
ask_wide = record { body = Call (is_true (p (two (var 0) (var 1)))) ∷ []; names = None ∷ None ∷ [] }

abbrev wide : Program
unfolding gcd gcd_within
wide =
    program
    (rule 2 (p (two (var 0) (var 1)))
    (Equal (Var 1) (Num none) ∷ LinearItem (record { vars = 0 ∷ []; row = row 0 (negsuc 0) (pos 0) op.Lt })
    ∷ Call (is_not (q (two (var 0) (var 1)))) ∷ Equal (Var 0) (Num pair) ∷ [])
    ∷ rule 2 (q (two (var 0) (var 1))) (LinearItem (record { vars = 0 ∷ 1 ∷ []; row = sum }) ∷ []) ∷ [])
    (ask_wide ∷ []) refl

wide_is_headed : IsHeaded (problem wide []) ask_wide
unfolding gcd gcd_within
wide_is_headed = record { program = refl; query = refl; test = refl }

-- the law does not apply
wide_is_none : is_rowless (problem wide []) ask_wide ≡ false
unfolding gcd gcd_within
wide_is_none = refl

abbrev is_nothing : Due → Bool
is_nothing (fact None) = true
is_nothing (fact (Some c)) = false
is_nothing (goal l) = false
is_nothing nothing = false

-- what is due in the case of q, whose variables are those from 4 on, is not to be had
abbrev lacks_due : State → Bool
lacks_due s = list_any (λ i. is_nothing (due_read (meaning s) i)) (failing_at 2 (body_of wide 2 4))

-- the search comes to a state with nothing left to do and without an overflow, where it is so
wide_lacks : some_within (λ s. is_finished s && not (end_overflows s) && lacks_due s) 80 (problem wide []) ask_wide (start ask_wide [] ∷ []) ≡ true
unfolding is_met unifier gcd gcd_within normal_form put_of join_of
wide_lacks = refl
