-- Worked cases of answers with free variables. p(X,Y) :- X #< Y. ?- p(X,Y).
use Rattle.std.specs.Prelude.{◌≡◌, List, true, pos, negsuc, [], ◌∷◌, None}
use Rattle.std.proofs.Common.{refl}
use Rattle.scasp_num.specs.Arithmetic.{is_reduced, IsReduced-from_test, lowest, sum_of, product_of}
use Rattle.scasp_num.specs.Gcd.{gcd, gcd_within}
use Rattle.scasp_num.specs.Linear.{Linear, normal_form, join_of, put_of}
use Rattle.scasp_num.specs.Number.{Number}
use Rattle.scasp_num.specs.Sums.{normal_of}
use Rattle.scasp_num.specs.declared.linear.Op.TheVariants as op
use Rattle.scasp_rows.specs.Steps.{row_sum}
use Rattle.scasp_syntax.specs.WellFormed.{are_well_formed}
use Rattle.scasp_syntax.specs.declared.clause.Clause.{Clause}
use Rattle.scasp_syntax.specs.declared.clause.Query.{Query}
use Rattle.scasp_syntax.specs.Tm.{Tms, var, num, nil, cons}
use Rattle.scasp_syntax.specs.declared.clause.Item.TheVariants.{Call, Linear as LinearItem}
use Rattle.scasp_syntax.specs.declared.con.Con.TheVariants as con
use Rattle.scasp_syntax.specs.declared.program.Program.{Program}
use Rattle.scasp_syntax.specs.declared.term.Term.TheVariants.{Var}
use Rattle.scasp_cert.specs.Certificate.{Certificate}
use Rattle.scasp_cert.specs.Trees.{pos_tree, listed}
use Rattle.scasp_unify.specs.Unification.{unifier}
use Rattle.scasp_lines.specs.Samples.{atom, is_true, rule}
use Rattle.scasp_checker_rules.specs.ExampleWords.{program, test, refused_at}
use Rattle.scasp_checker_rules.specs.Faults.{faults}
use Rattle.scasp_checker_rules.specs.Refusals.{first}
use Rattle.scasp_checker_rules.specs.declared.refusal.Reason.TheVariants as reason

abbrev two : Tms
two = cons (var 0) (cons (var 1) nil)

-- X - Y #< 0, and the same with the variables in the other order
abbrev less : Linear
less = record { coeffs = record { x = 0; c = pos 1 } ∷ record { x = 1; c = negsuc 0 } ∷ []; constant = pos 0; op = op.Lt }

abbrev turned : Linear
turned = record { coeffs = record { x = 0; c = negsuc 0 } ∷ record { x = 1; c = pos 1 } ∷ []; constant = pos 0; op = op.Lt }

abbrev ordered_clauses : List Clause
ordered_clauses =
    rule 2 (atom 2 two) (LinearItem (record { vars = 0 ∷ 1 ∷ []; row = less }) ∷ []) ∷ []

abbrev ordered_queries : List Query
ordered_queries = record { body = Call (is_true (atom 2 two)) ∷ []; names = None ∷ None ∷ [] } ∷ []

ordered_is_fine : are_well_formed ordered_clauses ordered_queries ≡ true
unfolding gcd gcd_within
ordered_is_fine = refl

abbrev ordered : Program
ordered = program ordered_clauses ordered_queries ordered_is_fine

-- the answer V1, V0: each variable of the rule stands for the other number of the answer, and the row is theirs
abbrev crossed : Linear → Linear → Tms → Certificate
crossed given tested sample =
    let ts = cons (var 1) (cons (var 0) nil) in
    record {
      query = 1;
      terms = ts;
      given = con.Num (Var 0) ∷ con.Num (Var 1) ∷ con.Row given ∷ [];
      sample = sample;
      trees = pos_tree (atom 2 ts) 1 ts (listed (test (con.Num (Var 1)) ∷ test (con.Num (Var 0)) ∷ test (con.Row tested) ∷ [])) ∷ [];
      checks = [];
      clashes = [];
      map = [];
    }

one-reduced : is_reduced (pos 1) (pos 1) ≡ true
unfolding gcd gcd_within
one-reduced = refl

two-reduced : is_reduced (pos 2) (pos 1) ≡ true
unfolding gcd gcd_within
two-reduced = refl

greatest-reduced : is_reduced (pos 170141183460469231731687303715884105727) (pos 1) ≡ true
unfolding gcd gcd_within
greatest-reduced = refl

abbrev one : Number
one = record { num = pos 1; den = pos 1; reduced = IsReduced-from_test (pos 1) (pos 1) one-reduced }

abbrev two_number : Number
two_number = record { num = pos 2; den = pos 1; reduced = IsReduced-from_test (pos 2) (pos 1) two-reduced }

-- 2^127 - 1
abbrev greatest : Number
greatest =
    record {
      num = pos 170141183460469231731687303715884105727;
      den = pos 1;
      reduced = IsReduced-from_test (pos 170141183460469231731687303715884105727) (pos 1) greatest-reduced;
    }

-- V1 - V0 #< 0 for 2 and 1
accepted : faults ordered (crossed turned turned (cons (num two_number) (cons (num one) nil))) ≡ []
unfolding join_of put_of normal_form gcd gcd_within row_sum normal_of lowest sum_of product_of unifier
accepted = refl

-- the variables of the rule are not those of the answer
not_its_own : first (faults ordered (crossed less less (cons (num one) (cons (num two_number) nil)))) ≡ refused_at 4 reason.WrongLiteral
unfolding join_of put_of normal_form gcd gcd_within row_sum normal_of lowest sum_of product_of unifier
not_its_own = refl

other_sample : first (faults ordered (crossed turned turned (cons (num one) (cons (num two_number) nil)))) ≡ refused_at 0 reason.Sample
unfolding join_of put_of normal_form gcd gcd_within row_sum normal_of lowest sum_of product_of unifier
other_sample = refl

no_number : first (faults ordered (crossed turned turned (cons (num two_number) nil))) ≡ refused_at 0 reason.WrongVariable
no_number = refl

-- -V0 - V1 #< 0, whose value at 2^127 - 1 twice is met but not in range
abbrev positive : Linear
positive = record { coeffs = record { x = 0; c = negsuc 0 } ∷ record { x = 1; c = negsuc 0 } ∷ []; constant = pos 0; op = op.Lt }

abbrev anything : Program
anything = program (rule 2 (atom 2 two) [] ∷ []) (record { body = Call (is_true (atom 2 two)) ∷ []; names = None ∷ None ∷ [] } ∷ []) refl

abbrev both_above : Tms → Certificate
both_above sample =
    record {
      query = 1;
      terms = two;
      given = con.Num (Var 0) ∷ con.Num (Var 1) ∷ con.Row positive ∷ [];
      sample = sample;
      trees = pos_tree (atom 2 two) 1 two (listed []) ∷ [];
      checks = [];
      clashes = [];
      map = [];
    }

in_range : faults anything (both_above (cons (num one) (cons (num two_number) nil))) ≡ []
unfolding gcd gcd_within lowest sum_of product_of
in_range = refl

out_of_range : first (faults anything (both_above (cons (num greatest) (cons (num greatest) nil)))) ≡ refused_at 0 reason.Sample
unfolding gcd gcd_within lowest sum_of product_of
out_of_range = refl
