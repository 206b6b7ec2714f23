-- Worked cases of rows and hints.
use Rattle.std.specs.Prelude.{◌≡◌, true, pos, negsuc, List, [], ◌∷◌, None}
use Rattle.std.proofs.Common.{refl}
use Rattle.scasp_num.specs.Arithmetic.{lowest, sum_of}
use Rattle.scasp_num.specs.Gcd.{gcd, gcd_within}
use Rattle.scasp_num.specs.Linear.{Linear, normal_form, join_of, put_of}
use Rattle.scasp_num.specs.Sums.{normal_of}
use Rattle.scasp_num.specs.declared.hints.Step.{Step}
use Rattle.scasp_num.specs.declared.linear.Op.TheVariants as op
use Rattle.scasp_rows.specs.Steps.{row_sum}
use Rattle.scasp_syntax.specs.WellFormed.{are_well_formed}
use Rattle.scasp_syntax.specs.declared.clause.Clause.{Clause}
use Rattle.scasp_syntax.specs.declared.clause.Query.{Query}
use Rattle.scasp_syntax.specs.Tm.{nil}
use Rattle.scasp_syntax.specs.declared.atom.Atom.{Atom}
use Rattle.scasp_syntax.specs.declared.clause.Item.TheVariants.{Call, Linear as LinearItem}
use Rattle.scasp_syntax.specs.declared.con.Con.{Con}
use Rattle.scasp_syntax.specs.declared.con.Con.TheVariants as con
use Rattle.scasp_syntax.specs.declared.hint.Hint.TheVariants as hint
use Rattle.scasp_syntax.specs.declared.program.Program.{Program}
use Rattle.scasp_syntax.specs.declared.term.Term.TheVariants.{Var}
use Rattle.scasp_cert.specs.Certificate.{Certificate}
use Rattle.scasp_cert.specs.Trees.{test_tree, split, leaf, listed}
use Rattle.scasp_unify.specs.Unification.{unifier}
use Rattle.scasp_lines.specs.Samples.{atom, is_true, rule, ask, answer, by_fact}
use Rattle.scasp_checker_rules.specs.ExampleWords.{program, test, row, step, refused_at}
use Rattle.scasp_checker_rules.specs.Faults.{faults}
use Rattle.scasp_checker_rules.specs.Refusals.{first}
use Rattle.scasp_checker_rules.specs.declared.refusal.Reason.TheVariants as reason

abbrev q : Atom
q = atom 2 nil

abbrev a_number : Con
a_number = con.Num (Var 0)

-- -2*X + 3 #< 0 and -2*X + 3 #=< 0
abbrev above : Linear
above = row 0 (negsuc 1) (pos 3) op.Lt

abbrev at_least : Linear
at_least = row 0 (negsuc 1) (pos 3) op.Le

-- 2*X - 3 #< 0 and 2*X - 3 #=< 0
abbrev below : Linear
below = row 0 (pos 2) (negsuc 2) op.Lt

abbrev at_most : Linear
at_most = row 0 (pos 2) (negsuc 2) op.Le

-- q. :- 2*X #> 3, 2*X #< 3. ?- q.
abbrev denial_clauses : List Clause
denial_clauses =
    rule 0 q []
    ∷ record { head = None; body = LinearItem (record { vars = 0 ∷ []; row = above }) ∷ LinearItem (record { vars = 0 ∷ []; row = below }) ∷ []; vars = 1 } ∷ []

abbrev denial_queries : List Query
denial_queries = ask (Call (is_true q)) ∷ []

denial_is_fine : are_well_formed denial_clauses denial_queries ≡ true
unfolding gcd gcd_within
denial_is_fine = refl

abbrev denial : Program
denial = program denial_clauses denial_queries denial_is_fine

-- the whole, where these steps show its last line
abbrev whole : List Step → Certificate
whole steps =
    answer (by_fact q 1 ∷ [])
    ((
      2,
      split (con.NotNum (Var 0)) (leaf 1 (listed (test (con.NotNum (Var 0)) ∷ [])))
          (split (con.Row at_most) (leaf 2 (listed (test a_number ∷ test (con.Row at_most) ∷ [])))
          (leaf 3 (listed (test a_number ∷ test (con.Row above) ∷ test_tree (con.Row at_least) (hint.Rows steps) ∷ [])))),
    ) ∷ [])

accepted : faults denial (whole (step (pos 1) 1 (pos 1) 2 ∷ [])) ≡ []
unfolding join_of put_of normal_form gcd gcd_within row_sum normal_of lowest sum_of unifier
accepted = refl

not_reached : first (faults denial (whole (step (pos 1) 1 (pos 2) 2 ∷ []))) ≡ refused_at 13 reason.HintNotReached
unfolding join_of put_of normal_form gcd gcd_within row_sum normal_of lowest sum_of unifier
not_reached = refl

overflow : first (faults denial (whole (step (pos 170141183460469231731687303715884105727) 1 (pos 1) 2 ∷ []))) ≡ refused_at 13 reason.HintOverflow
unfolding join_of put_of normal_form gcd gcd_within row_sum normal_of lowest sum_of unifier
overflow = refl

no_such_row : first (faults denial (whole (step (pos 1) 1 (pos 1) 9 ∷ []))) ≡ refused_at 13 reason.HintStep
unfolding join_of put_of normal_form gcd gcd_within row_sum normal_of lowest sum_of unifier
no_such_row = refl
