-- A worked case of two literals that a clash line shows apart. p(X) :- 2*X #< 1. g :- Y #> 2, p(Y). h :- 2*Z #< 1, not p(Z). ?- not g, not h.
use Rattle.std.specs.Prelude.{◌≡◌, true, ℕ, pos, negsuc, List, [], ◌∷◌}
use Rattle.std.proofs.Common.{refl}
use Rattle.scasp_num.specs.Arithmetic.{lowest, sum_of}
use Rattle.scasp_num.specs.Gcd.{gcd, gcd_within}
use Rattle.scasp_num.specs.Linear.{Linear, normal_form, join_of, put_of}
use Rattle.scasp_num.specs.Sums.{normal_of}
use Rattle.scasp_num.specs.declared.hints.Step.{Step}
use Rattle.scasp_num.specs.declared.linear.Op.TheVariants as op
use Rattle.scasp_rows.specs.Steps.{row_sum}
use Rattle.scasp_syntax.specs.WellFormed.{are_well_formed}
use Rattle.scasp_syntax.specs.declared.clause.Clause.{Clause}
use Rattle.scasp_syntax.specs.declared.clause.Query.{Query}
use Rattle.scasp_syntax.specs.Tm.{Tm, var, nil, cons}
use Rattle.scasp_syntax.specs.declared.atom.Atom.{Atom}
use Rattle.scasp_syntax.specs.declared.clause.Item.{Item}
use Rattle.scasp_syntax.specs.declared.clause.Item.TheVariants.{Call, Linear as LinearItem}
use Rattle.scasp_syntax.specs.declared.con.Con.TheVariants as con
use Rattle.scasp_syntax.specs.declared.hint.Hint.TheVariants as hint
use Rattle.scasp_syntax.specs.declared.program.Program.{Program}
use Rattle.scasp_syntax.specs.declared.term.Term.TheVariants.{Var}
use Rattle.scasp_cert.specs.Certificate.{Certificate}
use Rattle.scasp_cert.specs.Trees.{Tree, Branch, pos_tree, neg_tree, test_tree, split, leaf, listed, covering}
use Rattle.scasp_cert.specs.declared.certificate.Clash.{Clash}
use Rattle.scasp_unify.specs.Unification.{unifier}
use Rattle.scasp_lines.specs.Samples.{atom, one, is_true, is_not, rule}
use Rattle.scasp_checker_rules.specs.ExampleWords.{program, ask_all, test, row, step, refused_at}
use Rattle.scasp_checker_rules.specs.Faults.{faults}
use Rattle.scasp_checker_rules.specs.Refusals.{first}
use Rattle.scasp_checker_rules.specs.declared.refusal.Reason.TheVariants as reason

abbrev p : Tm → Atom
p t = atom 2 (one t)

abbrev g : Atom
g = atom 3 nil

abbrev h : Atom
h = atom 4 nil

abbrev linear : Linear → Item
linear r = LinearItem (record { vars = 0 ∷ []; row = r })

-- 2*X - 1 #< 0 and its negation
abbrev small : ℕ → Linear
small x = row x (pos 2) (negsuc 0) op.Lt

abbrev not_small : ℕ → Linear
not_small x = row x (negsuc 1) (pos 1) op.Le

-- -X + 2 #< 0 and its negation
abbrev large : ℕ → Linear
large x = row x (negsuc 0) (pos 2) op.Lt

abbrev not_large : ℕ → Linear
not_large x = row x (pos 1) (negsuc 1) op.Le

abbrev ranges_apart_clauses : List Clause
ranges_apart_clauses =
    rule 1 (p (var 0)) (linear (small 0) ∷ [])
    ∷ rule 1 g (linear (large 0) ∷ Call (is_true (p (var 0))) ∷ []) ∷ rule 1 h (linear (small 0) ∷ Call (is_not (p (var 0))) ∷ []) ∷ []

abbrev ranges_apart_queries : List Query
ranges_apart_queries = ask_all (is_not g ∷ is_not h ∷ []) ∷ []

ranges_apart_is_fine : are_well_formed ranges_apart_clauses ranges_apart_queries ≡ true
unfolding gcd gcd_within
ranges_apart_is_fine = refl

abbrev ranges_apart : Program
ranges_apart = program ranges_apart_clauses ranges_apart_queries ranges_apart_is_fine

-- a rule with a number, a row and a literal: the variable is no number, the row is false, or the literal
abbrev three_cases : ℕ → Linear → Linear → Tree → Branch
three_cases x true_row false_row literal =
    split (con.NotNum (Var x)) (leaf 1 (listed (test (con.NotNum (Var x)) ∷ [])))
    (split (con.Row false_row) (leaf 2 (listed (test (con.Num (Var x)) ∷ test (con.Row false_row) ∷ [])))
    (leaf 3 (listed (test (con.Num (Var x)) ∷ test (con.Row true_row) ∷ literal ∷ []))))

abbrev large_fails : Tree
large_fails =
    neg_tree (p (var 0))
    (covering
    ((1, leaf 2 (listed (test (con.Num (Var 0)) ∷ test_tree (con.Row (not_small 0)) (hint.Rows (step (pos 2) 1 (pos 1) 2 ∷ [])) ∷ []))) ∷ []))

abbrev small_holds : Tree
small_holds = pos_tree (p (var 1)) 1 (cons (var 1) nil) (listed (test (con.Num (Var 1)) ∷ test (con.Row (small 1)) ∷ []))

abbrev with_clashes : List Clash → Certificate
with_clashes ks =
    record {
      query = 1;
      terms = nil;
      given = [];
      sample = nil;
      trees =
          neg_tree g (covering ((2, three_cases 0 (large 0) (not_large 0) large_fails) ∷ []))
          ∷ neg_tree h (covering ((3, three_cases 1 (small 1) (not_small 1) small_holds) ∷ [])) ∷ [];
      checks = [];
      clashes = ks;
      map = [];
    }

abbrev clash : ℕ → ℕ → Step → Clash
clash i j s = record { first = i; second = j; hint = hint.Rows (s ∷ []) }

-- `not p(V0)` stands on line 13 and p(V1) on line 30
not_shown : first (faults ranges_apart (with_clashes [])) ≡ refused_at 13 reason.Clash
unfolding join_of put_of normal_form gcd gcd_within row_sum normal_of lowest sum_of unifier
not_shown = refl

-- the rows are numbered from the line that the clash line names first
shown : faults ranges_apart (with_clashes (clash 13 30 (step (pos 2) 1 (pos 1) 2) ∷ [])) ≡ []
unfolding join_of put_of normal_form gcd gcd_within row_sum normal_of lowest sum_of unifier
shown = refl

shown_turned : faults ranges_apart (with_clashes (clash 30 13 (step (pos 1) 1 (pos 2) 2) ∷ [])) ≡ []
unfolding join_of put_of normal_form gcd gcd_within row_sum normal_of lowest sum_of unifier
shown_turned = refl

read_from_the_other : first (faults ranges_apart (with_clashes (clash 30 13 (step (pos 2) 1 (pos 1) 2) ∷ []))) ≡ refused_at 13 reason.HintNotReached
unfolding join_of put_of normal_form gcd gcd_within row_sum normal_of lowest sum_of unifier
read_from_the_other = refl

of_others : first (faults ranges_apart (with_clashes (clash 13 30 (step (pos 2) 1 (pos 1) 2) ∷ clash 30 30 (step (pos 2) 1 (pos 1) 2) ∷ []))) ≡ refused_at 30 reason.Clash
unfolding join_of put_of normal_form gcd gcd_within row_sum normal_of lowest sum_of unifier
of_others = refl
