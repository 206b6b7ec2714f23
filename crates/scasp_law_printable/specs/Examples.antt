-- A search whose answer is printable with one name more than its program has, computed.
use Rattle.std.specs.Prelude.{◌≡◌, ℕ, zero, suc, ◌+◌, ◌≤◌, nat_le, nat_lt, true, false, ◌&&◌, Option, None, Some, [], ◌∷◌, length}
use Rattle.std.proofs.Common.{◌∙◌, ap, arith, refl, sym}
use Rattle.std.proofs.lemmas.Bool.{and_from}
use Rattle.std.proofs.lemmas.Bool.Decides.{nat_tests}
use Rattle.scasp_cert.specs.Certificate.{Certificate}
use Rattle.scasp_cert.specs.Trees.{pos_tree, listed}
use Rattle.scasp_checker_rules.specs.ExampleWords.{program, test}
use Rattle.scasp_hint.specs.Satisfying.{sat}
use Rattle.scasp_law_answer_text.specs.LineReadback.Texts.{answer, is_printable}
use Rattle.scasp_law_answer_text.specs.LineReadback.Writable.{is_written}
use Rattle.scasp_answers_terms.specs.Tokens.Bounds.{line_fits, terms_fit}
use Rattle.scasp_law_outcomes.specs.Giving.{at_once}
use Rattle.scasp_law_outcomes.specs.Problems.{IsAnswer}
use Rattle.scasp_law_tables.specs.Moved.{are_values}
use Rattle.scasp_lines.specs.Samples.{atom, constant, is_true, one, rule}
use Rattle.scasp_rows.specs.PlainRows.{is_met}
use Rattle.scasp_search_rules.specs.declared.states.state.State.{State}
use Rattle.scasp_search_rules.specs.Successors.Machine.{Found, ended, first_event}
use Rattle.scasp_search_rules.specs.Successors.Problems.{Problem}
use Rattle.scasp_search_rules.specs.Successors.Search.{search_for, start}
use Rattle.scasp_syntax.specs.Tm.{Tms, var, nil, cons, items}
use Rattle.scasp_syntax.specs.declared.clause.Item.TheVariants.{Call, Differ}
use Rattle.scasp_syntax.specs.declared.clause.Query.{Query}
use Rattle.scasp_syntax.specs.declared.con.Con.TheVariants as con
use Rattle.scasp_syntax.specs.declared.program.Program.{Program}
use Rattle.scasp_syntax.specs.declared.term.Term.TheVariants.{Var, App}
use Rattle.scasp_unify.specs.Unification.{unifier}
use Rattle.scasp_law_printable.specs.Printable.{IsNamed, NamesSamples}

-- p(X) :- X \= a. ?- p(X). The table has `[]`, `[|]`, p and a.
abbrev asked : Query
asked = record { body = Call (is_true (atom 2 (one (var 0)))) ∷ []; names = None ∷ [] }

abbrev rules : Program
rules = program (rule 1 (atom 2 (one (var 0))) (Differ (Var 0) (App 3 nil) ∷ []) ∷ []) (asked ∷ []) refl

-- so many names, from this one on
abbrev names_from : ℕ → ℕ → Tms
names_from f zero = nil
names_from f (suc n) = cons (constant f) (names_from (suc f) n)

abbrev problem : Problem
problem = record { program = rules; query = 1; checks = []; map = []; sat = sat; sample = λ cs n. Some (names_from 4 n); overflows = λ cs. false }

-- p(V0) by the rule, V0 \= a; the sample has the first name behind the table's
abbrev found : Certificate
found = record {
  query = 1;
  terms = one (var 0);
  given = con.NotShape 0 3 0 ∷ [];
  sample = one (constant 4);
  trees = pos_tree (atom 2 (one (var 0))) 1 (one (var 0)) (listed (test (con.NotShape 0 3 0) ∷ [])) ∷ [];
  checks = [];
  clashes = [];
  map = [];
}

abbrev found_or_end : Option (Found State Certificate) → Found State Certificate
found_or_end None = record { event = ended; calls = 0; may = false; rest = [] }
found_or_end (Some f) = f

meets : IsAnswer problem asked 60 found
unfolding first_event is_met unifier
meets =
    at_once (start asked [] ∷ []) 0 (found_or_end (first_event (search_for problem asked) 60 1000 (start asked [] ∷ []) 0 false)) (1000, refl) refl

prints : is_printable 5 (answer 1 found) ≡ true
unfolding is_written line_fits
prints = refl

-- the program's own names are too few
too_few : is_printable 4 (answer 1 found) ≡ false
unfolding is_written line_fits
too_few = refl

-- ---- what is asked of the problem

long : (f n : ℕ) → length (items (names_from f n)) ≡ n
long f zero = refl
long f (suc n) = ap suc (long (suc f) n)

valued : (f n total : ℕ) → 4 ≤ f → f + n ≡ total → are_values 4 total (names_from f n) ≡ true
valued f zero total l e = refl
valued f (suc n) total l e = and_from (nat_le 4 f && nat_lt f total) (are_values 4 total (names_from (suc f) n)) (grind (arith, nat_tests, l, e)) (valued (suc f) n total (omega (arith, l)) (omega (arith, e)))

fitting : (f n : ℕ) → terms_fit (names_from f n) ≡ true
fitting f zero = refl
fitting f (suc n) = fitting (suc f) n

samples : NamesSamples 4 problem
samples cs n ts e =
    let same : names_from 4 n ≡ ts = cc e in
    (ap (λ (z : Tms). length (items z)) (sym same) ∙ long 4 n, ap (are_values 4 (4 + n)) (sym same) ∙ valued 4 n (4 + n) (omega arith) refl, ap terms_fit (sym same) ∙ fitting 4 n)

is_named : IsNamed 4 problem asked
is_named = record {
  lists = omega arith;
  program = record {
    clauses = (((omega arith, omega arith, (tt, tt)), ((tt, (omega arith, omega arith, tt)), tt)), tt);
    queries = (((omega arith, omega arith, (tt, tt)), tt), tt);
  };
  query = ((omega arith, omega arith, (tt, tt)), tt);
  samples = samples;
}
