-- Programs inside the language and outside of it, and an answer to which the laws apply.
use Rattle.std.specs.Prelude.{◌≡◌, ℕ, zero, suc, Bool, true, false, Option, None, Some, IsTrue, [], ◌∷◌}
use Rattle.std.proofs.Common.{refl}
use Rattle.scasp_checker_rules.specs.ExampleWords.{program}
use Rattle.scasp_cert.specs.Certificate.{Certificate}
use Rattle.scasp_cert.specs.Trees.{pos_tree, neg_tree, loop_tree, leaf, listed, covering}
use Rattle.scasp_graph.specs.declared.analysis.Analysis.{Analysis}
use Rattle.scasp_hint.specs.Satisfying.{sat}
use Rattle.scasp_lines.specs.Samples.{atom, constant, is_true, is_not, rule, one, ask}
use Rattle.scasp_nmr.specs.Checks.{checks_of}
use Rattle.scasp_law_outcomes.specs.Giving.{at_once}
use Rattle.scasp_law_outcomes.specs.Problems.{IsAnalysed, IsAnswer}
use Rattle.scasp_law_propositional.specs.Propositional.Problems.{HasTests}
use Rattle.scasp_law_propositional.specs.Propositional.Propositional.{is_propositional}
use Rattle.scasp_rows.specs.PlainRows.{is_met}
use Rattle.scasp_search_rules.specs.declared.states.state.State.{State}
use Rattle.scasp_search_rules.specs.Successors.Machine.{Found, ended, first_event}
use Rattle.scasp_search_rules.specs.Successors.Problems.{Problem}
use Rattle.scasp_search_rules.specs.Successors.Search.{search_for, start}
use Rattle.scasp_syntax.specs.Programs.{numbered, pred_of}
use Rattle.scasp_syntax.specs.Tm.{Tms, nil, cons}
use Rattle.scasp_syntax.specs.declared.atom.Atom.{Atom}
use Rattle.scasp_syntax.specs.declared.clause.Item.TheVariants.{Call, Equal}
use Rattle.scasp_syntax.specs.declared.clause.Query.{Query}
use Rattle.scasp_syntax.specs.declared.predicate_map.PredMap.{PredMap}
use Rattle.scasp_syntax.specs.declared.program.Program.{Program}
use Rattle.scasp_unify.specs.Unification.{unifier}
use Rattle.scasp_syntax.specs.declared.term.Term.TheVariants.{App}

abbrev pub p : Atom
p = atom 2 nil

abbrev pub q : Atom
q = atom 3 nil

abbrev pub x : Atom
x = atom 4 nil

-- ---- which programs are propositional

abbrev pub ask_p : Query
ask_p = ask (Call (is_true p))

-- p :- not q. q :- not p. :- x. ?- p.
abbrev pub two_models : Program
two_models =
    program
    (rule 0 p (Call (is_not q) ∷ []) ∷ rule 0 q (Call (is_not p) ∷ [])
    ∷ record { head = None; body = Call (is_true x) ∷ []; vars = 0 } ∷ [])
    (ask_p ∷ []) refl

inside : is_propositional two_models ≡ true
inside = refl

-- p(a).
with_argument : is_propositional (program (rule 0 (atom 2 (one (constant 5))) [] ∷ []) [] refl) ≡ false
with_argument = refl

-- p :- a = a.
with_test : is_propositional (program (rule 0 p (Equal (App 5 nil) (App 5 nil) ∷ []) ∷ []) [] refl) ≡ false
with_test = refl

-- p. with a variable
with_variable : is_propositional (program (rule 1 p [] ∷ []) [] refl) ≡ false
with_variable = refl

-- ---- an answer to p

abbrev pub entry : Atom → Bool → PredMap
entry a plus = record { pred = pred_of a; level = 0; plus = plus }

abbrev pub analysis : Analysis
analysis = record { odd_rules = []; map = entry p true ∷ entry q false ∷ entry x true ∷ [] }

abbrev pub names : ℕ → Tms
names zero = nil
names (suc n) = cons (constant 0) (names n)

abbrev pub asked : Problem
asked = record {
  program = two_models;
  query = 1;
  checks = checks_of two_models analysis.odd_rules;
  map = analysis.map;
  sat = sat;
  sample = λ cs n. Some (names n);
  overflows = λ cs. false;
}

-- p, since not q, since q would need not p, and p is assumed above; and x is false
abbrev pub shown : Certificate
shown = record {
  query = 1;
  terms = nil;
  given = [];
  sample = nil;
  trees = pos_tree p 1 nil (listed (neg_tree q (covering ((2, leaf 1 (listed (loop_tree (is_true p) 1 ∷ []))) ∷ [])) ∷ [])) ∷ [];
  checks = (3, leaf 1 (listed (neg_tree x (covering []) ∷ []))) ∷ [];
  clashes = [];
  map = analysis.map;
}

abbrev found_or_end : Option (Found State Certificate) → Found State Certificate
found_or_end None = record { event = ended; calls = 0; may = false; rest = [] }
found_or_end (Some found) = found

-- the search meets the answer
pub met : IsAnswer asked ask_p 60 shown
unfolding first_event is_met unifier
met =
    at_once (start ask_p asked.checks ∷ []) 0
    (found_or_end (first_event (search_for asked ask_p) 60 1000 (start ask_p asked.checks ∷ []) 0 false)) (1000, refl) refl

-- so the premises of the laws are met
pub record Meets (problem : Problem) (a : Analysis) (query : Query) (budget : ℕ) (c : Certificate) : Type 0 where
  pub tests : HasTests problem
  pub analysed : IsAnalysed problem a
  pub propositional : IsTrue (is_propositional problem.program)
  pub named : numbered problem.program.queries problem.query ≡ Some query
  pub answer : IsAnswer problem query budget c

abbrev pub PremisesAreMet : Type 0
PremisesAreMet = Meets asked analysis ask_p 60 shown
