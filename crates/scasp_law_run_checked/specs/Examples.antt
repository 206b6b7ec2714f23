-- A run of a small program, with all that the law on runs asks: computed.
use Rattle.std.specs.Prelude.{◌≡◌, ℕ, zero, suc, ◌≤◌, Bool, true, false, if◌then◌else◌, Option, None, Some, List, [], ◌∷◌, codes, length, Ok}
use Rattle.std.specs.Fmt.{digits}
use Rattle.std.proofs.Common.{arith, inl, lit≤, refl, subst, sym}
use Rattle.std.proofs.lemmas.Bool.{false≢true}
use Rattle.scasp_answers.specs.Blocks.Files.{byte_limit}
use Rattle.scasp_cert.specs.Certificate.{Certificate}
use Rattle.scasp_cert.specs.Text.Block.{answer_line, map_line, pred_text}
use Rattle.scasp_cert.specs.Text.Terms.{atom_text, list_text}
use Rattle.scasp_cert.specs.Text.Trees.{line_text}
use Rattle.scasp_checker.specs.Verdict.Right.{IsRight}
use Rattle.scasp_checker_rules.specs.Accepted.{Accepts}
use Rattle.scasp_checker_rules.proofs.AcceptedLemmas.{accepted-no_fault}
use Rattle.scasp_command_check.specs.Texts.{checked_line, line_by}
use Rattle.scasp_command_inputs.specs.Inputs.{IsProgram}
use Rattle.scasp_command_run.specs.Queries.{Meets, Printed, RunsQuery, Shown, prints, ends}
use Rattle.scasp_command_run.specs.Runs.{IsRun}
use Rattle.scasp_command_run.specs.Texts.{run_text}
use Rattle.scasp_command_run.specs.declared.ends.QueryEnd.TheVariants.{Ended}
use Rattle.scasp_command_run.specs.declared.ends.RunEnd.TheVariants.{Done}
use Rattle.scasp_command_words.specs.declared.format.Format.TheVariants.{Whole}
use Rattle.scasp_fill.specs.Finishing.Right.{Completes}
use Rattle.scasp_graph.specs.Analyses.{IsAnalysis}
use Rattle.scasp_graph.specs.OddRules.{IsOddRule}
use Rattle.scasp_graph.specs.RightMap.{IsRightMap, level_of, plus_of}
use Rattle.scasp_graph.specs.Walks.{Depends}
use Rattle.scasp_graph.specs.declared.analysis.Analysis.{Analysis}
use Rattle.scasp_law_printable.specs.Places.{has_places}
use Rattle.scasp_law_promise.specs.Examples.{fact, p}
use Rattle.scasp_law_promise.proofs.ClosedLemmas.{closed-above}
use Rattle.scasp_law_promise.proofs.OwnRowLemmas.{rows-normal}
use Rattle.scasp_law_promise.proofs.RightLemmas.{right-good}
use Rattle.scasp_lines.specs.Samples.{ask, by_fact, is_true}
use Rattle.scasp_list.specs.Each.{Each}
use Rattle.scasp_list.proofs.MemberLemmas.{Contains-none}
use Rattle.scasp_name.specs.Texts.{list_names}
use Rattle.scasp_print_samples.specs.Samples.{NamesSample}
use Rattle.scasp_reader.specs.Bodies.Bodies.{body}
use Rattle.scasp_reader.specs.Bodies.Items.{item}
use Rattle.scasp_reader.specs.Programs.Programs.{program_in, reading_of}
use Rattle.scasp_reader.specs.Texts.Clauses.{clause}
use Rattle.scasp_reader.specs.Texts.Texts.{next_part, parts, read}
use Rattle.scasp_reader_expressions.specs.Expressions.{expression}
use Rattle.scasp_reader_terms.specs.Terms.{term}
use Rattle.scasp_reader_tokens.specs.Tokens.{tokens_of}
use Rattle.scasp_rows.specs.Elimination.{elimination}
use Rattle.scasp_rows.specs.PlainRows.{is_met}
use Rattle.scasp_rows.specs.Samples.{point_of, sample_of}
use Rattle.scasp_search_ends.specs.Ends.Ends.{problem}
use Rattle.scasp_search_rules.specs.declared.states.state.State.{State}
use Rattle.scasp_search_rules.specs.Successors.Machine.{Found, answered, ended, first_event}
use Rattle.scasp_search_rules.specs.Successors.Problems.{Problem}
use Rattle.scasp_search_rules.specs.Successors.Search.{start}
use Rattle.scasp_syntax.specs.Programs.{body_preds, pred_of}
use Rattle.scasp_syntax.specs.Same.{same_pred}
use Rattle.scasp_syntax.specs.Tm.{nil}
use Rattle.scasp_syntax.specs.declared.atom.Pred.{Pred}
use Rattle.scasp_syntax.specs.declared.clause.Clause.{Clause}
use Rattle.scasp_syntax.specs.declared.clause.Item.TheVariants.{Call}
use Rattle.scasp_syntax.specs.declared.clause.Query.{Query}
use Rattle.scasp_syntax.specs.declared.predicate_map.PredMap.{PredMap}
use Rattle.scasp_unify.specs.Unification.{unifier}
use Rattle.scasp_written.specs.Written.Rests.{Rest, machine}
use Rattle.std.specs.List.{list_any}
use Rattle.scasp_law_run_checked.specs.RunChecked.{IsPlaced, printed_answers, right_text, whole_job}

-- ---- the program

abbrev bytes : List ℕ
bytes = codes "p. ?- p."

abbrev names : List (List ℕ)
names = codes "[]" ∷ codes "[|]" ∷ codes "p" ∷ []

is_read : program_in list_names bytes ≡ Ok (reading_of (fact, names))
unfolding read parts next_part clause body item tokens_of term expression
is_read = refl

is_program : IsProgram (Some bytes) fact names
is_program = record {
  written = fact;
  table = names;
  is = record { bytes = bytes; are = refl; read = is_read };
  translated = record { clauses = refl; queries = refl; abducibles = refl; names = refl };
}

-- ---- its analysis: no rule is odd, and p has level 0 and `+`

abbrev entry : PredMap
entry = record { pred = pred_of p; level = 0; plus = true }

abbrev analysis : Analysis
analysis = record { odd_rules = []; map = entry ∷ [] }

no_edge : (x y : Pred) (negated : Bool) → Depends fact x negated y → ⊥
no_edge x y negated i = Contains-none (record { from = x; to = y; negated = negated }) i

no_odd : (k : ℕ) → IsOddRule fact k → ⊥
no_odd zero r = absurd (cc r.stands)
no_odd (suc zero) r =
    let same : r.rule ≡ record { head = Some p; body = []; vars = 0 } = cc (sym r.stands) in
    false≢true (subst (λ (c : Clause). list_any (same_pred r.below) (body_preds c.body) ≡ true) same r.in_body)
no_odd (suc (suc k)) r = absurd (cc r.stands)

level_zero : (x : Pred) → level_of (entry ∷ []) x ≡ 0
level_zero x = by (same_pred x entry.pred)
  where
    by : (b : Bool) → (if b then entry else record { pred = x; level = 0; plus = true }).level ≡ 0
    by true = refl
    by false = refl

sign_plus : (x : Pred) → plus_of (entry ∷ []) x ≡ true
sign_plus x = by (same_pred x entry.pred)
  where
    by : (b : Bool) → (if b then entry else record { pred = x; level = 0; plus = true }).plus ≡ true
    by true = refl
    by false = refl

is_map : IsRightMap fact (entry ∷ [])
is_map = record {
  listed = refl;
  falls = λ x y negated e. absurd (no_edge x y negated e);
  least = λ x. inl (level_zero x);
  first = λ x h. sign_plus x;
  signs = λ x y negated e r w. absurd (no_edge x y negated e);
  odd = λ x w. sign_plus x;
}

is_analysis : IsAnalysis fact analysis
is_analysis = record {
  odd = record { ascending = refl; exactly = λ k. (λ e. absurd (false≢true e), λ r. absurd (no_odd k r)) };
  right = is_map;
}

-- ---- its search meets one answer

abbrev query : Query
query = ask (Call (is_true p))

abbrev about : Problem
about = problem fact 1 [] (entry ∷ []) 3

abbrev begins : Rest
begins = record { problem = about; queried = 0; budget = 60; calls = 0; states = start query [] ∷ [] }

abbrev found_or_end : Option (Found State Certificate) → Found State Certificate
found_or_end None = record { event = ended; calls = 0; may = false; rest = [] }
found_or_end (Some found) = found

abbrev found : Found State Certificate
found = found_or_end (first_event (machine about 0) 60 100 (start query [] ∷ []) 0 false)

abbrev behind : Rest
behind = record begins { calls = found.calls; states = found.rest }

abbrev last : Found State Certificate
last = found_or_end (first_event (machine about 0) 60 100 found.rest found.calls false)

abbrev nothing_left : Rest
nothing_left = record behind { calls = last.calls; states = last.rest }

abbrev answer : Certificate
answer = record { query = 1; terms = nil; given = []; sample = nil; trees = by_fact p 1 ∷ []; checks = []; clashes = []; map = entry ∷ [] }

meets : Meets begins (answered answer) behind
unfolding first_event is_met unifier sample_of point_of
meets = record { calls = found.calls; states = found.rest; tells = (found.may, (100, refl)); is = refl }

meets_end : Meets behind ended nothing_left
unfolding first_event is_met unifier sample_of point_of
meets_end = record { calls = last.calls; states = last.rest; tells = (last.may, (100, refl)); is = refl }

-- ---- which is right

accepted : Accepts fact answer
unfolding unifier
accepted = (accepted-no_fault true fact answer).1 refl

is_right : IsRight fact answer
is_right = record {
  accepted = accepted;
  map = refl;
  good = right-good true fact answer (rows-normal fact answer refl) accepted refl;
  domains = closed-above true fact answer accepted;
}

completes : Completes fact answer answer
unfolding unifier
completes = record { is = refl; same = refl; right = is_right }

-- ---- what is printed

abbrev one : Printed
one = record { names = names; certificate = answer }

abbrev shown : List Shown
shown = record { answers = one ∷ []; end = Some Ended } ∷ []

named : NamesSample names names answer
named = record { tried = 0; table_is = refl; enough = omega arith }

all_asked : {n : ℕ} → None ≡ Some n → ⊥
all_asked e = absurd (cc e)

runs : RunsQuery (whole_job fact names 60 None) 1 query (record { answers = one ∷ []; end = Some Ended })
runs = record {
  rest = begins;
  opens = record { analysis = analysis; is = is_analysis; whole = refl };
  prints = prints None begins behind answer one [] (Some Ended) all_asked meets completes named (ends None behind nothing_left all_asked meets_end);
}

is_run : IsRun (whole_job fact names 60 None) (run_text Whole fact shown) (Some Done)
is_run = record { all = shown; runs = (runs, tt); text_is = refl; end_is = refl }

text : run_text Whole fact shown ≡ codes "scasp 1\nanswer 1.1 []\nsample []\ntree\n pos p rule 1 []\nmap p/0 0 +\nend\n% domain any\nended 1\n"
unfolding answer_line list_text line_text atom_text map_line pred_text digits unifier elimination
text = refl

-- ---- so all is as the law asks

placed : Each IsPlaced (printed_answers shown)
unfolding has_places
placed = (refl, tt)

short : length (run_text Whole fact shown) ≤ byte_limit
short = subst (λ (t : List ℕ). length t ≤ byte_limit) (sym text) (lit≤ tt)

-- and this is what the check prints
checked : right_text (printed_answers shown) ≡ codes "1.1 right any\nchecked 1\n"
unfolding line_by checked_line digits
checked = refl
