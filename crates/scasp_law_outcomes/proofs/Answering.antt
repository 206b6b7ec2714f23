-- The answer of a state with nothing left to do has all that was told.
use Rattle.std.specs.Prelude.{◌≡◌, ℕ, Bool, true, false, not, if◌then◌else◌, Option, Some, None, List, [], ◌∷◌, ◌++◌, map, length}
use Rattle.std.specs.List.{list_all}
use Rattle.std.proofs.Common.{◌∙◌, refl, ap, sym, subst}
use Rattle.std.proofs.lemmas.List.{append-nil}
use Rattle.scasp_cert.specs.Certificate.{Certificate}
use Rattle.scasp_lines.specs.Lines.{free_of}
use Rattle.scasp_nmr.specs.Checks.{clause_in}
use Rattle.scasp_sound.specs.MapLevels.{covered}
use Rattle.scasp_search_rules.specs.declared.states.covers.Cover.{Cover}
use Rattle.scasp_search_rules.specs.declared.states.lines.Line.{Line}
use Rattle.scasp_search_rules.specs.declared.states.lines.Line.TheVariants as line
use Rattle.scasp_search_rules.specs.declared.states.state.State.{State}
use Rattle.scasp_search_rules.specs.declared.states.tasks.Task.{Task}
use Rattle.scasp_syntax.specs.Tm.{Tms}
use Rattle.scasp_syntax.specs.Values.{Sub, all_under}
use Rattle.scasp_syntax.specs.declared.con.Con.{Con}
use Rattle.scasp_unify.specs.Negations.{new_parts}
use Rattle.scasp_search_rules.specs.Successors.Answers.{given_lines, certificate_by, certificate_at, pair_lists, sampled, answer_of}
use Rattle.scasp_search_rules.specs.Successors.Cases.{line_under}
use Rattle.scasp_search_rules.specs.Successors.Numbering.{free_variables, universal_variables, placing, line_renamed}
use Rattle.scasp_search_rules.specs.Successors.Problems.{Problem}
use Rattle.scasp_search_rules.specs.Successors.Replacing.{close_overflows, end_overflows}
use Rattle.scasp_search_rules.specs.Successors.Search.{answer_at}
use Rattle.scasp_search_rules.specs.Successors.Trees.{Built, built, put, literal_lines}
use Rattle.scasp_search_rules.specs.Successors.Variables.{meaning}
use Rattle.scasp_law_outcomes.specs.Problems.{IsOfProblem}
use Rattle.scasp_law_outcomes.proofs.Casing.{checks_in-mapped, check_in-under}
use Rattle.scasp_law_outcomes.proofs.Standing.{check_in, checks_in, checks_before, told, owed, Stands}

-- ---- what lines make

put-checks : (ats : List ℕ) (l : Line) (b : Built) → map (λ k. k.0) (put ats l b).checks ≡ check_in l ++ map (λ k. k.0) b.checks
put-checks ats (line.Check k first) b = refl
put-checks ats l b = refl

built-checks : (ats : List ℕ) (ls : List Line) → map (λ k. k.0) (built ats ls).checks ≡ checks_in ls
built-checks ats [] = refl
built-checks ats (l ∷ ls) = put-checks ats l (built ats ls) ∙ ap (λ (z : List ℕ). check_in l ++ z) (built-checks ats ls)

check_in-renamed : (v : Sub) (l : Line) → check_in (line_renamed v l) ≡ check_in l
check_in-renamed v (line.Check k first) = refl
check_in-renamed v l = refl

-- ---- the certificate

by-checks : (p : Problem) (s : State) (terms : Tms) (given : List Con) (ls : List Line) → covered (certificate_by p s terms given ls) ≡ checks_in ls
by-checks p s terms given ls =
    let free : List ℕ = free_variables s terms given ls in
    let v : Sub = placing (free ++ universal_variables p.program ls) in
    built-checks (literal_lines 1 ls) (map (line_renamed v) ls) ∙ checks_in-mapped (line_renamed v) (check_in-renamed v) ls

at-checks : (p : Problem) (s : State) (queried : ℕ) → covered (certificate_at p s queried) ≡ checks_in s.lines
at-checks p s queried =
    by-checks p s (all_under (meaning s) (new_parts 0 queried)) (given_lines s) (map (line_under s) s.lines)
    ∙ checks_in-mapped (line_under s) (check_in-under s) s.lines

-- ---- the answer

-- the sample alone is put in
answer-is : (p : Problem) (c answer : Certificate) → IsOfProblem p c → answer_of p c ≡ Some (Some answer) → IsOfProblem p answer
answer-is p c answer h e = by (list_all (λ cs. not (p.sat cs)) (pair_lists p.program c)) (p.sample c.given (free_of c)) e
  where
    by : (b : Bool) (sample : Option Tms) → (if b then Some (sampled c sample) else None) ≡ Some (Some answer) → IsOfProblem p answer
    by true (Some ts) e =
        let same : record c { sample = ts } ≡ answer = cc in
        subst (IsOfProblem p) same (record { query = h.query; checks = h.checks; map = h.map })
    by true None e = absurd (cc e)
    by false sample e = absurd (cc e)

-- an answer is no overflow
pub kept-answer : (b : Bool) (o : Option (Option Certificate)) (c : Certificate) → (if b then Some None else o) ≡ Some (Some c) → o ≡ Some (Some c)
kept-answer true o c e = absurd (cc e)
kept-answer false o c e = e

-- where no close is owed no cover is open
none-before : (cs : List Cover) → 0 ≡ length cs → checks_before cs ≡ []
none-before [] e = refl
none-before (c ∷ cs) e = absurd (cc e)

pub answer_at-is : (p : Problem) (s : State) (queried : ℕ) (work : List Task) (answer : Certificate)
    → Stands (map clause_in p.checks) (told s) (owed work) (length s.covers) → answer_at p s queried work ≡ Some (Some answer) → IsOfProblem p answer
answer_at-is p s queried [] answer h e =
    let none : told s ≡ checks_in s.lines = ap (λ (z : List ℕ). z ++ checks_in s.lines) (none-before s.covers h.closes) in
    let all : covered (certificate_at p s queried) ≡ map clause_in p.checks =
    at-checks p s queried ∙ sym none ∙ sym (append-nil (told s)) ∙ h.checks in
    answer-is p (certificate_at p s queried) answer (record { query = refl; checks = all; map = refl })
    (kept-answer (end_overflows s) (answer_of p (certificate_at p s queried)) answer e)
answer_at-is p s queried (t ∷ ts) answer h e = absurd (cc (kept-answer (close_overflows s (t ∷ ts)) None answer e))
