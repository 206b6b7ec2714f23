-- A certificate that the step from one program to another does not touch has the same faults under both.
use Rattle.std.proofs.Common.{◌≡◌, ◌∙◌, ℕ, ◌+◌, Bool, true, false, ◌||◌, List, [], ◌∷◌, ◌++◌, Option, refl, ap, sym}
use Rattle.std.specs.List.{flat_map, list_any}
use Rattle.std.proofs.lemmas.Bool.{or_parts}
use Rattle.std.proofs.lemmas.List.Concat.{flat_map-append}
use Rattle.scasp_syntax.specs.Programs.{numbered, rules_from}
use Rattle.scasp_syntax.specs.declared.atom.Pred.{Pred}
use Rattle.scasp_syntax.specs.declared.clause.Clause.{Clause}
use Rattle.scasp_syntax.specs.declared.clause.Query.{Query}
use Rattle.scasp_syntax.specs.declared.program.Program.{Program}
use Rattle.scasp_cert.specs.Certificate.{Certificate}
use Rattle.scasp_cert.specs.Lines.{lines_below}
use Rattle.scasp_cert.specs.Trees.{Branch, listed}
use Rattle.scasp_lines.specs.Dues.{Due, query_dues}
use Rattle.scasp_lines.specs.Lines.{free_of, lines, setting}
use Rattle.scasp_lines.specs.Places.{start}
use Rattle.scasp_lines.specs.Rooms.{room_below, room_under}
use Rattle.scasp_lines.specs.Walk.{Line, Setting, Walked, checks_walk, followed, nodes_walk}
use Rattle.scasp_checker_rules.specs.Faults.{answer_faults, apart_faults, faults, map_faults, sample_faults}
use Rattle.scasp_checker_rules.specs.LineFaults.{line_faults}
use Rattle.scasp_checker_rules.specs.Told.{all_told}
use Rattle.scasp_checker_rules.specs.declared.refusal.Refusal.{Refusal}
use Rattle.scasp_touched.specs.Named.{clauses_below, clauses_under, line_predicates, named_clauses, preds_below, preds_under}
use Rattle.scasp_touched.specs.Touched.{clause_differs, is_in_one, query_differs, rules_differ, touched}
use Rattle.scasp_law_untouched.proofs.FaultLemmas.{answer-same, dues-same, lines-same, map-same, whole_with}
use Rattle.scasp_law_untouched.proofs.LineLemmas.{clauses-checks, clauses-trees, line_clause, line_pred, preds-checks, preds-trees}
use Rattle.scasp_law_untouched.proofs.RoomLemmas.{room-checks, room-trees}
use Rattle.scasp_law_untouched.proofs.SameLemmas.{clause-kept, none-both, query-kept, rules-kept}
use Rattle.scasp_law_untouched.proofs.WalkLemmas.{same-checks, same-trees, setting_of}

-- the number that no universal variable reaches
top_of : List Clause → Certificate → ℕ
top_of cs c = (setting cs c).top

-- all lines, with this top and what the query is due for
walked : ℕ → List Due → Certificate → List Clause → Walked
walked top dues c cs =
    let first : Walked = nodes_walk (setting_of (free_of c) top cs) (start top) 1 (free_of c) dues (listed c.trees) in
    followed first (checks_walk (setting_of (free_of c) top cs) (start top) (1 + lines_below (listed c.trees)) first.next c.checks)

-- all that is wrong, by the parts that a program has to do with
faults_by : Certificate → List Refusal → ℕ → List Line → List Clause → List Refusal → List Refusal
faults_by c answer top ls cs map =
    answer ++ flat_map (line_faults (whole_with (free_of c) top c.given ls cs)) ls ++ apart_faults c (all_told ls) ++ sample_faults c ++ map

by-parts : (p : Program) (c : Certificate)
    → faults p c
    ≡ faults_by c (answer_faults p c) (top_of p.clauses c) (walked (top_of p.clauses c) (query_dues (numbered p.queries c.query) c.terms) c p.clauses).lines p.clauses (map_faults p c)
unfolding top_of walked faults_by
by-parts p c = refl

-- what the lines name is what the certificate names
lines-clauses : (top : ℕ) (dues : List Due) (c : Certificate) (cs : List Clause) → flat_map line_clause (walked top dues c cs).lines ≡ named_clauses c
unfolding walked
lines-clauses top dues c cs =
    let s : Setting = setting_of (free_of c) top cs in
    let first : Walked = nodes_walk s (start top) 1 (free_of c) dues (listed c.trees) in
    let rest : Walked = checks_walk s (start top) (1 + lines_below (listed c.trees)) first.next c.checks in
    flat_map-append line_clause first.lines rest.lines
    ∙ (λ i. clauses-trees s (start top) 1 (free_of c) dues (listed c.trees) i
    ++ clauses-checks s (start top) (1 + lines_below (listed c.trees)) first.next c.checks i)

lines-preds : (top : ℕ) (dues : List Due) (c : Certificate) (cs : List Clause) → flat_map line_pred (walked top dues c cs).lines ≡ line_predicates c
unfolding walked
lines-preds top dues c cs =
    let s : Setting = setting_of (free_of c) top cs in
    let first : Walked = nodes_walk s (start top) 1 (free_of c) dues (listed c.trees) in
    let rest : Walked = checks_walk s (start top) (1 + lines_below (listed c.trees)) first.next c.checks in
    flat_map-append line_pred first.lines rest.lines
    ∙ (λ i. preds-trees s (start top) 1 (free_of c) dues (listed c.trees) i
    ++ preds-checks s (start top) (1 + lines_below (listed c.trees)) first.next c.checks i)

module _ (p q : Program) (c : Certificate) (queries : query_differs p q c.query ≡ false) (clauses : list_any (clause_differs p q) (named_clauses c) ≡ false)
    (rules : list_any (rules_differ p q) (line_predicates c) ≡ false) (entries : list_any (is_in_one p q) c.map ≡ false) where
  parts : (list_any (clause_differs p q) (clauses_below (listed c.trees)) ≡ false) × (list_any (clause_differs p q) (flat_map clauses_under c.checks) ≡ false)
  parts = none-both (clause_differs p q) (clauses_below (listed c.trees)) (flat_map clauses_under c.checks) clauses

  top-same : top_of p.clauses c ≡ top_of q.clauses c
  unfolding top_of
  top-same = λ i.
      free_of c
      + (room-trees p.clauses q.clauses (clause_differs p q) (clause-kept p q) (listed c.trees) parts.0 i
      + room-checks p.clauses q.clauses (clause_differs p q) (clause-kept p q) c.checks parts.1 i)

  walk-same : (top : ℕ) (dues : List Due) → walked top dues c p.clauses ≡ walked top dues c q.clauses
  unfolding walked
  walk-same top dues =
      let trees = listed c.trees in
      let first : Walked = nodes_walk (setting_of (free_of c) top q.clauses) (start top) 1 (free_of c) dues trees in
      ap (λ w. followed w (checks_walk (setting_of (free_of c) top p.clauses) (start top) (1 + lines_below trees) w.next c.checks))
      (same-trees p.clauses q.clauses (clause_differs p q) (clause-kept p q) (free_of c) top (start top) 1 (free_of c) dues trees parts.0)
      ∙ ap (followed first)
      (same-checks p.clauses q.clauses (clause_differs p q) (clause-kept p q) (free_of c) top (start top) (1 + lines_below trees) first.next c.checks parts.1)

  all-same : faults p c ≡ faults q c
  unfolding faults_by
  all-same =
      let alike = query-kept p q c.query queries in
      let before : List Due = query_dues (numbered p.queries c.query) c.terms in
      let after : List Due = query_dues (numbered q.queries c.query) c.terms in
      let top = top_of q.clauses c in
      let ls : List Line = (walked top after c q.clauses).lines in
      by-parts p c
      ∙ (λ i. faults_by c (answer-same c (numbered p.queries c.query) (numbered q.queries c.query) alike i) (top-same i)
      (walked (top-same i) (dues-same (numbered p.queries c.query) (numbered q.queries c.query) c alike i) c p.clauses).lines p.clauses (map-same p q c entries i))
      ∙ ap (λ w. faults_by c (answer_faults q c) top w.lines p.clauses (map_faults q c)) (walk-same top after)
      ∙ ap (λ f. answer_faults q c ++ f ++ apart_faults c (all_told ls) ++ sample_faults c ++ map_faults q c)
      (lines-same p.clauses q.clauses (clause_differs p q) (rules_differ p q) (clause-kept p q) (rules-kept p q) (free_of c) top c.given ls ls
      (ap (list_any (clause_differs p q)) (lines-clauses top after c q.clauses) ∙ clauses)
      (ap (list_any (rules_differ p q)) (lines-preds top after c q.clauses) ∙ rules))
      ∙ sym (by-parts q c)

pub untouched : (p q : Program) (c : Certificate) → touched p q c ≡ false → faults p c ≡ faults q c
untouched p q c e =
    let named = list_any (clause_differs p q) (named_clauses c) in
    let preds = list_any (rules_differ p q) (line_predicates c) in
    let a = or_parts (query_differs p q c.query || (named || preds)) (list_any (is_in_one p q) c.map) e in
    let b = or_parts (query_differs p q c.query) (named || preds) a.0 in
    let d = or_parts named preds b.1 in
    all-same p q c b.0 d.0 d.1 a.1
