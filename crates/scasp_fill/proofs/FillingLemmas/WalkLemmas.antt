-- The lines of a certificate with other hints are its lines with these hints.
use Rattle.std.proofs.Common.{◌≡◌, ◌∙◌, ℕ, suc, ◌+◌, List, [], ◌∷◌, map, refl, ap, sym}
use Rattle.std.proofs.lemmas.List.{map-append}
use Rattle.scasp_syntax.specs.Programs.{numbered}
use Rattle.scasp_syntax.specs.declared.atom.Atom.{Atom}
use Rattle.scasp_syntax.specs.declared.clause.Clause.{Clause}
use Rattle.scasp_syntax.specs.declared.clause.Query.{Query}
use Rattle.scasp_syntax.specs.declared.hint.Hint.{Hint}
use Rattle.scasp_syntax.specs.declared.program.Program.{Program}
use Rattle.scasp_cert.specs.Certificate.{Certificate}
use Rattle.scasp_cert.specs.Lines.{lines_of, lines_at, lines_below}
use Rattle.scasp_cert.specs.Trees.{Tree, Trees, Branch, Branches, pos_tree, neg_tree, loop_tree, seen_tree, test_tree, no_tree, tree, split, void, leaf, head, no_branch, branch, listed}
use Rattle.scasp_cert.specs.declared.certificate.Clash.{Clash}
use Rattle.scasp_lines.specs.Bodies.{Body, split_body, inside_rule, inside_check}
use Rattle.scasp_lines.specs.Dues.{Due, first_due, other_dues, query_dues}
use Rattle.scasp_lines.specs.Lines.{free_of, lines, setting, query_walk, certificate_walk}
use Rattle.scasp_lines.specs.Places.{Place, start}
use Rattle.scasp_lines.specs.Sides.{sides}
use Rattle.scasp_lines.specs.Walk.{Part, of_node, of_rule, of_check, of_case, Line, Setting, Walked, followed, started, node_walk, nodes_walk, branch_walk, covers_walk, rule_walk, check_walk, checks_walk}
use Rattle.scasp_lines.specs.Rooms.{room_below}
use Rattle.scasp_fill.specs.Filling.Hinted.{hinted, all_hinted, case_hinted, covers_hinted, trees_hinted, checks_hinted, shown_by}
use Rattle.scasp_fill.proofs.FillingLemmas.HintedLemmas.{sums, same-lines, same-below, same-at, same-room_below, same-room_under, listed-hinted}

module _ (f : ℕ → Hint) where
  abbrev pub part_hinted : ℕ → Part → Part
  part_hinted at (of_node due t) = of_node due (hinted f at t)
  part_hinted at (of_rule k a b) = of_rule k a (case_hinted f (suc at) b)
  part_hinted at (of_check k b) = of_check k (case_hinted f (suc at) b)
  part_hinted at (of_case body b) = of_case body (case_hinted f at b)

  -- the line with what stands there with these hints
  abbrev pub line_hinted : Line → Line
  line_hinted l = record { at = l.at; next = l.next; here = l.here; part = part_hinted l.at l.part }

  abbrev walk_hinted : Walked → Walked
  walk_hinted w = record { lines = map line_hinted w.lines; next = w.next }

  -- both walks, one behind the other
  both : (a b : Walked) (c d : Walked) → a ≡ walk_hinted c → b ≡ walk_hinted d → followed a b ≡ walk_hinted (followed c d)
  both a b c d p q =
      ap (λ (x : Walked). followed x b) p ∙ ap (followed (walk_hinted c)) q
      ∙ ap (λ (ls : List Line). record { lines = ls; next = d.next }) (sym (map-append line_hinted c.lines d.lines))

  -- a line, and a walk below it
  above : (l : Line) (b d : Walked) → b ≡ walk_hinted d → started (line_hinted l) b ≡ walk_hinted (started l d)
  above l b d q = ap (started (line_hinted l)) q

  module _ (s : Setting) where
    mutual
      pub node-hinted : (here : Place) (at next : ℕ) (due : Due) (t : Tree) → node_walk s here at next due (hinted f at t) ≡ walk_hinted (node_walk s here at next due t)
      node-hinted here at next due (pos_tree a k ts children) =
          above (record { at = at; next = next; here = here; part = of_node due (pos_tree a k ts children) }) _ _ (nodes-hinted _ (suc at) next _ children)
      node-hinted here at next due (neg_tree a covers) =
          above (record { at = at; next = next; here = here; part = of_node due (neg_tree a covers) }) _ _ (covers-hinted _ (suc at) next a covers)
      node-hinted here at next due (loop_tree lit to) = refl
      node-hinted here at next due (seen_tree lit to) = refl
      node-hinted here at next due (test_tree c shown) = refl

      pub nodes-hinted : (here : Place) (at next : ℕ) (dues : List Due) (ts : Trees) → nodes_walk s here at next dues (all_hinted f at ts) ≡ walk_hinted (nodes_walk s here at next dues ts)
      nodes-hinted here at next dues no_tree = refl
      nodes-hinted here at next dues (tree t ts) =
          let first = node-hinted here at next (first_due dues) t in
          let old = node_walk s here at next (first_due dues) t in
          let rest = nodes-hinted here (at + lines_of t) old.next (other_dues dues) ts in
          both _ _ old (nodes_walk s here (at + lines_of t) old.next (other_dues dues) ts) first
          (ap (λ n. nodes_walk s here n (node_walk s here at next (first_due dues) (hinted f at t)).next (other_dues dues) (all_hinted f (at + lines_of t) ts)) (ap (λ n. at + n) (same-lines f at t))
          ∙ ap (λ (w : Walked). nodes_walk s here (at + lines_of t) w.next (other_dues dues) (all_hinted f (at + lines_of t) ts)) first ∙ rest)

      pub case-hinted : (here : Place) (at next : ℕ) (body : Body) (b : Branch) → branch_walk s here at next body (case_hinted f at b) ≡ walk_hinted (branch_walk s here at next body b)
      case-hinted here at next body (split c one two) =
          let x = sides s.free s.top c here next in
          let first = case-hinted x.first (suc at) x.next (split_body body) one in
          let old = branch_walk s x.first (suc at) x.next (split_body body) one in
          let rest = case-hinted x.second (suc at + lines_at one) old.next (split_body body) two in
          above (record { at = at; next = next; here = here; part = of_case body (split c one two) }) _ _
          (both _ _ old (branch_walk s x.second (suc at + lines_at one) old.next (split_body body) two) first
          (ap (λ n. branch_walk s x.second n (branch_walk s x.first (suc at) x.next (split_body body) (case_hinted f (suc at) one)).next (split_body body) (case_hinted f (suc at + lines_at one) two)) (ap (λ n. suc at + n) (same-at f (suc at) one))
          ∙ ap (λ (w : Walked). branch_walk s x.second (suc at + lines_at one) w.next (split_body body) (case_hinted f (suc at + lines_at one) two)) first ∙ rest))
      case-hinted here at next body (void shown) = refl
      case-hinted here at next body (leaf k children) =
          above (record { at = at; next = next; here = here; part = of_case body (leaf k children) }) _ _ (nodes-hinted _ (suc at) next _ children)
      case-hinted here at next body (head children) =
          above (record { at = at; next = next; here = here; part = of_case body (head children) }) _ _ (nodes-hinted _ (suc at) next _ children)

      pub covers-hinted : (here : Place) (at next : ℕ) (a : Atom) (bs : Branches) → covers_walk s here at next a (covers_hinted f at bs) ≡ walk_hinted (covers_walk s here at next a bs)
      covers-hinted here at next a no_branch = refl
      covers-hinted here at next a (branch k b bs) =
          let i = inside_rule (numbered s.clauses k) a next here in
          let first =
          above (record { at = at; next = next; here = here; part = of_rule k a b }) _ _ (case-hinted i.here (suc at) i.next i.body b) in
          let old = rule_walk s here at next k a b in
          let rest = covers-hinted here (at + (1 + lines_at b)) old.next a bs in
          both _ _ old (covers_walk s here (at + (1 + lines_at b)) old.next a bs) first
          (ap (λ n. covers_walk s here n (rule_walk s here at next k a (case_hinted f (suc at) b)).next a (covers_hinted f (at + (1 + lines_at b)) bs)) (ap (λ n. at + (1 + n)) (same-at f (suc at) b))
          ∙ ap (λ (w : Walked). covers_walk s here (at + (1 + lines_at b)) w.next a (covers_hinted f (at + (1 + lines_at b)) bs)) first ∙ rest)

    check-hinted : (here : Place) (at next k : ℕ) (b : Branch) → check_walk s here at next k (case_hinted f (suc at) b) ≡ walk_hinted (check_walk s here at next k b)
    check-hinted here at next k b =
        above (record { at = at; next = next; here = here; part = of_check k b }) _ _
        (case-hinted (inside_check (numbered s.clauses k) next here).here (suc at) (inside_check (numbered s.clauses k) next here).next (inside_check (numbered s.clauses k) next here).body b)

    pub checks-hinted : (here : Place) (at next : ℕ) (cs : List (ℕ × Branch)) → checks_walk s here at next (checks_hinted f at cs) ≡ walk_hinted (checks_walk s here at next cs)
    checks-hinted here at next [] = refl
    checks-hinted here at next (c ∷ cs) =
        let first = check-hinted here at next c.0 c.1 in
        let old = check_walk s here at next c.0 c.1 in
        let rest = checks-hinted here (at + (1 + lines_at c.1)) old.next cs in
        both _ _ old (checks_walk s here (at + (1 + lines_at c.1)) old.next cs) first
        (ap (λ n. checks_walk s here n (check_walk s here at next c.0 (case_hinted f (suc at) c.1)).next (checks_hinted f (at + (1 + lines_at c.1)) cs)) (ap (λ n. at + (1 + n)) (same-at f (suc at) c.1))
        ∙ ap (λ (w : Walked). checks_walk s here (at + (1 + lines_at c.1)) w.next (checks_hinted f (at + (1 + lines_at c.1)) cs)) first ∙ rest)

  pub same-setting : (cs : List Clause) (ks : List Clash) (c : Certificate) → setting cs (shown_by f ks c) ≡ setting cs c
  same-setting cs ks c =
      ap (λ n. record { clauses = cs; free = free_of c; top = free_of c + n })
      (sums (ap (room_below cs) (listed-hinted f 1 c.trees) ∙ same-room_below f cs 1 (listed c.trees))
      (same-room_under f cs (1 + lines_below (listed c.trees)) c.checks))

  query-hinted : (cs : List Clause) (qs : List Query) (ks : List Clash) (c : Certificate) → query_walk cs qs (shown_by f ks c) ≡ walk_hinted (query_walk cs qs c)
  query-hinted cs qs ks c =
      ap (λ (s : Setting). nodes_walk s (start s.top) 1 s.free (query_dues (numbered qs c.query) c.terms) (listed (trees_hinted f 1 c.trees))) (same-setting cs ks c)
      ∙ ap (nodes_walk (setting cs c) (start (setting cs c).top) 1 (setting cs c).free (query_dues (numbered qs c.query) c.terms)) (listed-hinted f 1 c.trees)
      ∙ nodes-hinted (setting cs c) (start (setting cs c).top) 1 (setting cs c).free (query_dues (numbered qs c.query) c.terms) (listed c.trees)

  same-start : (ks : List Clash) (c : Certificate) → lines_below (listed (trees_hinted f 1 c.trees)) ≡ lines_below (listed c.trees)
  same-start ks c = ap lines_below (listed-hinted f 1 c.trees) ∙ same-below f 1 (listed c.trees)

  certificate-hinted : (cs : List Clause) (qs : List Query) (ks : List Clash) (c : Certificate) → certificate_walk cs qs (shown_by f ks c) ≡ walk_hinted (certificate_walk cs qs c)
  certificate-hinted cs qs ks c =
      let first = query-hinted cs qs ks c in
      let s = setting cs c in
      let old = query_walk cs qs c in
      let at = 1 + lines_below (listed c.trees) in
      both _ _ old (checks_walk s (start s.top) at old.next c.checks) first
      (ap (λ (z : Setting). checks_walk z (start z.top) (1 + lines_below (listed (trees_hinted f 1 c.trees))) (query_walk cs qs (shown_by f ks c)).next (checks_hinted f at c.checks)) (same-setting cs ks c)
      ∙ ap (λ n. checks_walk s (start s.top) (1 + n) (query_walk cs qs (shown_by f ks c)).next (checks_hinted f at c.checks)) (same-start ks c)
      ∙ ap (λ (w : Walked). checks_walk s (start s.top) at w.next (checks_hinted f at c.checks)) first
      ∙ checks-hinted s (start s.top) at old.next c.checks)

  -- the lines with these hints
  pub lines-hinted : (p : Program) (ks : List Clash) (c : Certificate) → lines p (shown_by f ks c) ≡ map line_hinted (lines p c)
  lines-hinted p ks c = ap (λ (w : Walked). w.lines) (certificate-hinted p.clauses p.queries ks c)
