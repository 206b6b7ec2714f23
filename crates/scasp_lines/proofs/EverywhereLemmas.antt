-- What holds at the start and is kept from each line to those below it holds at all lines.
use Rattle.std.proofs.Common.{ℕ, suc, ◌+◌, ◌≤◌, true, false, List, [], ◌∷◌, ◌++◌, subst, inl, inr, arith}
use Rattle.std.specs.List.{Contains}
use Rattle.std.proofs.lemmas.List.Elements.{Contains-append_left, Contains-append_right, Contains-append_cases}
use Rattle.scasp_syntax.specs.Programs.{numbered}
use Rattle.scasp_syntax.specs.declared.atom.Atom.{Atom}
use Rattle.scasp_syntax.specs.declared.clause.Clause.{Clause}
use Rattle.scasp_syntax.specs.declared.clause.Query.{Query}
use Rattle.scasp_cert.specs.Certificate.{Certificate}
use Rattle.scasp_cert.specs.Lines.{lines_of, lines_below, lines_at}
use Rattle.scasp_cert.specs.Trees.{Tree, Trees, Branch, Branches, pos_tree, neg_tree, loop_tree, seen_tree, test_tree, no_tree, tree, split, void, leaf, head, no_branch, branch, listed}
use Rattle.scasp_lines.specs.Places.{Place, below_literal, within_case, start}
use Rattle.scasp_lines.specs.Bodies.{Body, split_body, inside_rule, inside_check}
use Rattle.scasp_lines.specs.Dues.{Due, first_due, other_dues, query_dues}
use Rattle.scasp_lines.specs.Walk.{of_rule, of_check, Line, Setting, Walked, line, node_walk, nodes_walk, branch_walk, covers_walk, checks_walk}
use Rattle.scasp_lines.specs.Sides.{Sides, sides}
use Rattle.scasp_lines.specs.Lines.{setting, certificate_walk}
use Rattle.scasp_lines.specs.Rooms.{room_of_clause, room_of_con, room_of, room_below, room_at, room_in, room_under}
use Rattle.scasp_lines.proofs.Passages.{Claim, HoldsAt, Passes}
use Rattle.scasp_lines.proofs.CounterLemmas.{rule-rises, check-rises, sides-rise, node-rises, nodes-rise, branch-rises}
use Rattle.scasp_list.proofs.MemberLemmas.{Contains-none, Contains-here, Contains-there, Contains-cases}

module _ (s : Setting) (F : Line → Type 0) (k : Claim) (passes : Passes s F k) where
  -- where F is known of all these lines, the claim holds at each
  pub record All (ls : List Line) : Type 0 where
    pub at : (x : Line) → Contains ls x → HoldsAt k x

  abbrev Known : List Line → Type 0
  Known ls = (x : Line) → Contains ls x → F x

  all-none : All []
  all-none = record { at = λ x h. absurd (Contains-none x h) }

  all-started : (l : Line) (ls : List Line) → HoldsAt k l → All ls → All (l ∷ ls)
  all-started l ls h a =
      record { at = λ x i. elim (Contains-cases l ls x i) [ inl e ↦ subst (HoldsAt k) e h | inr j ↦ a.at x j ] }

  all-followed : (xs ys : List Line) → All xs → All ys → All (xs ++ ys)
  all-followed xs ys a b =
      record { at = λ x i. elim (Contains-append_cases xs ys x i) [ inl j ↦ a.at x j | inr j ↦ b.at x j ] }

  known-here : (l : Line) (ls : List Line) → Known (l ∷ ls) → F l
  known-here l ls f = f l (Contains-here l ls)

  known-below : (l : Line) (ls : List Line) → Known (l ∷ ls) → Known ls
  known-below l ls f x i = f x (Contains-there l ls x i)

  known-first : (xs ys : List Line) → Known (xs ++ ys) → Known xs
  known-first xs ys f x i = f x (Contains-append_left xs ys x i)

  known-rest : (xs ys : List Line) → Known (xs ++ ys) → Known ys
  known-rest xs ys f x i = f x (Contains-append_right xs ys x i)

  mutual
    pub node-all : (here : Place) (at next : ℕ) (due : Due) (t : Tree) → (next + room_of s.clauses t) ≤ s.top → Known (node_walk s here at next due t).lines
        → k.nodes here next → All (node_walk s here at next due t).lines
    node-all here at next due (pos_tree a r ts children) l f h =
        all-started _ _ h
        (nodes-all (below_literal at true a here) (suc at) next _ children l (known-below _ _ f)
        (passes.into_positive at next here due a r ts children (known-here _ _ f) h))
    node-all here at next due (neg_tree a covers) l f h =
        all-started _ _ h
        (covers-all (below_literal at false a here) (suc at) next a covers l (known-below _ _ f)
        (passes.into_negative at next here due a covers (known-here _ _ f) h))
    node-all here at next due (loop_tree lit to) l f h = all-started _ _ h all-none
    node-all here at next due (seen_tree lit to) l f h = all-started _ _ h all-none
    node-all here at next due (test_tree c hint) l f h = all-started _ _ h all-none

    pub nodes-all : (here : Place) (at next : ℕ) (dues : List Due) (ts : Trees) → (next + room_below s.clauses ts) ≤ s.top → Known (nodes_walk s here at next dues ts).lines
        → k.nodes here next → All (nodes_walk s here at next dues ts).lines
    nodes-all here at next dues no_tree l f h = all-none
    nodes-all here at next dues (tree t ts) l f h =
        let first = node_walk s here at next (first_due dues) t in
        let r = node-rises s here at next (first_due dues) t in
        let least = r.least in let most = r.most in
        let end : (first.next + room_below s.clauses ts) ≤ s.top = omega (arith, l, most) in
        all-followed _ _ (node-all here at next (first_due dues) t (omega (arith, l)) (known-first _ _ f) h)
        (nodes-all here (at + lines_of t) first.next (other_dues dues) ts end (known-rest first.lines _ f)
        (passes.later_nodes here next first.next least (omega (arith, end)) h))

    pub branch-all : (here : Place) (at next : ℕ) (body : Body) (b : Branch) → (next + room_at s.clauses b) ≤ s.top → Known (branch_walk s here at next body b).lines
        → k.cases body here next → All (branch_walk s here at next body b).lines
    branch-all here at next body (split c first second) l f h =
        let both : Sides = sides s.free s.top c here next in
        let one : Walked = branch_walk s both.first (suc at) both.next (split_body body) first in
        let r = sides-rise _ next here c in
        let split_most : both.next ≤ next + room_of_con c = r.most in
        let t = branch-rises s both.first (suc at) both.next (split_body body) first in
        let one_least : both.next ≤ one.next = t.least in
        let one_most : one.next ≤ both.next + room_at s.clauses first = t.most in
        let end : (one.next + room_at s.clauses second) ≤ s.top = omega (arith, l, split_most, one_most) in
        let here_known = known-here _ (one.lines ++ (branch_walk s both.second (suc at + lines_at first) one.next (split_body body) second).lines) f in
        let below_known : Known (one.lines ++ (branch_walk s both.second (suc at + lines_at first) one.next (split_body body) second).lines) = known-below _ _ f in
        let room : both.next ≤ s.top = omega (arith, l, split_most) in
        all-started _ _ h
        (all-followed _ _
        (branch-all both.first (suc at) both.next (split_body body) first (omega (arith, l, split_most)) (known-first _ _ below_known)
        (passes.into_first at next here body c first second here_known room h))
        (branch-all both.second (suc at + lines_at first) one.next (split_body body) second end (known-rest one.lines _ below_known)
        (passes.later_cases (split_body body) both.second both.next one.next one_least (omega (arith, end))
        (passes.into_second at next here body c first second here_known room h))))
    branch-all here at next body (void hint) l f h = all-started _ _ h all-none
    branch-all here at next body (leaf r children) l f h =
        all-started _ _ h
        (nodes-all (within_case at body.bare here) (suc at) next _ children l (known-below _ _ f)
        (passes.into_leaf at next here body r children (known-here _ _ f) h))
    branch-all here at next body (head children) l f h =
        all-started _ _ h
        (nodes-all (within_case at body.bare here) (suc at) next _ children l (known-below _ _ f)
        (passes.into_head at next here body children (known-here _ _ f) h))

    pub covers-all : (here : Place) (at next : ℕ) (a : Atom) (bs : Branches) → (next + room_in s.clauses bs) ≤ s.top → Known (covers_walk s here at next a bs).lines
        → k.rules a here next → All (covers_walk s here at next a bs).lines
    covers-all here at next a no_branch l f h = all-none
    covers-all here at next a (branch r b bs) l f h =
        let i = inside_rule (numbered s.clauses r) a next here in
        let one : Walked = branch_walk s i.here (suc at) i.next i.body b in
        let u = rule-rises (numbered s.clauses r) a next here in
        let rule_least : next ≤ i.next = u.least in
        let rule_most : i.next ≤ next + room_of_clause (numbered s.clauses r) = u.most in
        let t = branch-rises s i.here (suc at) i.next i.body b in
        let one_least : i.next ≤ one.next = t.least in
        let one_most : one.next ≤ i.next + room_at s.clauses b = t.most in
        let end : (one.next + room_in s.clauses bs) ≤ s.top = omega (arith, l, rule_most, one_most) in
        let own : Line = line at next here (of_rule r a b) in
        let first_known : Known (own ∷ one.lines) = known-first (own ∷ one.lines) (covers_walk s here (at + (1 + lines_at b)) one.next a bs).lines f in
        let rest_known : Known (covers_walk s here (at + (1 + lines_at b)) one.next a bs).lines = known-rest (own ∷ one.lines) _ f in
        all-followed _ _
        (all-started own one.lines h
        (branch-all i.here (suc at) i.next i.body b (omega (arith, l, rule_most)) (known-below own one.lines first_known)
        (passes.into_rule at next here r a b (known-here own one.lines first_known) (omega (arith, l)) h)))
        (covers-all here (at + (1 + lines_at b)) one.next a bs end rest_known
        (passes.later_rules a here next one.next (omega (arith, rule_least, one_least)) (omega (arith, end)) h))

  checks-all : (here : Place) (at next : ℕ) (cs : List (ℕ × Branch)) → (next + room_under s.clauses cs) ≤ s.top → Known (checks_walk s here at next cs).lines
      → k.nodes here next → All (checks_walk s here at next cs).lines
  checks-all here at next [] l f h = all-none
  checks-all here at next (c ∷ cs) l f h =
      let i = inside_check (numbered s.clauses c.0) next here in
      let one : Walked = branch_walk s i.here (suc at) i.next i.body c.1 in
      let u = check-rises (numbered s.clauses c.0) next here in
      let check_least : next ≤ i.next = u.least in
      let check_most : i.next ≤ next + room_of_clause (numbered s.clauses c.0) = u.most in
      let t = branch-rises s i.here (suc at) i.next i.body c.1 in
      let one_least : i.next ≤ one.next = t.least in
      let one_most : one.next ≤ i.next + room_at s.clauses c.1 = t.most in
      let end : (one.next + room_under s.clauses cs) ≤ s.top = omega (arith, l, check_most, one_most) in
      let own : Line = line at next here (of_check c.0 c.1) in
      let first_known : Known (own ∷ one.lines) = known-first (own ∷ one.lines) (checks_walk s here (at + (1 + lines_at c.1)) one.next cs).lines f in
      let rest_known : Known (checks_walk s here (at + (1 + lines_at c.1)) one.next cs).lines = known-rest (own ∷ one.lines) _ f in
      all-followed _ _
      (all-started own one.lines h
      (branch-all i.here (suc at) i.next i.body c.1 (omega (arith, l, check_most)) (known-below own one.lines first_known)
      (passes.into_check at next here c.0 c.1 (known-here own one.lines first_known) (omega (arith, l)) h)))
      (checks-all here (at + (1 + lines_at c.1)) one.next cs end rest_known
      (passes.later_nodes here next one.next (omega (arith, check_least, one_least)) (omega (arith, end)) h))

pub everywhere : (cs : List Clause) (qs : List Query) (c : Certificate) (F : Line → Type 0) (k : Claim) → Passes (setting cs c) F k
    → ((x : Line) → Contains (certificate_walk cs qs c).lines x → F x) → k.nodes (start (setting cs c).top) (setting cs c).free
    → (x : Line) → Contains (certificate_walk cs qs c).lines x → HoldsAt k x
everywhere cs qs c F k passes f h =
    let s : Setting = setting cs c in
    let first : Walked = nodes_walk s (start s.top) 1 s.free (query_dues (numbered qs c.query) c.terms) (listed c.trees) in
    let r = nodes-rise s (start s.top) 1 s.free (query_dues (numbered qs c.query) c.terms) (listed c.trees) in
    let least : s.free ≤ first.next = r.least in
    let most : first.next ≤ s.free + room_below cs (listed c.trees) = r.most in
    let end : (first.next + room_under cs c.checks) ≤ s.top = omega (arith, most) in
    (all-followed s F k passes first.lines _
    (nodes-all s F k passes (start s.top) 1 s.free (query_dues (numbered qs c.query) c.terms) (listed c.trees) (omega arith) (known-first s F k passes first.lines _ f) h)
    (checks-all s F k passes (start s.top) (1 + lines_below (listed c.trees)) first.next c.checks end (known-rest s F k passes first.lines _ f)
    (passes.later_nodes (start s.top) s.free first.next least (omega (arith, end)) h))).at
