-- Certificates without rows: their trees, and what opens on the way to their lines.
use Rattle.std.specs.Prelude.{ℕ, zero, suc, ◌+◌, nat_eq, Bool, true, false, ◌&&◌, if◌then◌else◌, Option, Some, None, List, [], ◌∷◌, length, take, drop, ⊤}
use Rattle.scasp_list.specs.Each.{Each}
use Rattle.scasp_list.proofs.EachLemmas.{Each-append}
use Rattle.scasp_cert.specs.Trees.{Tree, Trees, Branch, Branches, pos_tree, neg_tree, loop_tree, seen_tree, test_tree, no_tree, tree, split, void, leaf, head, no_branch, branch, listed, covering}
use Rattle.scasp_lines.specs.Bodies.{Body, inside_rule, inside_check, open_head, split_body}
use Rattle.scasp_lines.specs.Contexts.{constraints_of, context}
use Rattle.scasp_lines.specs.Covers.{Cover, cover_from, with_universal, with_universals}
use Rattle.scasp_lines.specs.Dues.{Due, first_due, other_dues, rule_dues, leaf_dues, head_dues}
use Rattle.scasp_lines.specs.Opened.{Opened, ranges, shaped, assumed}
use Rattle.scasp_lines.specs.Openings.{Opening, bound_to, open_number, open_term, open_terms, open_variable, unopened, with_clash, with_shape}
use Rattle.scasp_lines.specs.Places.{Place, below_literal, within_case}
use Rattle.scasp_lines.specs.Sides.{Shape, Sides, shape_of, shape_sides, sides, sides_by}
use Rattle.scasp_lines.specs.Walk.{Part, of_node, of_rule, of_check, of_case, Line, Setting, node_walk, nodes_walk, branch_walk, covers_walk, checks_walk}
use Rattle.scasp_cert.specs.Lines.{lines_of, lines_at}
use Rattle.scasp_num.specs.Number.{Number}
use Rattle.scasp_search_rules.specs.declared.states.lines.Line.{Line as Told}
use Rattle.scasp_search_rules.specs.declared.states.lines.Line.TheVariants as line
use Rattle.scasp_search_rules.specs.Successors.Trees.{Built, built, first_case, put}
use Rattle.scasp_syntax.specs.Programs.{numbered}
use Rattle.scasp_syntax.specs.Same.{same_number}
use Rattle.scasp_syntax.specs.Tm.{Tm, Tms, var, num, app, nil, cons, items}
use Rattle.scasp_syntax.specs.declared.atom.Atom.{Atom}
use Rattle.scasp_syntax.specs.declared.clause.Clause.{Clause}
use Rattle.scasp_syntax.specs.declared.con.Con.{Con}
use Rattle.scasp_syntax.specs.declared.con.Con.TheVariants as con
use Rattle.scasp_unify.specs.Negations.{new_parts}
use Rattle.scasp_law_no_circle.proofs.Tasks.{NoRow}
use Rattle.scasp_law_sorted.proofs.Assuming.{plain-negated}
use Rattle.scasp_law_sorted.proofs.Rowless.{LineRowless}

-- ---- trees

abbrev mutual
  pub TreeRowless : Tree → Type 0
  TreeRowless (pos_tree a k ts children) = TreesRowless children
  TreeRowless (neg_tree a covers) = BranchesRowless covers
  TreeRowless (loop_tree lit to) = ⊤
  TreeRowless (seen_tree lit to) = ⊤
  TreeRowless (test_tree c hint) = NoRow c

  pub TreesRowless : Trees → Type 0
  TreesRowless no_tree = ⊤
  TreesRowless (tree t ts) = TreeRowless t × TreesRowless ts

  pub BranchRowless : Branch → Type 0
  BranchRowless (split c a b) = NoRow c × BranchRowless a × BranchRowless b
  BranchRowless (void hint) = ⊤
  BranchRowless (leaf k ts) = TreesRowless ts
  BranchRowless (head ts) = TreesRowless ts

  pub BranchesRowless : Branches → Type 0
  BranchesRowless no_branch = ⊤
  BranchesRowless (branch k b bs) = BranchRowless b × BranchesRowless bs

abbrev CoveredRowless : (ℕ × Branch) → Type 0
CoveredRowless c = BranchRowless c.1

pub record BuiltRowless (b : Built) : Type 0 where
  pub nodes : Each TreeRowless b.nodes
  pub cases : Each BranchRowless b.cases
  pub covers : Each CoveredRowless b.covers
  pub checks : Each CoveredRowless b.checks

first-some : {A : Type 0} (P : A → Type 0) (n : ℕ) (xs : List A) → Each P xs → Each P (take n xs)
first-some P zero xs h = tt
first-some P (suc n) [] h = tt
first-some P (suc n) (x ∷ xs) h = (h.0, first-some P n xs h.1)

last-some : {A : Type 0} (P : A → Type 0) (n : ℕ) (xs : List A) → Each P xs → Each P (drop n xs)
last-some P zero xs h = h
last-some P (suc n) [] h = tt
last-some P (suc n) (x ∷ xs) h = last-some P n xs h.1

listed-rowless : (ts : List Tree) → Each TreeRowless ts → TreesRowless (listed ts)
listed-rowless [] h = tt
listed-rowless (t ∷ ts) h = (h.0, listed-rowless ts h.1)

covering-rowless : (cs : List (ℕ × Branch)) → Each CoveredRowless cs → BranchesRowless (covering cs)
covering-rowless [] h = tt
covering-rowless (c ∷ cs) h = (h.0, covering-rowless cs h.1)

first-rowless : (bs : List Branch) → Each BranchRowless bs → BranchRowless (first_case bs)
first-rowless [] h = tt
first-rowless (b ∷ bs) h = h.0

children-rowless : (n : ℕ) (b : Built) → BuiltRowless b → TreesRowless (listed (take n b.nodes))
children-rowless n b h = listed-rowless (take n b.nodes) (first-some TreeRowless n b.nodes h.nodes)

node-put : (t : Tree) (n : ℕ) (b : Built) → TreeRowless t → BuiltRowless b → BuiltRowless (record b { nodes = t ∷ drop n b.nodes })
node-put t n b k h = record { nodes = (k, last-some TreeRowless n b.nodes h.nodes); cases = h.cases; covers = h.covers; checks = h.checks }

case-put : (c : Branch) (n : ℕ) (b : Built) → BranchRowless c → BuiltRowless b → BuiltRowless (record b { cases = c ∷ drop n b.cases })
case-put c n b k h = record { nodes = h.nodes; cases = (k, last-some BranchRowless n b.cases h.cases); covers = h.covers; checks = h.checks }

without-nodes : (n : ℕ) (b : Built) → BuiltRowless b → BuiltRowless (record b { nodes = drop n b.nodes })
without-nodes n b h = record { nodes = last-some TreeRowless n b.nodes h.nodes; cases = h.cases; covers = h.covers; checks = h.checks }

put-rowless : (ats : List ℕ) (l : Told) (b : Built) → LineRowless l → BuiltRowless b → BuiltRowless (put ats l b)
put-rowless ats (line.Pos a k ts n) b r h = node-put (pos_tree a k ts (listed (take n b.nodes))) n b (children-rowless n b h) h
put-rowless ats (line.Neg a n) b r h =
    node-put (neg_tree a (covering (take n b.covers))) 0 (record b { covers = drop n b.covers }) (covering-rowless (take n b.covers) (first-some CoveredRowless n b.covers h.covers))
    (record { nodes = h.nodes; cases = h.cases; covers = last-some CoveredRowless n b.covers h.covers; checks = h.checks })
put-rowless ats (line.Loop l n) b r h = node-put _ 0 b tt h
put-rowless ats (line.Seen l n) b r h = node-put _ 0 b tt h
put-rowless ats (line.Test c) b r h = node-put _ 0 b r h
put-rowless ats (line.Rule a k first) b r h = record { nodes = h.nodes; cases = last-some BranchRowless 1 b.cases h.cases; covers = (first-rowless b.cases h.cases, h.covers); checks = h.checks }
put-rowless ats (line.Check k first) b r h = record { nodes = h.nodes; cases = last-some BranchRowless 1 b.cases h.cases; covers = h.covers; checks = (first-rowless b.cases h.cases, h.checks) }
put-rowless ats (line.Split c parts) b r h =
    case-put (split c (first_case b.cases) (first_case (drop 1 b.cases))) 2 b
    (r, first-rowless b.cases h.cases, first-rowless (drop 1 b.cases) (last-some BranchRowless 1 b.cases h.cases)) h
put-rowless ats line.Void b r h = case-put _ 0 b tt h
put-rowless ats (line.Leaf k) b r h = case-put (leaf k (listed (take k b.nodes))) 0 (record b { nodes = drop k b.nodes }) (children-rowless k b h) (without-nodes k b h)
put-rowless ats (line.Head n) b r h = case-put (head (listed (take n b.nodes))) 0 (record b { nodes = drop n b.nodes }) (children-rowless n b h) (without-nodes n b h)

pub built-rowless : (ats : List ℕ) (ls : List Told) → Each LineRowless ls → BuiltRowless (built ats ls)
built-rowless ats [] h = record { nodes = tt; cases = tt; covers = tt; checks = tt }
built-rowless ats (l ∷ ls) h = put-rowless ats l (built ats ls) h.0 (built-rowless ats ls h.1)

-- ---- what opens

abbrev pub OpenedRowless : Opened → Type 0
OpenedRowless (ranges x) = ⊤
OpenedRowless (shaped x f k n) = ⊤
OpenedRowless (assumed c) = NoRow c

abbrev pub OpensRowless : List Opened → Type 0
OpensRowless os = Each OpenedRowless os

variable-opens : (o : Option Tm) (x : ℕ) (l : Tm) (p : Opening) → OpensRowless p.opened → OpensRowless (open_variable o x l p).opened
variable-opens None x l p h = h
variable-opens (Some t) x l p h = (tt, h)

number-opens : (q : Number) (l : Tm) (p : Opening) → OpensRowless p.opened → OpensRowless (open_number q l p).opened
number-opens q (var y) p h = (tt, (tt, h))
number-opens q (app g ls) p h = (tt, h)
number-opens q (num r) p h = by (same_number r q)
  where
    by : (b : Bool) → OpensRowless (if b then p else with_clash p).opened
    by true = h
    by false = (tt, h)

mutual
  term-opens : (t l : Tm) (p : Opening) → OpensRowless p.opened → OpensRowless (open_term t l p).opened
  term-opens (var x) l p h = variable-opens (bound_to p.bound x) x l p h
  term-opens (num q) l p h = number-opens q l p h
  term-opens (app f hs) (var y) p h = terms-open hs (new_parts p.hidden (length (items hs))) (with_shape p y f (length (items hs))) (tt, h)
  term-opens (app f hs) (num q) p h = (tt, h)
  term-opens (app f hs) (app g ls) p h = by (nat_eq g f && nat_eq (length (items ls)) (length (items hs))) (terms-open hs ls p h)
    where
      by : (b : Bool) → OpensRowless (open_terms hs ls p).opened → OpensRowless (if b then open_terms hs ls p else with_clash p).opened
      by true k = k
      by false k = (tt, h)

  terms-open : (ts ls : Tms) (p : Opening) → OpensRowless p.opened → OpensRowless (open_terms ts ls p).opened
  terms-open nil ls p h = h
  terms-open (cons t ts) nil p h = h
  terms-open (cons t ts) (cons l ls) p h = terms-open ts ls (open_term t l p) (term-opens t l p h)

universal-opens : (o : Option Tm) (x : ℕ) (c : Cover) → OpensRowless c.opened → OpensRowless (with_universal o x c).opened
universal-opens None x c h = (tt, h)
universal-opens (Some t) x c h = h

universals-open : (n x : ℕ) (c : Cover) → OpensRowless c.opened → OpensRowless (with_universals n x c).opened
universals-open zero x c h = h
universals-open (suc n) x c h = universals-open n (suc x) (with_universal (bound_to c.bound x) x c) (universal-opens (bound_to c.bound x) x c h)

head-opens : (o : Option Atom) (a : Atom) (p : Opening) → OpensRowless p.opened → OpensRowless (open_head o a p).opened
head-opens None a p h = h
head-opens (Some b) a p h = terms-open b.args a.args p h

inside-opens : (c : Clause) (p : Opening) (next : ℕ) → OpensRowless p.opened → OpensRowless (with_universals c.vars 0 (cover_from next p)).opened
inside-opens c p next h = universals-open c.vars 0 (cover_from next p) h

rule-opens : (o : Option Clause) (a : Atom) (next : ℕ) (here : Place) → OpensRowless here.opened → OpensRowless (inside_rule o a next here).here.opened
rule-opens None a next here h = h
rule-opens (Some c) a next here h = inside-opens c (open_head c.head a (unopened here.opened here.hidden)) next (head-opens c.head a (unopened here.opened here.hidden) h)

check-opens : (o : Option Clause) (next : ℕ) (here : Place) → OpensRowless here.opened → OpensRowless (inside_check o next here).here.opened
check-opens None next here h = h
check-opens (Some c) next here h = inside-opens c (unopened here.opened here.hidden) next h

abbrev BothOpen : Sides → Type 0
BothOpen s = OpensRowless s.first.opened × OpensRowless s.second.opened

shapes-open : (universal : ℕ → Bool) (next : ℕ) (s : Shape) (c : Con) (here : Place) → OpensRowless here.opened → BothOpen (shape_sides universal next s c here)
shapes-open universal next s (con.Neq t u) here h = ((tt, h), (tt, h))
shapes-open universal next s (con.Eq t u) here h = ((tt, h), (tt, h))
shapes-open universal next s (con.NotShape x f n) here h = (h, h)
shapes-open universal next s (con.Num t) here h = (h, h)
shapes-open universal next s (con.NotNum t) here h = (h, h)
shapes-open universal next s (con.Row r) here h = (h, h)

sides-open : (universal : ℕ → Bool) (next : ℕ) (o : Option Shape) (c : Con) (here : Place) → NoRow c → OpensRowless here.opened → BothOpen (sides_by universal next o c here)
sides-open universal next (Some s) c here n h = shapes-open universal next s c here h
sides-open universal next None c here n h = ((n, h), (plain-negated here.hidden c n, h))

-- ---- lines

abbrev pub PartRowless : Part → Type 0
PartRowless (of_node due t) = TreeRowless t
PartRowless (of_rule k a b) = BranchRowless b
PartRowless (of_check k b) = BranchRowless b
PartRowless (of_case body b) = BranchRowless b

abbrev pub WalkRowless : Line → Type 0
WalkRowless l = OpensRowless l.here.opened × PartRowless l.part

mutual
  node-lines : (s : Setting) (here : Place) (at next : ℕ) (due : Due) (t : Tree) → OpensRowless here.opened → TreeRowless t → Each WalkRowless (node_walk s here at next due t).lines
  node-lines s here at next due (pos_tree a k ts children) h n =
      ((h, n), nodes-lines s (below_literal at true a here) (suc at) next (rule_dues (numbered s.clauses k) here ts) children h n)
  node-lines s here at next due (neg_tree a covers) h n = ((h, n), covers-lines s (below_literal at false a here) (suc at) next a covers h n)
  node-lines s here at next due (loop_tree lit to) h n = ((h, n), tt)
  node-lines s here at next due (seen_tree lit to) h n = ((h, n), tt)
  node-lines s here at next due (test_tree c hint) h n = ((h, n), tt)

  nodes-lines : (s : Setting) (here : Place) (at next : ℕ) (dues : List Due) (ts : Trees) → OpensRowless here.opened → TreesRowless ts → Each WalkRowless (nodes_walk s here at next dues ts).lines
  nodes-lines s here at next dues no_tree h n = tt
  nodes-lines s here at next dues (tree t ts) h n =
      Each-append WalkRowless (node_walk s here at next (first_due dues) t).lines _ (node-lines s here at next (first_due dues) t h n.0)
      (nodes-lines s here (at + lines_of t) (node_walk s here at next (first_due dues) t).next (other_dues dues) ts h n.1)

  branch-lines : (s : Setting) (here : Place) (at next : ℕ) (body : Body) (b : Branch) → OpensRowless here.opened → BranchRowless b → Each WalkRowless (branch_walk s here at next body b).lines
  branch-lines s here at next body (split c a b) h n =
      let both = sides s.free s.top c here next in
      let opens = sides-open _ next (shape_of next c) c here n.0 h in (
        (h, n),
        Each-append WalkRowless (branch_walk s both.first (suc at) both.next (split_body body) a).lines _ (branch-lines s both.first (suc at) both.next (split_body body) a opens.0 n.1)
            (branch-lines s both.second (suc at + lines_at a) (branch_walk s both.first (suc at) both.next (split_body body) a).next (split_body body) b opens.1 n.2),
      )
  branch-lines s here at next body (void hint) h n = ((h, n), tt)
  branch-lines s here at next body (leaf k children) h n = ((h, n), nodes-lines s (within_case at body.bare here) (suc at) next (leaf_dues here body k) children h n)
  branch-lines s here at next body (head children) h n = ((h, n), nodes-lines s (within_case at body.bare here) (suc at) next (head_dues here body) children h n)

  covers-lines : (s : Setting) (here : Place) (at next : ℕ) (a : Atom) (bs : Branches) → OpensRowless here.opened → BranchesRowless bs → Each WalkRowless (covers_walk s here at next a bs).lines
  covers-lines s here at next a no_branch h n = tt
  covers-lines s here at next a (branch k b bs) h n =
      let i = inside_rule (numbered s.clauses k) a next here in (
        (h, n.0),
        Each-append WalkRowless (branch_walk s i.here (suc at) i.next i.body b).lines _ (branch-lines s i.here (suc at) i.next i.body b (rule-opens (numbered s.clauses k) a next here h) n.0)
            (covers-lines s here (at + (1 + lines_at b)) (branch_walk s i.here (suc at) i.next i.body b).next a bs h n.1),
      )

pub checks-lines : (s : Setting) (here : Place) (at next : ℕ) (cs : List (ℕ × Branch)) → OpensRowless here.opened → Each (λ c. BranchRowless c.1) cs → Each WalkRowless (checks_walk s here at next cs).lines
checks-lines s here at next [] h n = tt
checks-lines s here at next (c ∷ cs) h n =
    let i = inside_check (numbered s.clauses c.0) next here in (
      (h, n.0),
      Each-append WalkRowless (branch_walk s i.here (suc at) i.next i.body c.1).lines _ (branch-lines s i.here (suc at) i.next i.body c.1 (check-opens (numbered s.clauses c.0) next here h) n.0)
          (checks-lines s here (at + (1 + lines_at c.1)) (branch_walk s i.here (suc at) i.next i.body c.1).next cs h n.1),
    )

pub query-lines : (s : Setting) (here : Place) (at next : ℕ) (dues : List Due) (ts : List Tree) → OpensRowless here.opened → Each TreeRowless ts → Each WalkRowless (nodes_walk s here at next dues (listed ts)).lines
query-lines s here at next dues ts h n = nodes-lines s here at next dues (listed ts) h (listed-rowless ts n)

-- ---- contexts

brings : (o : Opened) → OpenedRowless o → Each NoRow (constraints_of o)
brings (ranges x) h = tt
brings (shaped x f k n) h = (tt, tt)
brings (assumed c) h = (h, tt)

pub context-plain : (given : List Con) → Each NoRow given → (os : List Opened) → OpensRowless os → Each NoRow (context given os)
context-plain given g [] h = g
context-plain given g (o ∷ os) h = Each-append NoRow (context given os) (constraints_of o) (context-plain given g os h.1) (brings o h.0)
