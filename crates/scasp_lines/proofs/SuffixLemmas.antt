-- What opened at a line of a walk is what had opened at the walk's start, and more in front.
use Rattle.std.proofs.Common.{◌≡◌, ◌∙◌, ℕ, zero, suc, ◌+◌, Bool, List, [], ◌∷◌, ◌++◌, append_assoc, length, Option, None, Some, refl, ap, sym, subst, inl, inr}
use Rattle.std.specs.Prelude.{◌&&◌, nat_eq}
use Rattle.std.specs.List.{Contains}
use Rattle.std.proofs.lemmas.Bool.{cond_both}
use Rattle.std.proofs.lemmas.List.Elements.{Contains-append_cases}
use Rattle.scasp_syntax.specs.Programs.{numbered}
use Rattle.scasp_syntax.specs.Same.{same_number}
use Rattle.scasp_syntax.specs.Tm.{Tm, Tms, var, num, app, nil, cons, items}
use Rattle.scasp_syntax.specs.Values.{Sub}
use Rattle.scasp_syntax.specs.declared.atom.Atom.{Atom}
use Rattle.scasp_syntax.specs.declared.clause.Clause.{Clause}
use Rattle.scasp_syntax.specs.declared.con.Con.{Con}
use Rattle.scasp_syntax.specs.declared.con.Con.TheVariants as con
use Rattle.scasp_cert.specs.Lines.{lines_of, lines_at}
use Rattle.scasp_cert.specs.Trees.{Tree, Trees, Branch, Branches, pos_tree, neg_tree, loop_tree, seen_tree, test_tree, no_tree, tree, split, void, leaf, head, no_branch, branch}
use Rattle.scasp_lines.specs.Opened.{Opened, IsInstance}
use Rattle.scasp_unify.specs.Negations.{new_parts}
use Rattle.scasp_lines.specs.Surroundings.{Extends}
use Rattle.scasp_lines.specs.Openings.{Opening, bound_to, with_shape, with_clash, open_variable, open_term, open_terms, unopened}
use Rattle.scasp_lines.specs.Covers.{Cover, with_universal, with_universals, cover_from}
use Rattle.scasp_lines.specs.Places.{Place}
use Rattle.scasp_lines.specs.Bodies.{Body, split_body, inside_rule, inside_check, open_head}
use Rattle.scasp_lines.specs.Dues.{Due, first_due, other_dues}
use Rattle.scasp_lines.specs.Walk.{Part, of_node, of_rule, of_check, of_case, Line, Setting, node_walk, nodes_walk, branch_walk, covers_walk, part_walk}
use Rattle.scasp_lines.specs.Sides.{Shape, shape_of, sides_by, sides}
use Rattle.scasp_lines.specs.Lines.{walk_of}
use Rattle.scasp_list.proofs.MemberLemmas.{Contains-none, Contains-cases}
use Rattle.scasp_lines.proofs.WaysLemmas.{instance-before}

pub extends-same : (os : List Opened) → Extends os os
extends-same os = record { more = []; is = refl }

pub extends-one : (o : Opened) (os ps : List Opened) → Extends os ps → Extends (o ∷ os) ps
extends-one o os ps e = record { more = o ∷ e.more; is = ap (λ (ks : List Opened). o ∷ ks) e.is }

pub extends-then : (os ps qs : List Opened) → Extends os ps → Extends ps qs → Extends os qs
extends-then os ps qs e f = record { more = e.more ++ f.more; is = e.is ∙ ap (λ ks. e.more ++ ks) f.is ∙ sym (append_assoc e.more f.more qs) }

-- ---- openings and covers

mutual
  term-extends : (h l : Tm) (o : Opening) → Extends (open_term h l o).opened o.opened
  term-extends (var x) l o = by (bound_to o.bound x)
    where
      by : (t : Option Tm) → Extends (open_variable t x l o).opened o.opened
      by None = extends-same o.opened
      by (Some t) = extends-one _ _ _ (extends-same o.opened)
  term-extends (num q) (var y) o = extends-one _ _ _ (extends-one _ _ _ (extends-same o.opened))
  term-extends (num q) (num r) o =
      cond_both (same_number r q) o (with_clash o) (λ p. Extends p.opened o.opened) (λ _. extends-same o.opened) (λ _. extends-one _ _ _ (extends-same o.opened))
  term-extends (num q) (app g ls) o = extends-one _ _ _ (extends-same o.opened)
  term-extends (app f hs) (var y) o =
      extends-then _ _ _ (terms-extend hs (new_parts o.hidden (length (items hs))) (with_shape o y f (length (items hs)))) (extends-one _ _ _ (extends-same o.opened))
  term-extends (app f hs) (num q) o = extends-one _ _ _ (extends-same o.opened)
  term-extends (app f hs) (app g ls) o =
      cond_both (nat_eq g f && nat_eq (length (items ls)) (length (items hs))) (open_terms hs ls o) (with_clash o) (λ p. Extends p.opened o.opened)
      (λ _. terms-extend hs ls o) (λ _. extends-one _ _ _ (extends-same o.opened))

  terms-extend : (hs ls : Tms) (o : Opening) → Extends (open_terms hs ls o).opened o.opened
  terms-extend nil ls o = extends-same o.opened
  terms-extend (cons h hs) nil o = extends-same o.opened
  terms-extend (cons h hs) (cons l ls) o = extends-then _ _ _ (terms-extend hs ls (open_term h l o)) (term-extends h l o)

universals-extend : (n x : ℕ) (c : Cover) → Extends (with_universals n x c).opened c.opened
universals-extend zero x c = extends-same c.opened
universals-extend (suc n) x c = extends-then _ _ _ (universals-extend n (suc x) (with_universal (bound_to c.bound x) x c)) (by (bound_to c.bound x))
  where
    by : (o : Option Tm) → Extends (with_universal o x c).opened c.opened
    by None = extends-one _ _ _ (extends-same c.opened)
    by (Some t) = extends-same c.opened

pub rule-extends : (c : Option Clause) (a : Atom) (next : ℕ) (here : Place) → Extends (inside_rule c a next here).here.opened here.opened
rule-extends None a next here = extends-same here.opened
rule-extends (Some c) a next here =
    extends-then _ _ _ (universals-extend c.vars 0 (cover_from next (open_head c.head a (unopened here.opened here.hidden)))) (by c.head)
  where
    by : (h : Option Atom) → Extends (open_head h a (unopened here.opened here.hidden)).opened here.opened
    by None = extends-same here.opened
    by (Some h) = terms-extend h.args a.args (unopened here.opened here.hidden)

pub check-extends : (c : Option Clause) (next : ℕ) (here : Place) → Extends (inside_check c next here).here.opened here.opened
check-extends None next here = extends-same here.opened
check-extends (Some c) next here = universals-extend c.vars 0 (cover_from next (unopened here.opened here.hidden))

-- ---- sides

module _ (universal : ℕ → Bool) (next : ℕ) (here : Place) where
  pub first-extends : (s : Option Shape) (c : Con) → Extends (sides_by universal next s c here).first.opened here.opened
  first-extends None c = extends-one _ _ _ (extends-same here.opened)
  first-extends (Some s) (con.Eq t u) = extends-one _ _ _ (extends-same here.opened)
  first-extends (Some s) (con.Neq t u) = extends-one _ _ _ (extends-same here.opened)
  first-extends (Some s) (con.NotShape x f n) = extends-same here.opened
  first-extends (Some s) (con.Num t) = extends-same here.opened
  first-extends (Some s) (con.NotNum t) = extends-same here.opened
  first-extends (Some s) (con.Row r) = extends-same here.opened

  pub second-extends : (s : Option Shape) (c : Con) → Extends (sides_by universal next s c here).second.opened here.opened
  second-extends None c = extends-one _ _ _ (extends-same here.opened)
  second-extends (Some s) (con.Eq t u) = extends-one _ _ _ (extends-same here.opened)
  second-extends (Some s) (con.Neq t u) = extends-one _ _ _ (extends-same here.opened)
  second-extends (Some s) (con.NotShape x f n) = extends-same here.opened
  second-extends (Some s) (con.Num t) = extends-same here.opened
  second-extends (Some s) (con.NotNum t) = extends-same here.opened
  second-extends (Some s) (con.Row r) = extends-same here.opened

-- ---- lines

-- at each of the lines these entries opened first
pub record Deeper (os : List Opened) (ls : List Line) : Type 0 where
  pub extends : (x : Line) → Contains ls x → Extends x.here.opened os

deeper-none : (os : List Opened) → Deeper os []
deeper-none os = record { extends = λ x h. absurd (Contains-none x h) }

deeper-started : (os : List Opened) (l : Line) (ls : List Line) → l.here.opened ≡ os → Deeper os ls → Deeper os (l ∷ ls)
deeper-started os l ls e d =
    record {
      extends = λ x h. elim (Contains-cases l ls x h) [
        | inl i ↦ record { more = []; is = ap (λ (y : Line). y.here.opened) (sym i) ∙ e }
        | inr i ↦ d.extends x i
      ];
    }

deeper-followed : (os : List Opened) (xs ys : List Line) → Deeper os xs → Deeper os ys → Deeper os (xs ++ ys)
deeper-followed os xs ys d e =
    record { extends = λ x h. elim (Contains-append_cases xs ys x h) [ inl i ↦ d.extends x i | inr i ↦ e.extends x i ] }

deeper-wider : (os ps : List Opened) (ls : List Line) → Extends os ps → Deeper os ls → Deeper ps ls
deeper-wider os ps ls e d = record { extends = λ x h. extends-then x.here.opened os ps (d.extends x h) e }

module _ (s : Setting) where
  mutual
    node-deeper : (here : Place) (at next : ℕ) (due : Due) (t : Tree) → Deeper here.opened (node_walk s here at next due t).lines
    node-deeper here at next due (pos_tree a k ts children) = deeper-started _ _ _ refl (nodes-deeper _ (suc at) next _ children)
    node-deeper here at next due (neg_tree a covers) = deeper-started _ _ _ refl (covers-deeper _ (suc at) next a covers)
    node-deeper here at next due (loop_tree lit to) = deeper-started _ _ _ refl (deeper-none here.opened)
    node-deeper here at next due (seen_tree lit to) = deeper-started _ _ _ refl (deeper-none here.opened)
    node-deeper here at next due (test_tree c hint) = deeper-started _ _ _ refl (deeper-none here.opened)

    nodes-deeper : (here : Place) (at next : ℕ) (dues : List Due) (ts : Trees) → Deeper here.opened (nodes_walk s here at next dues ts).lines
    nodes-deeper here at next dues no_tree = deeper-none here.opened
    nodes-deeper here at next dues (tree t ts) =
        deeper-followed _ _ _ (node-deeper here at next (first_due dues) t) (nodes-deeper here (at + lines_of t) _ (other_dues dues) ts)

    branch-deeper : (here : Place) (at next : ℕ) (body : Body) (b : Branch) → Deeper here.opened (branch_walk s here at next body b).lines
    branch-deeper here at next body (split c first second) =
        let both = sides s.free s.top c here next in
        deeper-started _ _ _ refl
        (deeper-followed _ _ _
        (deeper-wider _ _ _ (first-extends _ next here (shape_of next c) c) (branch-deeper both.first (suc at) both.next (split_body body) first))
        (deeper-wider _ _ _ (second-extends _ next here (shape_of next c) c) (branch-deeper both.second (suc at + lines_at first) _ (split_body body) second)))
    branch-deeper here at next body (void hint) = deeper-started _ _ _ refl (deeper-none here.opened)
    branch-deeper here at next body (leaf k children) = deeper-started _ _ _ refl (nodes-deeper _ (suc at) next _ children)
    branch-deeper here at next body (head children) = deeper-started _ _ _ refl (nodes-deeper _ (suc at) next _ children)

    covers-deeper : (here : Place) (at next : ℕ) (a : Atom) (bs : Branches) → Deeper here.opened (covers_walk s here at next a bs).lines
    covers-deeper here at next a no_branch = deeper-none here.opened
    covers-deeper here at next a (branch k b bs) =
        let i = inside_rule (numbered s.clauses k) a next here in
        deeper-followed _ _ _
        (deeper-started _ _ _ refl (deeper-wider _ _ _ (rule-extends (numbered s.clauses k) a next here) (branch-deeper i.here (suc at) i.next i.body b)))
        (covers-deeper here (at + (1 + lines_at b)) _ a bs)

  pub line-deeper : (l : Line) → Deeper l.here.opened (walk_of s l)
  line-deeper l = by l.part
    where
      by : (part : Part) → Deeper l.here.opened (part_walk s l.here l.at l.next part).lines
      by (of_node due t) = node-deeper l.here l.at l.next due t
      by (of_rule k a b) =
          let i = inside_rule (numbered s.clauses k) a l.next l.here in
          deeper-started _ _ _ refl (deeper-wider _ _ _ (rule-extends (numbered s.clauses k) a l.next l.here) (branch-deeper i.here (suc l.at) i.next i.body b))
      by (of_check k b) =
          let i = inside_check (numbered s.clauses k) l.next l.here in
          deeper-started _ _ _ refl (deeper-wider _ _ _ (check-extends (numbered s.clauses k) l.next l.here) (branch-deeper i.here (suc l.at) i.next i.body b))
      by (of_case body b) = branch-deeper l.here l.at l.next body b

  pub instance-above : (n : ℕ) (d : List Tm) (free v : Sub) (l x : Line) → Contains (walk_of s l) x → IsInstance n d free x.here.opened v → IsInstance n d free l.here.opened v
  instance-above n d free v l x h i =
      let e = (line-deeper l).extends x h in
      instance-before n d free e.more l.here.opened v (subst (λ (os : List Opened). IsInstance n d free os v) e.is i)
