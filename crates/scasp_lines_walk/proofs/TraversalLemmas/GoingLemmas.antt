-- The constraints that opened at the lines that are left go on from those that opened at the line before.
use Rattle.std.proofs.Common.{◌≡◌, ◌∙◌, ℕ, true, false, ◌+◌, ◌≤◌, List, [], ◌∷◌, ◌++◌, Some, length, min, take, refl, ap, sym, subst, arith}
use Rattle.std.proofs.lemmas.List.{append-nil, append_assoc, length-append, length-take, take-take, take_at, take_all}
use Rattle.scasp_syntax.specs.Programs.{numbered}
use Rattle.scasp_syntax.specs.declared.con.Con.{Con}
use Rattle.scasp_cert.specs.Trees.{Branch, Tree, Trees, branch, head, leaf, loop_tree, neg_tree, no_branch, no_tree, pos_tree, seen_tree, split, test_tree, tree, void}
use Rattle.scasp_lines.specs.Bodies.{Body, inside_check, inside_rule, split_body}
use Rattle.scasp_lines.specs.Contexts.{constraints_of, context}
use Rattle.scasp_lines.specs.Dues.{Due, head_dues, leaf_dues, rule_dues}
use Rattle.scasp_lines.specs.Opened.{Opened}
use Rattle.scasp_lines.specs.Places.{Place, below_literal, is_universal, start, within_case}
use Rattle.scasp_lines.specs.Sides.{shape_of, sides}
use Rattle.scasp_lines.specs.Surroundings.{Extends}
use Rattle.scasp_lines.specs.Walk.{Line as LineValue, Part, Setting, line, of_case, of_check, of_node, of_rule}
use Rattle.scasp_lines.proofs.SuffixLemmas.{check-extends, first-extends, rule-extends, second-extends}
use Rattle.scasp_lines_walk.specs.Traversal.Going.{Agree, GoesOn, IsReady, Nested, OnlyCasesOpen, opened_at, size_at}
use Rattle.scasp_lines_walk.specs.Traversal.Pending.{Begun, Pending, begun, below, checks, nodes, one_case, rules}
use Rattle.scasp_lines_walk.specs.Traversal.View.{kept_with, line_of, pending_of, stack_of, stacked_of}
use Rattle.scasp_lines_places.specs.Places.View.{all_opened}
use Rattle.scasp_lines_walk.specs.declared.traversal.cursor.Lines.{Lines}
use Rattle.scasp_lines_walk.specs.declared.traversal.parts.Line.{Line}
use Rattle.scasp_lines_walk.specs.declared.traversal.waiting.Stacked.{Stacked}
use Rattle.scasp_lines_walk.proofs.TraversalLemmas.PendingLemmas.{some-is}
use Rattle.scasp_lines_walk.proofs.TraversalLemmas.StackLemmas.{stack_push}

-- ---- lists that agree at their beginning

agree-self : (k : ℕ) (here : List Con) → k ≤ length here → Agree k here here
agree-self k here h = record { within = h; long = h; same = refl }

-- of what is cut off nothing is kept
take-within : (m k : ℕ) (now : List Con) → m ≤ length (take k now) → take m (take k now) ≡ take m now
take-within m k now h =
    let n : length (take k now) ≡ min k (length now) = length-take k now in
    take-take m k now (let e : m ≤ min k (length now) = subst (λ i. m ≤ i) n h in omega (arith, e))

-- what goes on from the beginning of a list goes on from it
nested-longer : (k : ℕ) (now : List Con) (ws : List (ℕ × Pending)) → Nested (take k now) ws → Nested now ws
nested-longer k now [] h = tt
nested-longer k now (w ∷ ws) h =
    let a = h.0 in
    let e = take-within w.0 k now a.within in
    let n : length (take k now) ≡ min k (length now) = length-take k now in
    let short : w.0 ≤ min k (length now) = subst (λ i. w.0 ≤ i) n a.within in
    (record { within = omega (arith, short); long = a.long; same = sym e ∙ a.same }, h.1, subst (λ xs. Nested xs ws) e h.2)

-- of entries that opened behind others, the constraints come behind theirs
context-behind : (more os : List Opened) → context [] (more ++ os) ≡ context [] os ++ context [] more
context-behind [] os = sym (append-nil (context [] os))
context-behind (o ∷ more) os = ap (λ cs. cs ++ constraints_of o) (context-behind more os) ∙ append_assoc (context [] os) (context [] more) (constraints_of o)

agree-behind : (os ps : List Opened) → Extends ps os → Agree (length (context [] os)) (context [] os) (context [] ps)
agree-behind os ps e =
    let here = context [] os in
    let is : context [] ps ≡ here ++ context [] e.more = ap (context []) e.is ∙ context-behind e.more os in
    let n : length (context [] ps) ≡ length here + length (context [] e.more) = ap length is ∙ length-append here (context [] e.more) in
    record {
      within = omega arith;
      long = omega (arith, n);
      same = take_all (length here) here (omega arith) ∙ sym (ap (take (length here)) is ∙ take_at here (context [] e.more) (length here) refl);
    }

-- ---- what waits below a line, and behind it

module _ (os : List Opened) where
  abbrev here : List Con
  here = context [] os

  -- parts at a place where no more opened
  abbrev Stays : Pending → Type 0
  Stays p = Agree (length here) here (opened_at p) × OnlyCasesOpen (length here) p

  nested-put : (p : Pending) (ws : List (ℕ × Pending)) → Stays p → Nested here ws → Nested here ((length here, p) ∷ ws)
  nested-put p ws h n = (h.0, h.1, subst (λ xs. Nested xs ws) (sym (take_all (length here) here (omega arith))) n)

nested-none : (size : ℕ) (now : List Con) (ws : List (ℕ × Pending)) → Nested now ws → Nested now (kept_with size [] ++ ws)
nested-none size now ws n = n

module _ (s : Setting) (at next : ℕ) (here : Place) (ws : List (ℕ × Pending)) where
  abbrev now : List Con
  now = context [] here.opened

  abbrev size : ℕ
  size = length now

  same : Agree size now now
  same = agree-self size now (omega arith)

  under-node : (t : Tree) (due : Due) → Nested now ws → Nested now (kept_with size (below s at next here (of_node due t)).waiting ++ ws)
  under-node (pos_tree a k ts children) due n =
      nested-put here.opened (nodes (below_literal at true a here) (rule_dues (numbered s.clauses k) here ts) children) ws (same, refl) n
  under-node (neg_tree a bs) due n = nested-put here.opened (rules (below_literal at false a here) a bs) ws (same, refl) n
  under-node (loop_tree lit to) due n = n
  under-node (seen_tree lit to) due n = n
  under-node (test_tree c hint) due n = n

  -- a case at a place where more may have opened
  put-case : (there : Place) (body : Body) (b : Branch) (vs : List (ℕ × Pending)) → Extends there.opened here.opened → Nested now vs
      → Nested now ((size, one_case there body b) ∷ vs)
  put-case there body b vs e n = nested-put here.opened (one_case there body b) vs (agree-behind here.opened there.opened e, tt) n

  under-case : (body : Body) (b : Branch) → Nested now ws → Nested now (kept_with size (below s at next here (of_case body b)).waiting ++ ws)
  under-case body (split c first second) n =
      let universal = is_universal s.free s.top here in
      let both = sides s.free s.top c here next in
      let behind = (size, one_case both.second (split_body body) second) ∷ ws in
      put-case both.first (split_body body) first behind (first-extends universal next here (shape_of next c) c)
      (put-case both.second (split_body body) second ws (second-extends universal next here (shape_of next c) c) n)
  under-case body (void hint) n = n
  under-case body (leaf k children) n = nested-put here.opened (nodes (within_case at body.bare here) (leaf_dues here body k) children) ws (same, refl) n
  under-case body (head children) n = nested-put here.opened (nodes (within_case at body.bare here) (head_dues here body) children) ws (same, refl) n

  pub under : (part : Part) → Nested now ws → Nested now (kept_with size (below s at next here part).waiting ++ ws)
  under (of_node due t) n = under-node t due n
  under (of_rule k a b) n =
      let i = inside_rule (numbered s.clauses k) a next here in
      put-case i.here i.body b ws (rule-extends (numbered s.clauses k) a next here) n
  under (of_check k b) n =
      let i = inside_check (numbered s.clauses k) next here in
      put-case i.here i.body b ws (check-extends (numbered s.clauses k) next here) n
  under (of_case body b) n = under-case body b n

-- What such parts begin with: at the same place, with so many constraints, and what is behind it waits as before.
record Begins (kept : ℕ) (p : Pending) (b : Begun) : Type 0 where
  opened : context [] b.here.opened ≡ opened_at p
  size : size_at kept b.part (context [] b.here.opened) ≡ length (opened_at p)
  behind : (ws : List (ℕ × Pending)) → Agree kept (opened_at p) (opened_at p) → Nested (take kept (opened_at p)) ws → Nested (opened_at p) (kept_with kept b.rest ++ ws)

begins : (kept : ℕ) (p : Pending) (b : Begun) → OnlyCasesOpen kept p → begun p ≡ Some b → Begins kept p b
begins kept (nodes here dues no_tree) b o e = cc
begins kept (nodes here dues (tree t ts)) b o e =
    subst (Begins kept (nodes here dues (tree t ts))) (some-is _ b e) (record { opened = refl; size = o; behind = λ ws a n. (a, o, n) })
begins kept (rules here a no_branch) b o e = cc
begins kept (rules here a (branch k c bs)) b o e =
    subst (Begins kept (rules here a (branch k c bs))) (some-is _ b e) (record { opened = refl; size = o; behind = λ ws g n. (g, o, n) })
begins kept (one_case here body c) b o e =
    subst (Begins kept (one_case here body c)) (some-is _ b e) (record { opened = refl; size = refl; behind = λ ws a n. nested-longer kept (context [] here.opened) ws n })
begins kept (checks here []) b o e = cc
begins kept (checks here (c ∷ cs)) b o e =
    subst (Begins kept (checks here (c ∷ cs))) (some-is _ b e) (record { opened = refl; size = o; behind = λ ws a n. (a, o, n) })

-- ---- the cursor

pub ready-first : (left : Lines) (top : ℕ) (dues : List Due) (ts : Trees) (cs : List (ℕ × Branch))
    → stack_of left.waiting.items ≡ (0, nodes (start top) dues ts) ∷ (0, checks (start top) cs) ∷ [] → IsReady [] left
ready-first left top dues ts cs e =
    let none : Agree 0 [] [] = record { within = omega arith; long = omega arith; same = refl } in
    record { nested = subst (Nested []) (sym e) (none, refl, (none, refl, tt)) }

-- what begins with nothing is passed over
pub ready-passed : (now : List Con) (l m : Lines) (w : Stacked) → l.waiting.items ≡ m.waiting.items ++ w ∷ [] → IsReady now l → IsReady now m
ready-passed now l m w e r =
    let n : Nested now (stacked_of w ∷ stack_of m.waiting.items) = subst (Nested now) (ap stack_of e ∙ stack_push m.waiting.items w) r.nested in
    record { nested = nested-longer w.kept now (stack_of m.waiting.items) n.2 }

-- a line comes that goes on from what opened before
pub goes-on : (now : List Con) (s : Setting) (at next : ℕ) (l m : Lines) (front : List Stacked) (w : Stacked) (b : Begun) (made : Line) → IsReady now l
    → l.waiting.items ≡ front ++ w ∷ [] → begun (pending_of w.parts) ≡ Some b → line_of made ≡ line at next b.here b.part → made.kept ≡ w.kept
    → made.size ≡ size_at w.kept b.part (context [] b.here.opened)
    → stack_of m.waiting.items ≡ kept_with made.size (below s at next b.here b.part).waiting ++ (kept_with w.kept b.rest ++ stack_of front)
    → GoesOn now made m
goes-on now s at next l m front w b made r e some is kept z k =
    let p = pending_of w.parts in
    let n : Nested now (stacked_of w ∷ stack_of front) = subst (Nested now) (ap stack_of e ∙ stack_push front w) r.nested in
    let a = n.0 in
    let h = begins w.kept p b n.1 some in
    let place = context [] b.here.opened in
    let there : context [] (all_opened made.here.opened) ≡ place = ap (λ (x : LineValue). context [] x.here.opened) is in
    let long : made.size ≡ length place = z ∙ h.size ∙ ap length (sym h.opened) in
    let behind = kept_with w.kept b.rest ++ stack_of front in
    let under-it = (below s at next b.here b.part).waiting in
    let rest : Nested (opened_at p) behind =
    h.behind (stack_of front) (agree-self w.kept (opened_at p) a.long) (subst (λ xs. Nested xs (stack_of front)) a.same n.2) in
    let all : Nested place (kept_with (length place) under-it ++ behind) =
    under s at next b.here behind b.part (subst (λ xs. Nested xs behind) (sym h.opened) rest) in
    let stacked : Nested place (stack_of m.waiting.items) =
    subst (Nested place) (sym (k ∙ ap (λ i. kept_with i under-it ++ behind) long)) all in
    record {
      agree = subst (λ i. Agree i now (context [] (all_opened made.here.opened))) (sym kept) (subst (Agree w.kept now) (sym (there ∙ h.opened)) a);
      size = long ∙ ap length (sym there);
      ready = record { nested = subst (λ xs. Nested xs (stack_of m.waiting.items)) (sym there) stacked };
    }
