-- The lines of what waits begin with the first line, then come those of what stands right below it, then those of the rest.
use Rattle.std.proofs.Common.{◌≡◌, ◌∙◌, ℕ, suc, ◌+◌, List, [], ◌∷◌, ◌++◌, None, Some, refl, ap, sym, subst, arith}
use Rattle.std.proofs.lemmas.List.{append-nil, append_assoc}
use Rattle.scasp_cert.specs.Lines.{lines_of, lines_at}
use Rattle.scasp_cert.specs.Trees.{Tree, pos_tree, neg_tree, loop_tree, seen_tree, test_tree, Branch, split, void, leaf, head, no_tree, tree, no_branch, branch}
use Rattle.scasp_lines.specs.Bodies.{Body, split_body}
use Rattle.scasp_lines.specs.Dues.{Due, first_due, other_dues}
use Rattle.scasp_lines.specs.Numbering.{lines_of_part}
use Rattle.scasp_lines.specs.Places.{Place}
use Rattle.scasp_lines.specs.Sides.{sides}
use Rattle.scasp_lines.specs.Walk.{Part, of_node, of_rule, of_check, of_case, Setting, Walked, line, stopped, started, followed, node_walk, nodes_walk, branch_walk, covers_walk, rule_walk, check_walk, checks_walk, part_walk}
use Rattle.scasp_lines_walk.specs.Traversal.Pending.{Pending, nodes, rules, one_case, checks, pending_walk, pending_lines, all_walk, Begun, begun, below}

-- how many lines all of it takes
abbrev all_lines : List Pending → ℕ
all_lines [] = 0
all_lines (p ∷ ps) = pending_lines p + all_lines ps

-- ---- walks one after the other

followed-stopped : (x : Walked) → followed x (stopped x.next) ≡ x
followed-stopped x = let e = append-nil x.lines in λ i. record { lines = e i; next = x.next }

followed-assoc : (x y z : Walked) → followed (followed x y) z ≡ followed x (followed y z)
followed-assoc x y z = let e = append_assoc x.lines y.lines z.lines in λ i. record { lines = e i; next = z.next }

pub some-is : {A : Type 0} (x y : A) → Some x ≡ Some y → x ≡ y
some-is x y e = cc

module _ (s : Setting) where
  all-append : (at next : ℕ) (ps qs : List Pending)
      → all_walk s at next (ps ++ qs) ≡ followed (all_walk s at next ps) (all_walk s (at + all_lines ps) (all_walk s at next ps).next qs)
  all-append at next [] qs = let e : at ≡ at + 0 = omega arith in ap (λ m. all_walk s m next qs) e
  all-append at next (p ∷ ps) qs =
      let first = pending_walk s at next p in
      let rest = all_walk s (at + pending_lines p) first.next ps in
      let e : (at + pending_lines p) + all_lines ps ≡ at + (pending_lines p + all_lines ps) = omega arith in
      ap (followed first) (all-append (at + pending_lines p) first.next ps qs)
      ∙ sym (followed-assoc first rest (all_walk s ((at + pending_lines p) + all_lines ps) rest.next qs))
      ∙ ap (λ m. followed (followed first rest) (all_walk s m rest.next qs)) e

  -- ---- a line, and what stands right below it

  -- the lines of this part begin with it, then come those of what waits, which take one line less
  record Enters (at next : ℕ) (here : Place) (part : Part) : Type 0 where
    walk : part_walk s here at next part
        ≡ started (line at next here part) (all_walk s (suc at) (below s at next here part).next (below s at next here part).waiting)
    long : lines_of_part part ≡ suc (all_lines (below s at next here part).waiting)

  enters-one : (at next : ℕ) (here : Place) (part : Part) (p : Pending) → (below s at next here part).waiting ≡ p ∷ []
      → part_walk s here at next part ≡ started (line at next here part) (pending_walk s (suc at) (below s at next here part).next p)
      → lines_of_part part ≡ suc (pending_lines p) → Enters at next here part
  enters-one at next here part p e w n =
      let further = (below s at next here part).next in
      record {
        walk = w ∙ ap (started (line at next here part)) (sym (followed-stopped (pending_walk s (suc at) further p))) ∙ ap (λ ps. started (line at next here part) (all_walk s (suc at) further ps)) (sym e);
        long = n ∙ (let m : suc (pending_lines p) ≡ suc (pending_lines p + 0) = omega arith in m) ∙ ap (λ ps. suc (all_lines ps)) (sym e);
      }

  enters-node : (at next : ℕ) (here : Place) (due : Due) (t : Tree) → Enters at next here (of_node due t)
  enters-node at next here due (pos_tree a k ts children) = enters-one at next here _ _ refl refl (omega arith)
  enters-node at next here due (neg_tree a bs) = enters-one at next here _ _ refl refl (omega arith)
  enters-node at next here due (loop_tree lit to) = record { walk = refl; long = refl }
  enters-node at next here due (seen_tree lit to) = record { walk = refl; long = refl }
  enters-node at next here due (test_tree c hint) = record { walk = refl; long = refl }

  enters-case : (at next : ℕ) (here : Place) (body : Body) (b : Branch) → Enters at next here (of_case body b)
  enters-case at next here body (split c first second) =
      let both = sides s.free s.top c here next in
      let one = branch_walk s both.first (suc at) both.next (split_body body) first in
      let other = branch_walk s both.second (suc at + lines_at first) one.next (split_body body) second in
      record {
        walk = ap (λ (x : Walked). started (line at next here (of_case body (split c first second))) (followed one x)) (sym (followed-stopped other));
        long = omega arith;
      }
  enters-case at next here body (void hint) = record { walk = refl; long = refl }
  enters-case at next here body (leaf k children) = enters-one at next here _ _ refl refl (omega arith)
  enters-case at next here body (head children) = enters-one at next here _ _ refl refl (omega arith)

  enters : (at next : ℕ) (here : Place) (part : Part) → Enters at next here part
  enters at next here (of_node due t) = enters-node at next here due t
  enters at next here (of_rule k a b) = enters-one at next here _ _ refl refl (omega arith)
  enters at next here (of_check k b) = enters-one at next here _ _ refl refl (omega arith)
  enters at next here (of_case body b) = enters-case at next here body b

  -- ---- what parts begin with

  -- the lines of these parts are those of the first, and then those of the rest
  record Begins (at next : ℕ) (p : Pending) (b : Begun) : Type 0 where
    walk : pending_walk s at next p
        ≡ followed (part_walk s b.here at next b.part) (all_walk s (at + lines_of_part b.part) (part_walk s b.here at next b.part).next b.rest)
    long : pending_lines p ≡ lines_of_part b.part + all_lines b.rest

  begins : (at next : ℕ) (p : Pending) (b : Begun) → begun p ≡ Some b → Begins at next p b
  begins at next (nodes here dues no_tree) b e = cc
  begins at next (nodes here dues (tree t ts)) b e =
      let first = node_walk s here at next (first_due dues) t in
      let rest = nodes_walk s here (at + lines_of t) first.next (other_dues dues) ts in
      subst (Begins at next (nodes here dues (tree t ts))) (some-is _ b e) (record { walk = ap (followed first) (sym (followed-stopped rest)); long = omega arith })
  begins at next (rules here a no_branch) b e = cc
  begins at next (rules here a (branch k c bs)) b e =
      let first = rule_walk s here at next k a c in
      let rest = covers_walk s here (at + (1 + lines_at c)) first.next a bs in
      subst (Begins at next (rules here a (branch k c bs))) (some-is _ b e) (record { walk = ap (followed first) (sym (followed-stopped rest)); long = omega arith })
  begins at next (one_case here body c) b e =
      subst (Begins at next (one_case here body c)) (some-is _ b e) (record { walk = sym (followed-stopped (branch_walk s here at next body c)); long = omega arith })
  begins at next (checks here []) b e = cc
  begins at next (checks here (c ∷ cs)) b e =
      let first = check_walk s here at next c.0 c.1 in
      let rest = checks_walk s here (at + (1 + lines_at c.1)) first.next cs in
      subst (Begins at next (checks here (c ∷ cs))) (some-is _ b e) (record { walk = ap (followed first) (sym (followed-stopped rest)); long = omega arith })

  -- where the first of what waits has no part, the others have all lines
  pub begun-none : (at next : ℕ) (p : Pending) (ps : List Pending) → begun p ≡ None → all_walk s at next (p ∷ ps) ≡ all_walk s at next ps
  begun-none at next (nodes here dues no_tree) ps e = ap (λ m. all_walk s m next ps) (let h : at + 0 ≡ at = omega arith in h)
  begun-none at next (nodes here dues (tree t ts)) ps e = cc
  begun-none at next (rules here a no_branch) ps e = ap (λ m. all_walk s m next ps) (let h : at + 0 ≡ at = omega arith in h)
  begun-none at next (rules here a (branch k c bs)) ps e = cc
  begun-none at next (one_case here body c) ps e = cc
  begun-none at next (checks here []) ps e = ap (λ m. all_walk s m next ps) (let h : at + 0 ≡ at = omega arith in h)
  begun-none at next (checks here (c ∷ cs)) ps e = cc

  -- the lines of what waits are the first line, then those of what stands right below it, of the rest of the first, and of the others
  pub begun-some : (at next : ℕ) (p : Pending) (ps : List Pending) (b : Begun) → begun p ≡ Some b
      → (all_walk s at next (p ∷ ps)).lines
      ≡ line at next b.here b.part
      ∷ (all_walk s (suc at) (below s at next b.here b.part).next ((below s at next b.here b.part).waiting ++ (b.rest ++ ps))).lines
  begun-some at next p ps b e =
      let h = begins at next p b e in
      let k = enters at next b.here b.part in
      let n = lines_of_part b.part in
      let l = line at next b.here b.part in
      let first = part_walk s b.here at next b.part in
      let rest = all_walk s (at + n) first.next b.rest in
      let ws = (below s at next b.here b.part).waiting in
      let further = (below s at next b.here b.part).next in
      let under = all_walk s (suc at) further ws in
      let far : at + pending_lines p ≡ (at + n) + all_lines b.rest = ap (λ m. at + m) h.long ∙ omega arith in
      let near : at + n ≡ suc at + all_lines ws = ap (λ m. at + m) k.long ∙ omega arith in
      let whole : all_walk s at next (p ∷ ps) ≡ followed first (all_walk s (at + n) first.next (b.rest ++ ps)) =
      ap (λ x. followed x (all_walk s (at + pending_lines p) x.next ps)) h.walk
      ∙ ap (λ m. followed (followed first rest) (all_walk s m rest.next ps)) far
      ∙ followed-assoc first rest (all_walk s ((at + n) + all_lines b.rest) rest.next ps)
      ∙ ap (followed first) (sym (all-append (at + n) first.next b.rest ps)) in
      let parted : all_walk s at next (p ∷ ps) ≡ started l (all_walk s (suc at) further (ws ++ (b.rest ++ ps))) =
      whole
      ∙ ap (λ x. followed x (all_walk s (at + n) x.next (b.rest ++ ps))) k.walk
      ∙ ap (λ m. started l (followed under (all_walk s m under.next (b.rest ++ ps)))) near
      ∙ ap (started l) (sym (all-append (suc at) further ws (b.rest ++ ps))) in
      ap (λ (x : Walked). x.lines) parted
