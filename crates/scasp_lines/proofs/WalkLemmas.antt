-- The lines of a walk are numbered without a gap, and each is found by its number.
use Rattle.std.proofs.Common.{◌≡◌, ◌∙◌, ℕ, zero, suc, ◌+◌, List, [], ◌∷◌, ◌++◌, length, length-append, Some, refl, ap, sym, subst, inl, inr, arith}
use Rattle.std.specs.List.{Contains}
use Rattle.std.specs.Prelude.{slice_get}
use Rattle.scasp_syntax.specs.Programs.{numbered}
use Rattle.scasp_syntax.specs.declared.atom.Atom.{Atom}
use Rattle.scasp_syntax.specs.declared.clause.Clause.{Clause}
use Rattle.scasp_syntax.specs.declared.clause.Query.{Query}
use Rattle.scasp_cert.specs.Certificate.{Certificate}
use Rattle.scasp_cert.specs.Lines.{lines_of, lines_below, lines_at, lines_in, lines_under, all_lines}
use Rattle.scasp_cert.specs.Trees.{Tree, Trees, Branch, Branches, pos_tree, neg_tree, loop_tree, seen_tree, test_tree, no_tree, tree, split, void, leaf, head, no_branch, branch, listed}
use Rattle.scasp_lines.specs.Places.{Place, start}
use Rattle.scasp_lines.specs.Bodies.{Body, split_body}
use Rattle.scasp_lines.specs.Dues.{Due, first_due, other_dues, query_dues}
use Rattle.scasp_lines.specs.Walk.{Part, of_node, of_rule, of_check, of_case, Line, Setting, node_walk, nodes_walk, branch_walk, covers_walk, rule_walk, check_walk, checks_walk, part_walk}
use Rattle.scasp_lines.specs.Lines.{setting, certificate_walk, walk_of}
use Rattle.scasp_lines.specs.Numbering.{lines_of_part, Counts}
use Rattle.scasp_list.proofs.MemberLemmas.{Contains-none, Contains-cases}

-- ---- numbers

-- so many lines, numbered from n on
pub record Runs (n count : ℕ) (ls : List Line) : Type 0 where
  pub counts : Counts n ls
  pub long : length ls ≡ count

runs-one : (n : ℕ) (l : Line) → l.at ≡ n → Runs n 1 (l ∷ [])
runs-one n l e = record { counts = (e, tt); long = refl }

runs-started : (n count : ℕ) (l : Line) (ls : List Line) → l.at ≡ n → Runs (suc n) count ls → Runs n (1 + count) (l ∷ ls)
runs-started n count l ls e r = record { counts = (e, r.counts); long = (let q = r.long in omega (arith, q)) }

counts-append : (n : ℕ) (xs ys : List Line) → Counts n xs → Counts (n + length xs) ys → Counts n (xs ++ ys)
counts-append n [] ys p q = (let e : n + 0 ≡ n = omega arith in subst (λ (m : ℕ). Counts m ys) e q)
counts-append n (x ∷ xs) ys p q =
    (p.0, counts-append (suc n) xs ys p.1 (let e : n + suc (length xs) ≡ suc n + length xs = omega arith in subst (λ (m : ℕ). Counts m ys) e q))

runs-followed : (n a b : ℕ) (xs ys : List Line) → Runs n a xs → Runs (n + a) b ys → Runs n (a + b) (xs ++ ys)
runs-followed n a b xs ys p q =
    record {
      counts = counts-append n xs ys p.counts (subst (λ (m : ℕ). Counts (n + m) ys) (sym p.long) q.counts);
      long = length-append xs ys ∙ ap (λ m. m + length ys) p.long ∙ ap (λ m. a + m) q.long;
    }

module _ (s : Setting) where
  mutual
    pub node-runs : (here : Place) (at next : ℕ) (due : Due) (t : Tree) → Runs at (lines_of t) (node_walk s here at next due t).lines
    node-runs here at next due (pos_tree a k ts children) =
        runs-started at (lines_below children) _ _ refl (nodes-runs _ (suc at) next _ children)
    node-runs here at next due (neg_tree a covers) =
        runs-started at (lines_in covers) _ _ refl (covers-runs _ (suc at) next a covers)
    node-runs here at next due (loop_tree lit to) = runs-one at _ refl
    node-runs here at next due (seen_tree lit to) = runs-one at _ refl
    node-runs here at next due (test_tree c hint) = runs-one at _ refl

    pub nodes-runs : (here : Place) (at next : ℕ) (dues : List Due) (ts : Trees) → Runs at (lines_below ts) (nodes_walk s here at next dues ts).lines
    nodes-runs here at next dues no_tree = record { counts = tt; long = refl }
    nodes-runs here at next dues (tree t ts) =
        runs-followed at (lines_of t) (lines_below ts) _ _ (node-runs here at next (first_due dues) t)
        (nodes-runs here (at + lines_of t) _ (other_dues dues) ts)

    pub branch-runs : (here : Place) (at next : ℕ) (body : Body) (b : Branch) → Runs at (lines_at b) (branch_walk s here at next body b).lines
    branch-runs here at next body (split c first second) =
        runs-started at (lines_at first + lines_at second) _ _ refl
        (runs-followed (suc at) (lines_at first) (lines_at second) _ _ (branch-runs _ (suc at) _ (split_body body) first)
        (branch-runs _ (suc at + lines_at first) _ (split_body body) second))
    branch-runs here at next body (void hint) = runs-one at _ refl
    branch-runs here at next body (leaf k children) = runs-started at (lines_below children) _ _ refl (nodes-runs _ (suc at) next _ children)
    branch-runs here at next body (head children) = runs-started at (lines_below children) _ _ refl (nodes-runs _ (suc at) next _ children)

    pub covers-runs : (here : Place) (at next : ℕ) (a : Atom) (bs : Branches) → Runs at (lines_in bs) (covers_walk s here at next a bs).lines
    covers-runs here at next a no_branch = record { counts = tt; long = refl }
    covers-runs here at next a (branch k b bs) =
        runs-followed at (1 + lines_at b) (lines_in bs) _ _
        (runs-started at (lines_at b) _ _ refl (branch-runs _ (suc at) _ _ b))
        (covers-runs here (at + (1 + lines_at b)) _ a bs)

  check-runs : (here : Place) (at next k : ℕ) (b : Branch) → Runs at (1 + lines_at b) (check_walk s here at next k b).lines
  check-runs here at next k b = runs-started at (lines_at b) _ _ refl (branch-runs _ (suc at) _ _ b)

  rule-runs : (here : Place) (at next k : ℕ) (a : Atom) (b : Branch) → Runs at (1 + lines_at b) (rule_walk s here at next k a b).lines
  rule-runs here at next k a b = runs-started at (lines_at b) _ _ refl (branch-runs _ (suc at) _ _ b)

  checks-runs : (here : Place) (at next : ℕ) (cs : List (ℕ × Branch)) → Runs at (lines_under cs) (checks_walk s here at next cs).lines
  checks-runs here at next [] = record { counts = tt; long = refl }
  checks-runs here at next (c ∷ cs) =
      runs-followed at (1 + lines_at c.1) (lines_under cs) _ _ (check-runs here at next c.0 c.1) (checks-runs here (at + (1 + lines_at c.1)) _ cs)

  -- the lines of a line are as many as its part has, from its number on
  pub line-runs : (l : Line) → Runs l.at (lines_of_part l.part) (walk_of s l)
  line-runs l = by l.part
    where
      by : (part : Part) → Runs l.at (lines_of_part part) (part_walk s l.here l.at l.next part).lines
      by (of_node due t) = node-runs l.here l.at l.next due t
      by (of_rule k a b) = rule-runs l.here l.at l.next k a b
      by (of_check k b) = check-runs l.here l.at l.next k b
      by (of_case body b) = branch-runs l.here l.at l.next body b

pub certificate-runs : (cs : List Clause) (qs : List Query) (c : Certificate) → Runs 1 (all_lines c) (certificate_walk cs qs c).lines
certificate-runs cs qs c =
    let s = setting cs c in
    runs-followed 1 (lines_below (listed c.trees)) (lines_under c.checks) _ _
    (nodes-runs s (start s.top) 1 s.free (query_dues (numbered qs c.query) c.terms) (listed c.trees))
    (checks-runs s (start s.top) (1 + lines_below (listed c.trees)) _ c.checks)

-- ---- a line is found by its number

at-place : (n : ℕ) (ls : List Line) (i : ℕ) (l : Line) → Counts n ls → slice_get ls i ≡ Some l → l.at ≡ n + i
at-place n [] i l c e = cc
at-place n (x ∷ ls) zero l c e = let same : x ≡ l = cc in ap (λ (y : Line). y.at) (sym same) ∙ c.0 ∙ omega arith
at-place n (x ∷ ls) (suc i) l c e = at-place (suc n) ls i l c.1 e ∙ omega arith

pub record Placed (n : ℕ) (ls : List Line) (l : Line) : Type 0 where
  pub place : ℕ
  pub there : slice_get ls place ≡ Some l
  pub number : l.at ≡ n + place

placed : (n : ℕ) (ls : List Line) (l : Line) → Counts n ls → Contains ls l → Placed n ls l
placed n [] l c h = absurd (Contains-none l h)
placed n (x ∷ ls) l c h = elim (Contains-cases x ls l h) [
  | inl e ↦ record { place = 0; there = ap Some e; number = ap (λ (y : Line). y.at) (sym e) ∙ c.0 ∙ omega arith }
  | inr k ↦ (let p = placed (suc n) ls l c.1 k in record { place = suc p.place; there = p.there; number = p.number ∙ omega arith })
]

pub line-found : (cs : List Clause) (qs : List Query) (c : Certificate) (l : Line) → Contains (certificate_walk cs qs c).lines l → numbered (certificate_walk cs qs c).lines l.at ≡ Some l
line-found cs qs c l h =
    let p = placed 1 (certificate_walk cs qs c).lines l (certificate-runs cs qs c).counts h in
    ap (numbered (certificate_walk cs qs c).lines) (p.number ∙ one-more p.place) ∙ p.there
  where
    one-more : (i : ℕ) → 1 + i ≡ suc i
    one-more i = omega arith

pub found-number : (cs : List Clause) (qs : List Query) (c : Certificate) (i : ℕ) (l : Line) → numbered (certificate_walk cs qs c).lines i ≡ Some l → l.at ≡ i
found-number cs qs c zero l e = cc
found-number cs qs c (suc i) l e = at-place 1 (certificate_walk cs qs c).lines i l (certificate-runs cs qs c).counts e ∙ omega arith
