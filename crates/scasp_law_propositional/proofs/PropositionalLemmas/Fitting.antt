-- What the lines to come make fits what is left to do: backward along the moves.
use Rattle.std.specs.Prelude.{◌≡◌, ℕ, suc, ◌+◌, ◌<◌, Bool, true, false, Option, Some, List, [], ◌∷◌, ◌++◌, map, take, drop, length}
use Rattle.std.proofs.Common.{◌∙◌, refl, ap, sym, subst, arith}
use Rattle.std.proofs.lemmas.List.{length-append}
use Rattle.std.proofs.Math.Seq.{drop-append_seam, take-append_seam}
use Rattle.scasp_cert.specs.Lines.{lines_of, lines_below, lines_at, lines_in}
use Rattle.scasp_cert.specs.Trees.{Tree, Branch, pos_tree, neg_tree, loop_tree, seen_tree, leaf, head, listed, covering}
use Rattle.scasp_lines.specs.Below.{rule_numbers}
use Rattle.scasp_lines.specs.Places.{Above}
use Rattle.scasp_search_rules.specs.declared.states.lines.Line.{Line}
use Rattle.scasp_search_rules.specs.declared.states.lines.Line.TheVariants as line
use Rattle.scasp_search_rules.specs.declared.states.tasks.Aim.TheVariants as aims
use Rattle.scasp_search_rules.specs.declared.states.tasks.Task.{Task}
use Rattle.scasp_search_rules.specs.declared.states.tasks.Task.TheVariants as task
use Rattle.scasp_search_rules.specs.Successors.Cases.{failing_at}
use Rattle.scasp_search_rules.specs.Successors.Trees.{Built, put, no_lines, line_of}
use Rattle.scasp_syntax.specs.Flat.{flat_body}
use Rattle.scasp_syntax.specs.Programs.{numbered, rules_from, pred_of}
use Rattle.scasp_syntax.specs.Tm.{nil}
use Rattle.scasp_syntax.specs.declared.atom.Atom.{Atom}
use Rattle.scasp_syntax.specs.declared.atom.Lit.{Lit}
use Rattle.scasp_syntax.specs.declared.clause.Clause.{Clause}
use Rattle.scasp_syntax.specs.declared.clause.FlatItem.{FlatItem}
use Rattle.scasp_syntax.specs.declared.clause.FlatItem.TheVariants as flat
use Rattle.scasp_law_propositional.proofs.PropositionalLemmas.Shapes.{first_tree, above, body_in, head_in, IsPositive, IsNegated, IsClause, LoopsBack, line_at, node_at, IsNoLiteral, ChecksLine, Good, GoodTrees, GoodCase, GoodCovers, GoodRule, GoodCheck}
use Rattle.scasp_law_propositional.proofs.PropositionalLemmas.Plains.{length-failing}
use Rattle.scasp_law_propositional.proofs.PropositionalLemmas.Views.{shows, IsCaseOf}

module _ (cs : List Clause) (ls : List Line) (ats : List ℕ) where
  -- From this line on, below these literals, what was made has what is left to do, in order, and nothing else.
  abbrev pub Fits : ℕ → List Above → List Task → Built → Type 0
  Fits at abv [] b = (b ≡ no_lines) × (at ≡ suc (length ls))
  Fits at abv (task.Show i ∷ ts) b =
      (t : Tree) × (ns : List Tree) × (b.nodes ≡ t ∷ ns) × (node_at cs ls ats at ≡ t) × Good cs ls ats at abv i t
      × Fits (at + lines_of t) abv ts (record b { nodes = ns })
  Fits at abv (task.Cover a k ∷ ts) b =
      (c : Branch) × (ks : List (ℕ × Branch)) × (b.covers ≡ (k, c) ∷ ks) × GoodRule cs ls ats at abv k c
      × Fits (at + (1 + lines_at c)) abv ts (record b { covers = ks })
  Fits at abv (task.Check k h ∷ ts) b =
      (c : Branch) × (ks : List (ℕ × Branch)) × (b.checks ≡ (k, c) ∷ ks) × GoodCheck cs ls ats at abv k c
      × Fits (at + (1 + lines_at c)) abv ts (record b { checks = ks })
  Fits at abv (task.Differ ps (aims.Head k first) ∷ ts) b =
      (c : Branch) × (cases : List Branch) × (b.cases ≡ c ∷ cases) × IsClause cs k × GoodCase cs ls ats false at abv k c
      × Fits (at + lines_at c) abv ts (record b { cases = cases })
  Fits at abv (task.Begin k first h ∷ ts) b =
      (c : Branch) × (cases : List Branch) × (b.cases ≡ c ∷ cases) × IsClause cs k × GoodCase cs ls ats false at abv k c
      × Fits (at + lines_at c) abv ts (record b { cases = cases })
  Fits at abv (task.Leave ∷ ts) b = Fits at (drop 1 abv) ts b
  Fits at abv (task.Close ∷ ts) b = Fits at abv ts b
  Fits at abv (t ∷ ts) b = ⊥

  -- ---- items and rules in a row

  pub record FitTrees (at : ℕ) (abv : List Above) (is : List FlatItem) (ts : List Task) (b : Built) : Type 0 where
    pub trees : List Tree
    pub rest : List Tree
    pub nodes : b.nodes ≡ trees ++ rest
    pub long : length trees ≡ length is
    pub good : GoodTrees cs ls ats at abv is (listed trees)
    pub fits : Fits (at + lines_below (listed trees)) abv ts (record b { nodes = rest })

  pub fit-trees : (at : ℕ) (abv : List Above) (is : List FlatItem) (ts : List Task) (b : Built) → Fits at abv (shows is ++ ts) b → FitTrees at abv is ts b
  fit-trees at abv [] ts b h = record {
    trees = [];
    rest = b.nodes;
    nodes = refl;
    long = refl;
    good = tt;
    fits = subst (λ (n : ℕ). Fits n abv ts b) (omega arith) h;
  }
  fit-trees at abv (i ∷ is) ts b h =
      let r = fit-trees (at + lines_of h.0) abv is ts (record b { nodes = h.1 }) h.5 in
      let sum : (at + lines_of h.0) + lines_below (listed r.trees) ≡ at + (lines_of h.0 + lines_below (listed r.trees)) = omega arith in
      record {
        trees = h.0 ∷ r.trees;
        rest = r.rest;
        nodes = h.2 ∙ ap (λ (z : List Tree). h.0 ∷ z) r.nodes;
        long = ap suc r.long;
        good = (h.3, h.4, r.good);
        fits = subst (λ (n : ℕ). Fits n abv ts (record b { nodes = r.rest })) sum r.fits;
      }

  pub record FitCovers (at : ℕ) (abv : List Above) (ks : List ℕ) (ts : List Task) (b : Built) : Type 0 where
    pub covers : List (ℕ × Branch)
    pub rest : List (ℕ × Branch)
    pub all : b.covers ≡ covers ++ rest
    pub numbers : rule_numbers (covering covers) ≡ ks
    pub long : length covers ≡ length ks
    pub good : GoodCovers cs ls ats at abv (covering covers)
    pub fits : Fits (at + lines_in (covering covers)) abv ts (record b { covers = rest })

  pub fit-covers : (at : ℕ) (abv : List Above) (a : Atom) (ks : List ℕ) (ts : List Task) (b : Built) → Fits at abv (map (task.Cover a) ks ++ ts) b
      → FitCovers at abv ks ts b
  fit-covers at abv a [] ts b h = record {
    covers = [];
    rest = b.covers;
    all = refl;
    numbers = refl;
    long = refl;
    good = tt;
    fits = subst (λ (n : ℕ). Fits n abv ts b) (omega arith) h;
  }
  fit-covers at abv a (k ∷ ks) ts b h =
      let r = fit-covers (at + (1 + lines_at h.0)) abv a ks ts (record b { covers = h.1 }) h.4 in
      let sum : (at + (1 + lines_at h.0)) + lines_in (covering r.covers) ≡ at + (1 + lines_at h.0 + lines_in (covering r.covers)) = omega arith in
      record {
        covers = (k, h.0) ∷ r.covers;
        rest = r.rest;
        all = h.2 ∙ ap (λ (z : List (ℕ × Branch)). (k, h.0) ∷ z) r.all;
        numbers = ap (λ (z : List ℕ). k ∷ z) r.numbers;
        long = ap suc r.long;
        good = (h.3, r.good);
        fits = subst (λ (n : ℕ). Fits n abv ts (record b { covers = r.rest })) sum r.fits;
      }

  -- ---- one line more, at its front

  pub taken : {A : Type 0} (n : ℕ) (all xs ys : List A) → all ≡ xs ++ ys → length xs ≡ n → take n all ≡ xs
  taken n all xs ys e l = ap (take n) e ∙ ap (λ (m : ℕ). take m (xs ++ ys)) (sym l) ∙ take-append_seam xs ys

  pub dropped : {A : Type 0} (n : ℕ) (all xs ys : List A) → all ≡ xs ++ ys → length xs ≡ n → drop n all ≡ ys
  dropped n all xs ys e l = ap (drop n) e ∙ ap (λ (m : ℕ). drop m (xs ++ ys)) (sym l) ∙ drop-append_seam xs ys

  pub fit-loop : (at : ℕ) (abv : List Above) (l : Lit) (n : ℕ) (behind : List Task) (b : Built) → l.atom.args ≡ nil → LoopsBack abv l (line_of ats n)
      → node_at cs ls ats at ≡ loop_tree l (line_of ats n) → Fits (suc at) abv behind b → Fits at abv (task.Show (flat.Call l) ∷ behind) (put ats (line.Loop l n) b)
  fit-loop at abv l n behind b e r k h =
      (loop_tree l (line_of ats n), b.nodes, refl, k, (refl, e, r), subst (λ (m : ℕ). Fits m abv behind b) (omega arith) h)

  pub fit-seen : (at : ℕ) (abv : List Above) (l : Lit) (n : ℕ) (behind : List Task) (b : Built) → l.atom.args ≡ nil → line_at cs ls ats at ≡ Some (line.Seen l n)
      → node_at cs ls ats at ≡ seen_tree l (line_of ats n) → Fits (suc at) abv behind b → Fits at abv (task.Show (flat.Call l) ∷ behind) (put ats (line.Seen l n) b)
  fit-seen at abv l n behind b e r k h =
      (seen_tree l (line_of ats n), b.nodes, refl, k, (refl, e, (n, r, refl)), subst (λ (m : ℕ). Fits m abv behind b) (omega arith) h)

  pub fit-positive : (at : ℕ) (abv : List Above) (l : Lit) (k : ℕ) (c : Clause) (behind : List Task) (b : Built) → IsPositive cs l l.atom k nil → numbered cs k ≡ Some c
      → node_at cs ls ats at ≡ first_tree (put ats (line.Pos l.atom k nil (length (flat_body c.body))) b).nodes
      → Fits (suc at) (above at true l.atom ∷ abv) (shows (flat_body c.body) ++ task.Leave ∷ behind) b
      → Fits at abv (task.Show (flat.Call l) ∷ behind) (put ats (line.Pos l.atom k nil (length (flat_body c.body))) b)
  fit-positive at abv l k c behind b is named node h =
      let n : ℕ = length (flat_body c.body) in
      let r = fit-trees (suc at) (above at true l.atom ∷ abv) (flat_body c.body) (task.Leave ∷ behind) b h in
      let front : take n b.nodes ≡ r.trees = taken n b.nodes r.trees r.rest r.nodes r.long in
      let back : drop n b.nodes ≡ r.rest = dropped n b.nodes r.trees r.rest r.nodes r.long in
      let body : GoodTrees cs ls ats (suc at) (above at true l.atom ∷ abv) (body_in (numbered cs k)) (listed r.trees) =
      subst (λ (o : Option Clause). GoodTrees cs ls ats (suc at) (above at true l.atom ∷ abv) (body_in o) (listed r.trees)) (sym named) r.good in
      let sum : suc at + lines_below (listed r.trees) ≡ at + (1 + lines_below (listed r.trees)) = omega arith in
      let fits : Fits (at + (1 + lines_below (listed r.trees))) abv behind (record b { nodes = r.rest }) =
      subst (λ (m : ℕ). Fits m abv behind (record b { nodes = r.rest })) sum r.fits in (
        pos_tree l.atom k nil (listed (take n b.nodes)),
        drop n b.nodes,
        refl,
        node,
        (is, subst (λ (z : List Tree). GoodTrees cs ls ats (suc at) (above at true l.atom ∷ abv) (body_in (numbered cs k)) (listed z)) (sym front) body),
        subst (λ (z : List Tree). Fits (at + (1 + lines_below (listed z))) abv behind (record b { nodes = drop n b.nodes })) (sym front)
            (subst (λ (z : List Tree). Fits (at + (1 + lines_below (listed r.trees))) abv behind (record b { nodes = z })) (sym back) fits),
      )

  pub fit-negated : (at : ℕ) (abv : List Above) (l : Lit) (ks : List ℕ) (behind : List Task) (b : Built) → l.positive ≡ false → l.atom.args ≡ nil
      → ks ≡ rules_from 1 cs (pred_of l.atom)
      → node_at cs ls ats at ≡ first_tree (put ats (line.Neg l.atom (length ks)) b).nodes
      → Fits (suc at) (above at false l.atom ∷ abv) (map (task.Cover l.atom) ks ++ task.Leave ∷ behind) b
      → Fits at abv (task.Show (flat.Call l) ∷ behind) (put ats (line.Neg l.atom (length ks)) b)
  fit-negated at abv l ks behind b sign none rules node h =
      let n : ℕ = length ks in
      let r = fit-covers (suc at) (above at false l.atom ∷ abv) l.atom ks (task.Leave ∷ behind) b h in
      let front : take n b.covers ≡ r.covers = taken n b.covers r.covers r.rest r.all r.long in
      let back : drop n b.covers ≡ r.rest = dropped n b.covers r.covers r.rest r.all r.long in
      let is : IsNegated cs l l.atom (covering r.covers) = record { negative = sign; atom = refl; no_argument = none; rules = r.numbers ∙ rules } in
      let sum : suc at + lines_in (covering r.covers) ≡ at + (1 + lines_in (covering r.covers)) = omega arith in
      let fits : Fits (at + (1 + lines_in (covering r.covers))) abv behind (record b { covers = r.rest }) =
      subst (λ (m : ℕ). Fits m abv behind (record b { covers = r.rest })) sum r.fits in (
        neg_tree l.atom (covering (take n b.covers)),
        b.nodes,
        refl,
        node,
        subst (λ (z : List (ℕ × Branch)). IsNegated cs l l.atom (covering z) × GoodCovers cs ls ats (suc at) (above at false l.atom ∷ abv) (covering z)) (sym front) (is, r.good),
        subst (λ (z : List (ℕ × Branch)). Fits (at + (1 + lines_in (covering z))) abv behind (record b { covers = drop n b.covers })) (sym front)
            (subst (λ (z : List (ℕ × Branch)). Fits (at + (1 + lines_in (covering r.covers))) abv behind (record b { covers = z })) (sym back) fits),
      )

  pub fit-rule : (at : ℕ) (abv : List Above) (a : Atom) (k first : ℕ) (behind : List Task) (b : Built) → IsNoLiteral cs ls ats at
      → Fits (suc at) abv (task.Differ [] (aims.Head k first) ∷ behind) b → Fits at abv (task.Cover a k ∷ behind) (put ats (line.Rule a k first) b)
  fit-rule at abv a k first behind b none h =
      subst (λ (z : List Branch). Fits at abv (task.Cover a k ∷ behind) (put ats (line.Rule a k first) (record b { cases = z }))) (sym h.2)
      (h.0, b.covers, refl, (none, h.3, h.4), subst (λ (m : ℕ). Fits m abv behind (record b { cases = h.1 })) (omega arith) h.5)

  -- the case that this line and what follows make
  pub record FitCase (checks : Bool) (at : ℕ) (abv : List Above) (k : ℕ) (behind : List Task) (b after : Built) : Type 0 where
    pub case : Branch
    pub cases : after.cases ≡ case ∷ b.cases
    pub good : GoodCase cs ls ats checks at abv k case
    pub fits : Fits (at + lines_at case) abv behind (record after { cases = b.cases })

  fit-leaf : (checks : Bool) (at : ℕ) (abv : List Above) (k : ℕ) (c : Clause) (j n : ℕ) (is : List FlatItem) (behind : List Task) (b : Built)
      → numbered cs k ≡ Some c → n ≡ suc j → j < length (flat_body c.body) → is ≡ failing_at j (flat_body c.body) → IsNoLiteral cs ls ats at
      → Fits (suc at) abv (shows is ++ task.Close ∷ behind) b → FitCase checks at abv k behind b (put ats (line.Leaf n) b)
  fit-leaf checks at abv k c j n is behind b named number within failing none h =
      let r = fit-trees (suc at) abv is (task.Close ∷ behind) b h in
      let long : length r.trees ≡ n = r.long ∙ ap length failing ∙ length-failing j (flat_body c.body) within ∙ sym number in
      let front : take n b.nodes ≡ r.trees = taken n b.nodes r.trees r.rest r.nodes long in
      let back : drop n b.nodes ≡ r.rest = dropped n b.nodes r.trees r.rest r.nodes long in
      let good : GoodTrees cs ls ats (suc at) abv (failing_at j (flat_body c.body)) (listed r.trees) =
      subst (λ (z : List FlatItem). GoodTrees cs ls ats (suc at) abv z (listed r.trees)) failing r.good in
      let sum : suc at + lines_below (listed r.trees) ≡ at + (1 + lines_below (listed r.trees)) = omega arith in
      let fits : Fits (at + (1 + lines_below (listed r.trees))) abv behind (record b { nodes = r.rest }) =
      subst (λ (m : ℕ). Fits m abv behind (record b { nodes = r.rest })) sum r.fits in
      let Q : List Tree → Type 0 = λ z. Fits (at + (1 + lines_below (listed z))) abv behind (record b { nodes = drop n b.nodes }) in
      let R : List Tree → Type 0 = λ z. Fits (at + (1 + lines_below (listed r.trees))) abv behind (record b { nodes = z }) in
      let G : List Tree → Type 0 = λ z. GoodTrees cs ls ats (suc at) abv (failing_at j (flat_body c.body)) (listed z) in
      let H : Option Clause → Type 0 = λ o. (i : ℕ) × (n ≡ suc i) × (i < length (body_in o)) × GoodTrees cs ls ats (suc at) abv (failing_at i (body_in o)) (listed (take n b.nodes)) in
      let inner : H (numbered cs k) = subst H (sym named) (j, number, within, subst G (sym front) good) in
      record {
        case = leaf n (listed (take n b.nodes));
        cases = refl;
        good = (none, inner.0, inner.1, inner.2, inner.3);
        fits = subst Q (sym front) (subst R (sym back) fits);
      }

  fit-head : (at : ℕ) (abv : List Above) (k : ℕ) (c : Clause) (a : Atom) (n : ℕ) (is : List FlatItem) (behind : List Task) (b : Built)
      → numbered cs k ≡ Some c → c.head ≡ Some a → n ≡ suc (length (flat_body c.body))
      → is ≡ flat_body c.body ++ flat.Call (record { positive = true; atom = a }) ∷ [] → IsNoLiteral cs ls ats at
      → Fits (suc at) abv (shows is ++ task.Close ∷ behind) b → FitCase true at abv k behind b (put ats (line.Head n) b)
  fit-head at abv k c a n is behind b named has number all none h =
      let r = fit-trees (suc at) abv is (task.Close ∷ behind) b h in
      let one : FlatItem = flat.Call (record { positive = true; atom = a }) in
      let count : length (flat_body c.body) + 1 ≡ n = omega (arith, number) in
      let long : length r.trees ≡ n = r.long ∙ ap length all ∙ length-append (flat_body c.body) (one ∷ []) ∙ count in
      let front : take n b.nodes ≡ r.trees = taken n b.nodes r.trees r.rest r.nodes long in
      let back : drop n b.nodes ≡ r.rest = dropped n b.nodes r.trees r.rest r.nodes long in
      let good : GoodTrees cs ls ats (suc at) abv (flat_body c.body ++ one ∷ []) (listed r.trees) =
      subst (λ (z : List FlatItem). GoodTrees cs ls ats (suc at) abv z (listed r.trees)) all r.good in
      let sum : suc at + lines_below (listed r.trees) ≡ at + (1 + lines_below (listed r.trees)) = omega arith in
      let fits : Fits (at + (1 + lines_below (listed r.trees))) abv behind (record b { nodes = r.rest }) =
      subst (λ (m : ℕ). Fits m abv behind (record b { nodes = r.rest })) sum r.fits in
      let Q : List Tree → Type 0 = λ z. Fits (at + (1 + lines_below (listed z))) abv behind (record b { nodes = drop n b.nodes }) in
      let R : List Tree → Type 0 = λ z. Fits (at + (1 + lines_below (listed r.trees))) abv behind (record b { nodes = z }) in
      let G : List Tree → Type 0 = λ z. GoodTrees cs ls ats (suc at) abv (flat_body c.body ++ one ∷ []) (listed z) in
      let H : Option Clause → Type 0 = λ o. (h : Atom) × (head_in o ≡ Some h)
      × GoodTrees cs ls ats (suc at) abv (body_in o ++ flat.Call (record { positive = true; atom = h }) ∷ []) (listed (take n b.nodes)) in
      let inner : H (numbered cs k) = subst H (sym named) (a, has, subst G (sym front) good) in
      record {
        case = head (listed (take n b.nodes));
        cases = refl;
        good = (none, inner.0, refl, inner.1, inner.2);
        fits = subst Q (sym front) (subst R (sym back) fits);
      }

  pub fit-case : (checks : Bool) (at : ℕ) (abv : List Above) (k : ℕ) (c : Clause) (l : Line) (is : List FlatItem) (behind : List Task) (b : Built)
      → numbered cs k ≡ Some c → IsCaseOf checks c l is → IsNoLiteral cs ls ats at
      → Fits (suc at) abv (shows is ++ task.Close ∷ behind) b → FitCase checks at abv k behind b (put ats l b)
  fit-case checks at abv k c (line.Leaf n) is behind b named h none f = fit-leaf checks at abv k c h.0 n is behind b named h.1 h.2 h.3 none f
  fit-case checks at abv k c (line.Head n) is behind b named h none f =
      subst (λ (z : Bool). FitCase z at abv k behind b (put ats (line.Head n) b)) (sym h.1) (fit-head at abv k c h.0 n is behind b named h.2 h.3 h.4 none f)
  fit-case checks at abv k c l is behind b named h none f = absurd h

  pub fit-begin : (at : ℕ) (abv : List Above) (k first : ℕ) (c : Clause) (behind : List Task) (b after : Built) → numbered cs k ≡ Some c
      → FitCase false at abv k behind b after → Fits at abv (task.Begin k first false ∷ behind) after
  fit-begin at abv k first c behind b after named f = (f.case, b.cases, f.cases, (c, named), f.good, f.fits)

  pub fit-check : (at : ℕ) (abv : List Above) (k first : ℕ) (h : Bool) (c : Clause) (behind : List Task) (b after : Built) → numbered cs k ≡ Some c
      → ChecksLine cs ls ats at k → FitCase true (suc at) abv k behind b after → Fits at abv (task.Check k h ∷ behind) (put ats (line.Check k first) after)
  fit-check at abv k first h c behind b after named there f =
      let sum : suc at + lines_at f.case ≡ at + (1 + lines_at f.case) = omega arith in
      subst (λ (z : List Branch). Fits at abv (task.Check k h ∷ behind) (put ats (line.Check k first) (record after { cases = z }))) (sym f.cases)
      (f.case, after.checks, refl, (there, (c, named), f.good), subst (λ (m : ℕ). Fits m abv behind (record after { cases = b.cases })) sum f.fits)
