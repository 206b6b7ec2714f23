-- What the lines to come make fits what is left to do: backward along the moves.
use Rattle.std.specs.Prelude.{◌≡◌, ℕ, zero, suc, ◌+◌, ◌<◌, Bool, true, false, Option, Some, List, [], ◌∷◌, ◌++◌, map, take, drop, length}
use Rattle.std.proofs.Common.{◌∙◌, refl, ap, sym, subst, arith}
use Rattle.std.proofs.lemmas.List.{length-append}
use Rattle.std.proofs.Math.Seq.{drop-append_seam, take-append_seam}
use Rattle.scasp_cert.specs.Lines.{lines_of, lines_below, lines_at, lines_in}
use Rattle.scasp_cert.specs.Trees.{Tree, Branch, pos_tree, neg_tree, loop_tree, seen_tree, test_tree, split, void, leaf, head, listed, covering}
use Rattle.scasp_lines.specs.Below.{rule_numbers}
use Rattle.scasp_lines.specs.Dues.{Due, goal, fact}
use Rattle.scasp_lines.specs.Places.{Above, Around}
use Rattle.scasp_search_rules.specs.Successors.Calls.{vars_of_clause}
use Rattle.scasp_search_rules.specs.Successors.Cases.{failing_at}
use Rattle.scasp_search_rules.specs.Successors.Items.{body_of}
use Rattle.scasp_search_rules.specs.Successors.Trees.{Built, put, no_lines, line_of}
use Rattle.scasp_search_rules.specs.declared.states.lines.Line.{Line}
use Rattle.scasp_search_rules.specs.declared.states.lines.Line.TheVariants as line
use Rattle.scasp_search_rules.specs.declared.states.state.State.{State}
use Rattle.scasp_search_rules.specs.declared.states.tasks.Pair.{Pair}
use Rattle.scasp_syntax.specs.Programs.{rules_of, pred_of}
use Rattle.scasp_syntax.specs.Values.{Sub, all_under}
use Rattle.scasp_syntax.specs.declared.atom.Atom.{Atom}
use Rattle.scasp_syntax.specs.declared.atom.Lit.{Lit}
use Rattle.scasp_syntax.specs.declared.clause.FlatItem.{FlatItem}
use Rattle.scasp_syntax.specs.declared.con.Con.{Con}
use Rattle.scasp_syntax.specs.declared.hint.Hint.TheVariants as hint
use Rattle.scasp_syntax.specs.declared.program.Program.{Program}
use Rattle.scasp_unify.specs.Negations.{new_parts}
use Rattle.scasp_unify.specs.declared.bindings.Binding.{Binding}
use Rattle.scasp_law_headed.proofs.Shapes.{GoodMatch}
use Rattle.scasp_law_headed.specs.Good.{ChecksLine, Enters, Good, GoodCase, GoodCheck, GoodCovers, GoodRule, GoodTrees, IsNoLiteral, IsPositive, LoopsBack, SeesLine, above, around, ats, first_tree, line_at, node_at}
use Rattle.scasp_law_headed.proofs.Views.{IsCaseOf, Miss, Same, Want, want_check, want_close, want_leave, want_match, want_node, want_rule, want_void, wanted}
use Rattle.scasp_law_headed.specs.Reading.{Misses, Reads, body_dues, dues_read, is_plain_rule, reading}

pub length-failing : (j : ℕ) (is : List FlatItem) → j < length is → length (failing_at j is) ≡ suc j
length-failing j [] h = absurd (omega (arith, h))
length-failing zero (i ∷ is) h = refl
length-failing (suc j) (i ∷ is) h =
    let less : j < length is = omega (arith, h) in ap suc (length-failing j is less)

pub dues-long : (r : Sub) (is : List FlatItem) → length (dues_read r is) ≡ length is
dues-long r [] = refl
dues-long r (i ∷ is) = ap suc (dues-long r is)

module _ (p : Program) (f : State) (v : Sub) (ls : List Line) where
  -- From this line on, below these literals and in these cases, what was made has what is left to do, in order, and nothing else.
  abbrev pub Fits : ℕ → List Above → List Around → List Want → Built → Type 0
  Fits at abv rs [] b = (b ≡ no_lines) × (at ≡ suc (length ls))
  Fits at abv rs (want_node d ∷ ts) b =
      (t : Tree) × (ns : List Tree) × (b.nodes ≡ t ∷ ns) × (node_at p f v ls at ≡ t) × Good p f v ls at abv rs d t
      × Fits (at + lines_of t) abv rs ts (record b { nodes = ns })
  Fits at abv rs (want_rule a k ∷ ts) b =
      (c : Branch) × (ks : List (ℕ × Branch)) × (b.covers ≡ (k, c) ∷ ks) × GoodRule p f v ls at abv rs a k c
      × Fits (at + (1 + lines_at c)) abv rs ts (record b { covers = ks })
  Fits at abv rs (want_check k h ∷ ts) b =
      (c : Branch) × (ks : List (ℕ × Branch)) × (b.checks ≡ (k, c) ∷ ks) × GoodCheck p f v ls at abv rs k c
      × Fits (at + (1 + lines_at c)) abv rs ts (record b { checks = ks })
  Fits at abv rs (want_match bs ps k first ∷ ts) b =
      (c : Branch) × (cases : List Branch) × (b.cases ≡ c ∷ cases) × GoodMatch p f v ls at abv rs bs ps k first c
      × Fits (at + lines_at c) abv rs ts (record b { cases = cases })
  Fits at abv rs (want_void ∷ ts) b =
      (cases : List Branch) × (b.cases ≡ void hint.Terms ∷ cases) × IsNoLiteral p f v ls at
      × Fits (at + 1) abv rs ts (record b { cases = cases })
  Fits at abv rs (want_leave ∷ ts) b = Fits at (drop 1 abv) rs ts b
  Fits at abv rs (want_close ∷ ts) b = Fits at abv (drop 1 rs) ts b

  -- ---- nodes and rules in a row

  pub record FitTrees (at : ℕ) (abv : List Above) (rs : List Around) (ds : List Due) (ts : List Want) (b : Built) : Type 0 where
    pub trees : List Tree
    pub rest : List Tree
    pub nodes : b.nodes ≡ trees ++ rest
    pub long : length trees ≡ length ds
    pub good : GoodTrees p f v ls at abv rs ds (listed trees)
    pub fits : Fits (at + lines_below (listed trees)) abv rs ts (record b { nodes = rest })

  pub fit-trees : (at : ℕ) (abv : List Above) (rs : List Around) (ds : List Due) (ts : List Want) (b : Built) → Fits at abv rs (wanted ds ++ ts) b → FitTrees at abv rs ds ts b
  fit-trees at abv rs [] ts b h = record {
    trees = [];
    rest = b.nodes;
    nodes = refl;
    long = refl;
    good = tt;
    fits = subst (λ (n : ℕ). Fits n abv rs ts b) (omega arith) h;
  }
  fit-trees at abv rs (d ∷ ds) ts b h =
      let r = fit-trees (at + lines_of h.0) abv rs ds ts (record b { nodes = h.1 }) h.5 in
      let sum : (at + lines_of h.0) + lines_below (listed r.trees) ≡ at + (lines_of h.0 + lines_below (listed r.trees)) = omega arith in
      record {
        trees = h.0 ∷ r.trees;
        rest = r.rest;
        nodes = h.2 ∙ ap (λ (z : List Tree). h.0 ∷ z) r.nodes;
        long = ap suc r.long;
        good = (h.3, h.4, r.good);
        fits = subst (λ (n : ℕ). Fits n abv rs ts (record b { nodes = r.rest })) sum r.fits;
      }

  pub record FitCovers (at : ℕ) (abv : List Above) (rs : List Around) (a : Atom) (ks : List ℕ) (ts : List Want) (b : Built) : Type 0 where
    pub covers : List (ℕ × Branch)
    pub rest : List (ℕ × Branch)
    pub all : b.covers ≡ covers ++ rest
    pub numbers : rule_numbers (covering covers) ≡ ks
    pub long : length covers ≡ length ks
    pub good : GoodCovers p f v ls at abv rs a (covering covers)
    pub fits : Fits (at + lines_in (covering covers)) abv rs ts (record b { covers = rest })

  pub fit-covers : (at : ℕ) (abv : List Above) (rs : List Around) (a : Atom) (ks : List ℕ) (ts : List Want) (b : Built) → Fits at abv rs (map (want_rule a) ks ++ ts) b
      → FitCovers at abv rs a ks ts b
  fit-covers at abv rs a [] ts b h = record {
    covers = [];
    rest = b.covers;
    all = refl;
    numbers = refl;
    long = refl;
    good = tt;
    fits = subst (λ (n : ℕ). Fits n abv rs ts b) (omega arith) h;
  }
  fit-covers at abv rs a (k ∷ ks) ts b h =
      let r = fit-covers (at + (1 + lines_at h.0)) abv rs a ks ts (record b { covers = h.1 }) h.4 in
      let sum : (at + (1 + lines_at h.0)) + lines_in (covering r.covers) ≡ at + (1 + lines_at h.0 + lines_in (covering r.covers)) = omega arith in
      record {
        covers = (k, h.0) ∷ r.covers;
        rest = r.rest;
        all = h.2 ∙ ap (λ (z : List (ℕ × Branch)). (k, h.0) ∷ z) r.all;
        numbers = ap (λ (z : List ℕ). k ∷ z) r.numbers;
        long = ap suc r.long;
        good = (h.3, r.good);
        fits = subst (λ (n : ℕ). Fits n abv rs ts (record b { covers = r.rest })) sum r.fits;
      }

  -- ---- one line more, at its front

  pub taken : {A : Type 0} (n : ℕ) (all xs ys : List A) → all ≡ xs ++ ys → length xs ≡ n → take n all ≡ xs
  taken n all xs ys e l = ap (take n) e ∙ ap (λ (m : ℕ). take m (xs ++ ys)) (sym l) ∙ take-append_seam xs ys

  pub dropped : {A : Type 0} (n : ℕ) (all xs ys : List A) → all ≡ xs ++ ys → length xs ≡ n → drop n all ≡ ys
  dropped n all xs ys e l = ap (drop n) e ∙ ap (λ (m : ℕ). drop m (xs ++ ys)) (sym l) ∙ drop-append_seam xs ys

  pub fit-loop : (at : ℕ) (abv : List Above) (rs : List Around) (l : Lit) (n : ℕ) (behind : List Want) (b : Built) → line_at p f v ls at ≡ Some (line.Loop l n) → LoopsBack abv l (line_of (ats p f v ls) n)
      → node_at p f v ls at ≡ loop_tree l (line_of (ats p f v ls) n) → Fits (suc at) abv rs behind b → Fits at abv rs (want_node (goal l) ∷ behind) (put (ats p f v ls) (line.Loop l n) b)
  fit-loop at abv rs l n behind b there r k h =
      (loop_tree l (line_of (ats p f v ls) n), b.nodes, refl, k, (refl, (n, there), r), subst (λ (m : ℕ). Fits m abv rs behind b) (omega arith) h)

  pub fit-seen : (at : ℕ) (abv : List Above) (rs : List Around) (l : Lit) (n : ℕ) (behind : List Want) (b : Built) → SeesLine p f v ls at rs l (line_of (ats p f v ls) n)
      → node_at p f v ls at ≡ seen_tree l (line_of (ats p f v ls) n) → Fits (suc at) abv rs behind b → Fits at abv rs (want_node (goal l) ∷ behind) (put (ats p f v ls) (line.Seen l n) b)
  fit-seen at abv rs l n behind b r k h =
      (seen_tree l (line_of (ats p f v ls) n), b.nodes, refl, k, (refl, r), subst (λ (m : ℕ). Fits m abv rs behind b) (omega arith) h)

  pub fit-test : (at : ℕ) (abv : List Above) (rs : List Around) (o : Option Con) (c : Con) (behind : List Want) (b : Built) → o ≡ Some c → line_at p f v ls at ≡ Some (line.Test c)
      → node_at p f v ls at ≡ test_tree c hint.Terms → Fits (suc at) abv rs behind b → Fits at abv rs (want_node (fact o) ∷ behind) (put (ats p f v ls) (line.Test c) b)
  fit-test at abv rs o c behind b e there k h =
      (test_tree c hint.Terms, b.nodes, refl, k, (e, there), subst (λ (m : ℕ). Fits m abv rs behind b) (omega arith) h)

  pub fit-positive : (at : ℕ) (abv : List Above) (rs : List Around) (l : Lit) (k first : ℕ) (behind : List Want) (b : Built)
      → IsPositive p f v ls at rs l l.atom k (all_under (reading f v) (new_parts first (vars_of_clause p k))) first
      → node_at p f v ls at ≡ first_tree (put (ats p f v ls) (line.Pos l.atom k (all_under (reading f v) (new_parts first (vars_of_clause p k))) (length (body_of p k first))) b).nodes
      → Fits (suc at) (above at true l.atom ∷ abv) rs (wanted (body_dues p f v k first) ++ want_leave ∷ behind) b
      → Fits at abv rs (want_node (goal l) ∷ behind) (put (ats p f v ls) (line.Pos l.atom k (all_under (reading f v) (new_parts first (vars_of_clause p k))) (length (body_of p k first))) b)
  fit-positive at abv rs l k first behind b is node h =
      let n : ℕ = length (body_of p k first) in
      let r = fit-trees (suc at) (above at true l.atom ∷ abv) rs (body_dues p f v k first) (want_leave ∷ behind) b h in
      let long : length r.trees ≡ n = r.long ∙ dues-long (reading f v) (body_of p k first) in
      let front : take n b.nodes ≡ r.trees = taken n b.nodes r.trees r.rest r.nodes long in
      let back : drop n b.nodes ≡ r.rest = dropped n b.nodes r.trees r.rest r.nodes long in
      let G : List Tree → Type 0 = λ z. GoodTrees p f v ls (suc at) (above at true l.atom ∷ abv) rs (body_dues p f v k first) (listed z) in
      let sum : suc at + lines_below (listed r.trees) ≡ at + (1 + lines_below (listed r.trees)) = omega arith in
      let fits : Fits (at + (1 + lines_below (listed r.trees))) abv rs behind (record b { nodes = r.rest }) =
      subst (λ (m : ℕ). Fits m abv rs behind (record b { nodes = r.rest })) sum r.fits in (
        pos_tree l.atom k (all_under (reading f v) (new_parts first (vars_of_clause p k))) (listed (take n b.nodes)),
        drop n b.nodes,
        refl,
        node,
        (first, is, subst G (sym front) r.good),
        subst (λ (z : List Tree). Fits (at + (1 + lines_below (listed z))) abv rs behind (record b { nodes = drop n b.nodes })) (sym front)
            (subst (λ (z : List Tree). Fits (at + (1 + lines_below (listed r.trees))) abv rs behind (record b { nodes = z })) (sym back) fits),
      )

  pub fit-negated : (at : ℕ) (abv : List Above) (rs : List Around) (l : Lit) (behind : List Want) (b : Built) → l.positive ≡ false
      → line_at p f v ls at ≡ Some (line.Neg l.atom (length (rules_of p (pred_of l.atom)))) → Enters p f v ls at rs
      → node_at p f v ls at ≡ first_tree (put (ats p f v ls) (line.Neg l.atom (length (rules_of p (pred_of l.atom)))) b).nodes
      → Fits (suc at) (above at false l.atom ∷ abv) rs (map (want_rule l.atom) (rules_of p (pred_of l.atom)) ++ want_leave ∷ behind) b
      → Fits at abv rs (want_node (goal l) ∷ behind) (put (ats p f v ls) (line.Neg l.atom (length (rules_of p (pred_of l.atom)))) b)
  fit-negated at abv rs l behind b sign there enters node h =
      let ks : List ℕ = rules_of p (pred_of l.atom) in
      let n : ℕ = length ks in
      let r = fit-covers (suc at) (above at false l.atom ∷ abv) rs l.atom ks (want_leave ∷ behind) b h in
      let front : take n b.covers ≡ r.covers = taken n b.covers r.covers r.rest r.all r.long in
      let back : drop n b.covers ≡ r.rest = dropped n b.covers r.covers r.rest r.all r.long in
      let G : List (ℕ × Branch) → Type 0 = λ z. (rule_numbers (covering z) ≡ ks) × GoodCovers p f v ls (suc at) (above at false l.atom ∷ abv) rs l.atom (covering z) in
      let good : G (take n b.covers) = subst G (sym front) (r.numbers, r.good) in
      let sum : suc at + lines_in (covering r.covers) ≡ at + (1 + lines_in (covering r.covers)) = omega arith in
      let fits : Fits (at + (1 + lines_in (covering r.covers))) abv rs behind (record b { covers = r.rest }) =
      subst (λ (m : ℕ). Fits m abv rs behind (record b { covers = r.rest })) sum r.fits in (
        neg_tree l.atom (covering (take n b.covers)),
        b.nodes,
        refl,
        node,
        (record { negative = sign; atom = refl; rules = good.0; children = n; line = there; enters = enters }, good.1),
        subst (λ (z : List (ℕ × Branch)). Fits (at + (1 + lines_in (covering z))) abv rs behind (record b { covers = drop n b.covers })) (sym front)
            (subst (λ (z : List (ℕ × Branch)). Fits (at + (1 + lines_in (covering r.covers))) abv rs behind (record b { covers = z })) (sym back) fits),
      )

  -- ---- covers

  -- what is matched reads so, and what is missed is so
  match-case : (at : ℕ) (abv : List Above) (rs : List Around) (bs : List Binding) (ps : List Pair) (k first : ℕ) (a : Atom) (c : Branch) → (Same p f v ps → Reads p f v k first a)
      → (Miss p f v bs k first ps → Misses p f v k a) → GoodMatch p f v ls at abv rs bs ps k first c → GoodCase p f v ls (Some a) at abv rs k c
  match-case at abv rs bs ps k first a (split c one two) same missed h = absurd h
  match-case at abv rs bs ps k first a (void s) same missed h = (h.0, missed h.1)
  match-case at abv rs bs ps k first a (leaf n children) same missed h = (h.0, first, same h.1, h.2, h.3, h.4, h.5)
  match-case at abv rs bs ps k first a (head children) same missed h = absurd h

  pub fit-rule : (at : ℕ) (abv : List Above) (rs : List Around) (a b' : Atom) (k first : ℕ) (bs : List Binding) (ps : List Pair) (behind : List Want) (b : Built) → IsNoLiteral p f v ls at
      → (Same p f v ps → Reads p f v k first a) → (Miss p f v bs k first ps → Misses p f v k a)
      → Fits (suc at) abv rs (want_match bs ps k first ∷ behind) b → Fits at abv rs (want_rule a k ∷ behind) (put (ats p f v ls) (line.Rule b' k first) b)
  fit-rule at abv rs a b' k first bs ps behind b none same missed h =
      subst (λ (z : List Branch). Fits at abv rs (want_rule a k ∷ behind) (put (ats p f v ls) (line.Rule b' k first) (record b { cases = z }))) (sym h.2)
      (h.0, b.covers, refl, (none, match-case (suc at) abv rs bs ps k first a h.0 same missed h.3), subst (λ (m : ℕ). Fits m abv rs behind (record b { cases = h.1 })) (omega arith) h.4)

  rematch : (at : ℕ) (abv : List Above) (rs : List Around) (bs cs : List Binding) (ps qs : List Pair) (k first : ℕ) (c : Branch) → (Same p f v qs → Same p f v ps)
      → (Miss p f v cs k first qs → Miss p f v bs k first ps) → GoodMatch p f v ls at abv rs cs qs k first c → GoodMatch p f v ls at abv rs bs ps k first c
  rematch at abv rs bs cs ps qs k first (split c one two) same missed h = absurd h
  rematch at abv rs bs cs ps qs k first (void s) same missed h = (h.0, missed h.1)
  rematch at abv rs bs cs ps qs k first (leaf n children) same missed h = (h.0, same h.1, h.2, h.3, h.4, h.5)
  rematch at abv rs bs cs ps qs k first (head children) same missed h = absurd h

  pub fit-rematch : (at : ℕ) (abv : List Above) (rs : List Around) (bs cs : List Binding) (ps qs : List Pair) (k first : ℕ) (behind : List Want) (b : Built) → (Same p f v qs → Same p f v ps)
      → (Miss p f v cs k first qs → Miss p f v bs k first ps) → Fits at abv rs (want_match cs qs k first ∷ behind) b → Fits at abv rs (want_match bs ps k first ∷ behind) b
  fit-rematch at abv rs bs cs ps qs k first behind b same missed h = (h.0, h.1, h.2, rematch at abv rs bs cs ps qs k first h.0 same missed h.3, h.4)

  pub fit-gives_up : (at : ℕ) (abv : List Above) (rs : List Around) (bs : List Binding) (ps : List Pair) (k first : ℕ) (behind : List Want) (b : Built) → Miss p f v bs k first ps
      → Fits at abv rs (want_void ∷ behind) b → Fits at abv rs (want_match bs ps k first ∷ behind) b
  fit-gives_up at abv rs bs ps k first behind b missed h = (void hint.Terms, h.0, h.1, (h.2, missed), h.3)

  pub fit-void : (at : ℕ) (abv : List Above) (rs : List Around) (behind : List Want) (b : Built) → IsNoLiteral p f v ls at
      → Fits (suc at) abv rs behind b → Fits at abv rs (want_void ∷ behind) (put (ats p f v ls) line.Void b)
  fit-void at abv rs behind b none h = (b.cases, refl, none, subst (λ (m : ℕ). Fits m abv rs behind b) (omega arith) h)

  -- ---- cases

  -- the nodes of a case
  pub record FitNodes (at : ℕ) (abv : List Above) (rs : List Around) (n : ℕ) (ds : List Due) (behind : List Want) (b : Built) : Type 0 where
    pub good : GoodTrees p f v ls (suc at) abv rs ds (listed (take n b.nodes))
    pub fits : Fits (at + (1 + lines_below (listed (take n b.nodes)))) abv (drop 1 rs) behind (record b { nodes = drop n b.nodes })

  fit-nodes : (at : ℕ) (abv : List Above) (rs : List Around) (n : ℕ) (ds : List Due) (behind : List Want) (b : Built) → length ds ≡ n
      → Fits (suc at) abv rs (wanted ds ++ want_close ∷ behind) b → FitNodes at abv rs n ds behind b
  fit-nodes at abv rs n ds behind b e h =
      let r = fit-trees (suc at) abv rs ds (want_close ∷ behind) b h in
      let long : length r.trees ≡ n = r.long ∙ e in
      let front : take n b.nodes ≡ r.trees = taken n b.nodes r.trees r.rest r.nodes long in
      let back : drop n b.nodes ≡ r.rest = dropped n b.nodes r.trees r.rest r.nodes long in
      let sum : suc at + lines_below (listed r.trees) ≡ at + (1 + lines_below (listed r.trees)) = omega arith in
      let fits : Fits (at + (1 + lines_below (listed r.trees))) abv (drop 1 rs) behind (record b { nodes = r.rest }) =
      subst (λ (m : ℕ). Fits m abv (drop 1 rs) behind (record b { nodes = r.rest })) sum r.fits in
      record {
        good = subst (λ (z : List Tree). GoodTrees p f v ls (suc at) abv rs ds (listed z)) (sym front) r.good;
        fits = subst (λ (z : List Tree). Fits (at + (1 + lines_below (listed z))) abv (drop 1 rs) behind (record b { nodes = drop n b.nodes })) (sym front)
            (subst (λ (z : List Tree). Fits (at + (1 + lines_below (listed r.trees))) abv (drop 1 rs) behind (record b { nodes = z })) (sym back) fits);
      }

  pub case-long : (checks : Bool) (k first : ℕ) (l : Line) (n : ℕ) (ds : List Due) → (l ≡ line.Leaf n) → IsCaseOf p f v checks k first (line.Leaf n) ds → length ds ≡ n
  case-long checks k first l n ds e h =
      ap length h.3 ∙ dues-long (reading f v) (failing_at h.0 (body_of p k first)) ∙ length-failing h.0 (body_of p k first) h.2 ∙ sym h.1

  pub head-long : (checks : Bool) (k first : ℕ) (n : ℕ) (ds : List Due) → IsCaseOf p f v checks k first (line.Head n) ds → length ds ≡ n
  head-long checks k first n ds h =
      ap length h.4 ∙ length-append (body_dues p f v k first) _ ∙ ap (λ (m : ℕ). m + 1) (dues-long (reading f v) (body_of p k first)) ∙ (let e = h.3 in omega (arith, e))

  pub fit-begin : (at : ℕ) (abv : List Above) (rs : List Around) (bs : List Binding) (ps : List Pair) (k first : ℕ) (l : Line) (ds : List Due) (behind : List Want) (b : Built)
      → Same p f v ps → IsCaseOf p f v false k first l ds → IsNoLiteral p f v ls at
      → Fits (suc at) abv (around at (is_plain_rule p f v k) ∷ rs) (wanted ds ++ want_close ∷ behind) b → Fits at abv rs (want_match bs ps k first ∷ behind) (put (ats p f v ls) l b)
  fit-begin at abv rs bs ps k first (line.Leaf n) ds behind b same c none h =
      let q = fit-nodes at abv (around at (is_plain_rule p f v k) ∷ rs) n ds behind b (case-long false k first (line.Leaf n) n ds refl c) h in
      let G : List Due → Type 0 = λ z. GoodTrees p f v ls (suc at) abv (around at (is_plain_rule p f v k) ∷ rs) z (listed (take n b.nodes)) in
      (leaf n (listed (take n b.nodes)), b.cases, refl, (none, same, c.0, c.1, c.2, subst G c.3 q.good), q.fits)
  fit-begin at abv rs bs ps k first (line.Head n) ds behind b same c none h = absurd (cc c.1)
  fit-begin at abv rs bs ps k first l ds behind b same c none h = absurd c

  pub fit-check : (at : ℕ) (abv : List Above) (rs : List Around) (k first : ℕ) (checks : Bool) (l : Line) (ds : List Due) (behind : List Want) (b : Built)
      → IsCaseOf p f v true k first l ds → ChecksLine p f v ls at k → IsNoLiteral p f v ls (suc at)
      → Fits (suc (suc at)) abv (around (suc at) (is_plain_rule p f v k) ∷ rs) (wanted ds ++ want_close ∷ behind) b
      → Fits at abv rs (want_check k checks ∷ behind) (put (ats p f v ls) (line.Check k first) (put (ats p f v ls) l b))
  fit-check at abv rs k first checks (line.Leaf n) ds behind b c there none h =
      let q = fit-nodes (suc at) abv (around (suc at) (is_plain_rule p f v k) ∷ rs) n ds behind b (case-long true k first (line.Leaf n) n ds refl c) h in
      let G : List Due → Type 0 = λ z. GoodTrees p f v ls (suc (suc at)) abv (around (suc at) (is_plain_rule p f v k) ∷ rs) z (listed (take n b.nodes)) in
      let sum : suc at + (1 + lines_below (listed (take n b.nodes))) ≡ at + (1 + (1 + lines_below (listed (take n b.nodes)))) = omega arith in
      (leaf n (listed (take n b.nodes)), b.checks, refl, (there, (none, first, tt, c.0, c.1, c.2, subst G c.3 q.good)), subst (λ (m : ℕ). Fits m abv rs behind (record b { nodes = drop n b.nodes })) sum q.fits)
  fit-check at abv rs k first checks (line.Head n) ds behind b c there none h =
      let q = fit-nodes (suc at) abv (around (suc at) (is_plain_rule p f v k) ∷ rs) n ds behind b (head-long true k first n ds c) h in
      let G : List Due → Type 0 = λ z. GoodTrees p f v ls (suc (suc at)) abv (around (suc at) (is_plain_rule p f v k) ∷ rs) z (listed (take n b.nodes)) in
      let sum : suc at + (1 + lines_below (listed (take n b.nodes))) ≡ at + (1 + (1 + lines_below (listed (take n b.nodes)))) = omega arith in
      (head (listed (take n b.nodes)), b.checks, refl, (there, (none, refl, first, c.0, c.2, subst G c.4 q.good)), subst (λ (m : ℕ). Fits m abv rs behind (record b { nodes = drop n b.nodes })) sum q.fits)
  fit-check at abv rs k first checks l ds behind b c there none h = absurd c
