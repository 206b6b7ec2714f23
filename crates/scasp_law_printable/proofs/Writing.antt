-- Each line of a filled certificate within the table has a text of its own.
use Rattle.std.specs.Prelude.{◌≡◌, ℕ, suc, ◌+◌, ◌^◌, nat_lt, true, ◌&&◌, List, [], ◌∷◌, ◌++◌, map}
use Rattle.std.specs.List.{flat_map}
use Rattle.std.proofs.Common.{refl}
use Rattle.std.proofs.lemmas.Bool.{and_from, and_parts}
use Rattle.scasp_answers.specs.Blocks.Blocks.{Placed, at, block_lines, branch_lines, branches_lines, check_lines, tree_lines, trees_lines}
use Rattle.scasp_answers_terms.specs.Tokens.Bounds.{con_fits, hint_fits, is_count, is_place, line_fits, terms_fit}
use Rattle.scasp_answers_terms.specs.Tokens.Lines.{Line, answer_line, check_line, clash_line, end_line, given_line, head_line, leaf_line, loop_line, map_line, neg_line, pos_line, rule_line, sample_line, seen_line, split_line, test_line, tree_line, void_line}
use Rattle.scasp_cert.specs.Certificate.{Certificate}
use Rattle.scasp_cert.specs.Lines.{lines_at, lines_below, lines_of}
use Rattle.scasp_cert.specs.Trees.{Tree, Trees, Branch, Branches, pos_tree, neg_tree, loop_tree, seen_tree, test_tree, no_tree, tree, split, void, leaf, head, no_branch, branch, listed}
use Rattle.scasp_cert.specs.declared.certificate.Clash.{Clash}
use Rattle.scasp_fill.specs.Filling.Hinted.{all_hinted, case_hinted, checks_hinted, covers_hinted, hinted, shown_by, trees_hinted}
use Rattle.scasp_law_answer_text.specs.LineReadback.Writable.{are_named, is_hint, is_spelled, is_written}
use Rattle.scasp_list.specs.Each.{Each}
use Rattle.scasp_list.proofs.EachLemmas.{Each-append}
use Rattle.scasp_num.proofs.Numbers.{lt_ltb}
use Rattle.scasp_syntax.specs.Tm.{Tms}
use Rattle.scasp_syntax.specs.declared.atom.Atom.{Atom}
use Rattle.scasp_syntax.specs.declared.atom.Lit.{Lit}
use Rattle.scasp_syntax.specs.declared.con.Con.{Con}
use Rattle.scasp_syntax.specs.declared.hint.Hint.{Hint}
use Rattle.scasp_syntax.specs.declared.predicate_map.PredMap.{PredMap}
use Rattle.scasp_syntax.specs.WellFormed.{are_below}
use Rattle.scasp_unify.specs.Negations.{is_con_below}
use Rattle.scasp_law_printable.specs.Places.{has_counts, has_places}
use Rattle.scasp_law_printable.specs.Within.{AllWithin, AtomWithin}
use Rattle.scasp_law_printable.proofs.Ending.{BranchTold, BranchesTold, ConTold, EntryTold, TreeTold, TreesTold, all-named}
use Rattle.scasp_law_printable.proofs.Hints.{HintTold}
use Rattle.scasp_law_printable.proofs.Ranges.{con-fits, hint-fits, terms-fit}

-- what is said of a certificate but for its hints and clash lines
pub record CertificateTold (count : ℕ) (c : Certificate) : Type 0 where
  pub terms : AllWithin count c.terms
  pub given : Each (ConTold count) c.given
  pub sample : are_named count c.sample ≡ true
  pub sample_fits : terms_fit c.sample ≡ true
  pub trees : Each (TreeTold count) c.trees
  pub checks : Each (EntryTold count) c.checks
  pub map : Each (λ (m : PredMap). nat_lt m.pred.name count ≡ true) c.map

-- the line has a text of its own with so many names, and fits if its places do
abbrev pub IsFine : ℕ → Line → Type 0
IsFine count l = (is_written count l ≡ true) × (has_places l ≡ true → line_fits l ≡ true)

module _ (count : ℕ) where
  abbrev pub IsWritten : Placed → Type 0
  IsWritten p = IsFine count p.line

  -- ---- lines by themselves

  plain-written : (n : ℕ) → IsFine count tree_line × IsFine count (check_line n) × IsFine count end_line × IsFine count (rule_line n) × IsFine count (leaf_line n) × IsFine count head_line
  unfolding is_written has_places line_fits
  plain-written n = ((refl, λ e. e), (refl, λ e. e), (refl, λ e. e), (refl, λ e. e), (refl, λ e. e), (refl, λ e. e))

  answer-written : (q n : ℕ) (ts : Tms) → AllWithin count ts → IsFine count (answer_line q n ts)
  unfolding is_written has_places line_fits
  answer-written q n ts h = (
    all-named count ts h,
    λ e. (let k = and_parts (is_count q && is_count n) (are_below (2 ^ 63) ts) e in and_from (is_count q && is_count n) (terms_fit ts) k.0 (terms-fit count ts h k.1)),
  )

  sample-written : (ts : Tms) → are_named count ts ≡ true → terms_fit ts ≡ true → IsFine count (sample_line ts)
  unfolding is_written line_fits
  sample-written ts h f = (h, λ e. f)

  con-written : (c : Con) → ConTold count c → IsFine count (given_line c) × IsFine count (split_line c)
  unfolding is_written has_places line_fits
  con-written c h = ((h.1, λ e. con-fits count c h.0 e), (h.1, λ e. con-fits count c h.0 e))

  hint-written : (h : Hint) → HintTold h → IsFine count (void_line h)
  unfolding is_written has_places line_fits
  hint-written h k = (k.0, λ e. hint-fits h k.1 e)

  test-written : (c : Con) (h : Hint) → ConTold count c → HintTold h → IsFine count (test_line c h)
  unfolding is_written has_places line_fits
  test-written c h k j = (
    and_from (is_spelled count c) (is_hint h) k.1 j.0,
    λ e. (let p = and_parts (is_con_below (2 ^ 63) c) (has_counts h) e in and_from (con_fits c) (hint_fits h) (con-fits count c k.0 p.0) (hint-fits h j.1 p.1)),
  )

  clash-written : (k : Clash) → HintTold k.hint → IsFine count (clash_line k)
  unfolding is_written has_places line_fits
  clash-written k h = (
    h.0,
    λ e. (let p = and_parts (is_place k.first && is_place k.second) (has_counts k.hint) e in and_from (is_place k.first && is_place k.second) (hint_fits k.hint) p.0 (hint-fits k.hint h.1 p.1)),
  )

  map-written : (m : PredMap) → nat_lt m.pred.name count ≡ true → IsFine count (map_line m)
  unfolding is_written has_places line_fits
  map-written m e = (e, λ f. f)

  atom-named : (a : Atom) → AtomWithin count a → (nat_lt a.name count && are_named count a.args) ≡ true
  atom-named a h = and_from (nat_lt a.name count) (are_named count a.args) (lt_ltb h.0) (all-named count a.args h.2)

  pos-written : (a : Atom) (k : ℕ) (ts : Tms) → AtomWithin count a → AllWithin count ts → IsFine count (pos_line a k ts)
  unfolding is_written has_places line_fits
  pos-written a k ts h g = (
    and_from (nat_lt a.name count && are_named count a.args) (are_named count ts) (atom-named a h) (all-named count ts g),
    λ e.
        let p = and_parts (are_below (2 ^ 63) a.args && is_place k) (are_below (2 ^ 63) ts) e in
        let r = and_parts (are_below (2 ^ 63) a.args) (is_place k) p.0 in
        and_from (terms_fit a.args && is_place k) (terms_fit ts) (and_from (terms_fit a.args) (is_place k) (terms-fit count a.args h.2 r.0) r.1) (terms-fit count ts g p.1),
  )

  neg-written : (a : Atom) → AtomWithin count a → IsFine count (neg_line a)
  unfolding is_written has_places line_fits
  neg-written a h = (atom-named a h, λ e. terms-fit count a.args h.2 e)

  lit-written : (l : Lit) (n : ℕ) → AtomWithin count l.atom → IsFine count (loop_line l n) × IsFine count (seen_line l n)
  unfolding is_written has_places line_fits
  lit-written l n h = ((atom-named l.atom h, by), (atom-named l.atom h, by))
    where
      by : (are_below (2 ^ 63) l.atom.args && is_place n) ≡ true → (terms_fit l.atom.args && is_place n) ≡ true
      by e = let p = and_parts (are_below (2 ^ 63) l.atom.args) (is_place n) e in and_from (terms_fit l.atom.args) (is_place n) (terms-fit count l.atom.args h.2 p.0) p.1

  -- ---- trees

  module _ (f : ℕ → Hint) (h : (n : ℕ) → HintTold (f n)) where
    mutual
      tree-written : (d from : ℕ) (t : Tree) → TreeTold count t → Each IsWritten (tree_lines d (hinted f from t))
      tree-written d from (pos_tree a k ts children) g = (pos-written a k ts g.0 g.1, trees-written (d + 1) (suc from) children g.2)
      tree-written d from (neg_tree a covers) g = (neg-written a g.0, branches-written (d + 1) (suc from) covers g.1)
      tree-written d from (loop_tree l n) g = ((lit-written l n g).0, tt)
      tree-written d from (seen_tree l n) g = ((lit-written l n g).1, tt)
      tree-written d from (test_tree c shown) g = (test-written c (f from) g (h from), tt)

      trees-written : (d from : ℕ) (ts : Trees) → TreesTold count ts → Each IsWritten (trees_lines d (all_hinted f from ts))
      trees-written d from no_tree g = tt
      trees-written d from (tree t ts) g =
          Each-append IsWritten (tree_lines d (hinted f from t)) (trees_lines d (all_hinted f (from + lines_of t) ts)) (tree-written d from t g.0) (trees-written d (from + lines_of t) ts g.1)

      branch-written : (d from : ℕ) (b : Branch) → BranchTold count b → Each IsWritten (branch_lines d (case_hinted f from b))
      branch-written d from (split c first second) g = (
        (con-written c g.0).1,
        Each-append IsWritten (branch_lines (d + 1) (case_hinted f (suc from) first)) (branch_lines (d + 1) (case_hinted f (suc from + lines_at first) second))
            (branch-written (d + 1) (suc from) first g.1) (branch-written (d + 1) (suc from + lines_at first) second g.2),
      )
      branch-written d from (void shown) g = (hint-written (f from) (h from), tt)
      branch-written d from (leaf k children) g = ((plain-written k).4, trees-written (d + 1) (suc from) children g)
      branch-written d from (head children) g = ((plain-written 0).5, trees-written (d + 1) (suc from) children g)

      branches-written : (d from : ℕ) (bs : Branches) → BranchesTold count bs → Each IsWritten (branches_lines d (covers_hinted f from bs))
      branches-written d from no_branch g = tt
      branches-written d from (branch k b bs) g = (
        (plain-written k).3,
        Each-append IsWritten (branch_lines (d + 1) (case_hinted f (suc from) b)) (branches_lines d (covers_hinted f (from + (1 + lines_at b)) bs))
            (branch-written (d + 1) (suc from) b g.0) (branches-written d (from + (1 + lines_at b)) bs g.1),
      )

    listed-written : (d from : ℕ) (ts : List Tree) → Each (TreeTold count) ts → Each IsWritten (trees_lines d (listed (trees_hinted f from ts)))
    listed-written d from [] g = tt
    listed-written d from (t ∷ ts) g =
        Each-append IsWritten (tree_lines d (hinted f from t)) (trees_lines d (listed (trees_hinted f (from + lines_of t) ts))) (tree-written d from t g.0) (listed-written d (from + lines_of t) ts g.1)

    checks-written : (from : ℕ) (cs : List (ℕ × Branch)) → Each (EntryTold count) cs → Each IsWritten (flat_map check_lines (checks_hinted f from cs))
    checks-written from [] g = tt
    checks-written from (c ∷ cs) g = (
      (plain-written c.0).1,
      Each-append IsWritten (branch_lines 1 (case_hinted f (suc from) c.1)) (flat_map check_lines (checks_hinted f (from + (1 + lines_at c.1)) cs)) (branch-written 1 (suc from) c.1 g.0)
          (checks-written (from + (1 + lines_at c.1)) cs g.1),
    )

    givens-written : (cs : List Con) → Each (ConTold count) cs → Each IsWritten (map (λ g. at 0 (given_line g)) cs)
    givens-written [] g = tt
    givens-written (c ∷ cs) g = ((con-written c g.0).0, givens-written cs g.1)

    clashes-written : (ks : List Clash) → Each (λ (k : Clash). HintTold k.hint) ks → Each IsWritten (map (λ k. at 0 (clash_line k)) ks)
    clashes-written [] g = tt
    clashes-written (k ∷ ks) g = (clash-written k g.0, clashes-written ks g.1)

    map-lines-written : (ms : List PredMap) → Each (λ (m : PredMap). nat_lt m.pred.name count ≡ true) ms → Each IsWritten (map (λ m. at 0 (map_line m)) ms)
    map-lines-written [] g = tt
    map-lines-written (m ∷ ms) g = (map-written m g.0, map-lines-written ms g.1)

    pub block-written : (c : Certificate) (clashes : List Clash) (n : ℕ) → CertificateTold count c → Each (λ (k : Clash). HintTold k.hint) clashes → Each IsWritten (block_lines (shown_by f clashes c) n)
    block-written c clashes n g k =
        let shown : Certificate = shown_by f clashes c in
        let a : List Placed = at 0 (answer_line c.query n c.terms) ∷ map (λ g. at 0 (given_line g)) c.given in
        let t : List Placed = at 0 (sample_line c.sample) ∷ at 0 tree_line ∷ trees_lines 1 (listed shown.trees) in
        let checks : List Placed = flat_map check_lines shown.checks in
        let told : List Placed = map (λ k. at 0 (clash_line k)) clashes in
        let maps : List Placed = map (λ m. at 0 (map_line m)) c.map in
        let one : Each IsWritten a = (answer-written c.query n c.terms g.terms, givens-written c.given g.given) in
        let two : Each IsWritten t = (sample-written c.sample g.sample g.sample_fits, ((plain-written 0).0, listed-written 1 1 c.trees g.trees)) in
        let three = Each-append IsWritten a t one two in
        let four = Each-append IsWritten (a ++ t) checks three (checks-written (1 + lines_below (listed c.trees)) c.checks g.checks) in
        let five = Each-append IsWritten (a ++ t ++ checks) told four (clashes-written clashes k) in
        let six = Each-append IsWritten (a ++ t ++ checks ++ told) maps five (map-lines-written c.map g.map) in
        Each-append IsWritten (a ++ t ++ checks ++ told ++ maps) (at 0 end_line ∷ []) six ((plain-written 0).2, tt)
