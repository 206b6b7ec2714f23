-- One line more, and one pair more.
use Rattle.std.proofs.Common.{◌≡◌, ◌∙◌, ℕ, Bool, true, ◌&&◌, List, [], ◌∷◌, ◌++◌, map, reverse, take, length, Result, Ok, Err, refl, ap, sym, append_assoc, arith}
use Rattle.std.specs.List.{flat_map, list_all}
use Rattle.std.specs.Prelude.{IfOk}
use Rattle.scasp_search_trees.specs.Stacked.{without_covers}
use Rattle.scasp_cert.proofs.ViewLemmas.{head-is, leaf-is, neg-is, pos-is}
use Rattle.scasp_cert.specs.Trees.{Tree, Branch, covering, head, leaf, listed, neg_tree, pos_tree}
use Rattle.scasp_cert.specs.View.{branch_of, covers_of, tree_of, trees_of}
use Rattle.scasp_cert.specs.declared.certificate.Clash.{Clash}
use Rattle.scasp_cert.specs.declared.tree.Case.{Case}
use Rattle.scasp_cert.specs.declared.tree.Case.TheVariants as case
use Rattle.scasp_cert.specs.declared.tree.Covers.{Covers}
use Rattle.scasp_cert.specs.declared.tree.Node.{Node}
use Rattle.scasp_cert.specs.declared.tree.Node.TheVariants as node
use Rattle.scasp_cert.specs.declared.tree.Nodes.{Nodes}
use Rattle.scasp_lines.proofs.CountLemmas.{count-listed}
use Rattle.scasp_lines.specs.Below.{rule_numbers}
use Rattle.scasp_list.specs.declared.memory.Memory.{Memory}
use Rattle.scasp_syntax.specs.Tm.{Tms}
use Rattle.scasp_syntax.specs.declared.atom.Atom.{Atom}
use Rattle.std.proofs.Math.Bool.{and-true, and_assoc}
use Rattle.std.proofs.lemmas.List.{append-nil}
use Rattle.std.proofs.lemmas.List.Folds.{list_all-append}
use Rattle.scasp_checker_rules.specs.Pairs.{all_pairs}
use Rattle.scasp_checker_rules.specs.Told.{Told, all_told}
use Rattle.scasp_hint_steps.specs.Pruned.{found_pruned}
use Rattle.scasp_lines.specs.Walk.{Line}
use Rattle.scasp_checker.specs.Partners.Partners.{group_of, grouped, pairs_of}
use Rattle.scasp_checker.specs.declared.partners.partners.Partners.{Partners}
use Rattle.scasp_checker.proofs.PartnersLemmas.PartnerLemmas.{last-first, pairs-grouped}
use Rattle.scasp_lines_walk.proofs.ShownLemmas.StandingLemmas.{standings-tell}
use Rattle.scasp_lines_walk.specs.Shown.Standings.{Standing, standings, told_by}
use Rattle.scasp_search_rules.specs.Successors.Trees.{Built, with_case, with_node, without_nodes}
use Rattle.scasp_syntax.specs.declared.con.Con.{Con}
use Rattle.scasp_syntax.specs.declared.hint.Hint.{Hint}
use Rattle.scasp_fill.specs.Filling.Filled.{clash_for, is_known, is_pair_known}
use Rattle.scasp_fill.specs.Filling.Inside.Clashing.{with_pairs}
use Rattle.scasp_fill.specs.Filling.Inside.Findings.{all_known}
use Rattle.scasp_fill.specs.Filling.Inside.Pieces.{hinted_value, onto, put, put_branch, put_tree}
use Rattle.scasp_fill.specs.declared.filling.clashes.Clashing.{Clashing}
use Rattle.scasp_fill.specs.declared.filling.hints.Hinted.{Hinted}
use Rattle.scasp_fill.proofs.FillingLemmas.ClashFoundLemmas.{pairs-all, pairs-append}

-- ---- lines with their hints

module _ {X : Type 0} (f : Line → X) (made more all : List X) (ls rest : List Line) where
  pub one-line : (l : Line) → ls ≡ l ∷ rest → more ≡ made ++ f l ∷ [] → made ++ map f ls ≡ all → more ++ map f rest ≡ all
  one-line l e p h =
      ap (λ (xs : List X). xs ++ map f rest) p ∙ append_assoc made (f l ∷ []) (map f rest)
      ∙ ap (λ (ks : List Line). made ++ map f ks) (sym e) ∙ h

  pub no-line : ls ≡ [] → made ++ map f ls ≡ all → made ≡ all
  no-line e h = sym (append-nil made) ∙ ap (λ (ks : List Line). made ++ map f ks) (sym e) ∙ h

module _ (lists : Line → List (List Con)) (known more all : Bool) (ls rest : List Line) where
  pub one-known : (l : Line) → ls ≡ l ∷ rest → more ≡ (known && all_known (lists l))
      → (known && all_known (flat_map lists ls)) ≡ all → (more && all_known (flat_map lists rest)) ≡ all
  one-known l e p h =
      ap (λ (b : Bool). b && all_known (flat_map lists rest)) p ∙ and_assoc known (all_known (lists l)) (all_known (flat_map lists rest))
      ∙ ap (λ (b : Bool). known && b) (sym (list_all-append (λ (cs : List Con). is_known (found_pruned cs)) (lists l) (flat_map lists rest)))
      ∙ ap (λ (ks : List Line). known && all_known (flat_map lists ks)) (sym e) ∙ h

  pub no-known : ls ≡ [] → (known && all_known (flat_map lists ls)) ≡ all → known ≡ all
  no-known e h = sym (and-true known) ∙ ap (λ (ks : List Line). known && all_known (flat_map lists ks)) (sym e) ∙ h

-- the last line is put first
pub onto_last : (hs : List Hinted) (h : Hinted) (b : Built) → onto (map hinted_value (hs ++ h ∷ [])) b ≡ onto (map hinted_value hs) (put (hinted_value h) b)
onto_last [] h b = refl
onto_last (k ∷ ks) h b = ap (put (hinted_value k)) (onto_last ks h b)

-- ---- what a line over others is, as it is put

pub leaf-is_put : (item n : ℕ) (children : Nodes) (c : Case) (h : Hint) (b : Built) → n ≡ length (trees_of children) → c ≡ case.Leaf item children
    → with_case (leaf item (listed (take n b.nodes))) 0 (without_nodes n b) ≡ put_branch (branch_of c) h b
leaf-is_put item n children c h b e is =
    ap (λ m. with_case (leaf item (listed (take m b.nodes))) 0 (without_nodes m b)) (e ∙ sym (count-listed (trees_of children)))
    ∙ ap (λ (x : Branch). put_branch x h b) (sym (leaf-is item children) ∙ ap branch_of (sym is))

pub head-is_put : (n : ℕ) (children : Nodes) (c : Case) (h : Hint) (b : Built) → n ≡ length (trees_of children) → c ≡ case.Head children
    → with_case (head (listed (take n b.nodes))) 0 (without_nodes n b) ≡ put_branch (branch_of c) h b
head-is_put n children c h b e is =
    ap (λ m. with_case (head (listed (take m b.nodes))) 0 (without_nodes m b)) (e ∙ sym (count-listed (trees_of children)))
    ∙ ap (λ (x : Branch). put_branch x h b) (sym (head-is children) ∙ ap branch_of (sym is))

pub pos-is_put : (a made : Atom) (rule n : ℕ) (ts us : Tms) (children : Nodes) (t : Node) (h : Hint) (b : Built) → made ≡ a → us ≡ ts → n ≡ length (trees_of children)
    → t ≡ node.Pos a rule ts children → with_node (pos_tree made rule us (listed (take n b.nodes))) n b ≡ put_tree (tree_of t) h b
pos-is_put a made rule n ts us children t h b f g e is =
    (λ i. with_node (pos_tree (f i) rule (g i) (listed (take ((e ∙ sym (count-listed (trees_of children))) i) b.nodes))) ((e ∙ sym (count-listed (trees_of children))) i) b)
    ∙ ap (λ (x : Tree). put_tree x h b) (sym (pos-is a rule ts children) ∙ ap tree_of (sym is))

covers-counted : (ks : List (ℕ × Branch)) → length (rule_numbers (covering ks)) ≡ length ks
covers-counted [] = refl
covers-counted (k ∷ ks) = let e = covers-counted ks in omega (arith, e)

pub neg-is_put : (a made : Atom) (n : ℕ) (covers : Covers) (t : Node) (h : Hint) (b : Built) → made ≡ a → n ≡ length (covers_of covers)
    → t ≡ node.Neg a covers → with_node (neg_tree made (covering (take n b.covers))) 0 (without_covers n b) ≡ put_tree (tree_of t) h b
neg-is_put a made n covers t h b f e is =
    (λ i. with_node (neg_tree (f i) (covering (take ((e ∙ sym (covers-counted (covers_of covers))) i) b.covers))) 0 (without_covers ((e ∙ sym (covers-counted (covers_of covers))) i) b))
    ∙ ap (λ (x : Tree). put_tree x h b) (sym (neg-is a covers) ∙ ap tree_of (sym is))

-- ---- pairs by their first literal

abbrev pub none_yet : Clashing
none_yet = record { clashes = []; known = true }

module _ (free : ℕ) (given : List Con) where
  -- the last literal is the first of the reversed list
  pub one-group : (left old : List Partners) (g : Partners) (m : Clashing) → old ≡ left ++ g ∷ []
      → with_pairs free given (flat_map pairs_of (map group_of (reverse old))) m
      ≡ with_pairs free given (flat_map pairs_of (map group_of (reverse left))) (with_pairs free given (pairs_of (group_of g)) m)
  one-group left old g m e =
      ap (λ (gs : List Partners). with_pairs free given (flat_map pairs_of (map group_of (reverse gs))) m) e
      ∙ ap (λ (gs : List (Told × List Told)). with_pairs free given (flat_map pairs_of gs) m) (last-first group_of left g)
      ∙ pairs-append free given (pairs_of (group_of g)) (flat_map pairs_of (map group_of (reverse left))) m

  -- from the pairs of all literals
  pub all-groups : (groups : List (Told × List Told)) (told : List Told) (table : List Standing) (ls : List Line)
      → groups ≡ grouped told → told ≡ flat_map told_by table → table ≡ standings ls
      → with_pairs free given (flat_map pairs_of groups) none_yet
      ≡ record { clashes = flat_map (clash_for free given) (all_pairs (all_told ls)); known = list_all (is_pair_known free given) (all_pairs (all_told ls)) }
  all-groups groups told table ls g t s =
      let same : told ≡ all_told ls = t ∙ ap (flat_map told_by) s ∙ standings-tell ls in
      let pairs : flat_map pairs_of groups ≡ all_pairs (all_told ls) = ap (flat_map pairs_of) (g ∙ ap grouped same) ∙ pairs-grouped (all_told ls) in
      pairs-all free given (flat_map pairs_of groups) none_yet
      ∙ (λ i. record { clashes = flat_map (clash_for free given) (pairs i); known = list_all (is_pair_known free given) (pairs i) })

pub if-clashes : (r : Result Clashing Memory) (x : Clashing) (ks : List Clash) → x.clashes ≡ ks → IfOk r (λ m. m ≡ x) → IfOk r (λ m. m.clashes ≡ ks)
if-clashes (Ok m) x ks e h = ap (λ (k : Clashing). k.clashes) h ∙ e
if-clashes (Err why) x ks e h = tt

pub if-known : (r : Result Clashing Memory) (x : Clashing) (b : Bool) → x.known ≡ b → IfOk r (λ m. m ≡ x) → IfOk r (λ m. m.known ≡ b)
if-known (Ok m) x b e h = ap (λ (k : Clashing). k.known) h ∙ e
if-known (Err why) x b e h = tt
