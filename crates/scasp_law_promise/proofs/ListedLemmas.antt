-- The terms that stand on the lines of a certificate for the variables of rules are those that its trees list.
use Rattle.std.proofs.Common.{List, [], ◌++◌}
use Rattle.std.specs.List.{Contains, flat_map}
use Rattle.std.proofs.lemmas.List.Elements.{Contains-append_left, Contains-append_right}
use Rattle.scasp_list.proofs.MemberLemmas.{Contains-none}
use Rattle.scasp_syntax.specs.Tm.{Tm, items}
use Rattle.scasp_syntax.specs.declared.program.Program.{Program}
use Rattle.scasp_cert.specs.Certificate.{Certificate}
use Rattle.scasp_cert.specs.Flat.{listed_by, listed_below, listed_at, listed_in}
use Rattle.scasp_cert.specs.Trees.{Tree, pos_tree, neg_tree, loop_tree, seen_tree, test_tree, listed}
use Rattle.scasp_lines.specs.Lines.{lines}
use Rattle.scasp_lines.specs.Walk.{Part, of_node, of_rule, of_check, of_case, Line}
use Rattle.scasp_law_promise.proofs.GatherLemmas.{Gathers, lines-passed}

abbrev pub terms_on_node : Tree → List Tm
terms_on_node (pos_tree a k ts children) = items ts
terms_on_node (neg_tree a covers) = []
terms_on_node (loop_tree lit to) = []
terms_on_node (seen_tree lit to) = []
terms_on_node (test_tree c hint) = []

-- the terms that stand on a line for the variables of its rule
abbrev pub terms_on : Part → List Tm
terms_on (of_node due t) = terms_on_node t
terms_on (of_rule k a b) = []
terms_on (of_check k b) = []
terms_on (of_case body b) = []

-- the terms that a certificate lists
abbrev pub listed_terms : Certificate → List Tm
listed_terms c = listed_below (listed c.trees) ++ flat_map (λ k. listed_at k.1) c.checks

own-terms : (t : Tree) (x : Tm) → Contains (terms_on_node t) x → Contains (listed_by t) x
own-terms (pos_tree a k ts us) x i = Contains-append_left (items ts) (listed_below us) x i
own-terms (neg_tree a bs) x i = absurd (Contains-none x i)
own-terms (loop_tree lit to) x i = i
own-terms (seen_tree lit to) x i = i
own-terms (test_tree c hint) x i = i

terms-gather : Gathers terms_on listed_by listed_below listed_at listed_in
terms-gather =
    record {
      node = λ due t x i. own-terms t x i;
      case = λ body b x i. absurd (Contains-none x i);
      rule = λ k a b x i. absurd (Contains-none x i);
      check = λ k b x i. absurd (Contains-none x i);
      children = λ a k ts us x i. Contains-append_right (items ts) (listed_below us) x i;
      covers = λ a bs x i. i;
      first_tree = λ t ts x i. Contains-append_left (listed_by t) (listed_below ts) x i;
      other_trees = λ t ts x i. Contains-append_right (listed_by t) (listed_below ts) x i;
      first_side = λ c f g x i. Contains-append_left (listed_at f) (listed_at g) x i;
      second_side = λ c f g x i. Contains-append_right (listed_at f) (listed_at g) x i;
      of_leaf = λ k ts x i. i;
      of_head = λ ts x i. i;
      first_cover = λ k b bs x i. Contains-append_left (listed_at b) (listed_in bs) x i;
      other_covers = λ k b bs x i. Contains-append_right (listed_at b) (listed_in bs) x i;
    }

pub line-lists : (p : Program) (c : Certificate) (l : Line) → Contains (lines p c) l → (t : Tm) → Contains (terms_on l.part) t → Contains (listed_terms c) t
line-lists p c l i =
    (lines-passed terms_on listed_by listed_below listed_at listed_in terms-gather (λ (t : Tm). Contains (listed_terms c) t) p c (λ t j. j)).at l i
