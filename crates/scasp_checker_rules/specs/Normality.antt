-- Certificates and programs whose rows are in normal form. The rows of the product's types are.
use Rattle.std.specs.Prelude.{List, [], ◌∷◌}
use Rattle.scasp_list.specs.Each.{Each}
use Rattle.scasp_syntax.specs.Flat.{flat_body}
use Rattle.scasp_syntax.specs.declared.clause.Clause.{Clause}
use Rattle.scasp_syntax.specs.declared.clause.FlatItem.{FlatItem}
use Rattle.scasp_syntax.specs.declared.clause.FlatItem.TheVariants as flat
use Rattle.scasp_syntax.specs.declared.clause.Query.{Query}
use Rattle.scasp_syntax.specs.declared.con.Con.{Con}
use Rattle.scasp_syntax.specs.declared.program.Program.{Program}
use Rattle.scasp_cert.specs.Certificate.{Certificate}
use Rattle.scasp_cert.specs.Trees.{Tree, Branch, pos_tree, neg_tree, loop_tree, seen_tree, test_tree, split, void, leaf, head}
use Rattle.scasp_hint.specs.AskedRows.{RowsNormal}
use Rattle.scasp_lines.specs.Lines.{lines}
use Rattle.scasp_lines.specs.Walk.{Part, of_node, of_rule, of_check, of_case, Line}

abbrev pub on_node : Tree → List Con
on_node (pos_tree a k ts children) = []
on_node (neg_tree a covers) = []
on_node (loop_tree lit to) = []
on_node (seen_tree lit to) = []
on_node (test_tree c hint) = c ∷ []

abbrev pub on_case : Branch → List Con
on_case (split c first second) = c ∷ []
on_case (void hint) = []
on_case (leaf k children) = []
on_case (head children) = []

-- the constraint that stands on a line
abbrev pub on_part : Part → List Con
on_part (of_node due t) = on_node t
on_part (of_rule k a b) = []
on_part (of_check k b) = []
on_part (of_case body b) = on_case b

abbrev pub LineNormal : Line → Type 0
LineNormal l = RowsNormal (on_part l.part)

-- the test that an item is
abbrev pub item_test : FlatItem → List Con
item_test (flat.Call l) = []
item_test (flat.Test c) = c ∷ []

abbrev pub ItemNormal : FlatItem → Type 0
ItemNormal i = RowsNormal (item_test i)

-- The rows of the clauses and queries, those that are given, and those that stand on lines are in normal form.
pub record AreRowsNormal (p : Program) (c : Certificate) : Type 0 where
  pub clauses : Each (λ (k : Clause). Each ItemNormal (flat_body k.body)) p.clauses
  pub queries : Each (λ (q : Query). Each ItemNormal (flat_body q.body)) p.queries
  pub given : RowsNormal c.given
  pub lines_normal : Each LineNormal (lines p c)
