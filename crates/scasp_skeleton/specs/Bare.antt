-- What the lines of a certificate make from the last one back, where each hint is Terms.
use Rattle.std.specs.Prelude.{List, [], ◌∷◌}
use Rattle.scasp_cert.specs.Walk.{Line, case_line, check_line, node_line, rule_line}
use Rattle.scasp_search_rules.specs.Successors.Trees.{Built}
use Rattle.scasp_search_trees.specs.Stacked.{with_check, with_rule}
use Rattle.scasp_skeleton.specs.Copies.{put_branch, put_tree}
use Rattle.scasp_syntax.specs.declared.hint.Hint.TheVariants as hint

-- what a line makes of what the lines behind it make
abbrev pub put : Line → Built → Built
put (node_line t) b = put_tree t hint.Terms b
put (rule_line k x) b = with_rule k b
put (case_line x) b = put_branch x hint.Terms b
put (check_line k x) b = with_check k b

abbrev pub onto : List Line → Built → Built
onto [] b = b
onto (l ∷ ls) b = put l (onto ls b)
