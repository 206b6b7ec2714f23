-- What is still to be put of trees: its text, the first in front, and a number that falls with each line.
use Rattle.std.specs.Prelude.{ℕ, ◌+◌, ◌*◌, List, [], ◌∷◌, ◌++◌, map}
use Rattle.scasp_cert.specs.Lines.{lines_at, lines_below, lines_in}
use Rattle.scasp_cert.specs.Text.Trees.{branch_text, branches_text, trees_text}
use Rattle.scasp_cert.specs.Trees.{covering, listed}
use Rattle.scasp_cert.specs.View.{branch_of, cover_of, tree_of}
use Rattle.scasp_print.specs.declared.trees.Waiting.{Waiting}
use Rattle.scasp_print.specs.declared.trees.Waiting.TheVariants as waiting

abbrev pub text_of : List (List ℕ) → Waiting → List ℕ
text_of names (waiting.Nodes depth nodes) = trees_text names depth (listed (map tree_of nodes.now))
text_of names (waiting.Rules depth rules) = branches_text names depth (covering (map cover_of rules.now))
text_of names (waiting.Case depth case) = branch_text names depth (branch_of case.now)

abbrev pub all_text : List (List ℕ) → List Waiting → List ℕ
all_text names [] = []
all_text names (w ∷ ws) = text_of names w ++ all_text names ws

abbrev pub weight : Waiting → ℕ
weight (waiting.Nodes depth nodes) = 2 * lines_below (listed (map tree_of nodes.now)) + 1
weight (waiting.Rules depth rules) = 2 * lines_in (covering (map cover_of rules.now)) + 1
weight (waiting.Case depth case) = 2 * lines_at (branch_of case.now)

abbrev pub weights : List Waiting → ℕ
weights [] = 0
weights (w ∷ ws) = weight w + weights ws
