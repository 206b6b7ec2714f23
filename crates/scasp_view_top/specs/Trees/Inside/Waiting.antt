-- What is still to be shown: its rows, the first in front, and a number that falls with each row.
use Rattle.std.specs.Prelude.{ℕ, ◌+◌, ◌*◌, List, [], ◌∷◌, ◌++◌, map}
use Rattle.scasp_cert.specs.Certificate.{check_of}
use Rattle.scasp_cert.specs.Lines.{lines_at, lines_below, lines_in, lines_under}
use Rattle.scasp_cert.specs.Trees.{covering, listed}
use Rattle.scasp_cert.specs.View.{branch_of, cover_of, tree_of}
use Rattle.scasp_view_top.specs.Trees.Rows.{Row, trees_rows, case_rows, covers_rows, checks_rows}
use Rattle.scasp_view_top.specs.Trees.Settings.{Setting}
use Rattle.scasp_view_top.specs.declared.trees.Waiting.{Waiting}
use Rattle.scasp_view_top.specs.declared.trees.Waiting.TheVariants as waiting

abbrev pub rows_of : Setting → Waiting → List Row
rows_of s (waiting.Nodes stem nodes) = trees_rows s stem.items (listed (map tree_of nodes.now))
rows_of s (waiting.Covers stem covers) = covers_rows s stem.items (covering (map cover_of covers.now))
rows_of s (waiting.Case clause spot case) = case_rows s clause spot.stem.items spot.is_last (branch_of case.now)
rows_of s (waiting.Checks checks) = checks_rows s (map check_of checks.now)

abbrev pub rows_waiting : Setting → List Waiting → List Row
rows_waiting s [] = []
rows_waiting s (w ∷ ws) = rows_of s w ++ rows_waiting s ws

abbrev pub weight : Waiting → ℕ
weight (waiting.Nodes stem nodes) = 2 * lines_below (listed (map tree_of nodes.now)) + 1
weight (waiting.Covers stem covers) = 2 * lines_in (covering (map cover_of covers.now)) + 1
weight (waiting.Case clause spot case) = 2 * lines_at (branch_of case.now)
weight (waiting.Checks checks) = 2 * lines_under (map check_of checks.now) + 1

abbrev pub weights : List Waiting → ℕ
weights [] = 0
weights (w ∷ ws) = weight w + weights ws
