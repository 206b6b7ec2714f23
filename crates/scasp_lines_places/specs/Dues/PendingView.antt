-- The values that the parts which wait are.
use Rattle.std.specs.Prelude.{List, map}
use Rattle.scasp_cert.specs.Certificate.{check_of}
use Rattle.scasp_cert.specs.Trees.{covering, listed}
use Rattle.scasp_cert.specs.View.{branch_of, cover_of, tree_of}
use Rattle.scasp_lines_places.specs.Dues.Pending.{Pending as PendingValue, nodes, rules, one_case, checks}
use Rattle.scasp_lines_places.specs.declared.dues.pending.Pending.{Pending}
use Rattle.scasp_lines_places.specs.declared.dues.pending.Pending.TheVariants as pending

abbrev pub pending_of : Pending → PendingValue
pending_of (pending.Nodes rest) = nodes (listed (map tree_of rest.now))
pending_of (pending.Rules rest) = rules (covering (map cover_of rest.now))
pending_of (pending.Case b) = one_case (branch_of b.now)
pending_of (pending.Checks rest) = checks (map check_of rest.now)

-- what waits, the last put behind
abbrev pub waiting_of : List Pending → List PendingValue
waiting_of ws = map pending_of ws
