use Rattle.std.proofs.Common.{◌≡◌, drop, map}
use Rattle.scasp_cert.specs.Trees.{covering, listed}
use Rattle.scasp_cert.specs.View.{cover_of, tree_of}
use Rattle.scasp_law_promise.specs.OwnRows.{are_normal, constraints_below, constraints_in}
use Rattle.scasp_law_promise.proofs.rows.+rows.Given as goal

abbrev pub invariant-see_nodes-loop-node : goal.invariant-see_nodes-loop-node
invariant-see_nodes-loop-node l =
    are_normal (constraints_below (listed (map tree_of l.node-items)))
    ≡ are_normal (constraints_below (listed (map tree_of (drop l.node-index l.node-items))))

abbrev pub invariant-see_covers-loop-cover : goal.invariant-see_covers-loop-cover
invariant-see_covers-loop-cover l =
    are_normal (constraints_in (covering (map cover_of l.cover-items)))
    ≡ are_normal (constraints_in (covering (map cover_of (drop l.cover-index l.cover-items))))
