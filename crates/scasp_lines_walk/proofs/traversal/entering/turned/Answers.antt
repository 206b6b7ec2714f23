use Rattle.scasp_lines_places.specs.Dues.DueView.{due_value}
use Rattle.scasp_lines_walk.proofs.TraversalLemmas.StackLemmas.{turned_back}
use Rattle.scasp_lines_walk.proofs.traversal.entering.turned.Goals as goal

pub returns : goal.returns
returns c =
    let turned = c.reverse.ensures.items in
    let same = c.into_vec-turned.ensures in
    let back = turned_back due_value c.into_vec-turned.result.items in
    cc
