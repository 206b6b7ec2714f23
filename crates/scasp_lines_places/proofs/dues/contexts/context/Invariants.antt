use Rattle.std.proofs.Common.{◌≡◌, map, take, vec_len}
use Rattle.scasp_lines.specs.Contexts.{context}
use Rattle.scasp_lines_places.specs.Places.View.{all_opened}
use Rattle.scasp_lines_places.specs.Dues.Seen.{seen}
use Rattle.scasp_lines_places.proofs.dues.contexts.context.Given as goal

abbrev pub invariant-loop-constraint : goal.invariant-loop-constraint
invariant-loop-constraint l = l.list ≡ take l.constraint-index l.given

abbrev pub invariant-loop-entry : goal.invariant-loop-entry
invariant-loop-entry l = context l.list (map seen l.left.items) ≡ context l.given (all_opened l.opened)

abbrev pub decreases-loop-entry : goal.decreases-loop-entry
decreases-loop-entry l = vec_len l.left
