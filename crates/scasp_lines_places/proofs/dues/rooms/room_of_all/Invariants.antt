use Rattle.std.proofs.Common.{◌≡◌, ◌+◌}
use Rattle.scasp_lines_places.specs.Dues.Pending.{all_room}
use Rattle.scasp_lines_places.specs.Dues.PendingView.{waiting_of}
use Rattle.scasp_lines_places.proofs.DuesLemmas.RoomLemmas.{all_size}
use Rattle.scasp_lines_places.proofs.dues.rooms.room_of_all.Given as goal

abbrev pub invariant-loop-parts : goal.invariant-loop-parts
invariant-loop-parts l = l.room + all_room l.program.clauses (waiting_of l.left.items) ≡ all_room l.program.clauses (waiting_of l.fn.waiting.items)

abbrev pub decreases-loop-parts : goal.decreases-loop-parts
decreases-loop-parts l = all_size (waiting_of l.left.items)
