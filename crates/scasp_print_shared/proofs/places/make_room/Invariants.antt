use Rattle.std.proofs.Common.{◌≡◌, ℕ, ◌+◌, ◌-◌, vec_len}
use Rattle.scasp_print_shared.specs.Inside.Places.{listed}
use Rattle.scasp_print_shared.proofs.places.make_room.Given as goal

abbrev pub invariant-loop-alloc : goal.invariant-loop-alloc
invariant-loop-alloc l = (other : ℕ) → listed l.lists.items other ≡ listed l.fn.lists.items other

abbrev pub decreases-loop-alloc : goal.decreases-loop-alloc
decreases-loop-alloc l = l.class + 1 - vec_len l.lists
