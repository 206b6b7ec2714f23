use Rattle.std.proofs.Common.{◌≡◌, ◌-◌}
use Rattle.scasp_lines.specs.Covers.{covering, with_universals}
use Rattle.scasp_lines_places.specs.Places.View.{cover_of, opening_of}
use Rattle.scasp_lines_places.proofs.places.cover.covering.Given as goal

abbrev pub invariant-loop-x : goal.invariant-loop-x
invariant-loop-x l = covering l.vars l.fn.next (opening_of l.fn.opening) ≡ with_universals (l.vars - l.x) l.x (cover_of l.cover)
