use Rattle.std.proofs.Common.{◌≡◌, ◌++◌, drop}
use Rattle.scasp_view_top.specs.Place.Characters.{first_bytes}
use Rattle.scasp_view_top.proofs.place.columns.first_bytes.Given as goal

abbrev pub invariant-loop-byte : goal.invariant-loop-byte
invariant-loop-byte l = l.firsts.items ++ first_bytes l.room (drop l.byte-index l.bytes) ≡ first_bytes 0 l.bytes
