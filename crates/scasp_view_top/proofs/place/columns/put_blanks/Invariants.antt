use Rattle.std.proofs.Common.{◌≡◌, ◌++◌, drop, map}
use Rattle.scasp_view_top.specs.Place.Characters.{blank_below}
use Rattle.scasp_view_top.proofs.place.columns.put_blanks.Given as goal

abbrev pub invariant-loop-byte : goal.invariant-loop-byte
invariant-loop-byte l =
    l.out.items ++ map blank_below (drop l.byte-index l.firsts) ≡ l.fn.out.items ++ map blank_below l.firsts
