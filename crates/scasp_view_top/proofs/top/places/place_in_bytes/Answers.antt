use Rattle.std.proofs.Common.{arith}
use Rattle.scasp_view_top.proofs.TopLemmas.PlaceLemmas.{past-line, place-line}
use Rattle.scasp_view_top.proofs.top.places.place_in_bytes.Goals as goal

pub returns-then-len-byte : goal.returns-then-len-byte
returns-then-len-byte c = past-line c.args.bytes.now c.args.byte c.numbered_line.result (omega (arith, c.if-len-byte.true)) c.numbered_line.ensures

pub returns-else-len-byte : goal.returns-else-len-byte
returns-else-len-byte c = place-line c.args.bytes.now c.args.byte c.place_line.result (omega (arith, c.if-len-byte.false)) c.place_line.ensures
