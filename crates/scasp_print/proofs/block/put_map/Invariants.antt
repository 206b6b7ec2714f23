use Rattle.std.proofs.Common.{◌≡◌, ◌++◌, drop}
use Rattle.std.specs.Prelude.{flat_map}
use Rattle.scasp_cert.specs.Text.Block.{map_line}
use Rattle.scasp_print.proofs.block.put_map.Given as goal

abbrev pub invariant-loop-line : goal.invariant-loop-line
invariant-loop-line l =
    l.out.items ++ flat_map (map_line l.names) (drop l.line-index l.line-items)
    ≡ l.fn.out.items ++ flat_map (map_line l.names) l.map
