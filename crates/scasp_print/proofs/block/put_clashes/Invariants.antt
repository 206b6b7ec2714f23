use Rattle.std.proofs.Common.{◌≡◌, ◌++◌, drop}
use Rattle.std.specs.Prelude.{flat_map}
use Rattle.scasp_cert.specs.Text.Block.{clash_line}
use Rattle.scasp_print.proofs.block.put_clashes.Given as goal

abbrev pub invariant-loop-clash : goal.invariant-loop-clash
invariant-loop-clash l =
    l.out.items ++ flat_map clash_line (drop l.clash-index l.clash-items)
    ≡ l.fn.out.items ++ flat_map clash_line l.clashes
