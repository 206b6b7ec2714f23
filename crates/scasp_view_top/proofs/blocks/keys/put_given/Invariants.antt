use Rattle.std.proofs.Common.{◌≡◌, ◌++◌, drop, flat_map}
use Rattle.scasp_cert.specs.Text.Block.{given_line}
use Rattle.scasp_view_top.proofs.blocks.keys.put_given.Given as goal

abbrev pub invariant-loop-con : goal.invariant-loop-con
invariant-loop-con l =
    l.out.items ++ flat_map (given_line l.names) (drop l.con-index l.con-items) ≡ l.fn.out.items ++ flat_map (given_line l.names) l.given
