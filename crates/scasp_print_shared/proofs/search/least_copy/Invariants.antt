use Rattle.std.proofs.Common.{◌≡◌, drop, take}
use Rattle.scasp_print_shared.specs.Inside.Lines.{read_all}
use Rattle.scasp_print_shared.specs.Inside.Places.{first_among}
use Rattle.scasp_print_shared.specs.Shared.{is_copy}
use Rattle.scasp_print_shared.proofs.search.least_copy.Given as goal

abbrev pub invariant-loop-place : goal.invariant-loop-place
invariant-loop-place l =
    first_among (is_copy (take l.line (read_all l.lines)) (drop l.line (read_all l.lines))) (drop l.place-index l.place-items)
    ≡ first_among (is_copy (take l.line (read_all l.lines)) (drop l.line (read_all l.lines))) l.place-items
