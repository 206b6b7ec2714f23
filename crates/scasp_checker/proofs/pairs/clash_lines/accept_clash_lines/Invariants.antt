use Rattle.std.proofs.Common.{◌≡◌, drop}
use Rattle.std.specs.List.{flat_map}
use Rattle.scasp_checker_rules.specs.Pairs.{other_clash}
use Rattle.scasp_checker_rules.specs.Told.{all_told}
use Rattle.scasp_checker_lines.specs.LineFaults.Whole.{whole}
use Rattle.scasp_checker.proofs.pairs.clash_lines.accept_clash_lines.Given as goal

abbrev pub invariant-loop-clash : goal.invariant-loop-clash
invariant-loop-clash l =
    let ts = all_told (whole l.common).lines in
    flat_map (other_clash ts) (drop l.clash-index l.clash-items) ≡ flat_map (other_clash ts) l.clash-items
