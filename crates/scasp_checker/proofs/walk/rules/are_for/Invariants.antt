use Rattle.std.proofs.Common.{◌≡◌, drop, map}
use Rattle.scasp_checker_rules.specs.LineFaults.{same_numbers}
use Rattle.scasp_cert.specs.View.{cover_of, covers_of}
use Rattle.scasp_lines_places.specs.Places.Chains.{chained}
use Rattle.scasp_checker.proofs.walk.rules.are_for.Given as goal
use Rattle.scasp_checker.specs.Walk.Rules.{named}

abbrev pub invariant-loop-cover : goal.invariant-loop-cover
invariant-loop-cover l =
    same_numbers (named (map cover_of (drop l.cover-index l.cover-items))) (chained l.rest) ≡ same_numbers (named (covers_of l.covers)) (chained l.rules)
