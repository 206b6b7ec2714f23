use Rattle.std.proofs.Common.{◌≡◌, ◌≤◌, drop, length, true}
use Rattle.scasp_checker_rules.specs.Faults.{are_single}
use Rattle.scasp_checker_answer.proofs.MapLemmas.{AreSeen}
use Rattle.scasp_checker_answer.proofs.map.are_single.Given as goal

abbrev pub invariant-entries : goal.invariant-entries
invariant-entries l =
    record {
      within : l.left ≤ length l.entries;
      seen : AreSeen l.later (drop l.left l.entries);
      single : are_single (drop l.left l.entries) ≡ true;
    }

abbrev pub decreases-entries : goal.decreases-entries
decreases-entries l = l.left
