use Rattle.std.proofs.Common.{◌≡◌, suc, drop}
use Rattle.scasp_list.specs.Each.{Each}
use Rattle.scasp_hint.specs.Finding.{first_forced}
use Rattle.scasp_hint.specs.Verdicts.{ArePlain}
use Rattle.scasp_hint.proofs.finding.first_forced.Given as goal

abbrev pub invariant-loop-place : goal.invariant-loop-place
invariant-loop-place l = record {
  same : first_forced l.fn.rows (suc l.place) (drop l.place l.disequations) ≡ first_forced l.fn.rows 1 l.disequations;
  kept : l.rows ≡ l.fn.rows;
  plain : Each ArePlain (drop l.place l.disequations);
}
