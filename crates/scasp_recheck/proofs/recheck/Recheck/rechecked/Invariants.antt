use Rattle.std.proofs.Common.{◌≡◌, take}
use Rattle.scasp_recheck.proofs.TallyLemmas.{IsTally}
use Rattle.scasp_recheck.proofs.recheck.Recheck.rechecked.Given as goal

abbrev pub invariant-loop-place : goal.invariant-loop-place
invariant-loop-place l =
    IsTally l.self.program l.program l.tally (take l.place l.filed-items) × (l.step.edit.old.now ≡ l.self.program) × (l.step.edit.new.now ≡ l.program)
