use Rattle.std.proofs.Common.{◌≡◌, ◌+◌, ◌≤◌, drop}
use Rattle.scasp_shorten.specs.Following.{questions}
use Rattle.scasp_shorten.proofs.following.questions.Given as goal

abbrev pub invariant-loop-constraint : goal.invariant-loop-constraint
invariant-loop-constraint l = (l.count ≤ l.constraint-index) × (l.count + questions (drop l.constraint-index l.list) ≡ questions l.list)
