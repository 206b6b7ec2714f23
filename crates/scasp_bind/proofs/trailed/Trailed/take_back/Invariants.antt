use Rattle.std.proofs.Common.{◌≡◌, ◌≤◌, ◌++◌, List, length}
use Rattle.scasp_bind.specs.Kept.{all_taken_back}
use Rattle.scasp_bind.specs.declared.variable.Change.{Change}
use Rattle.scasp_bind.proofs.trailed.Trailed.take_back.Given as goal

abbrev pub invariant-loop-self : goal.invariant-loop-self
invariant-loop-self l =
    (rest : List Change) × (l.initial.self.changes ≡ l.self.changes ++ rest)
    × (l.self.variables ≡ all_taken_back rest l.initial.self.variables) × (l.count ≤ length l.self.changes)

abbrev pub decreases-loop-self : goal.decreases-loop-self
decreases-loop-self l = length l.self.changes
