use Rattle.std.proofs.Common.{◌≡◌, ◌-◌, length}
use Rattle.scasp_search_state.specs.Choices.{rules_in}
use Rattle.scasp_syntax.specs.Programs.{pred_of}
use Rattle.scasp_search_steps.proofs.clauses.first_rule.Given as goal

abbrev pub invariant-loop-place : goal.invariant-loop-place
invariant-loop-place l = rules_in l.clauses (pred_of l.atom) l.behind ≡ rules_in l.clauses (pred_of l.atom) l.place

abbrev pub decreases-loop-place : goal.decreases-loop-place
decreases-loop-place l = length l.clauses - l.place
