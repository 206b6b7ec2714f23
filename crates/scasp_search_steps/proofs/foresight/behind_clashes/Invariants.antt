use Rattle.std.proofs.Common.{◌≡◌, List, ◌++◌, length}
use Rattle.scasp_search_rules.specs.declared.states.state.State.{State}
use Rattle.scasp_search_state.specs.Choices.{left, rules_behind}
use Rattle.scasp_search_state.specs.declared.choice.Choice.TheVariants as choice
use Rattle.scasp_search_steps.specs.Foresight.{ExpectsFirst, Skips}
use Rattle.scasp_search_steps.specs.declared.expected.Expected.TheVariants as expected
use Rattle.scasp_search_steps.proofs.foresight.behind_clashes.Given as goal

abbrev pub invariant-loop-rule : goal.invariant-loop-rule
invariant-loop-rule l = record {
  none : l.expected ≡ expected.Open → l.last ≡ l.behind;
  skips :
      (s : State) (rest : List State) → ExpectsFirst s l.lit.atom.args l.expected
      → Skips l.program (left l.program (choice.ByRules l.lit l.behind) s ++ rest) (left l.program (choice.ByRules l.lit l.last) s ++ rest);
}

abbrev pub decreases-loop-rule : goal.decreases-loop-rule
decreases-loop-rule l = length (rules_behind l.program l.lit l.last)
