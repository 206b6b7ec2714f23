use Rattle.std.proofs.Common.{◌∙◌}
use Rattle.scasp_touched.specs.Touched.{touched_count}
use Rattle.scasp_command_recheck.proofs.blocks.Blocks.update.Goals as goal

pub returns-clause-blocks : goal.returns-clause-blocks
returns-clause-blocks c = λ p entries h. record {
  program = c.in_ok-visited.ensures.program;
  numbers = h.numbers;
  certs = c.in_ok-visited.ensures.certs ∙ h.certs;
}

pub returns-clause-visited : goal.returns-clause-visited
returns-clause-visited c = λ p entries h.
    c.in_ok-visited.ensures.touched ∙ (λ i. touched_count (h.program i) c.args.program.now (h.certs i))
