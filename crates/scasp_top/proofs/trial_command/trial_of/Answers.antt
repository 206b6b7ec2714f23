use Rattle.std.proofs.Common.{◌∙◌}
use Rattle.scasp_top.proofs.TrialLemmas.{line-tried}
use Rattle.scasp_top.proofs.trial_command.trial_of.Goals as goal

pub returns-in-Ok : goal.returns-in-Ok
returns-in-Ok c =
    line-tried c.args.n c.as_slice.result.now c.in-Ok.program c.in-Ok.names c.program_line.result
    (c.as_slice.ensures.value ∙ c.in_ok-text.ensures) c.in-Ok.ensures.ok c.program_line.ensures
