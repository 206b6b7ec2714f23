use Rattle.std.proofs.Common.{◌∙◌, ap}
use Rattle.std.specs.List.{list_all}
use Rattle.scasp_command_check.specs.Texts.{is_accepted}
use Rattle.scasp_command_recheck.specs.Worths.{worth_in}
use Rattle.scasp_command_recheck.proofs.BlockLemmas.{outcome-is}
use Rattle.scasp_command_recheck.proofs.blocks.Blocks.are_accepted.Goals as goal

pub returns : goal.returns
returns c = λ p entries h.
    c.are_accepted.ensures ∙ ap (list_all (λ k. is_accepted (worth_in k))) c.results.ensures ∙ outcome-is c.args.self.now p entries h
