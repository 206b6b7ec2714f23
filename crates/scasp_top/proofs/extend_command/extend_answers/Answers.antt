use Rattle.scasp_top.proofs.CommandLemmas.{goes-on-extend}
use Rattle.scasp_top.proofs.extend_command.extend_answers.Goals as goal

pub returns : goal.returns
returns g c =
    goes-on-extend c.args.program.now c.args.answers.now c.args.domain.now (g.F.Files.told c.args.files.now) (g.F.Files.faults c.args.files.now)
    (g.F.Files.faults c.extend_files.new.files) _ _ _ _ _ c.extend_files.ensures
