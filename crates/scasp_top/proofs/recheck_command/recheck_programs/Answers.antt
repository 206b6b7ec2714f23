use Rattle.scasp_top.proofs.CommandLemmas.{goes-on-recheck}
use Rattle.scasp_top.proofs.recheck_command.recheck_programs.Goals as goal

pub returns : goal.returns
returns g c =
    goes-on-recheck c.args.answers.now c.args.programs.now (g.F.Files.told c.args.files.now) (g.F.Files.faults c.args.files.now) (g.F.Files.faults c.recheck_files.new.disk)
    _ _ _ _ _ c.recheck_files.ensures
