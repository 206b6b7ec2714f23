use Rattle.std.proofs.Common.{Global, map, string_bytes}
use Rattle.scasp_command_inputs.specs.Inputs.{outside}
use Rattle.scasp_view_top.proofs.TopLemmas.ReportLemmas.{completes, halt-reports, read-cause, write-cause}
use Rattle.scasp_view_top.specs.Words.Asked.{asked_of}
use Rattle.scasp_view_top.proofs.top.view.Goals as goal

pub returns : goal.returns
returns g c =
    let asked = asked_of (map (string_bytes {Z = Global}) c.args.words.now.items) in
    let o = outside (g.F.Files.told c.args.files.now) (g.F.Files.faults c.args.files.now) (g.F.Files.faults c.shown_for-halt.new.files) in
    let reports = halt-reports asked o _ _ _ _ c.tell.result c.shown_for-halt.result c.shown_for-halt.ensures c.tell.ensures in
    record {
      reports = reports;
      read = read-cause asked o _ _ _ _ c.tell.result reports;
      write = write-cause asked o _ _ _ _ c.tell.result reports;
      complete = completes asked o _ _ _ _ c.tell.result reports;
    }
