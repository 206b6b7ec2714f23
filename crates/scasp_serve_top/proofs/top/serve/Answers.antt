use Rattle.std.proofs.Common.{Global, ℕ, List, map, string_bytes, ap, sym, subst}
use Rattle.scasp_command_inputs.specs.Inputs.{outside}
use Rattle.scasp_command_inputs.specs.Reports.{Reports}
use Rattle.scasp_serve_top.proofs.CauseLemmas.{is-serve-status, serve-completes, serve-read, serve-reports, serve-write}
use Rattle.scasp_serve_top.specs.Outputs.{Outputs, asked_of}
use Rattle.scasp_serve_top.proofs.top.serve.Goals as goal

pub serve_status-requires : goal.serve_status-requires
serve_status-requires g c = is-serve-status _ _ _ _ _ _ _ c.serve_words.ensures

pub returns : goal.returns
returns g c =
    let asked = asked_of (map (string_bytes {Z = Global}) c.args.words.now.items) in
    let o = outside (g.F.Files.told c.args.files.now) (g.F.Files.faults c.args.files.now) (g.F.Files.faults c.serve_words.new.files) in
    let same = ap (λ ws. asked_of (map (string_bytes {Z = Global}) ws)) c.as_slice.ensures.value in
    let reports =
    subst (λ a. Reports (Outputs a o) (g.K.Sink.taken c.args.out.now) (g.K.Sink.taken c.serve_words.new.out) (g.K.Sink.faults c.args.out.now) (g.K.Sink.faults c.serve_words.new.out) c.serve_words.result)
    same c.serve_words.ensures in
    record {
      reports = serve-reports asked o _ _ _ _ c.serve_words.result c.serve_status.result c.serve_status.ensures reports;
      read = serve-read asked o _ _ _ _ c.serve_words.result c.serve_status.result c.serve_status.ensures reports;
      write = serve-write asked o _ _ _ _ c.serve_words.result c.serve_status.result c.serve_status.ensures reports;
      complete = serve-completes asked o _ _ _ _ c.serve_words.result c.serve_status.result c.serve_status.ensures reports;
    }
