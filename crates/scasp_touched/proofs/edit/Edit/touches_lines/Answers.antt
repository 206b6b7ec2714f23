use Rattle.std.proofs.Common.{◌∙◌}
use Rattle.scasp_cert.specs.Certificate.{certificate_of}
use Rattle.scasp_touched.proofs.EditLemmas.{lines-are}
use Rattle.scasp_touched.proofs.edit.Edit.touches_lines.Goals as goal

pub returns : goal.returns
returns c =
    c.touches_named.ensures
    ∙ lines-are c.args.self.now.old.now c.args.self.now.new.now c.args.named.now (certificate_of c.args.cert.now) c.requires
