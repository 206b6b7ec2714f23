use Rattle.std.proofs.Common.{◌++◌, List, ℕ, Option, ap, ◌∙◌}
use Rattle.scasp_cert.specs.Certificate.{certificate_of}
use Rattle.scasp_print_remarks.specs.Remarks.{remarks_text}
use Rattle.scasp_command_run.specs.Texts.{answer_block}
use Rattle.scasp_command_run.proofs.printing.answer_text.Goals as goal

pub returns : goal.returns
returns c =
    let names = c.args.names.now in
    let cert = certificate_of c.args.cert.now in
    c.in_ok-put_remarks.ensures
    ∙ ap (λ (t : List ℕ). t ++ remarks_text names c.variables_of.result.now cert) c.in_ok-text.ensures
    ∙ ap (λ (vs : List (Option ℕ)). answer_block c.args.format c.args.number (record { names = names; certificate = cert }) ++ remarks_text names vs cert) c.variables_of.ensures
