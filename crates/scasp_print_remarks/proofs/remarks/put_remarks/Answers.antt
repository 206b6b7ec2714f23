use Rattle.std.proofs.Common.{◌≡◌, ◌∙◌, ℕ, List, ◌++◌, ap}
use Rattle.scasp_cert.specs.Certificate.{certificate_of}
use Rattle.scasp_project.specs.Projection.{projection}
use Rattle.scasp_syntax.specs.Tm.{items}
use Rattle.scasp_print_remarks.specs.Remarks.{domain_line, shown_variables, told_text, values_of, values_text}
use Rattle.scasp_print_remarks.proofs.PlainLemmas.{put-behind}
use Rattle.scasp_print_remarks.proofs.remarks.put_remarks.Goals as goal

pub returns : goal.returns
returns c =
    let vs = values_of c.args.variables.now c.args.cert.now.terms in
    let spoken = c.in_ok-spoken_of.ensures ∙ ap (λ ts. shown_variables (values_of c.args.variables.now ts)) c.as_slice.ensures.value in
    put-behind c.put.result c.put.new.out.items c.put_with_where.new.out.items c.args.out.now.items
    (values_text c.args.names.now c.args.cert.now.given (items c.args.cert.now.sample) vs)
    (domain_line (certificate_of c.args.cert.now)) c.in_ok-domain_line.field-0.now
    (c.in_ok-put_with_where.ensures
    ∙ ap (λ (xs : List ℕ). c.args.out.now.items ++ told_text c.args.names.now vs (items c.args.cert.now.sample) (projection c.args.cert.now.given xs)) spoken)
    c.in_ok-domain_line.ensures
    c.put.ensures
