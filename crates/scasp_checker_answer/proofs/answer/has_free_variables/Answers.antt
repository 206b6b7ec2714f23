use Rattle.std.proofs.Common.{◌≡◌, ◌&&◌, true, nat_lt, ap, sym, ◌∙◌}
use Rattle.std.specs.List.{list_all}
use Rattle.std.proofs.lemmas.Result.{IfOk-weaker}
use Rattle.scasp_syntax.specs.WellFormed.{are_below}
use Rattle.scasp_cert.specs.Certificate.{certificate_of}
use Rattle.scasp_lines.specs.Known.{is_con_known}
use Rattle.scasp_lines.specs.Lines.{free_of}
use Rattle.scasp_checker_rules.specs.Faults.{is_free}
use Rattle.scasp_checker_answer.proofs.answer.has_free_variables.Goals as goal

pub returns : goal.returns
returns c =
    let n = c.len-free.ensures in
    let e : are_below (free_of (certificate_of c.args.cert.now)) c.args.cert.now.terms ≡ true =
    ap (λ k. are_below k c.args.cert.now.terms) (sym n) ∙ sym c.in_ok-are_below.ensures ∙ c.if-not-branch.false in
    IfOk-weaker c.are_cons_known.result _ _
    (λ answer f.
    f ∙ ap (λ k. list_all (is_con_known (λ x. nat_lt x k)) c.args.cert.now.given) n
    ∙ sym (ap (λ b. b && list_all (is_con_known (is_free (certificate_of c.args.cert.now))) c.args.cert.now.given) e))
    c.are_cons_known.ensures
