use Rattle.std.proofs.Common.{◌≡◌, ◌∙◌, List, subst}
use Rattle.scasp_checker_rules.specs.Pairs.{clash_list}
use Rattle.scasp_checker_rules.specs.Refusals.{fault_at}
use Rattle.scasp_cert.specs.Certificate.{certificate_of}
use Rattle.scasp_checker_answer.specs.Judged.{Judges}
use Rattle.scasp_hint.specs.Showing.{fault_of}
use Rattle.scasp_lines.specs.Lines.{free_of}
use Rattle.scasp_lines_walk.specs.Shown.TableView.{told_of}
use Rattle.scasp_syntax.specs.declared.con.Con.{Con}
use Rattle.scasp_checker.proofs.pairs.clash_lines.accept_clash_line.Goals as goal

pub returns : goal.returns
returns c =
    let first = told_of c.args.first.now in
    let second = told_of c.args.second.now in
    let clash = c.args.clash.now in
    let free = c.len-free.ensures in
    let given = c.as_slice.ensures in
    let list : c.as_slice-2.result.now ≡ clash_list (free_of (certificate_of c.args.cert.now)) c.args.cert.now.given first second clash =
    c.as_slice-2.ensures ∙ c.in_ok-list.ensures ∙ (λ i. clash_list (free i) (given i) first second clash) in
    subst (λ (cs : List Con). Judges c.accept_hint.result (fault_at c.args.first.now.at (fault_of cs clash.hint))) list c.accept_hint.ensures
