use Rattle.std.proofs.Common.{◌≡◌, ◌∙◌, List, ap, sym, subst}
use Rattle.std.specs.Prelude.{IfOk, is_none}
use Rattle.scasp_checker_rules.specs.PairLists.{pair_list}
use Rattle.scasp_cert.specs.Certificate.{certificate_of}
use Rattle.scasp_checker.proofs.PartnersLemmas.NamedLemmas.{named-apart}
use Rattle.scasp_hint.specs.Showing.{fault_of}
use Rattle.scasp_lines.specs.Lines.{free_of}
use Rattle.scasp_lines_walk.specs.Shown.TableView.{told_of}
use Rattle.scasp_syntax.specs.declared.con.Con.{Con}
use Rattle.scasp_syntax.specs.declared.hint.Hint.TheVariants as hint
use Rattle.scasp_checker.proofs.pairs.pairs.differ_by_terms.Goals as goal

pub returns-then-branch : goal.returns-then-branch
returns-then-branch c =
    let cert = c.args.cert.now in
    sym (ap is_none (named-apart (free_of (certificate_of cert)) cert.given (told_of c.args.first.now) (told_of c.args.second.now) (sym c.in_ok-differ_by_names.ensures ∙ c.if-branch.true)))

pub returns : goal.returns
returns c =
    let first = told_of c.args.first.now in
    let second = told_of c.args.second.now in
    let free = c.len-free.ensures in
    let given = c.as_slice.ensures in
    let list : c.as_slice-2.result.now ≡ pair_list (free_of (certificate_of c.args.cert.now)) c.args.cert.now.given first second =
    c.as_slice-2.ensures ∙ c.in_ok-list.ensures ∙ (λ i. pair_list (free i) (given i) first second) in
    subst (λ (cs : List Con). IfOk c.is_shown.result (λ is. is ≡ is_none (fault_of cs hint.Terms))) list c.is_shown.ensures
