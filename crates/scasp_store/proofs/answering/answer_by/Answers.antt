use Rattle.std.proofs.Common.{◌≡◌, ◌++◌, true, IfOk, IfSome, sym, ap, subst, ◌∙◌}
use Rattle.scasp_hint.specs.AskedRows.{RowsNormal}
use Rattle.scasp_hint.specs.Satisfying.{sat}
use Rattle.scasp_law_parts.specs.Bound.{equations}
use Rattle.scasp_unify.specs.Solving.{sub_of}
use Rattle.scasp_unify.specs.Sorted.{is_typed}
use Rattle.scasp_store.specs.Inside.Asking.{is_askable, read_by}
use Rattle.scasp_store.specs.Inside.Open.{opened}
use Rattle.scasp_store.proofs.AskLemmas.{asked_alike, asked_typed}
use Rattle.scasp_store.proofs.answering.answer_by.Goals as goal

pub returns : goal.returns
returns c = λ bs cs more fs ps h e.
    let ds = c.args.bound.now.now in
    let s = sub_of ds in
    let normal = subst RowsNormal e c.requires.normal in
    let askable = subst (λ list. is_askable s list ≡ true) e (sym c.in_ok-is_askable.ensures ∙ c.if-not-branch.false) in
    let read = c.requires.read ∙ ap (read_by s) e in
    let same : sat c.args.read.now ≡ sat (equations bs ++ (cs ++ more)) = ap sat read ∙ sym (asked_alike bs cs ds fs ps more h normal askable) in
    let typed = ap is_typed read ∙ asked_typed s (opened cs ps ++ more) askable in
    subst (λ v. IfOk c.tested_by.result (λ found. IfSome found (λ answer. answer ≡ v))) same (c.tested_by.ensures typed)
