use Rattle.std.proofs.Common.{◌≡◌, true, IfOk, IfSome, sym, ap, subst, ◌∙◌}
use Rattle.std.specs.List.{list_all}
use Rattle.scasp_hint.specs.Satisfying.{sat}
use Rattle.scasp_unify.specs.Solving.{sub_of}
use Rattle.scasp_store.specs.Inside.Asking.{is_readable}
use Rattle.scasp_store.specs.Inside.Fixing.{counts_alone, left_by}
use Rattle.scasp_store.proofs.FixLemmas.{fixed_alike}
use Rattle.scasp_store.proofs.fixing.tested_with.Goals as goal

pub returns : goal.returns
returns c = λ t.
    let fs = c.args.fixed.now.now in
    let list = c.args.list.now in
    let readable : list_all (is_readable (sub_of fs)) list ≡ true = sym c.in_ok-are_readable.ensures ∙ c.if-not-branch.false in
    let alone : counts_alone (left_by (sub_of fs) list) ≡ true = ap counts_alone (sym (c.as_slice.ensures ∙ c.in_ok-left.ensures)) ∙ sym c.in_ok-counts_alone.ensures ∙ c.if-not-branch-2.false in
    let same : sat c.as_slice-2.result.now ≡ sat list = ap sat (c.as_slice-2.ensures ∙ c.in_ok-left.ensures) ∙ fixed_alike list fs c.requires c.note_rows.ensures readable t alone in
    subst (λ v. IfOk c.tested-2.result (λ found. IfSome found (λ answer. answer ≡ v))) same c.tested-2.ensures
