use Rattle.std.proofs.Common.{◌≡◌, true, ◌||◌, not, IfOk, sym, subst, ◌∙◌}
use Rattle.std.specs.List.{list_any}
use Rattle.scasp_syntax.specs.Tm.{var}
use Rattle.scasp_unify.specs.Solving.{sub_of}
use Rattle.scasp_store.specs.Inside.Asking.{counts_all, is_row}
use Rattle.scasp_store.specs.Inside.Fixing.{counts_alone}
use Rattle.scasp_store.proofs.fixing.counts_alone.Goals as goal

pub returns : goal.returns
returns c =
    let row : list_any is_row c.args.list.now ≡ true = sym c.has_row.ensures ∙ c.if-not-has_row.false in
    let whole : counts_alone c.args.list.now ≡ counts_all var c.args.list.now = λ i. not (row i) || counts_all var c.args.list.now in
    let two : counts_all (sub_of c.new-none.result.now) c.args.list.now ≡ counts_all var c.args.list.now = λ i. counts_all (sub_of (c.new-none.ensures i).now) c.args.list.now in
    subst (λ v. IfOk c.counts_all.result (λ answer. answer ≡ v)) (two ∙ sym whole) c.counts_all.ensures
