use Rattle.std.proofs.Common.{◌≡◌, true, ◌&&◌, ◌||◌, not, IfOk, sym, subst, ◌∙◌}
use Rattle.std.specs.List.{list_any}
use Rattle.scasp_syntax.specs.Tm.{var}
use Rattle.scasp_unify.specs.Solving.{sub_of}
use Rattle.scasp_store.specs.Inside.Asking.{counts_all, is_row, is_sorted, read_by}
use Rattle.scasp_store.proofs.asking.is_sorted.Goals as goal

pub returns : goal.returns
returns c =
    let s = sub_of c.args.bound.now.now in
    let row : list_any is_row c.args.list.now ≡ true = sym c.has_row.ensures ∙ c.if-not-has_row.false in
    let one : counts_all s c.args.list.now ≡ true = sym c.in_ok-counts_all.ensures ∙ c.if-not-branch.false in
    let whole : is_sorted s c.args.list.now ≡ counts_all var (read_by s c.args.list.now) = λ i. not (row i) || (one i && counts_all var (read_by s c.args.list.now)) in
    let two : counts_all (sub_of c.new-none.result.now) c.args.read.now ≡ counts_all var (read_by s c.args.list.now) = λ i. counts_all (sub_of (c.new-none.ensures i).now) (c.requires i) in
    subst (λ v. IfOk c.counts_all-2.result (λ answer. answer ≡ v)) (two ∙ sym whole) c.counts_all-2.ensures
