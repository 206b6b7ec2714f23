use Rattle.std.proofs.Common.{◌≡◌, true, false, ap, sym, ◌∙◌}
use Rattle.scasp_search_rules.specs.Successors.Reading.{con_under, holds_always}
use Rattle.scasp_unify.specs.Solving.{sub_of}
use Rattle.scasp_store.specs.Inside.Asking.{is_readable}
use Rattle.scasp_store.specs.Inside.Failing.{has_numbers, is_constant}
use Rattle.scasp_store.proofs.AskLemmas.{is-false}
use Rattle.scasp_store.proofs.FailLemmas.{false_read}
use Rattle.scasp_store.proofs.failing.is_false.Goals as goal

pub returns : goal.returns
returns c = λ t e.
    let bs = c.args.bound.now.now in
    let k = c.args.constraint.now in
    let numbers : has_numbers (sub_of bs) k ≡ true = sym c.in_ok-has_numbers.ensures ∙ c.if-not-branch.false in
    let readable : is_readable (sub_of bs) k ≡ true = sym c.in_ok-is_readable.ensures ∙ c.if-not-branch-2.false in
    let constant : is_constant (con_under (sub_of bs) k) ≡ true = ap is_constant (sym c.in_ok-read.ensures) ∙ sym c.is_constant.ensures ∙ c.if-not-is_constant.false in
    let holds : holds_always (con_under (sub_of bs) k) ≡ false = ap holds_always (sym c.in_ok-read.ensures) ∙ sym c.in_ok-holds_always.ensures ∙ is-false c.in_ok-holds_always.field-0 e in
    false_read bs k t c.note_row.ensures numbers readable constant holds
