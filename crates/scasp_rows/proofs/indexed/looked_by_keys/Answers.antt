use Rattle.std.proofs.Common.{◌≡◌, false, true, Ok, sym, ap, ◌∙◌}
use Rattle.std.specs.List.{list_any}
use Rattle.scasp_num.specs.SameRow.{same_row}
use Rattle.scasp_rows.specs.declared.indexed.RowKey.{RowKey}
use Rattle.scasp_rows.specs.declared.state.State.{State}
use Rattle.scasp_rows.specs.Points.{is_constant, is_false}
use Rattle.scasp_rows.proofs.Indexing.{has, has-more, has-same, looked-new, looked-old, not-false, not-true}
use Rattle.scasp_rows.proofs.indexed.looked_by_keys.Goals as goal

pub invariant_of-result-then-branch : goal.invariant_of-result-then-branch
invariant_of-result-then-branch c = λ q.
    let s = c.args.state in
    let r = c.args.r in
    let old = list_any (λ (k : RowKey). same_row k.row q) c.args.keys.keys in
    let new = list_any (λ (k : RowKey). same_row k.row q) c.insert.new.keys.keys in
    has-more q s.standing r old new (c.requires q) (c.in_ok-insert.ensures.updates q) ∙ ap (λ (t : State). has q t.standing) (sym c.in_ok-state.ensures)

pub returns-then-branch : goal.returns-then-branch
returns-then-branch c =
    let s = c.args.state in
    let r = c.args.r in
    let no_false : is_false r.row ≡ false = sym c.is_false.ensures ∙ c.if-is_false.false in
    let no_constant : is_constant r.row ≡ false = sym c.is_constant.ensures ∙ c.if-is_constant.false in
    let key = list_any (λ (k : RowKey). same_row k.row r.row) c.args.keys.keys in
    let absent : has r.row s.standing ≡ false = sym (c.requires r.row) ∙ not-true key (sym c.in_ok-insert.ensures.added ∙ c.if-branch.true) in
    looked-new r s no_false no_constant absent ∙ (λ i. Ok (sym c.in_ok-state.ensures i))

pub invariant_of-result-2 : goal.invariant_of-result-2
invariant_of-result-2 c = λ q.
    let s = c.args.state in
    let r = c.args.r in
    let key = list_any (λ (k : RowKey). same_row k.row r.row) c.args.keys.keys in
    let present : has r.row s.standing ≡ true = sym (c.requires r.row) ∙ not-false key (sym c.in_ok-insert.ensures.added ∙ c.if-branch.false) in
    let old = list_any (λ (k : RowKey). same_row k.row q) c.args.keys.keys in
    let new = list_any (λ (k : RowKey). same_row k.row q) c.insert.new.keys.keys in
    has-same q r.row s.standing old new (c.requires q) present (c.in_ok-insert.ensures.updates q)

pub returns : goal.returns
returns c =
    let s = c.args.state in
    let r = c.args.r in
    let no_false : is_false r.row ≡ false = sym c.is_false.ensures ∙ c.if-is_false.false in
    let no_constant : is_constant r.row ≡ false = sym c.is_constant.ensures ∙ c.if-is_constant.false in
    let key = list_any (λ (k : RowKey). same_row k.row r.row) c.args.keys.keys in
    let present : has r.row s.standing ≡ true = sym (c.requires r.row) ∙ not-false key (sym c.in_ok-insert.ensures.added ∙ c.if-branch.false) in
    looked-old r s no_false no_constant present
