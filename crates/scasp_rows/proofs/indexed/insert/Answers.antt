use Rattle.std.proofs.Common.{◌≡◌, ◌||◌, ap, ◌∙◌}
use Rattle.std.specs.List.{list_any}
use Rattle.scasp_num.specs.Linear.{Linear}
use Rattle.scasp_num.specs.SameRow.{same_row}
use Rattle.scasp_rows.specs.declared.indexed.RowKey.{RowKey}
use Rattle.scasp_rows.specs.Inside.Keys.{same_row-symm}
use Rattle.scasp_rows.proofs.Indexing.{or-cond}
use Rattle.scasp_rows.proofs.indexed.insert.Goals as goal

pub returns-clause-updates : goal.returns-clause-updates
returns-clause-updates c = λ q.
    let row = c.in_ok-key.key.row in
    let given = c.args.row.now in
    let same : row ≡ given = c.in_ok-key.ensures in
    let old = list_any (λ (k : RowKey). same_row k.row q) c.args.keys.now.keys in
    c.in_ok-insert.ensures.updates.0 (record { row = q }) ∙ or-cond (same_row q row) old ∙ ap (λ b. b || old) (same_row-symm q row ∙ ap (λ (r : Linear). same_row r q) same)
