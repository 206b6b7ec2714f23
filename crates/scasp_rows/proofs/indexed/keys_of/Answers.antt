use Rattle.std.proofs.Common.{◌≡◌, ◌+◌, ◌++◌, ◌∷◌, [], List, take, sym, ap, ◌∙◌}
use Rattle.std.specs.List.{list_any}
use Rattle.std.proofs.lemmas.List.{take_more}
use Rattle.scasp_num.specs.SameRow.{same_row}
use Rattle.scasp_rows.specs.declared.indexed.RowKey.{RowKey}
use Rattle.scasp_rows.specs.declared.state.Standing.{Standing}
use Rattle.scasp_rows.proofs.Indexing.{has, has-more}
use Rattle.scasp_rows.proofs.indexed.keys_of.Goals as goal

pub loop-r-preserved : goal.loop-r-preserved
loop-r-preserved c = λ q.
    let rows = c.args.rows.now in
    let i = c.loop-r.r-index in
    let r = c.r-item.result in
    let old = list_any (λ (k : RowKey). same_row k.row q) c.loop-r.keys.keys in
    let new = list_any (λ (k : RowKey). same_row k.row q) c.insert.new.keys.keys in
    let more : take (i + 1) rows ≡ take i rows ++ r ∷ [] = take_more rows i r c.loop-r-test.true ∙ ap (λ (d : Standing). take i rows ++ d ∷ []) (sym c.r-item.is) in
    has-more q (take i rows) r old new (c.loop-r.invariant q) (c.in_ok-insert.ensures.updates q) ∙ ap (λ (rs : List Standing). has q rs) (sym more)
