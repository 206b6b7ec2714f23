use Rattle.std.proofs.Common.{List, ap, map, subst, ◌∙◌}
use Rattle.scasp_hint.specs.AskedRows.{RowsNormal}
use Rattle.scasp_list.specs.Each.{Each}
use Rattle.scasp_syntax.specs.declared.con.Con.{Con}
use Rattle.scasp_shorten.specs.Shortest.{shortest_list}
use Rattle.scasp_shorten.proofs.ApartLemmas.{answer-told}
use Rattle.scasp_shorten.proofs.alternatives.shortest.Goals as goal

pub returns-clause-told : goal.returns-clause-told
returns-clause-told c =
    answer-told c.uncontained.result c.args.lists.now c.as_slice-3.result.now
    (subst (λ (lists : List (List Con)). Each RowsNormal lists) c.as_slice.ensures c.note_all_rows.ensures)
    (c.as_slice-3.ensures ∙ c.in_ok-short.ensures ∙ ap (map shortest_list) c.as_slice-2.ensures)
    c.uncontained.ensures
