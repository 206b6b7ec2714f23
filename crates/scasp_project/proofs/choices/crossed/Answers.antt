use Rattle.std.proofs.Common.{◌+◌, ◌++◌, ◌∷◌, List, [], append_assoc, drop, map, refl, sym, ap, ◌∙◌}
use Rattle.scasp_syntax.specs.declared.con.Con.{Con}
use Rattle.scasp_syntax.proofs.Walks.{drop-at}
use Rattle.scasp_project.specs.Choices.{crossed}
use Rattle.scasp_project.proofs.choices.crossed.Goals as goal

pub loop-list-preserved : goal.loop-list-preserved
loop-list-preserved c =
    let lists = c.args.lists.now in
    let options = c.args.options.now in
    let before = c.loop-list.all in
    let item = c.list-item.result in
    let i = c.loop-list.list-index in
    let made = map (λ (o : Con). item ++ o ∷ []) options in
    let rest = crossed (drop (i + 1) lists) options in
    ap (λ (ls : List (List Con)). ls ++ rest) c.in_ok-push_extended.ensures ∙ append_assoc before made rest
    ∙ ap (λ (ls : List (List Con)). before ++ crossed ls options) (sym (drop-at lists i item item c.loop-list-test.true c.list-item.is refl))
    ∙ c.loop-list.invariant
