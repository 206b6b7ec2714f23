use Rattle.std.proofs.Common.{◌∙◌, List, ap, map, subst, sym}
use Rattle.std.specs.Borrow.{Bor}
use Rattle.std.proofs.lemmas.Simd.{map-map}
use Rattle.scasp_checker_rules.specs.Told.{Told}
use Rattle.scasp_lines_walk.specs.Shown.TableView.{told_from, told_of}
use Rattle.scasp_lines_walk.specs.declared.shown.table.Saying.{Saying}
use Rattle.scasp_search_constraints.specs.Assuming.Taken.{Gives}
use Rattle.scasp_search_ends.specs.Ends.Inside.Apart.{all_fail, lists_behind}
use Rattle.scasp_search_ends.specs.Ends.Inside.Behind.{told_under}
use Rattle.scasp_search_ends.proofs.ends.pairs.is_apart_among.Goals as goal

pub returns : goal.returns
returns c =
    let free = c.args.free in
    let given = c.args.given.now in
    let a = told_of c.args.first.now in
    let behind : Bor (Bor Saying) → Bor Saying = λ s. s.now in
    subst (λ (ts : List Told). Gives c.is_apart_from.result (all_fail (lists_behind free given a ts)) (lists_behind free given a ts))
    (ap (map (λ (s : Bor (Bor Saying)). told_from s.now)) c.as_slice.ensures.value ∙ sym (map-map told_from behind c.in_ok-seconds.seconds.items)
    ∙ ap (map told_from) c.in_ok-seconds.ensures ∙ c.in_ok-chain.ensures ∙ ap (told_under c.args.behind.now) c.key_of-key.ensures)
    c.is_apart_from.ensures
