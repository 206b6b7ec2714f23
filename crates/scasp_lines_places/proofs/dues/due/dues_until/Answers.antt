use Rattle.std.proofs.Common.{◌≡◌, ◌∙◌, ◌+◌, ◌-◌, ◌++◌, [], ◌∷◌, nat_lt, map, drop, refl, sym, ap, arith}
use Rattle.std.proofs.lemmas.List.{drop_all}
use Rattle.scasp_syntax.proofs.Walks.{drop-at}
use Rattle.scasp_lines.specs.Dues.{due_of, dues_until}
use Rattle.scasp_lines_places.specs.Dues.DueView.{due_value}
use Rattle.scasp_lines_places.proofs.DuesLemmas.DueLemmas.{until_more, until_done, map_push}
use Rattle.scasp_lines_places.proofs.dues.due.dues_until.Goals as goal

pub loop-place-preserved : goal.loop-place-preserved
loop-place-preserved g c =
    let by = g.S.Substitution.gives c.args.by.now in
    let item = c.index-items-place.result in
    let there = drop-at c.args.items.now c.loop-place.place item item c.loop-place-test.true c.index-items-place.is refl in
    let more = until_more by c.args.count c.loop-place.place c.args.items.now item (map due_value c.loop-place.dues) (omega arith) there in
    let made : map due_value c.push.new.self ≡ map due_value c.loop-place.dues ++ due_of by (nat_lt 1 (c.args.count - c.loop-place.place)) item ∷ [] =
    ap (map due_value) c.in_ok-push.ensures.ok ∙ map_push due_value c.loop-place.dues c.in_ok-due_of.field-0 ∙ ap (λ d. map due_value c.loop-place.dues ++ d ∷ []) c.in_ok-due_of.ensures in
    ap (λ ds. ds ++ dues_until by (c.args.count - (c.loop-place.place + 1)) (drop (c.loop-place.place + 1) c.args.items.now)) made ∙ more ∙ c.loop-place.invariant

pub returns : goal.returns
returns g c =
    let by = g.S.Substitution.gives c.args.by.now in
    let past = drop_all c.loop-place.place c.args.items.now c.loop-place-test.false in
    sym (until_done by (c.args.count - c.loop-place.place) (map due_value c.loop-place.dues))
    ∙ ap (λ is. map due_value c.loop-place.dues ++ dues_until by (c.args.count - c.loop-place.place) is) (sym past)
    ∙ c.loop-place.invariant
