use Rattle.std.proofs.Common.{◌+◌, ◌||◌, drop, refl, ap, sym, ◌∙◌}
use Rattle.std.specs.List.{flat_map}
use Rattle.std.proofs.Math.Bool.{or-false}
use Rattle.std.proofs.lemmas.List.{drop_all}
use Rattle.scasp_syntax.proofs.Walks.{drop-at}
use Rattle.scasp_abduce.specs.Occurrences.{has}
use Rattle.scasp_abduce.proofs.NameSetLemmas.{put-part}
use Rattle.scasp_abduce.proofs.occurrences.SequenceHasNames.take_names.Goals as goal

pub loop-item-preserved : goal.loop-item-preserved
loop-item-preserved g c =
    let items = c.as_slice-item-items.result.now in
    let i = c.loop-item.item-index in
    let now = drop-at items i c.item-item.result c.item-item.result c.loop-item-test.true c.item-item.is refl in
    put-part c.loop-item.taken c.take_names.new.taken (g.T.HasNames.names c.item-item.result) (flat_map g.T.HasNames.names (drop (i + 1) items))
    (λ n. has c.args.taken.now n || has (flat_map g.T.HasNames.names items) n) c.in_ok-take_names.ensures
    (λ n. ap (λ xs. has c.loop-item.taken n || has (flat_map g.T.HasNames.names xs) n) (sym now) ∙ c.loop-item.invariant n)

pub returns : goal.returns
returns g c =
    λ n. sym (or-false (has c.loop-item.taken n))
    ∙ ap (λ xs. has c.loop-item.taken n || has (flat_map g.T.HasNames.names xs) n) (sym (drop_all c.loop-item.item-index c.as_slice-item-items.result.now c.loop-item-test.false))
    ∙ c.loop-item.invariant n ∙ ap (λ xs. has c.args.taken.now n || has (flat_map g.T.HasNames.names xs) n) c.as_slice-item-items.ensures
