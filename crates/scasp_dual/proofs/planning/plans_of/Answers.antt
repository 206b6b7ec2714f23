use Rattle.std.proofs.Common.{◌≡◌, ◌∙◌, ◌∷◌, ◌+◌, List, Some, length, map, drop, slice_get, refl, ap, sym, subst}
use Rattle.std.proofs.lemmas.List.{drop_all, drop_more}
use Rattle.std.proofs.lemmas.Option.{slice_get_read}
use Rattle.scasp_syntax.specs.declared.clause.Clause.{Clause}
use Rattle.scasp_dual.specs.Inside.Filling.{empty_plan}
use Rattle.scasp_dual.proofs.FillLemmas.{Filled, filled-none, has-place, filled-more, filled-all}
use Rattle.scasp_dual.proofs.planning.plans_of.Goals as goal

pub loop-place-init : goal.loop-place-init
loop-place-init c =
    subst (Filled c.args.program.now.clauses c.args.preds.now c.in_ok-made.made.items 1) (sym c.as_slice-clause-items.ensures)
    (filled-none c.args.program.now.clauses c.args.preds.now c.in_ok-made.made.items (c.in_ok-made.ensures ∙ ap (map empty_plan) c.as_slice.ensures))

pub push_rule-requires : goal.push_rule-requires
push_rule-requires c =
    let items : List Clause = c.as_slice-clause-items.result.now in
    let clause : Clause = c.clause-item.result in
    let stands : slice_get c.args.program.now.clauses c.loop-place.place ≡ Some clause =
    ap (λ (z : List Clause). slice_get z c.loop-place.place) (sym c.as_slice-clause-items.ensures)
    ∙ slice_get_read items (length items) c.loop-place.place clause refl c.loop-place-test.true c.clause-item.is in
    has-place c.args.program.now c.args.preds.now (length c.loop-place.made.items) c.loop-place.place clause c.requires c.loop-place.invariant.sized stands

pub loop-place-preserved : goal.loop-place-preserved
loop-place-preserved c =
    let items : List Clause = c.as_slice-clause-items.result.now in
    let clause : Clause = c.clause-item.result in
    let stands : slice_get c.args.program.now.clauses c.loop-place.place ≡ Some clause =
    ap (λ (z : List Clause). slice_get z c.loop-place.place) (sym c.as_slice-clause-items.ensures)
    ∙ slice_get_read items (length items) c.loop-place.place clause refl c.loop-place-test.true c.clause-item.is in
    let step : drop c.loop-place.place items ≡ clause ∷ drop (c.loop-place.place + 1) items =
    drop_more items c.loop-place.place clause c.loop-place-test.true ∙ ap (λ (z : Clause). z ∷ drop (c.loop-place.place + 1) items) (sym c.clause-item.is) in
    filled-more c.args.program.now c.args.preds.now c.loop-place.made.items c.push_rule.new.plans.items (c.loop-place.place + 1) c.loop-place.place clause
    (drop (c.loop-place.place + 1) items) c.requires stands
    (subst (Filled c.args.program.now.clauses c.args.preds.now c.loop-place.made.items (c.loop-place.place + 1)) step c.loop-place.invariant) c.in_ok-push_rule.ensures

pub returns : goal.returns
returns c =
    filled-all c.args.program.now c.args.preds.now c.loop-place.made.items (c.loop-place.place + 1) (drop c.loop-place.place c.as_slice-clause-items.result.now)
    c.requires (drop_all c.loop-place.place c.as_slice-clause-items.result.now c.loop-place-test.false) c.loop-place.invariant
