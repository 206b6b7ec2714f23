use Rattle.std.proofs.Common.{◌-◌, List, Ok, Err, sym, ap, subst, ◌∙◌}
use Rattle.std.proofs.lemmas.Result.{err_from_is_err_and}
use Rattle.scasp_syntax.specs.declared.clause.Item.{Item}
use Rattle.scasp_reader_terms.specs.Steps.{series}
use Rattle.scasp_reader_terms.proofs.TermLemmas.{series_last, series_more}
use Rattle.scasp_reader_expressions.proofs.ChainLemmas.{Does_stops}
use Rattle.scasp_reader.specs.Bodies.Bodies.{Counts, counted_item, body}
use Rattle.scasp_reader.proofs.BodiesLemmas.CountLemmas.{series_stops}
use Rattle.scasp_reader.proofs.bodies.bodies.body.Goals as goal

pub returns-in_err-item : goal.returns-in_err-item
returns-in_err-item c =
    let p = err_from_is_err_and c.from_residual.result c.from_residual.ensures.1 in
    let before = c.loop-left.items in
    let s = c.loop-left.reader in
    Does_stops (λ x. x) (λ x. x) body (counted_item before) c.args.reader.now s c.from_residual.result c.in_err-item.field-0.0 c.counted_item.new.reader _
    (λ fault h. sym c.loop-left.invariant.0 ∙ series_stops counted_item c.loop-left.left before c.loop-left-test.true s fault h)
    (p.1 ∙ ap Err p.2) (c.in_err-item.ensures.item before c.loop-left.invariant.1)

pub returns-then-not-taken : goal.returns-then-not-taken
returns-then-not-taken c =
    let before = c.loop-left.items in
    let x = c.in_ok-item.item in
    let s2 = c.taken.new.self in
    let is_one = c.in_ok-item.ensures.item before c.loop-left.invariant.1 in
    sym c.loop-left.invariant.0
    ∙ series_last counted_item c.loop-left.left before c.loop-left-test.true c.loop-left.reader c.counted_item.new.reader s2 x is_one (c.taken.ensures ∙ ap (λ b. Ok (b, s2)) c.if-not-taken.true)
    ∙ ap (λ xs. Ok (xs, s2)) (sym c.in_ok-push.ensures.ok)

pub loop-left-preserved : goal.loop-left-preserved
loop-left-preserved c =
    let before = c.loop-left.items in
    let x = c.in_ok-item.item in
    let left = c.loop-left.left in
    let s2 = c.taken.new.self in
    let is_one = c.in_ok-item.ensures.item before c.loop-left.invariant.1 in (
      ap (λ xs. series counted_item (left - 1) xs s2) c.in_ok-push.ensures.ok
          ∙ sym (series_more counted_item left before c.loop-left-test.true c.loop-left.reader c.counted_item.new.reader s2 x is_one (c.taken.ensures ∙ ap (λ b. Ok (b, s2)) c.if-not-taken.false))
          ∙ c.loop-left.invariant.0,
      subst (λ (xs : List Item). Counts c.counted_item.new.count xs) (sym c.in_ok-push.ensures.ok) (c.in_ok-item.ensures.count before c.loop-left.invariant.1),
    )
