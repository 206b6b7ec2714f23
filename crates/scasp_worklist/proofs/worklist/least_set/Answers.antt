use Rattle.std.proofs.Common.{◌≡◌, [], arith, sym, subst}
use Rattle.std.proofs.lemmas.List.{nil_from_length}
use Rattle.scasp_worklist.specs.Inside.Closing.{state_of}
use Rattle.scasp_worklist.specs.Numbered.{IsLeast, has}
use Rattle.scasp_worklist.proofs.WorklistLemmas.{all-below_highest, good-started, good-next, left-next, least-at_end}
use Rattle.scasp_worklist.proofs.worklist.least_set.Goals as goal

pub loop-number-init : goal.loop-number-init
loop-number-init c =
    good-started c.in-Some.count c.args.rules.now (state_of c.in_ok-closing.closing)
    (all-below_highest c.args.rules.now c.highest.result c.in-Some.count c.highest.ensures (omega (arith, c.in-Some.ensures))) c.in_ok-closing.ensures

pub loop-number-smaller : goal.loop-number-smaller
loop-number-smaller c =
    left-next c.loop-number.closing c.pop.new.self.items c.in-Some-pop.number (state_of c.wake.new.self) c.in-Some-pop.ensures.items c.in_ok-wake.ensures

pub loop-number-preserved : goal.loop-number-preserved
loop-number-preserved c =
    good-next c.in-Some.count c.args.rules.now c.loop-number.closing c.pop.new.self.items c.in-Some-pop.number (state_of c.wake.new.self) c.in-Some-pop.ensures.items
    c.in_ok-wake.ensures c.loop-number.invariant

pub returns : goal.returns
returns c =
    let empty : c.loop-number.closing.queue.items ≡ [] = nil_from_length c.loop-number.closing.queue.items (omega (arith, c.in_default-pop.ensures.cases.0)) in
    subst (λ z. IsLeast c.args.rules.now (has z)) (sym c.from_marks.ensures)
    (least-at_end c.in-Some.count c.args.rules.now (state_of c.loop-number.closing) c.loop-number.invariant empty)
