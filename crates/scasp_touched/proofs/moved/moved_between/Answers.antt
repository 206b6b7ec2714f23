use Rattle.std.proofs.Common.{arith}
use Rattle.std.specs.Option.{option_copied}
use Rattle.scasp_touched.specs.Inside.{among}
use Rattle.scasp_touched.proofs.MovedLemmas.{moved-all, moved-next}
use Rattle.scasp_touched.proofs.moved.moved_between.Goals as goal

pub loop-place-preserved : goal.loop-place-preserved
loop-place-preserved c = λ p.
    moved-next p (among c.loop-place.moved p) (among c.put_moved.new.moved p) (among c.put_moved-in-loop-place.new.moved p)
    c.args.first.now c.args.second.now c.loop-place.place
    (option_copied c.get.result) (option_copied c.get-in-loop-place.result) (option_copied c.get-in-loop-place-2.result) (option_copied c.get-in-loop-place-3.result)
    c.get.ensures c.get-in-loop-place.ensures c.get-in-loop-place-2.ensures c.get-in-loop-place-3.ensures
    (c.in_ok-put_moved.ensures p) (c.in_ok-put_moved-2.ensures p) (c.loop-place.invariant p)

pub returns : goal.returns
returns c = λ p.
    moved-all p (among c.loop-place.moved p) c.args.first.now c.args.second.now c.loop-place.place
    (omega (arith, c.loop-place-test.false, c.max-place-end.ensures, c.len.ensures, c.len-2.ensures))
    (omega (arith, c.loop-place-test.false, c.max-place-end.ensures, c.len.ensures, c.len-2.ensures))
    (c.loop-place.invariant p)
