use Rattle.std.proofs.Common.{◌<◌, ◌≤◌, length, arith}
use Rattle.scasp_frames.specs.Inside.Kept.{rest_left, work_of}
use Rattle.scasp_frames.proofs.BodyLemmas.{put_past, put_there}
use Rattle.scasp_frames.proofs.bodies.put_up_to.Goals as goal

-- src/bodies.rt:65:9
pub returns-then-len-at-clause-now : goal.returns-then-len-at-clause-now
returns-then-len-at-clause-now c =
    let items = c.args.items in
    let short : length items.items ≤ c.args.place = omega (arith, c.if-len-at.true, c.len.ensures, items.ok.0) in
    put_past c.args.first c.args.place items.items (rest_left c.in_ok-of.field-0) (work_of c.put_rest.new.frames.now) (work_of c.args.frames.now.now)
    short c.in_ok-of.ensures c.in_ok-put_rest.ensures.now

-- src/bodies.rt:50:1
pub returns-clause-now : goal.returns-clause-now
returns-clause-now c =
    let items = c.args.items in
    let there : c.args.place < length items.items = omega (arith, c.if-len-at.false, c.len.ensures, items.ok.0) in
    put_there c.args.first c.args.place items.items (rest_left c.in_ok-of-2.field-0) c.truncate.new.self.items c.index.result.now
    c.in_ok-false_item.field-0 (work_of c.put_all.new.frames.now) (work_of c.put_rest-2.new.frames.now) (work_of c.args.frames.now.now)
    there c.index.ensures c.in_ok-false_item.ensures c.in_ok-put_all.ensures.now c.truncate.ensures.items c.in_ok-of-2.ensures
    c.in_ok-put_rest-2.ensures.now
