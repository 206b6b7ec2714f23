use Rattle.std.proofs.Common.{◌-◌, ◌<◌, length-set, arith}
use Rattle.scasp_cells.proofs.Filling.{seen_len, seen_spare, segment_within, item_within, pop-joined, pop-filled}
use Rattle.scasp_cells.proofs.cells.Cells.pop.Goals as goal

pub overflow_sub-last : goal.overflow_sub-last
overflow_sub-last g c =
    let len_is = seen_len _ _ c.self.invariant _ c.self.view_is in
    omega arith

pub index_mut-segment-requires : goal.index_mut-segment-requires
index_mut-segment-requires g c =
    let len_is = seen_len _ _ c.self.invariant _ c.self.view_is in
    let there = segment_within _ c.self.inside.len (c.self.inside.len - 1) _ _ c.locate-place.ensures.at (omega arith) c.self.invariant.within in
    omega (arith, c.self.inside.segments.ok.0)

pub pop-item-requires : goal.pop-item-requires
pop-item-requires g c =
    let len_is = seen_len _ _ c.self.invariant _ c.self.view_is in
    let there = segment_within _ c.self.inside.len (c.self.inside.len - 1) _ _ c.locate-place.ensures.at (omega arith) c.self.invariant.within in
    let within : c.locate-place.result.offset < c.index_mut-segment.result.now.len = item_within c.self.inside.len (c.self.inside.len - 1) _ _ _ _ c.self.invariant there c.index_mut-segment.ensures.value c.locate-place.ensures.at c.locate-place.ensures.offset (omega arith) (omega arith) in
    omega arith

pub invariant_of-self : goal.invariant_of-self
invariant_of-self g c =
    let len_is = seen_len _ _ c.self.invariant _ c.self.view_is in
    let there = segment_within _ c.self.inside.len (c.self.inside.len - 1) _ _ c.locate-place.ensures.at (omega arith) c.self.invariant.within in
    pop-filled c.self.inside.len (c.self.inside.len - 1) _ _ _ _ c.self.invariant there c.index_mut-segment.ensures.value c.locate-place.ensures.at c.locate-place.ensures.offset (omega arith) c.pop-item.new.self c.pop-item.ensures.cap (omega arith) c.pop-item.ensures.len

pub returns-clause-items : goal.returns-clause-items
returns-clause-items g c =
    let len_is = seen_len _ _ c.self.invariant _ c.self.view_is in
    let there = segment_within _ c.self.inside.len (c.self.inside.len - 1) _ _ c.locate-place.ensures.at (omega arith) c.self.invariant.within in
    rw (← c.self.view_is) (pop-joined c.self.inside.len (c.self.inside.len - 1) _ _ _ _ c.self.invariant there c.index_mut-segment.ensures.value c.locate-place.ensures.at c.locate-place.ensures.offset (omega arith) c.pop-item.new.self c.pop-item.ensures.cap _ (omega arith) c.pop-item.ensures.items)

pub returns-clause-spare : goal.returns-clause-spare
returns-clause-spare g c =
    let len_is = seen_len _ _ c.self.invariant _ c.self.view_is in
    let spare_is = seen_spare _ _ _ c.self.view_is in
    rw length-set (omega (arith, c.self.invariant.within))
