use Rattle.std.proofs.Common.{arith}
use Rattle.scasp_cells.proofs.Filling.{seen_len, len_small, segment_within, item_within, slice_get-joined, set-joined, set-filled}
use Rattle.scasp_cells.proofs.cells.Cells.set.Goals as goal

pub locate-place-requires : goal.locate-place-requires
locate-place-requires g c =
    let len_is = seen_len _ _ c.self.invariant _ c.self.view_is in
    omega (arith, len_small _ _ c.self.invariant)

pub index_mut-requires : goal.index_mut-requires
index_mut-requires g c =
    let len_is = seen_len _ _ c.self.invariant _ c.self.view_is in
    let there = segment_within _ _ c.args.at _ _ c.locate-place.ensures.at (omega arith) c.self.invariant.within in
    omega (arith, c.self.inside.segments.ok.0)

pub replace-requires : goal.replace-requires
replace-requires g c =
    let len_is = seen_len _ _ c.self.invariant _ c.self.view_is in
    let there = segment_within _ _ c.args.at _ _ c.locate-place.ensures.at (omega arith) c.self.invariant.within in
    item_within c.self.inside.len c.args.at _ _ _ _ c.self.invariant there c.index_mut.ensures.value c.locate-place.ensures.at c.locate-place.ensures.offset (omega arith) (omega arith)

pub invariant_of-self : goal.invariant_of-self
invariant_of-self g c =
    let len_is = seen_len _ _ c.self.invariant _ c.self.view_is in
    let there = segment_within _ _ c.args.at _ _ c.locate-place.ensures.at (omega arith) c.self.invariant.within in
    set-filled c.self.inside.len c.args.at _ _ _ _ c.self.invariant there c.index_mut.ensures.value c.locate-place.ensures.at c.locate-place.ensures.offset (omega arith) c.replace.new.self c.replace.ensures.cap (omega arith) c.replace.ensures.len

pub returns-clause-old : goal.returns-clause-old
returns-clause-old g c =
    let len_is = seen_len _ _ c.self.invariant _ c.self.view_is in
    let there = segment_within _ _ c.args.at _ _ c.locate-place.ensures.at (omega arith) c.self.invariant.within in
    rw (← c.self.view_is) (slice_get-joined c.self.inside.len c.args.at _ _ _ _ c.self.invariant there c.index_mut.ensures.value c.locate-place.ensures.at c.locate-place.ensures.offset (omega arith) _ c.replace.ensures.old)

pub returns-clause-items : goal.returns-clause-items
returns-clause-items g c =
    let len_is = seen_len _ _ c.self.invariant _ c.self.view_is in
    let there = segment_within _ _ c.args.at _ _ c.locate-place.ensures.at (omega arith) c.self.invariant.within in
    rw (← c.self.view_is) (set-joined c.self.inside.len c.args.at _ _ _ _ c.self.invariant there c.index_mut.ensures.value c.locate-place.ensures.at c.locate-place.ensures.offset (omega arith) c.replace.new.self c.replace.ensures.cap _ (omega arith) c.replace.ensures.items)
