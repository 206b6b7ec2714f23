use Rattle.std.proofs.Common.{◌<◌, arith}
use Rattle.std.proofs.lemmas.Option.{slice_get_read}
use Rattle.scasp_cells.proofs.Filling.{seen_len, len_small, segment_within, item_within, slice_get-joined}
use Rattle.scasp_cells.proofs.cells.Cells.get.Goals as goal

pub locate-place-requires : goal.locate-place-requires
locate-place-requires g c =
    let len_is = seen_len _ _ c.self.invariant _ c.self.view_is in
    omega (arith, len_small _ _ c.self.invariant)

pub index-requires : goal.index-requires
index-requires g c =
    let len_is = seen_len _ _ c.self.invariant _ c.self.view_is in
    let there = segment_within _ _ c.args.at _ _ c.locate-place.ensures.at (omega arith) c.self.invariant.within in
    omega (arith, c.self.inside.segments.ok.0)

pub offset_bounds-as_slice-place : goal.offset_bounds-as_slice-place
offset_bounds-as_slice-place g c =
    let len_is = seen_len _ _ c.self.invariant _ c.self.view_is in
    let there = segment_within _ _ c.args.at _ _ c.locate-place.ensures.at (omega arith) c.self.invariant.within in
    let within : c.locate-place.result.offset < c.index.result.now.len = item_within c.self.inside.len c.args.at _ _ _ _ c.self.invariant there c.index.ensures c.locate-place.ensures.at c.locate-place.ensures.offset (omega arith) (omega arith) in
    omega arith

pub bounds-as_slice-place : goal.bounds-as_slice-place
bounds-as_slice-place g c =
    let len_is = seen_len _ _ c.self.invariant _ c.self.view_is in
    let there = segment_within _ _ c.args.at _ _ c.locate-place.ensures.at (omega arith) c.self.invariant.within in
    let within : c.locate-place.result.offset < c.index.result.now.len = item_within c.self.inside.len c.args.at _ _ _ _ c.self.invariant there c.index.ensures c.locate-place.ensures.at c.locate-place.ensures.offset (omega arith) (omega arith) in
    omega arith

pub returns : goal.returns
returns g c =
    let len_is = seen_len _ _ c.self.invariant _ c.self.view_is in
    let there = segment_within _ _ c.args.at _ _ c.locate-place.ensures.at (omega arith) c.self.invariant.within in
    let within : c.locate-place.result.offset < c.index.result.now.len = item_within c.self.inside.len c.args.at _ _ _ _ c.self.invariant there c.index.ensures c.locate-place.ensures.at c.locate-place.ensures.offset (omega arith) (omega arith) in
    rw (← c.self.view_is) (slice_get-joined c.self.inside.len c.args.at _ _ _ _ c.self.invariant there c.index.ensures c.locate-place.ensures.at c.locate-place.ensures.offset (omega arith) _
    (slice_get_read c.index.result.now.items c.index.result.now.len c.locate-place.result.offset c.index-as_slice-place.result c.index.result.now.ok.0 within (rw c.as_slice.ensures.value at c.index-as_slice-place.is)))
