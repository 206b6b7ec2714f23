use Rattle.std.proofs.Common.{◌≡◌, ◌+◌, ◌^◌, ◌≤◌, List, [], ◌∷◌, ◌++◌, true, false, length, length-set, refl, sym, ap, ◌∙◌, arith, lt_of_not-le}
use Rattle.std.proofs.Math.Pow.{pow_mono}
use Rattle.scasp_cells.specs.Stack.{Stack}
use Rattle.scasp_cells.proofs.Filling.{seen_len, seen_spare, segment_within, segment_near, room_left, push-joined, push-filled}
use Rattle.scasp_cells.proofs.cells.Cells.push.Goals as goal

pub has_segment-requires : goal.has_segment-requires
has_segment-requires g c =
    let len_is = seen_len _ _ c.self.invariant _ c.self.view_is in
    let near = segment_near _ _ _ _ c.locate-place.ensures.at c.self.invariant.within in
    (near, lt_of_not-le (λ (le : 63 ≤ c.locate-place.result.segment). let below : 2 ^ 63 ≤ 2 ^ c.locate-place.result.segment = pow_mono le in omega (arith, c.locate-place.ensures.at)))

pub returns-then-not-has_segment-clause-succeeds : goal.returns-then-not-has_segment-clause-succeeds
returns-then-not-has_segment-clause-succeeds g c some =
    let spare_is = seen_spare _ _ _ c.self.view_is in
    let there = segment_within (length c.self.inside.segments.items) (c.self.inside.len + 1) c.self.inside.len _ _ c.locate-place.ensures.at (omega arith) (omega arith) in
    (c.if-not-has_segment.ensures.kept there).0

pub returns-then-not-has_segment-clause-spare : goal.returns-then-not-has_segment-clause-spare
returns-then-not-has_segment-clause-spare g c some = let no : false ≡ true = returns-then-not-has_segment-clause-succeeds g c some in cc

pub push-requires : goal.push-requires
push-requires g c = room_left c.self.inside.len c.self.inside.len _ _ _ _ (c.has_segment.ensures.filled _ c.self.invariant) c.if-not-has_segment.ensures.found c.index_mut-segment.ensures.value c.locate-place.ensures.at c.locate-place.ensures.offset (omega arith) refl

pub invariant_of-self-2 : goal.invariant_of-self-2
invariant_of-self-2 g c = push-filled c.self.inside.len c.self.inside.len _ _ _ _ (c.has_segment.ensures.filled _ c.self.invariant) c.if-not-has_segment.ensures.found c.index_mut-segment.ensures.value c.locate-place.ensures.at c.locate-place.ensures.offset (omega arith) c.push.new.self c.push.ensures.cap refl c.push.ensures.len

pub returns-clause-pushed : goal.returns-clause-pushed
returns-clause-pushed g c =
    let was = c.has_segment.ensures.joined ∙ ap (λ (s : Stack g.row.T.Denot). s.items) c.self.view_is in
    push-joined c.self.inside.len c.self.inside.len _ _ _ _ (c.has_segment.ensures.filled _ c.self.invariant) c.if-not-has_segment.ensures.found c.index_mut-segment.ensures.value c.locate-place.ensures.at c.locate-place.ensures.offset (omega arith) c.push.new.self c.push.ensures.cap c.args.item refl c.push.ensures.items
    ∙ ap (λ (l : List g.row.T.Denot). l ++ c.args.item ∷ []) was

pub returns-clause-place : goal.returns-clause-place
returns-clause-place g c =
    let len_is = seen_len _ _ c.self.invariant _ c.self.view_is in
    sym len_is

pub returns-clause-spare : goal.returns-clause-spare
returns-clause-spare g c some =
    let spare_is = seen_spare _ _ _ c.self.view_is in
    let there = segment_within (length c.self.inside.segments.items) (c.self.inside.len + 1) c.self.inside.len _ _ c.locate-place.ensures.at (omega arith) (omega arith) in
    rw (length-set, (c.has_segment.ensures.kept there).1) (omega arith)
