use Rattle.std.proofs.Common.{◌≡◌, ℕ, ◌^◌, length, arith, ap, ◌∙◌}
use Rattle.scasp_cells.proofs.Filling.{joined-more, filled-more}
use Rattle.scasp_cells.proofs.cells.add_segment.Goals as goal

pub returns-in-Ok-clause-joined : goal.returns-in-Ok-clause-joined
returns-in-Ok-clause-joined g c = rw (c.push_reserved.ensures.items, c.reserve.ensures.items) (joined-more c.args.segments.now.items c.in-Ok.segment c.in-Ok.ensures.0)

pub returns-in-Ok-clause-filled : goal.returns-in-Ok-clause-filled
returns-in-Ok-clause-filled g c len filled =
    let count : c.len.result ≡ length c.args.segments.now.items = omega (arith, c.args.segments.now.ok.0) in
    rw (c.push_reserved.ensures.items, c.reserve.ensures.items) (filled-more len c.args.segments.now.items c.in-Ok.segment (omega arith) c.in-Ok.ensures.1 (c.in-Ok.ensures.2 ∙ c.size-cap.ensures ∙ ap (λ (k : ℕ). 2 ^ k) count) filled)
