use Rattle.scasp_told.proofs.PlaceLemmas.{piece_inside}
use Rattle.scasp_told.proofs.cuts.piece_inside.Goals as goal

pub returns : goal.returns
returns g c = rw (c.end_at-end.ensures.end, c.start_of-start.ensures.start) (piece_inside c.args.number c.args.counts.now c.args.items.now c.requires.number)
