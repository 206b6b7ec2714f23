use Rattle.scasp_told.proofs.PlaceLemmas.{piece_last}
use Rattle.scasp_told.proofs.cuts.piece_behind.Goals as goal

pub returns : goal.returns
returns g c = rw c.start_last-start.ensures (piece_last c.args.counts.now c.args.items.now)
