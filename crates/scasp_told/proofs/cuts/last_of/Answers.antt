use Rattle.scasp_told.proofs.PlaceLemmas.{last_found}
use Rattle.scasp_told.proofs.cuts.last_of.Goals as goal

pub returns : goal.returns
returns g c = last_found c.args.counts.now c.args.items.now c.piece_behind.result.now c.piece_behind.ensures
