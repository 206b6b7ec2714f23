use Rattle.std.proofs.Common.{min, max}
use Rattle.scasp_checker.proofs.PairsLemmas.ClashLemmas.{put-tells}
use Rattle.scasp_checker.proofs.pairs.clashes.put.Goals as goal

pub returns : goal.returns
returns c = λ i j.
    put-tells c.args.firsts.now c.insert.new.self c.args.clash c.min-smaller.result c.max-greater.result i j c.min-smaller.ensures c.max-greater.ensures
    (c.in_ok-insert.ensures.updates.0 (min i j, max i j))
