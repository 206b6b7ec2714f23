use Rattle.scasp_syntax.specs.Tm.{items}
use Rattle.scasp_extend_instances.proofs.WayLemmas.{valued-at}
use Rattle.scasp_extend_instances.proofs.values.free_value.Goals as goal

pub returns : goal.returns
returns c = valued-at (items c.args.free.now) c.args.x c.get.result c.get.ensures
