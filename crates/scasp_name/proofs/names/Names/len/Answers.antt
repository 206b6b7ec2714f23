use Rattle.std.proofs.Common.{string_bytes}
use Rattle.scasp_name.proofs.TextLemmas.{AreDistinct-map}
use Rattle.scasp_name.proofs.names.Names.len.Goals as goal

pub returns-clause-distinct : goal.returns-clause-distinct
returns-clause-distinct c = rw (← c.self.view_is) (AreDistinct-map string_bytes _ c.len.ensures.unique)
