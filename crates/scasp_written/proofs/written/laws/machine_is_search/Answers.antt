use Rattle.std.proofs.Common.{refl}
use Rattle.scasp_written.proofs.written.laws.machine_is_search.Goals as goal

pub returns : goal.returns
returns c = λ p q. refl
