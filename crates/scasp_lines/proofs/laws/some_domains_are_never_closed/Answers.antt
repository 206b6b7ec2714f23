use Rattle.std.proofs.Common.{refl}
use Rattle.scasp_lines.proofs.EndlessLemmas.{never-closed}
use Rattle.scasp_lines.proofs.laws.some_domains_are_never_closed.Goals as goal

pub returns : goal.returns
returns c = record { not_flat = refl; never = never-closed }
