use Rattle.scasp_lines.proofs.UniversalLemmas.{covering-grows, covering-known, covering-met}
use Rattle.scasp_lines.proofs.laws.covers_are_met.Goals as goal

pub returns : goal.returns
returns c = record { fits = covering-grows; known = covering-known; met = covering-met }
