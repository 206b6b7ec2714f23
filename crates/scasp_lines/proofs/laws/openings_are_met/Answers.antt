use Rattle.scasp_lines.proofs.OpeningFits.{grows-terms}
use Rattle.scasp_lines.proofs.OpeningLemmas.{opens-terms}
use Rattle.scasp_lines.proofs.EqualityLemmas.{says-terms}
use Rattle.scasp_lines.proofs.laws.openings_are_met.Goals as goal

pub returns : goal.returns
returns c = record { fits = grows-terms; met = opens-terms; equal = λ d s v. says-terms d s v }
