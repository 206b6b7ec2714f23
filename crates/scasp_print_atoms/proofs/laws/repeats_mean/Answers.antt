use Rattle.scasp_print_atoms.proofs.AtomLemmas.{among-once, distinct-once}
use Rattle.scasp_print_atoms.proofs.laws.repeats_mean.Goals as goal

pub returns : goal.returns
returns c = λ atoms. record { same = λ a. among-once a atoms; distinct = distinct-once atoms }
