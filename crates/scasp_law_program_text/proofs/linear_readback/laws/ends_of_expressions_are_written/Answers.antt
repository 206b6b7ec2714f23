use Rattle.scasp_law_program_text.proofs.LinearReadbackLemmas.LinearItems.{comma-ends, stop-ends}
use Rattle.scasp_law_program_text.proofs.linear_readback.laws.ends_of_expressions_are_written.Goals as goal

pub returns : goal.returns
returns c = record { comma = comma-ends; stop = stop-ends }
