use Rattle.scasp_law_program_text.proofs.TermReadbackLemmas.Ends.{comma_ends, closing_ends, closing_list_ends, bar_ends, equal_ends, differ_ends, stop_ends}
use Rattle.scasp_law_program_text.proofs.term_readback.laws.ends_are_written.Goals as goal

pub returns : goal.returns
returns c = record { comma = comma_ends; closing = closing_ends; closing_list = closing_list_ends; bar = bar_ends; equal = equal_ends; differ = differ_ends; stop = stop_ends }
