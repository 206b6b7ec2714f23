use Rattle.std.proofs.Common.{◌∷◌}
use Rattle.scasp_law_program_text.proofs.ClauseReadbackLemmas.ItemTokens.{of-any, stop-ends, comma-ends}
use Rattle.scasp_law_program_text.proofs.clause_readback.laws.ends_of_items_are_written.Goals as goal

pub returns : goal.returns
returns c = record { comma = λ i rest. of-any i (44 ∷ 32 ∷ rest) (comma-ends (32 ∷ rest)); stop = λ i rest. of-any i (46 ∷ 10 ∷ rest) (stop-ends rest) }
