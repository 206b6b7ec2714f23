use Rattle.scasp_syntax.proofs.ProgramLemmas.{clause-rows, query-rows}
use Rattle.scasp_syntax.proofs.laws.programs_have_normal_rows.Goals as goal

pub returns-clause-clauses : goal.returns-clause-clauses
returns-clause-clauses c = clause-rows

pub returns-clause-queries : goal.returns-clause-queries
returns-clause-queries c = query-rows
