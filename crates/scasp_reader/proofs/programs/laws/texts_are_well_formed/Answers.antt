use Rattle.scasp_reader.proofs.ProgramsLemmas.ClauseKeeping.{read-well_formed, read-abducible}
use Rattle.scasp_reader.proofs.programs.laws.texts_are_well_formed.Goals as goal

pub returns-clause-clauses : goal.returns-clause-clauses
returns-clause-clauses c = read-well_formed

pub returns-clause-abducibles : goal.returns-clause-abducibles
returns-clause-abducibles c = read-abducible
