use Rattle.scasp_reader.proofs.ProgramsLemmas.ClauseKeeping.{read-well_formed, read-abducible}
use Rattle.scasp_reader.proofs.programs.reading.read_program.Goals as goal

pub invariant_of-written : goal.invariant_of-written
invariant_of-written c = record {
  well_formed = read-well_formed c.args.names c.args.bytes.now c.in_ok-clauses.field-0 c.in_ok-clauses.ensures;
  choices = read-abducible c.args.names c.args.bytes.now c.in_ok-clauses.field-0 c.in_ok-clauses.ensures;
}
