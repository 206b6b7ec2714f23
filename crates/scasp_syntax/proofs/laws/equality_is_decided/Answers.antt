use Rattle.scasp_syntax.proofs.SameLemmas.{tm_decided, tms_decided, atom_decided, lit_decided}
use Rattle.scasp_syntax.proofs.laws.equality_is_decided.Goals as goal

pub returns-clause-terms : goal.returns-clause-terms
returns-clause-terms c = tm_decided

pub returns-clause-lists : goal.returns-clause-lists
returns-clause-lists c = tms_decided

pub returns-clause-atoms : goal.returns-clause-atoms
returns-clause-atoms c = atom_decided

pub returns-clause-literals : goal.returns-clause-literals
returns-clause-literals c = lit_decided
