use Rattle.std.proofs.Common.{◌∙◌, sym}
use Rattle.scasp_tables.proofs.KeyLemmas.{found_atom, tested_atom}
use Rattle.scasp_tables.proofs.atom_table.AtomTable.find.Goals as goal

pub returns-in-Some-clause-found : goal.returns-in-Some-clause-found
returns-in-Some-clause-found c =
    found_atom _ _ _ _ _ _ c.in-Some.place c.self.view_is c.self.invariant.0 c.as_slice.ensures.value c.in_ok-key.ensures c.in-Some.ensures.found

pub returns-clause-absent : goal.returns-clause-absent
returns-clause-absent c =
    sym (tested_atom _ _ _ _ _ _ c.self.view_is c.self.invariant.0 c.as_slice.ensures.value c.in_ok-key.ensures) ∙ c.in-None.ensures.absent
