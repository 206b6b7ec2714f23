use Rattle.std.proofs.Common.{◌∙◌}
use Rattle.scasp_tables.proofs.KeyLemmas.{tested_atom}
use Rattle.scasp_tables.proofs.atom_table.AtomTable.contains.Goals as goal

pub returns : goal.returns
returns c =
    c.contains.ensures ∙ tested_atom _ _ _ _ _ _ c.self.view_is c.self.invariant.0 c.as_slice.ensures.value c.in_ok-key.ensures
