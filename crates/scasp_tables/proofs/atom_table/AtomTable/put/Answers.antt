use Rattle.scasp_tables.proofs.KeyLemmas.{found_atom, grown_atoms, with_atom-new, with_atom-there, last-at}
use Rattle.scasp_tables.proofs.atom_table.AtomTable.put.Goals as goal

pub returns-in-Some-clause-number : goal.returns-in-Some-clause-number
returns-in-Some-clause-number c =
    found_atom _ _ _ _ _ _ c.in-Some.place c.self.view_is c.self.invariant.0 c.as_slice.ensures.value c.in_ok-key.ensures c.in-Some.ensures.found

pub returns-in-Some-clause-atoms : goal.returns-in-Some-clause-atoms
returns-in-Some-clause-atoms c =
    with_atom-there _ _ c.in-Some.place
    (found_atom _ _ _ _ _ _ c.in-Some.place c.self.view_is c.self.invariant.0 c.as_slice.ensures.value c.in_ok-key.ensures c.in-Some.ensures.found)

pub invariant_of-self-in-Ok : goal.invariant_of-self-in-Ok
invariant_of-self-in-Ok c =
    grown_atoms _ _ _ _ _ _ c.args.atom.now _ c.self.invariant c.as_slice.ensures.value c.in_ok-key.ensures c.in_ok-copied.ensures c.in_default.ensures.absent
    c.in_ok-push.ensures.ok c.in-Ok.ensures.ok

pub returns-in-Ok-clause-atoms : goal.returns-in-Ok-clause-atoms
returns-in-Ok-clause-atoms c =
    with_atom-new _ _ _ _ _ _ c.args.atom.now _ c.self.view_is c.self.invariant.0 c.as_slice.ensures.value c.in_ok-key.ensures c.in_ok-copied.ensures
    c.in_default.ensures.absent c.in-Ok.ensures.ok

pub returns-in-Ok-clause-number : goal.returns-in-Ok-clause-number
returns-in-Ok-clause-number c =
    last-at c.self.inside.atoms _ _ _ _ c.len-place.ensures c.in_ok-copied.ensures c.in-Ok.ensures.ok
