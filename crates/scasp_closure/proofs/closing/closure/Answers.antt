use Rattle.std.proofs.Common.{◌≡◌, ◌∙◌, true, List, ap}
use Rattle.scasp_model.specs.Atoms.{SameAtoms, are_distinct}
use Rattle.scasp_model.specs.Least.{least_model}
use Rattle.scasp_syntax.specs.declared.atom.Atom.{Atom}
use Rattle.scasp_worklist.specs.Numbered.{has}
use Rattle.scasp_closure.specs.Reading.{atoms_in}
use Rattle.scasp_closure.proofs.ReadingLemmas.{told, same-read, distinct-read}
use Rattle.scasp_closure.proofs.closing.closure.Goals as goal

pub returns-clause-atoms : goal.returns-clause-atoms
returns-clause-atoms c =
    told c.atoms_in.result (λ (atoms : List Atom). atoms ≡ atoms_in (has c.in_ok-set.set) c.as_slice.result.now)
    (λ (atoms : List Atom). SameAtoms atoms (least_model c.args.rules.now)) c.atoms_in.ensures
    (λ atoms e. same-read c.numbered_rules.new.table atoms c.in_ok-numbered.numbered c.args.rules.now (has c.in_ok-set.set) c.as_slice.ensures.distinct
    c.in_ok-numbered.ensures c.in_ok-set.ensures (e ∙ ap (atoms_in (has c.in_ok-set.set)) c.as_slice.ensures.value))

pub returns-clause-distinct : goal.returns-clause-distinct
returns-clause-distinct c =
    told c.atoms_in.result (λ (atoms : List Atom). atoms ≡ atoms_in (has c.in_ok-set.set) c.as_slice.result.now)
    (λ (atoms : List Atom). are_distinct atoms ≡ true) c.atoms_in.ensures
    (λ atoms e. distinct-read c.numbered_rules.new.table atoms (has c.in_ok-set.set) c.as_slice.ensures.distinct
    (e ∙ ap (atoms_in (has c.in_ok-set.set)) c.as_slice.ensures.value))
