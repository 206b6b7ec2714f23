use Rattle.std.proofs.Common.{◌≡◌, ◌∙◌, [], List}
use Rattle.scasp_syntax.specs.declared.atom.Atom.{Atom}
use Rattle.scasp_worklist.specs.Numbered.{has}
use Rattle.scasp_closure.specs.Reading.{atoms_in, atoms_onto}
use Rattle.scasp_closure.proofs.ReadingLemmas.{told, onto-all}
use Rattle.scasp_closure.proofs.closing.atoms_in.Goals as goal

pub returns : goal.returns
returns c =
    told c.atoms_onto.result (λ (made : List Atom). made ≡ atoms_onto (has c.args.set.now) 0 [] c.args.atoms.now)
    (λ (made : List Atom). made ≡ atoms_in (has c.args.set.now) c.args.atoms.now) c.atoms_onto.ensures
    (λ made e. e ∙ onto-all (has c.args.set.now) c.args.atoms.now)
