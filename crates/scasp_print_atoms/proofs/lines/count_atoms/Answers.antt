use Rattle.scasp_print_atoms.proofs.AtomLemmas.{same-count}
use Rattle.scasp_print_atoms.proofs.lines.count_atoms.Goals as goal

pub returns : goal.returns
returns c = λ set same. same-count c.args.atoms.now set c.requires same
