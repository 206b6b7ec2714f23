use Rattle.scasp_print_shared.specs.Inside.Lines.{move_of}
use Rattle.scasp_print_shared.proofs.WordLemmas.{far-stays}
use Rattle.scasp_print_shared.proofs.moves.number_inside.Goals as goal

pub returns-in-None : goal.returns-in-None
returns-in-None c = far-stays (move_of c.args.shift) c.args.words.now c.requires.forward c.requires.room c.in-None.ensures
