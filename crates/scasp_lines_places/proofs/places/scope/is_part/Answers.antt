use Rattle.std.proofs.Common.{arith}
use Rattle.std.proofs.lemmas.Bool.Decides.{nat_tests}
use Rattle.scasp_lines_places.proofs.PlacesLemmas.PartLemmas.{part-at, part-none}
use Rattle.scasp_lines_places.proofs.places.scope.is_part.Goals as goal

pub returns-then-first-x : goal.returns-then-first-x
returns-then-first-x c = part-at c.args.first c.args.size c.args.x (omega arith)

pub returns-else-first-x : goal.returns-else-first-x
returns-else-first-x c = let none = part-none c.args.first c.args.size c.args.x (omega arith) in grind (arith, nat_tests)
