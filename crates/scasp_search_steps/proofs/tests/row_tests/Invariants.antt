use Rattle.std.proofs.Common.{◌≡◌, map, take}
use Rattle.scasp_syntax.specs.declared.con.Con.TheVariants as con
use Rattle.scasp_syntax.specs.declared.term.Term.TheVariants.{Var}
use Rattle.scasp_search_steps.proofs.tests.row_tests.Given as goal

abbrev pub invariant-loop-coeff : goal.invariant-loop-coeff
invariant-loop-coeff l = l.tests ≡ map (λ k. con.Num (Var k.x)) (take l.coeff-index l.coeff-items)
