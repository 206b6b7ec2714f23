use Rattle.scasp_simplex.specs.Inside.Chains.{Add}
use Rattle.scasp_simplex.proofs.combining.add_up.Given as goal

abbrev pub invariant-loop-part : goal.invariant-loop-part
invariant-loop-part l = Add l.rows l.chain.steps l.chain.added
