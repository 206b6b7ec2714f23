use Rattle.std.proofs.Common.{◌≡◌, ◌++◌}
use Rattle.scasp_bound.specs.Inside.Reading.{piece_read}
use Rattle.scasp_bound.proofs.PieceLemmas.{all_work, vars_in}
use Rattle.scasp_unify.specs.Unification.{terms_vars}
use Rattle.scasp_bound.proofs.variables.push_vars_of.Given as goal

abbrev pub invariant-pieces : goal.invariant-pieces
invariant-pieces l = l.found ++ vars_in l.bindings l.pieces.items ≡ l.fn.found ++ terms_vars (piece_read l.bindings l.terms)

abbrev pub decreases-pieces : goal.decreases-pieces
decreases-pieces l = all_work l.bindings l.pieces.items
