use Rattle.std.proofs.Common.{◌≡◌, length}
use Rattle.scasp_answers_terms.specs.Tokens.Readers.{made}
use Rattle.scasp_answers_terms.specs.Tokens.Rows.{more_signed}
use Rattle.scasp_answers_lines.specs.Rows.Inside.{with_summands}
use Rattle.scasp_answers_lines.proofs.rows.sums.parts.Given as goal

abbrev pub invariant-loop-coeffs : goal.invariant-loop-coeffs
invariant-loop-coeffs l = made (with_summands l.coeffs.items) (more_signed l.is_negative l.cursor) ≡ more_signed l.fn.negative l.fn.cursor

abbrev pub decreases-loop-coeffs : goal.decreases-loop-coeffs
decreases-loop-coeffs l = length l.cursor
