use Rattle.std.proofs.Common.{◌≡◌, ℕ}
use Rattle.scasp_syntax.specs.View.{tm_of}
use Rattle.scasp_syntax.specs.WellFormed.{is_below}
use Rattle.scasp_test_values.proofs.terms.terms.nested.Given as goal

abbrev pub invariant-levels : goal.invariant-levels
invariant-levels l = (n : ℕ) → is_below n (tm_of l.term) ≡ is_below n (tm_of l.fn.inner)
