-- That there is an instance of what a certificate promises.
use Rattle.std.specs.Prelude.{◌≡◌, ℕ, IsTrue, List, ◌++◌}
use Rattle.scasp_syntax.specs.Constraints.{Meets}
use Rattle.scasp_syntax.specs.Tm.{Tm, items}
use Rattle.scasp_syntax.specs.Values.{Valuation, giving}
use Rattle.scasp_syntax.specs.declared.atom.Atom.{Atom}
use Rattle.scasp_syntax.specs.declared.program.Program.{Program}
use Rattle.scasp_model.specs.Grounding.{ground_program}
use Rattle.scasp_model.specs.Stable.{Stable}
use Rattle.scasp_cert.specs.Certificate.{Certificate}
use Rattle.scasp_lines.specs.Said.{true_atoms}
use Rattle.scasp_checker_rules.specs.Faults.{is_free}
use Rattle.scasp_law_promise.specs.Good.{ClosedAbove, GoodAt}

-- A valuation that gives each free variable its term of the sample meets what is given.
pub record HasInstance (c : Certificate) : Type 0 where
  pub by : Valuation
  pub sampled : (x : ℕ) → IsTrue (is_free c x) → by.of x ≡ giving (items c.sample) x
  pub meets : Meets by.of c.given

-- At an instance, and over a closed domain above the given one, the promise is kept, and the atoms that are said to be true are part of a
-- stable model of the program.
pub record HasModelAbove (p : Program) (c : Certificate) (given : List Tm) : Type 0 where
  pub instance : HasInstance c
  pub closed : ClosedAbove p c instance.by.of given
  pub good : GoodAt p c instance.by.of closed.domain
  pub others : List Atom
  pub model : Stable (ground_program closed.domain p) (true_atoms p c instance.by.of closed.domain ++ others)
