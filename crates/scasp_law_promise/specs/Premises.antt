-- What is fixed in the argument: an accepted certificate, values of its free variables that meet what is given, and a domain.
use Rattle.std.specs.Prelude.{◌≡◌, ℕ, Bool, true, IsTrue, List}
use Rattle.std.specs.List.{Contains}
use Rattle.scasp_syntax.specs.Constraints.{Meets}
use Rattle.scasp_syntax.specs.Tm.{Tm}
use Rattle.scasp_syntax.specs.Values.{Sub, Valuation, is_ground}
use Rattle.scasp_syntax.specs.declared.program.Program.{Program}
use Rattle.scasp_model.specs.Grounding.{is_domain}
use Rattle.scasp_cert.specs.Certificate.{Certificate}
use Rattle.scasp_lines.specs.Lines.{free_of, lines}
use Rattle.scasp_lines.specs.Opened.{IsInstance}
use Rattle.scasp_lines.specs.Walk.{Line}
use Rattle.scasp_checker_rules.specs.Accepted.{AcceptsWhere}
use Rattle.scasp_checker_rules.specs.Normality.{AreRowsNormal}

pub record Premises (b : Bool) (p : Program) (c : Certificate) : Type 0 where
  pub accepted : AcceptsWhere b p c
  pub normal : AreRowsNormal p c
  pub free : Valuation
  pub meets : Meets free.of c.given
  pub domain : List Tm
  pub distinct : IsTrue (is_domain domain)

-- The line is one of the certificate, and these ground values are an instance of it.
pub record IsAt (b : Bool) (p : Program) (c : Certificate) (m : Premises b p c) (l : Line) (v : Sub) : Type 0 where
  pub listed : Contains (lines p c) l
  pub instance : IsInstance (free_of c) m.domain m.free.of l.here.opened v
  pub ground : (x : ℕ) → is_ground (v x) ≡ true
