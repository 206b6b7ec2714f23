-- How terms begin that bindings read.
use Rattle.std.specs.Prelude.{◌≡◌, ℕ}
use Rattle.std.proofs.Common.{ap}
use Rattle.scasp_num.specs.Number.{Number}
use Rattle.scasp_syntax.specs.Tm.{Tm, Tms, var, num, app}
use Rattle.scasp_bound.specs.Bounds.{root_of}
use Rattle.scasp_bound.specs.declared.roots.Root.TheVariants as root

pub variable_begins : (x : ℕ) (t : Tm) → var x ≡ t → root.Var x ≡ root_of t
variable_begins x t e = ap root_of e

pub number_begins : (q : Number) (t : Tm) → num q ≡ t → root.Num q ≡ root_of t
number_begins q t e = ap root_of e

pub name_begins : (f : ℕ) (ts : Tms) (t : Tm) → app f ts ≡ t → root.Name f ≡ root_of t
name_begins f ts t e = ap root_of e
