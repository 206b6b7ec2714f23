-- What comes of extending certificates over a domain, and what that says of them.
use Rattle.std.specs.Prelude.{List, Option, None, Some}
use Rattle.scasp_cert.specs.Certificate.{Certificate}
use Rattle.scasp_checker_rules.specs.Accepted.{Accepts}
use Rattle.scasp_extend.specs.Extension.{obstacle}
use Rattle.scasp_extend_instances.specs.Values.{valued}
use Rattle.scasp_extend_parts.specs.declared.errors.ExtendErr.{ExtendErr}
use Rattle.scasp_extend_parts.specs.declared.errors.ExtendErr.TheVariants.{Refused, Joins, Given, TooLarge, Overflow, NotClosed, Memory}
use Rattle.scasp_graph.specs.Map.{MapHolds}
use Rattle.scasp_law_extension.specs.Above.{IsModelAbove, model_above}
use Rattle.scasp_sound.specs.MapLevels.{covered}
use Rattle.scasp_syntax.specs.Tm.{Tm, items}
use Rattle.scasp_syntax.specs.declared.atom.Atom.{Atom}
use Rattle.scasp_syntax.specs.declared.program.Program.{Program}

-- the atoms of a model, or what stands in the way of one
pub data Outcome : Type 0 where
  model : List Atom → Outcome
  stopped : ExtendErr → Outcome

abbrev pub outcome_by : Option ExtendErr → List Atom → Outcome
outcome_by None atoms = model atoms
outcome_by (Some why) atoms = stopped why

-- what comes of a certificate, where its free variables have the values of its sample
unfoldable pub outcome_of : Program → List Tm → Certificate → Outcome
outcome_of p d c = outcome_by (obstacle p c c.sample d) (model_above p c (valued (items c.sample)) d)

-- ---- what it says

-- the certificate is accepted, and the program keeps its map
pub record IsKept (p : Program) (c : Certificate) : Type 0 where
  pub accepted : Accepts p c
  pub map : MapHolds p (covered c) c.map

-- it is accepted, and the program breaks its map
pub record IsBroken (p : Program) (c : Certificate) : Type 0 where
  pub accepted : Accepts p c
  pub map : ¬ MapHolds p (covered c) c.map

-- Of what stands in the way. That a sample does not serve, and want of memory, come of no certificate.
abbrev pub SaysOf : ExtendErr → Program → Certificate → Type 0
SaysOf (Refused fault) p c = ¬ Accepts p c
SaysOf (Joins fault) p c = IsBroken p c
SaysOf Given p c = ⊥
SaysOf TooLarge p c = IsKept p c
SaysOf Overflow p c = IsKept p c
SaysOf (NotClosed at) p c = IsKept p c
SaysOf Memory p c = ⊥

-- the atoms are a stable model of the program over the domain, above what the certificate says
pub record IsExtended (p : Program) (d : List Tm) (c : Certificate) (atoms : List Atom) : Type 0 where
  pub kept : IsKept p c
  pub above : IsModelAbove p c (valued (items c.sample)) d atoms

abbrev pub Says : Outcome → Program → List Tm → Certificate → Type 0
Says (model atoms) p d c = IsExtended p d c atoms
Says (stopped why) p d c = SaysOf why p c
