-- Answers that are right.
use Rattle.std.specs.Prelude.{IsTrue}
use Rattle.scasp_checker_rules.specs.Accepted.{Accepts}
use Rattle.scasp_cert.specs.Certificate.{Certificate}
use Rattle.scasp_cert.specs.Flat.{is_flat}
use Rattle.scasp_graph.specs.Map.{MapHolds}
use Rattle.scasp_sound.specs.MapLevels.{covered}
use Rattle.scasp_law_promise.specs.Good.{GoodRight, HasClosedDomains}
use Rattle.scasp_syntax.specs.declared.program.Program.{Program}

-- An answer is right: it is accepted, and the program keeps its map, the clauses of its checks being covered. So for each valuation that meets what
-- is given and each closed domain it is part of a stable model, and there is one; and a flat one has a closed domain above each domain.
pub record IsRight (p : Program) (c : Certificate) : Type 0 where
  pub accepted : Accepts p c
  pub map : MapHolds p (covered c) c.map
  pub good : GoodRight p c
  pub domains : IsTrue (is_flat c) → HasClosedDomains p c
