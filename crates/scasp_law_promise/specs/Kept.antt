-- All that is promised of a certificate.
use Rattle.std.specs.Prelude.{IsTrue}
use Rattle.scasp_syntax.specs.declared.program.Program.{Program}
use Rattle.scasp_graph.specs.Map.{MapHolds}
use Rattle.scasp_cert.specs.Certificate.{Certificate}
use Rattle.scasp_cert.specs.Flat.{is_flat}
use Rattle.scasp_sound.specs.MapLevels.{covered}
use Rattle.scasp_law_promise.specs.Good.{Good, GoodRight, HasClosedDomains}

-- It is good; it is so with existence where the program keeps its map but for the clauses that are checked; and where it is flat, there is
-- a closed domain above each.
pub record KeepsPromise (p : Program) (c : Certificate) : Type 0 where
  pub good : Good p c
  pub right : MapHolds p (covered c) c.map → GoodRight p c
  pub domains : IsTrue (is_flat c) → HasClosedDomains p c
