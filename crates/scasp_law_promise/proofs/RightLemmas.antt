-- What an accepted certificate leaves has a stable model where the program keeps its map.
use Rattle.std.proofs.Common.{◌≡◌, ℕ, Bool, true, nat_eq, List}
use Rattle.std.specs.List.{Contains, list_any}
use Rattle.std.proofs.lemmas.Bool.{eqb-true}
use Rattle.std.proofs.lemmas.Map.Views.{Contains-from_any}
use Rattle.scasp_syntax.specs.declared.atom.Atom.{Atom}
use Rattle.scasp_syntax.specs.declared.program.Program.{Program}
use Rattle.scasp_graph.specs.Map.{MapHolds}
use Rattle.scasp_model.specs.Levelled.{levelled_model}
use Rattle.scasp_model.specs.declared.program.GroundClause.{GroundClause}
use Rattle.scasp_cert.specs.Certificate.{Certificate}
use Rattle.scasp_sound.specs.MapLevels.{level_of, plus_of, covered, NoneLeft}
use Rattle.scasp_sound.proofs.LevelInduction.{levelled-stable}
use Rattle.scasp_sound.proofs.MapKeeping.{left-keeps}
use Rattle.scasp_lines.specs.Said.{false_atoms, true_atoms}
use Rattle.scasp_checker_rules.specs.Accepted.{AcceptsWhere}
use Rattle.scasp_checker_rules.specs.Normality.{AreRowsNormal}
use Rattle.scasp_law_promise.specs.Good.{Extendable, GoodRight, residual_over}
use Rattle.scasp_law_promise.specs.Premises.{Premises}
use Rattle.scasp_law_promise.proofs.CheckLemmas.{covered-gone}
use Rattle.scasp_law_promise.proofs.GoodLemmas.{accepted-good}

listed : (n : ℕ) (numbers : List ℕ) → list_any (nat_eq n) numbers ≡ true → Contains numbers n
listed n numbers h = Contains-from_any (λ x y e. eqb-true x y e) n numbers h

-- nothing is left of the clauses that are checked
none-left : (b : Bool) (p : Program) (c : Certificate) (m : Premises b p c)
    → NoneLeft p (covered c) m.domain (true_atoms p c m.free.of m.domain) (false_atoms p c m.free.of m.domain)
none-left b p c m = λ number clause is named. covered-gone b p c m number (listed number (covered c) is) clause named

-- what is left keeps the levels and signs of the map, so it has the levelled model
extendable : (b : Bool) (p : Program) (c : Certificate) → AreRowsNormal p c → AcceptsWhere b p c → MapHolds p (covered c) c.map → Extendable p c
extendable b p c n h k =
    λ v meets d is closed.
    (let m : Premises b p c = record { accepted = h; normal = n; free = v; meets = meets; domain = d; distinct = is } in
    let t : List Atom = true_atoms p c v.of d in
    let f : List Atom = false_atoms p c v.of d in
    let g : List GroundClause = residual_over p c v.of d in (
      levelled_model (level_of c.map) (plus_of c.map) g,
      levelled-stable (level_of c.map) (plus_of c.map) g (left-keeps p (covered c) c.map d t f k (none-left b p c m)),
    ))

pub right-good : (b : Bool) (p : Program) (c : Certificate) → AreRowsNormal p c → AcceptsWhere b p c → MapHolds p (covered c) c.map → GoodRight p c
right-good b p c n h k = (accepted-good b p c n h, extendable b p c n h k)
