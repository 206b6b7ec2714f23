-- What follows from the faults of a certificate and those of its map.
use Rattle.std.proofs.Common.{◌≡◌, ◌∙◌, ℕ, true, List, [], ◌∷◌, refl, sym}
use Rattle.scasp_syntax.specs.declared.program.Program.{Program}
use Rattle.scasp_cert.specs.Certificate.{Certificate}
use Rattle.scasp_graph.specs.Map.{map_faults}
use Rattle.scasp_sound.specs.MapLevels.{covered}
use Rattle.scasp_checker_rules.specs.Faults.{faults}
use Rattle.scasp_checker_rules.specs.declared.refusal.Refusal.{Refusal}
use Rattle.scasp_checker_rules.proofs.AcceptedLemmas.{accepted-no_fault}
use Rattle.scasp_law_promise.specs.OwnRows.{has_normal_rows}
use Rattle.scasp_checker.proofs.VerdictLemmas.VerdictLemmas.{no_fault-accepted, no_fault-kept}
use Rattle.scasp_command_check.specs.Worths.{worth_by, worth_of, Says}

pub says : (p : Program) (c : Certificate) → has_normal_rows c ≡ true → Says (worth_of p c) p c
says p c n = by (faults p c) (map_faults p (covered c) c.map) refl refl
  where
    by : (fs : List Refusal) (rs : List ℕ) → faults p c ≡ fs → map_faults p (covered c) c.map ≡ rs → Says (worth_by fs rs) p c
    by (f ∷ fs) rs e m = λ a. let k : [] ≡ f ∷ fs = sym ((accepted-no_fault true p c).0 a) ∙ e in cc
    by [] (r ∷ rs) e m = record {
      accepted = no_fault-accepted p c e;
      broken = λ h. let k : [] ≡ r ∷ rs = sym h ∙ m in cc;
      good = (no_fault-kept p c n e).good;
      domains = (no_fault-kept p c n e).domains;
    }
    by [] [] e m = record {
      accepted = no_fault-accepted p c e;
      map = m;
      good = (no_fault-kept p c n e).right m;
      domains = (no_fault-kept p c n e).domains;
    }
