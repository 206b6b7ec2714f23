-- The faults of the pairs of one literal.
use Rattle.std.specs.List.{flat_map}
use Rattle.std.specs.Prelude.{ℕ, List}
use Rattle.scasp_checker_rules.specs.Pairs.{pair_faults}
use Rattle.scasp_checker_rules.specs.Told.{Told}
use Rattle.scasp_checker_rules.specs.declared.refusal.Refusal.{Refusal}
use Rattle.scasp_cert.specs.declared.certificate.Clash.{Clash}
use Rattle.scasp_checker.specs.Partners.Partners.{pairs_of}
use Rattle.scasp_syntax.specs.declared.con.Con.{Con}

abbrev pub group_faults : ℕ → List Con → List Clash → Told × List Told → List Refusal
group_faults free given clashes g = flat_map (pair_faults free given clashes) (pairs_of g)
