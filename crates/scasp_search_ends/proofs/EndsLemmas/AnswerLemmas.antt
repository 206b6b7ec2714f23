-- The answer of a state whose rows are replaced.
use Rattle.std.specs.Prelude.{◌≡◌, Bool, false, if◌then◌else◌, Option, None, Some, Result, List}
use Rattle.std.proofs.Common.{subst, sym}
use Rattle.scasp_cert.specs.Certificate.{Certificate}
use Rattle.scasp_cert.specs.declared.certificate.Cert.{Cert}
use Rattle.scasp_search_constraints.specs.declared.assuming.step.SearchErr.{SearchErr}
use Rattle.scasp_search_ends.specs.Ends.Ends.{Ends}
use Rattle.scasp_syntax.specs.declared.con.Con.{Con}

pub ends-kept : (r : Result (Option Cert) SearchErr) (b : Bool) (a : Option (Option Certificate)) (asked : List (List Con)) → b ≡ false → Ends r a asked
    → Ends r (if b then Some None else a) asked
ends-kept r b a asked e h = subst (λ (c : Bool). Ends r (if c then Some None else a) asked) (sym e) h
