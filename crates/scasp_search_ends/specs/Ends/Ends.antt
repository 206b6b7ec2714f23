-- What a search for answers to a query is about, with its tests; and how the end of a branch is told.
use Rattle.std.specs.Prelude.{◌≡◌, ◌⊎◌, ℕ, true, List, Option, None, Some, Result, Ok, Err, ⊤, option_map}
use Rattle.std.specs.List.{list_any}
use Rattle.scasp_search_constraints.specs.declared.assuming.step.SearchErr.{SearchErr}
use Rattle.scasp_search_constraints.specs.declared.assuming.step.SearchErr.TheVariants as errors
use Rattle.scasp_cert.specs.Certificate.{Certificate, certificate_of}
use Rattle.scasp_cert.specs.declared.certificate.Cert.{Cert}
use Rattle.scasp_hint.specs.Finding.{overflows_in}
use Rattle.scasp_hint.specs.Satisfying.{sat}
use Rattle.scasp_nmr.specs.declared.items.CheckItem.{CheckItem}
use Rattle.scasp_search_rules.specs.Successors.Problems.{Problem}
use Rattle.scasp_syntax.specs.declared.con.Con.{Con}
use Rattle.scasp_syntax.specs.declared.predicate_map.PredMap.{PredMap}
use Rattle.scasp_syntax.specs.declared.program.Program.{Program}
use Rattle.scasp_sample.specs.Sampling.{sample}

-- the program, the number of its query, the clauses that are checked, the map, and the first name of samples
abbrev pub problem : Program → ℕ → List CheckItem → List PredMap → ℕ → Problem
problem p query checks map fresh = record {
  program = p;
  query = query;
  checks = checks;
  map = map;
  sat = sat;
  sample = sample fresh;
  overflows = overflows_in;
}

-- The answer that a state with nothing left to do is, if it is one. An overflow only where its sample overflows, or one of the lists that are
-- asked about it.
abbrev pub Ends : Result (Option Cert) SearchErr → Option (Option Certificate) → List (List Con) → Type 0
Ends (Ok o) answer asked = answer ≡ option_map (λ c. Some (certificate_of c)) o
Ends (Err errors.Overflow) answer asked = (answer ≡ Some None) ⊎ (list_any overflows_in asked ≡ true)
Ends (Err errors.Memory) answer asked = ⊤

-- a certificate with its sample, or the overflow of the sample
abbrev pub Sampled : Result Cert SearchErr → Option Certificate → Type 0
Sampled (Ok cert) o = o ≡ Some (certificate_of cert)
Sampled (Err errors.Overflow) o = o ≡ None
Sampled (Err errors.Memory) o = ⊤
