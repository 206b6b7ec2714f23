-- What the certificate of a state is about.
use Rattle.std.specs.Prelude.{ℕ, List, [], None}
use Rattle.scasp_hint.specs.Finding.{overflows_in}
use Rattle.scasp_hint.specs.Satisfying.{sat}
use Rattle.scasp_syntax.specs.declared.predicate_map.PredMap.{PredMap}
use Rattle.scasp_syntax.specs.declared.program.Program.{Program}
use Rattle.scasp_search_rules.specs.Successors.Problems.{Problem}

-- a problem as far as a certificate without its sample goes
abbrev pub problem_about : Program → ℕ → List PredMap → Problem
problem_about p query map = record {
  program = p;
  query = query;
  checks = [];
  map = map;
  sat = sat;
  sample = λ cs n. None;
  overflows = overflows_in;
}
