use Rattle.std.proofs.Common.{◌≡◌, ◌+◌, drop}
use Rattle.scasp_graph.specs.Map.{faults_from, map_faults}
use Rattle.scasp_map.proofs.keeping.fault_in.Given as goal

abbrev pub invariant-loop-place : goal.invariant-loop-place
invariant-loop-place l =
    faults_from l.covered l.map (l.place + 1) (drop l.place l.clause-items) ≡ map_faults l.program l.covered l.map
