-- The answer that tells the first of the clauses that break a map.
use Rattle.std.specs.Prelude.{ℕ, List, [], ◌∷◌, Result, Ok, Err}
use Rattle.scasp_graph.specs.declared.map.MapFault.{MapFault}

abbrev pub judged : List ℕ → Result Unit MapFault
judged [] = Ok tt
judged (n ∷ ns) = Err (record { rule = n })
