-- What lines make of what those behind them make.
use Rattle.std.specs.Prelude.{ℕ, List, [], ◌∷◌}
use Rattle.scasp_search_rules.specs.declared.states.lines.Line.{Line}
use Rattle.scasp_search_rules.specs.Successors.Trees.{Built, put}

abbrev pub onto : List ℕ → List Line → Built → Built
onto ats [] b = b
onto ats (l ∷ ls) b = put ats l (onto ats ls b)
