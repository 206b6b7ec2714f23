-- Two lists of terms behind references.
use Rattle.std.specs.Borrow.{Bor}
use Rattle.std.specs.Prelude.{List}
use Rattle.scasp_search_rules.specs.Successors.Pairs.{all_pairs_of}
use Rattle.scasp_search_rules.specs.declared.states.tasks.Pair.{Pair}
use Rattle.scasp_syntax.specs.View.{tms_of}
use Rattle.scasp_syntax.specs.declared.term.Term.{Term}

-- the pairs that their terms come to, up to the end of the shorter
abbrev pub pairs_in : Bor (List Term) × Bor (List Term) → List Pair
pairs_in ls = all_pairs_of (tms_of ls.0.now) (tms_of ls.1.now)
