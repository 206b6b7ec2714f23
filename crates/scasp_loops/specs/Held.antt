-- Literals that were gone into, in the words of the search.
use Rattle.std.specs.Prelude.{ℕ, false, List}
use Rattle.scasp_loops.specs.declared.entry.Entry.{Entry}
use Rattle.scasp_loops.specs.declared.entry.Marks.{Marks}
use Rattle.scasp_search_rules.specs.declared.states.state.Literal.{Literal}
use Rattle.scasp_syntax.specs.declared.atom.Lit.{Lit}

-- the literal of this number
abbrev pub literal_of : ℕ → Entry → Marks → Literal
literal_of n e m = record {
  number = n;
  lit = e.lit;
  cases = e.cases;
  is_done = m.is_done;
  loops = m.loops;
  is_general = m.is_general;
}

-- one that is gone into inside these cases, behind so many
abbrev pub entered : ℕ → Lit → List ℕ → Literal
entered n l cases = literal_of n (record { lit = l; cases = cases }) (record { is_done = false; loops = false; is_general = false })
