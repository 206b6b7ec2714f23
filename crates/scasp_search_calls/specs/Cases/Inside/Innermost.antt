-- The end of a case of the innermost cover.
use Rattle.std.specs.Prelude.{ℕ, List, ◌++◌, map}
use Rattle.scasp_search_rules.specs.declared.states.covers.Cover.{Cover}
use Rattle.scasp_search_rules.specs.declared.states.covers.Remainder.{Remainder}
use Rattle.scasp_search_rules.specs.declared.states.lines.Line.{Line}
use Rattle.scasp_search_rules.specs.declared.states.state.State.{State}
use Rattle.scasp_search_rules.specs.Successors.Cases.{kept_literal, line_under, remaining, taken_up, unbound}

-- the case of a cover with these universals has ended, before which these lines stood; some universals stay replaced
abbrev pub ended_by : State → List ℕ → List Line → List ℕ → State
ended_by s universals lines but = record s {
  literals = map (kept_literal s universals) s.literals;
  lines = lines ++ map (line_under s) s.lines;
  bound = unbound universals but s.bound;
}

-- the remainder of the cover is its case, before whose ended case these lines stood
abbrev pub resumed : State → Cover → List Line → Remainder → List Remainder → State
resumed s c lines r rs =
    let t : State = ended_by s c.universals lines r.replaced in
    taken_up t r (remaining c r rs t.cases t.lines) t.covers
