-- The leaves of a case, one by one.
use Rattle.std.specs.Prelude.{ℕ, suc, ◌+◌, ltb, if◌then◌else◌, List, ◌++◌, length}
use Rattle.scasp_search_rules.specs.declared.states.lines.Line.TheVariants as line
use Rattle.scasp_search_rules.specs.declared.states.state.State.{State}
use Rattle.scasp_search_rules.specs.Successors.Cases.{head_call, leaf_at, with_items}
use Rattle.scasp_search_rules.specs.Successors.Items.{body_of}
use Rattle.scasp_search_state.specs.declared.choice.Begun.{Begun}
use Rattle.scasp_syntax.specs.Programs.{numbered}
use Rattle.scasp_syntax.specs.declared.clause.FlatItem.{FlatItem}
use Rattle.scasp_syntax.specs.declared.program.Program.{Program}

-- the call of the head of the clause, in a list
abbrev pub call_of : Program → Begun → List FlatItem
call_of p b = head_call (numbered p.clauses b.clause) b.first

-- how many leaves call the head
abbrev pub heads : Program → Begun → ℕ
heads p b = if b.checks_head then length (call_of p b) else 0

-- how many leaves a case of the clause has
abbrev pub leaf_count : Program → Begun → ℕ
leaf_count p b = length (body_of p b.clause b.first) + heads p b

-- the leaf behind those of the items
abbrev pub head_leaf : Program → State → Begun → State
head_leaf p s b =
    let body : List FlatItem = body_of p b.clause b.first in
    with_items s (line.Head (suc (length body))) (body ++ call_of p b)

-- the leaf behind so many
abbrev pub leaf : Program → State → Begun → ℕ → State
leaf p s b k =
    let body : List FlatItem = body_of p b.clause b.first in
    if ltb k (length body) then leaf_at s body k else head_leaf p s b
