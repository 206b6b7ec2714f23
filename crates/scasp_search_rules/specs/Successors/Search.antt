-- The written search as a machine.
use Rattle.std.specs.Prelude.{ℕ, Bool, true, false, if◌then◌else◌, List, [], ◌∷◌, ◌++◌, map, Option, None, Some, length}
use Rattle.std.specs.List.{list_any}
use Rattle.scasp_cert.specs.Certificate.{Certificate}
use Rattle.scasp_search_rules.specs.declared.states.covers.Cover.{Cover}
use Rattle.scasp_search_rules.specs.declared.states.covers.Remainder.{Remainder}
use Rattle.scasp_search_rules.specs.declared.states.lines.Line.TheVariants as line
use Rattle.scasp_search_rules.specs.declared.states.state.Kind.TheVariants.{Existential}
use Rattle.scasp_search_rules.specs.declared.states.state.State.{State}
use Rattle.scasp_search_rules.specs.declared.states.tasks.Task.{Task}
use Rattle.scasp_search_rules.specs.declared.states.tasks.Task.TheVariants as task
use Rattle.scasp_syntax.specs.Flat.{flat_body}
use Rattle.scasp_syntax.specs.View.{tm_of}
use Rattle.scasp_syntax.specs.declared.clause.FlatItem.{FlatItem}
use Rattle.scasp_syntax.specs.declared.clause.FlatItem.TheVariants as flat
use Rattle.scasp_syntax.specs.declared.clause.Query.{Query}
use Rattle.scasp_syntax.specs.declared.con.Con.{Con}
use Rattle.scasp_syntax.specs.declared.program.Program.{Program}
use Rattle.scasp_nmr.specs.declared.items.CheckItem.{CheckItem}
use Rattle.scasp_search_rules.specs.Successors.Answers.{answer_of, certificate_at, hint_lists, pair_lists}
use Rattle.scasp_search_rules.specs.Successors.Assumptions.{assume}
use Rattle.scasp_search_rules.specs.Successors.Calls.{call, covered, leave_literal}
use Rattle.scasp_search_rules.specs.Successors.Cases.{begin_cases, check_clause, close_case}
use Rattle.scasp_search_rules.specs.Successors.Differences.{differ_terms, differ_value, same_value, same_shape}
use Rattle.scasp_search_rules.specs.Successors.Equations.{equate_terms}
use Rattle.scasp_search_rules.specs.Successors.Items.{show_test, with_line}
use Rattle.scasp_search_rules.specs.Successors.Machine.{Machine}
use Rattle.scasp_search_rules.specs.Successors.Problems.{Problem}
use Rattle.scasp_search_rules.specs.Successors.Replacing.{close_overflows, end_overflows}
use Rattle.scasp_search_rules.specs.Successors.Steps.{Step, fails, goes}
use Rattle.scasp_search_rules.specs.Successors.Variables.{with_new}

-- ---- steps

-- an item is to be true
abbrev pub shown : Program → (List Con → Bool) → State → FlatItem → Step
shown p sat s (flat.Call l) = call p sat s l
shown p sat s (flat.Test c) = show_test sat s c

-- what comes of the first task, in a state whose work is the rest
abbrev pub done : Program → (List Con → Bool) → State → Task → Step
done p sat s (task.Show i) = shown p sat s i
done p sat s (task.Equate t u) = equate_terms sat s (tm_of t) (tm_of u)
done p sat s (task.Assume c) = assume sat s c
done p sat s (task.Differ ps aim) = differ_terms sat s ps aim
done p sat s (task.Become x t ps aim) = same_value sat s x (tm_of t) ps aim
done p sat s (task.Avoid x q ps aim) = differ_value sat s x q ps aim
done p sat s (task.Shape x f ts ps aim) = same_shape sat s x f ts ps aim
done p sat s (task.Cover a k) = goes (covered p s a k)
done p sat s (task.Check k checks_head) = check_clause p sat s k checks_head
done p sat s (task.Begin k first checks_head) = begin_cases p sat s k first checks_head
done p sat s task.Void = goes (with_line s line.Void)
done p sat s task.Leave = goes (leave_literal s)
done p sat s task.Close = close_case p sat s s.covers

abbrev pub step_at : Program → (List Con → Bool) → State → List Task → Step
step_at p sat s [] = fails
step_at p sat s (t ∷ ts) = done p sat (record s { work = ts }) t

-- what comes of a state that is no answer: the lists that it asks, and the states after it, in the order in which they are tried
abbrev pub step : Program → (List Con → Bool) → State → Step
step p sat s = step_at p sat s s.work

-- ---- costs

abbrev pub is_call : FlatItem → Bool
is_call (flat.Call l) = true
is_call (flat.Test c) = false

abbrev pub is_waiting : List Remainder → Bool
is_waiting [] = false
is_waiting (r ∷ rs) = true

-- a remainder of the innermost cover waits
abbrev pub waits : List Cover → Bool
waits [] = false
waits (c ∷ cs) = is_waiting c.waiting

-- a call, a case that begins, and a remainder that is taken up cost one
abbrev pub costs : State → Task → Bool
costs s (task.Show i) = is_call i
costs s (task.Equate t u) = false
costs s (task.Assume c) = false
costs s (task.Differ ps aim) = false
costs s (task.Become x t ps aim) = false
costs s (task.Avoid x q ps aim) = false
costs s (task.Shape x f ts ps aim) = false
costs s (task.Cover a k) = false
costs s (task.Check k checks_head) = true
costs s (task.Begin k first checks_head) = true
costs s task.Void = false
costs s task.Leave = false
costs s task.Close = waits s.covers

abbrev pub pays_for : State → List Task → Bool
pays_for s [] = false
pays_for s (t ∷ ts) = costs s t

abbrev pub pays : State → Bool
pays s = pays_for s s.work

-- ---- the beginning and the end

abbrev pub nothing : State
nothing = record { made = []; bound = []; given = []; covers = []; cases = 0; literals = []; lines = []; work = [] }

-- where the search for answers to the query begins, with the clauses that are checked behind its items
abbrev pub start : Query → List CheckItem → State
start q checks = record (with_new nothing Existential 0 (length q.names)) {
  work = map task.Show (flat_body q.body) ++ map (λ i. task.Check i.clause i.head) checks;
}

-- A state with nothing left to do is an answer, where its literals are apart. It is an overflow where a row of its cannot be replaced within
-- the range of the numbers, and so is a state that ends a case with such a row.
abbrev pub answer_at : Problem → State → ℕ → List Task → Option (Option Certificate)
answer_at p s queried [] = if end_overflows s then Some None else answer_of p (certificate_at p s queried)
answer_at p s queried (t ∷ ts) = if close_overflows s (t ∷ ts) then Some None else None

-- the lists that a state asks: those of its step, and those about its certificate where nothing is left to do
abbrev pub asked_by : Problem → State → ℕ → List Task → List (List Con)
asked_by p s queried [] =
    let c : Certificate = certificate_at p s queried in
    pair_lists p.program c ++ c.given ∷ hint_lists p.program c
asked_by p s queried (t ∷ ts) = (step p.program p.sat s).asked

abbrev pub search_for : Problem → Query → Machine State Certificate
search_for p q = record {
  next = λ s. (step p.program p.sat s).states;
  pays = pays;
  answer = λ s. answer_at p s (length q.names) s.work;
  asks = λ s. list_any p.overflows (asked_by p s (length q.names) s.work);
}
