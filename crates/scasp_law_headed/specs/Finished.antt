-- That the certificate of each finished state of a program of the class is good.
use Rattle.std.specs.Prelude.{◌≡◌, ℕ, suc, ◌+◌, true, Some, List, [], ◌++◌, length, map, slice_get}
use Rattle.scasp_cert.specs.Certificate.{Certificate}
use Rattle.scasp_cert.specs.Lines.{lines_below}
use Rattle.scasp_cert.specs.Trees.{Branch, listed}
use Rattle.scasp_law_first_event.specs.Events.{IsReachable}
use Rattle.scasp_law_headed_steps.specs.Calm.{IsHeaded}
use Rattle.scasp_law_sorted.specs.Asking.{is_rowless}
use Rattle.scasp_nmr.specs.declared.items.CheckItem.{CheckItem}
use Rattle.scasp_search_rules.specs.Successors.Answers.{certificate_at, given_lines}
use Rattle.scasp_search_rules.specs.Successors.Cases.{line_under}
use Rattle.scasp_search_rules.specs.Successors.Numbering.{free_variables, placing, universal_variables}
use Rattle.scasp_search_rules.specs.Successors.Problems.{Problem}
use Rattle.scasp_search_rules.specs.Successors.Variables.{meaning}
use Rattle.scasp_search_rules.specs.Successors.Trees.{line_of}
use Rattle.scasp_search_rules.specs.declared.states.lines.Line.{Line}
use Rattle.scasp_search_rules.specs.declared.states.lines.Line.TheVariants as line
use Rattle.scasp_search_rules.specs.declared.states.state.State.{State}
use Rattle.scasp_syntax.specs.Flat.{flat_body}
use Rattle.scasp_syntax.specs.Values.{Sub, all_under}
use Rattle.scasp_syntax.specs.declared.atom.Lit.{Lit}
use Rattle.scasp_syntax.specs.declared.clause.Query.{Query}
use Rattle.scasp_unify.specs.Negations.{new_parts}
use Rattle.scasp_law_headed.specs.Good.{GoodChecks, GoodTrees, SeenRight, ats}
use Rattle.scasp_law_headed.specs.Reading.{dues_read, line_read, reading}

-- the places of the variables in the certificate of the state, where so many are those of the query
abbrev pub places : Problem → State → ℕ → Sub
places p f queried =
    let ls : List Line = map (line_under f) f.lines in
    placing (free_variables f (all_under (meaning f) (new_parts 0 queried)) (given_lines f) ls ++ universal_variables p.program ls)

-- the lines of the state as they read there
abbrev pub told : State → Sub → List Line
told f v = map (line_read (reading f v)) f.lines

-- The trees of the certificate are good for the items of the query, one after the other, and those that follow for the clauses that are checked.
-- A line that repeats a literal names one that has ended.
pub record IsGood (p : Problem) (q : Query) (f : State) (v : Sub) (c : Certificate) : Type 0 where
  pub trees : GoodTrees p.program f v (told f v) 1 [] [] (dues_read (reading f v) (flat_body q.body)) (listed c.trees)
  pub checks : GoodChecks p.program f v (told f v) (1 + lines_below (listed c.trees)) [] [] c.checks
  pub numbers : map (λ (k : ℕ × Branch). k.0) c.checks ≡ map (λ (i : CheckItem). i.clause) p.checks
  pub seen : (i : ℕ) (l : Lit) (n : ℕ) → slice_get (told f v) i ≡ Some (line.Seen l n) → SeenRight p.program f v (told f v) (suc i) l (line_of (ats p.program f v (told f v)) n)

-- the certificate of each state with nothing left to do
abbrev pub FinishedAreGood : Type 0
FinishedAreGood =
    (p : Problem) (q : Query) (f : State) → IsHeaded p q → is_rowless p q ≡ true → IsReachable p q f → f.work ≡ []
    → IsGood p q f (places p f (length q.names)) (certificate_at p f (length q.names))
