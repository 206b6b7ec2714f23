-- Each step keeps what is told and owed, and the start owes all.
use Rattle.std.specs.Prelude.{◌≡◌, ℕ, Bool, List, [], ◌∷◌, map}
use Rattle.std.proofs.Common.{◌∙◌, refl, ap}
use Rattle.scasp_list.specs.Each.{Each}
use Rattle.scasp_nmr.specs.Checks.{clause_in}
use Rattle.scasp_nmr.specs.declared.items.CheckItem.{CheckItem}
use Rattle.scasp_search_rules.specs.declared.states.lines.Line.TheVariants as line
use Rattle.scasp_search_rules.specs.declared.states.state.State.{State}
use Rattle.scasp_search_rules.specs.declared.states.tasks.Task.{Task}
use Rattle.scasp_search_rules.specs.declared.states.tasks.Task.TheVariants as task
use Rattle.scasp_syntax.specs.Flat.{flat_body}
use Rattle.scasp_syntax.specs.View.{tm_of}
use Rattle.scasp_syntax.specs.declared.clause.FlatItem.TheVariants as flat
use Rattle.scasp_syntax.specs.declared.clause.Query.{Query}
use Rattle.scasp_syntax.specs.declared.con.Con.{Con}
use Rattle.scasp_syntax.specs.declared.program.Program.{Program}
use Rattle.scasp_search_rules.specs.declared.states.state.Kind.TheVariants.{Matched}
use Rattle.scasp_search_rules.specs.Successors.Calls.{vars_of_clause}
use Rattle.scasp_search_rules.specs.Successors.Search.{done, step_at, step, start}
use Rattle.scasp_search_rules.specs.Successors.Variables.{with_new, next_variable}
use Rattle.scasp_law_outcomes.proofs.Assuming.{assume-keep}
use Rattle.scasp_law_outcomes.proofs.Calling.{call-keep, show_test-keep, leave-keeps}
use Rattle.scasp_law_outcomes.proofs.Casing.{begin-keep, check-keep, close-keep}
use Rattle.scasp_law_outcomes.proofs.Differing.{differ-keep, differ_value-keep, same_value-keep, same_shape-keep}
use Rattle.scasp_law_outcomes.proofs.Equating.{equate-keep}
use Rattle.scasp_law_outcomes.proofs.Standing.{owed, Keeps, idle-shows, keeps-line}
use Rattle.scasp_search_rules.specs.Successors.Regions.{before}

done-keep : (all : List ℕ) (p : Program) (sat : List Con → Bool) (s : State) (t : Task) → Keeps all (before (t ∷ []) s) → Each (Keeps all) (done p sat s t).states
done-keep all p sat s (task.Show (flat.Call l)) h = call-keep all p sat s l h
done-keep all p sat s (task.Show (flat.Test c)) h = show_test-keep all sat s c h
done-keep all p sat s (task.Equate t u) h = equate-keep all sat s (tm_of t) (tm_of u) h
done-keep all p sat s (task.Assume c) h = assume-keep all sat s c h
done-keep all p sat s (task.Differ ps aim) h = differ-keep all sat s ps aim h
done-keep all p sat s (task.Become x t ps aim) h = same_value-keep all sat s x (tm_of t) ps aim h
done-keep all p sat s (task.Avoid x q ps aim) h = differ_value-keep all sat s x q ps aim h
done-keep all p sat s (task.Shape x f ts ps aim) h = same_shape-keep all sat s x f ts ps aim h
done-keep all p sat s (task.Cover a k) h =
    (keeps-line all (with_new s Matched 0 (vars_of_clause p k)) (line.Rule a k (next_variable s)) refl h, tt)
done-keep all p sat s (task.Check k checks_head) h = check-keep all p sat s k checks_head h
done-keep all p sat s (task.Begin k first checks_head) h = begin-keep all p sat s k first checks_head h
done-keep all p sat s task.Void h = (keeps-line all s line.Void refl h, tt)
done-keep all p sat s task.Leave h = (leave-keeps all s h, tt)
done-keep all p sat s task.Close h = close-keep all p sat s s.covers h

step_at-keep : (all : List ℕ) (p : Program) (sat : List Con → Bool) (s : State) (work : List Task) → Keeps all (record s { work = work }) → Each (Keeps all) (step_at p sat s work).states
step_at-keep all p sat s [] h = tt
step_at-keep all p sat s (t ∷ ts) h = done-keep all p sat (record s { work = ts }) t h

pub step-keep : (all : List ℕ) (p : Program) (sat : List Con → Bool) (s : State) → Keeps all s → Each (Keeps all) (step p sat s).states
step-keep all p sat s h = step_at-keep all p sat s s.work h

-- ---- the start

checks-owed : (checks : List CheckItem) → owed (map (λ i. task.Check i.clause i.head) checks) ≡ record { checks = map clause_in checks; closes = 0 }
checks-owed [] = refl
checks-owed (i ∷ is) = ap (λ o. record { checks = i.clause ∷ o.checks; closes = o.closes }) (checks-owed is)

pub start-keeps : (q : Query) (checks : List CheckItem) → Keeps (map clause_in checks) (start q checks)
start-keeps q checks =
    let same : owed (start q checks).work ≡ record { checks = map clause_in checks; closes = 0 } =
    idle-shows (flat_body q.body) (map (λ i. task.Check i.clause i.head) checks) ∙ checks-owed checks in
    record { checks = ap (λ o. o.checks) same; closes = ap (λ o. o.closes) same }
