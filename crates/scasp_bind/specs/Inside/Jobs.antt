-- What is still to be done for the search of a variable in a term as bindings resolve it.
use Rattle.std.specs.Prelude.{◌≡◌, ℕ, ◌*◌, ◌<◌, Bool, true, false, List, [], ◌∷◌, ◌++◌, map, ⊤}
use Rattle.std.specs.List.{list_all, list_any, sum_by}
use Rattle.scasp_syntax.specs.Tm.{Tm, weight}
use Rattle.scasp_syntax.specs.Values.{Sub, under}
use Rattle.scasp_syntax.specs.View.{tm_of}
use Rattle.scasp_syntax.specs.WellFormed.{is_below}
use Rattle.scasp_unify.specs.Parts.{occurs}
use Rattle.scasp_bind.specs.declared.occurrences.Task.{Task}
use Rattle.scasp_bind.specs.declared.occurrences.Task.TheVariants as task

-- a term is to be searched, or to be left once all behind it is done
pub data Job : Type 0 where
  search : Tm → Job
  leave : Tm → Job

abbrev pub job_of : Task → Job
job_of (task.Search t) = search (tm_of t.now)
job_of (task.Leave t) = leave (tm_of t.now)

abbrev pub jobs_of : List Task → List Job
jobs_of ts = map job_of ts

-- the variable stands in a term that is to be searched
abbrev pub has : ℕ → Sub → Job → Bool
has x s (search t) = occurs x (under s t)
has x s (leave t) = false

-- the variable stands in a term that is to be left just where it stands in one behind it
abbrev pub AreOpen : ℕ → Sub → List Job → Type 0
AreOpen x s [] = ⊤
AreOpen x s (search t ∷ js) = AreOpen x s js
AreOpen x s (leave t ∷ js) = (occurs x (under s t) ≡ list_any (has x s) js) × AreOpen x s js

abbrev pub is_job_below : ℕ → Job → Bool
is_job_below n (search t) = is_below n t
is_job_below n (leave t) = is_below n t

-- what is left to do, or more
abbrev pub load_of : Sub → Job → ℕ
load_of s (search t) = 2 * weight (under s t)
load_of s (leave t) = 1

abbrev pub load : Sub → List Job → ℕ
load s js = sum_by (load_of s) js

-- in place of the search of a term other jobs were put behind those there were
pub record Spreads (n x : ℕ) (s : Sub) (t : Tm) (before after : List Job) : Type 0 where
  pub more : List Job
  pub added : after ≡ before ++ more
  pub same : list_any (has x s) more ≡ occurs x (under s t)
  pub open_ : AreOpen x s more
  pub below : list_all (is_job_below n) more ≡ true
  pub lighter : load s more < load s (search t ∷ [])
