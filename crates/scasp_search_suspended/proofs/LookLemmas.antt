-- One look at the first of the states.
use Rattle.std.specs.Prelude.{◌≡◌, ◌⊎◌, ◌++◌, true, false, List, [], ◌∷◌, MatchOption, Option, None, Some, Ok, Err, refl}
use Rattle.std.specs.List.{list_any}
use Rattle.std.proofs.Common.{◌∙◌, ap, inl, inr}
use Rattle.scasp_cert.specs.Certificate.{certificate_of}
use Rattle.scasp_cert.specs.declared.certificate.Cert.{Cert}
use Rattle.scasp_hint.specs.Finding.{overflows_in}
use Rattle.scasp_hint.specs.Satisfying.{sat}
use Rattle.scasp_search_constraints.specs.declared.assuming.step.SearchErr.{SearchErr}
use Rattle.scasp_search_constraints.specs.declared.assuming.step.SearchErr.TheVariants as errors
use Rattle.scasp_search_ends.specs.Ends.Ends.{Ends}
use Rattle.scasp_search_rules.specs.Successors.Search.{answer_at, asked_by, pays_for, step_at}
use Rattle.scasp_search_rules.specs.declared.states.state.State.{State}
use Rattle.scasp_search_rules.specs.declared.states.tasks.Task.{Task}
use Rattle.scasp_search_state.specs.Words.{has_work}
use Rattle.scasp_search_walk.specs.Slices.{Sees}
use Rattle.scasp_search_walk.specs.declared.frontier.Look.{Look}
use Rattle.scasp_search_walk.specs.declared.frontier.Look.TheVariants as look
use Rattle.scasp_written.proofs.WrittenLemmas.WalkLemmas.{left-answers, of}
use Rattle.scasp_written.specs.Written.Rests.{problem_in}
use Rattle.scasp_written.specs.declared.written.goal.Goal.{Goal}

-- ---- work

pub no_work : (tasks : List Task) → has_work tasks ≡ false → tasks ≡ []
no_work [] h = refl
no_work (t ∷ ts) h = absurd (cc h)

-- ---- a state with nothing left to do

sees_answer : (g : Goal) (s : State) (rest : List State) (cert : Cert) → s.work ≡ [] → answer_at (problem_in g) s g.queried [] ≡ Some (Some (certificate_of cert))
    → Sees certificate_of (of g) (s ∷ rest) rest (Ok (look.Answer cert))
sees_answer g s rest cert e h = (left-answers g s (Some (Some (certificate_of cert))) e h, refl)

sees_nothing : (g : Goal) (s : State) (rest : List State) → s.work ≡ [] → answer_at (problem_in g) s g.queried [] ≡ None
    → Sees certificate_of (of g) (s ∷ rest) rest (Ok look.Nothing)
sees_nothing g s rest e h = (left-answers g s None e h, ap (pays_for s) e, ap (λ work. (step_at g.program sat s work).states ++ rest) e)

pub sees_overflow : (g : Goal) (s : State) (rest : List State) (e : SearchErr) → s.work ≡ []
    → Ends (Err e) (answer_at (problem_in g) s g.queried []) (asked_by (problem_in g) s g.queried []) → Sees certificate_of (of g) (s ∷ rest) rest (Err e)
sees_overflow g s rest errors.Memory e h = tt
sees_overflow g s rest errors.Overflow e h = by h
  where
    by : (answer_at (problem_in g) s g.queried [] ≡ Some None) ⊎ (list_any overflows_in (asked_by (problem_in g) s g.queried []) ≡ true)
        → ((of g).answer s ≡ Some None) ⊎ (((of g).pays s ≡ false) × ((of g).asks s ≡ true))
    by (inl k) = inl (left-answers g s (Some None) e k)
    by (inr k) = inr (ap (pays_for s) e, ap (λ work. list_any overflows_in (asked_by (problem_in g) s g.queried work)) e ∙ k)

pub sees_found : (g : Goal) (s : State) (rest : List State) (found : Option Cert) (l : Look Cert) → MatchOption found (l ≡ look.Nothing) (λ cert. l ≡ look.Answer cert) → s.work ≡ []
    → Ends (Ok found) (answer_at (problem_in g) s g.queried []) (asked_by (problem_in g) s g.queried []) → Sees certificate_of (of g) (s ∷ rest) rest (Ok l)
sees_found g s rest None l is e h = rw is (sees_nothing g s rest e h)
sees_found g s rest (Some cert) l is e h = rw is (sees_answer g s rest cert e h)
