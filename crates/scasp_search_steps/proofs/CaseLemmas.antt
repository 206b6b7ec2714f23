-- Cases that begin and end.
use Rattle.std.specs.Prelude.{◌≡◌, ℕ, Bool, true, false, Result, List, [], ◌∷◌, length, refl}
use Rattle.std.specs.List.{list_any}
use Rattle.std.proofs.Common.{arith, subst, sym}
use Rattle.scasp_hint.specs.Finding.{overflows_in}
use Rattle.scasp_hint.specs.Satisfying.{sat}
use Rattle.scasp_search_constraints.specs.declared.assuming.step.SearchErr.{SearchErr}
use Rattle.scasp_search_rules.specs.declared.states.covers.Cover.{Cover}
use Rattle.scasp_search_rules.specs.declared.states.covers.Remainder.{Remainder}
use Rattle.scasp_search_rules.specs.declared.states.lines.Line.TheVariants as line
use Rattle.scasp_search_rules.specs.declared.states.state.Kind.TheVariants.{Matched}
use Rattle.scasp_search_rules.specs.declared.states.state.State.{State}
use Rattle.scasp_search_rules.specs.declared.states.tasks.Task.TheVariants as task
use Rattle.scasp_search_rules.specs.Successors.Calls.{vars_of_clause}
use Rattle.scasp_search_rules.specs.Successors.Cases.{after_case, begin_cases, check_clause, close_case}
use Rattle.scasp_search_rules.specs.Successors.Items.{with_line}
use Rattle.scasp_search_rules.specs.Successors.Regions.{asked_with, before, context}
use Rattle.scasp_search_rules.specs.Successors.Search.{is_waiting, waits}
use Rattle.scasp_search_rules.specs.Successors.Steps.{Step}
use Rattle.scasp_search_rules.specs.Successors.Variables.{next_variable, with_new}
use Rattle.scasp_search_state.specs.Choices.{Forks, Point, leaves_of, left}
use Rattle.scasp_search_state.specs.Words.{closed, next_case, opened}
use Rattle.scasp_search_state.specs.declared.choice.Begun.{Begun}
use Rattle.scasp_search_state.specs.declared.choice.Choice.TheVariants as choice
use Rattle.scasp_search_steps.specs.Cases.{cases_inside}
use Rattle.scasp_syntax.specs.declared.program.Program.{Program}

-- ---- the case of the innermost cover

pub none_inside : (p : Program) (s : State) → length s.covers ≡ 0 → (cases_inside p sat s s.covers).states ≡ []
none_inside p s e = by s.covers e
  where
    by : (cs : List Cover) → length cs ≡ 0 → (cases_inside p sat s cs).states ≡ []
    by [] h = refl
    by (c ∷ cs) h = absurd (omega (arith, h))

pub inside_asks : (p : Program) (s : State) → (length s.covers ≡ 0 → ⊥) → list_any overflows_in (asked_with s (context s) ∷ []) ≡ true
    → list_any overflows_in (cases_inside p sat s s.covers).asked ≡ true
inside_asks p s n o = by s.covers n
  where
    by : (cs : List Cover) → (length cs ≡ 0 → ⊥) → list_any overflows_in (cases_inside p sat s cs).asked ≡ true
    by [] h = absurd (h refl)
    by (c ∷ cs) h = o

pub inside_leaves : (p : Program) (s : State) → sat (asked_with s (context s)) ≡ true → (cases_inside p sat s s.covers).states ≡ left p (choice.Cases 0) s
inside_leaves p s e = by s.covers
  where
    by : (cs : List Cover) → (cases_inside p sat s cs).states ≡ leaves_of p s cs
    by [] = refl
    by (c ∷ cs) = rw e refl

pub inside_void : (p : Program) (s : State) → (length s.covers ≡ 0 → ⊥) → sat (asked_with s (context s)) ≡ false
    → (cases_inside p sat s s.covers).states ≡ before (task.Close ∷ []) (with_line s line.Void) ∷ []
inside_void p s n e = by s.covers n
  where
    by : (cs : List Cover) → (length cs ≡ 0 → ⊥) → (cases_inside p sat s cs).states ≡ before (task.Close ∷ []) (with_line s line.Void) ∷ []
    by [] h = absurd (h refl)
    by (c ∷ cs) h = rw e refl

-- ---- cases that begin

pub begun_inside : (p : Program) (s t now : State) (b : Begun) (new mid old : List Point) (r : Result Bool SearchErr) → t ≡ opened p s b → mid ≡ old
    → Forks p (cases_inside p sat t t.covers) now new mid r → Forks p (begin_cases p sat s b.clause b.first b.checks_head) now new old r
begun_inside p s t now b new mid old r e m h =
    subst (λ (u : State). Forks p (cases_inside p sat u u.covers) now new old r) e
    (subst (λ (qs : List Point). Forks p (cases_inside p sat t t.covers) now new qs r) m h)

pub checked_inside : (p : Program) (s t now : State) (k first : ℕ) (checks_head : Bool) (new mid old : List Point) (r : Result Bool SearchErr)
    → first ≡ next_variable s → t ≡ with_line (with_new s Matched 0 (vars_of_clause p k)) (line.Check k (next_variable s)) → mid ≡ old
    → Forks p (begin_cases p sat t k first checks_head) now new mid r → Forks p (check_clause p sat s k checks_head) now new old r
checked_inside p s t now k first checks_head new mid old r f e m h =
    subst (λ (n : ℕ). Forks p (begin_cases p sat (with_line (with_new s Matched 0 (vars_of_clause p k)) (line.Check k (next_variable s))) k n checks_head) now new old r) f
    (subst (λ (u : State). Forks p (begin_cases p sat u k first checks_head) now new old r) e
    (subst (λ (qs : List Point). Forks p (begin_cases p sat t k first checks_head) now new qs r) m h))

-- ---- cases that end

after : (p : Program) (s : State) (c : Cover) (cs : List Cover) (ws : List Remainder) → is_waiting ws ≡ true
    → after_case p sat s c cs ws ≡ cases_inside p sat (next_case s c cs ws) (next_case s c cs ws).covers
after p s c cs [] h = cc
after p s c cs (r ∷ rs) h = refl

at_end : (p : Program) (s : State) (c : Cover) (cs : List Cover) (ws : List Remainder) → is_waiting ws ≡ false
    → (after_case p sat s c cs ws).states ≡ next_case s c cs ws ∷ []
at_end p s c cs [] h = refl
at_end p s c cs (r ∷ rs) h = cc

closed_again : (p : Program) (s : State) (cs : List Cover) → waits cs ≡ true → close_case p sat s cs ≡ cases_inside p sat (closed s cs) (closed s cs).covers
closed_again p s [] h = cc
closed_again p s (c ∷ cs) h = after p s c cs c.waiting h

pub closed_inside : (p : Program) (s t now : State) (new mid old : List Point) (r : Result Bool SearchErr) → waits s.covers ≡ true → t ≡ closed s s.covers → mid ≡ old
    → Forks p (cases_inside p sat t t.covers) now new mid r → Forks p (close_case p sat s s.covers) now new old r
closed_inside p s t now new mid old r w e m h =
    subst (λ (x : Step). Forks p x now new old r) (sym (closed_again p s s.covers w))
    (subst (λ (u : State). Forks p (cases_inside p sat u u.covers) now new old r) e
    (subst (λ (qs : List Point). Forks p (cases_inside p sat t t.covers) now new qs r) m h))

pub none_closed : (p : Program) (s : State) → length s.covers ≡ 0 → (close_case p sat s s.covers).states ≡ []
none_closed p s e = by s.covers e
  where
    by : (cs : List Cover) → length cs ≡ 0 → (close_case p sat s cs).states ≡ []
    by [] h = refl
    by (c ∷ cs) h = absurd (omega (arith, h))

pub ended : (p : Program) (s : State) → (length s.covers ≡ 0 → ⊥) → waits s.covers ≡ false → (close_case p sat s s.covers).states ≡ closed s s.covers ∷ []
ended p s n w = by s.covers n w
  where
    by : (cs : List Cover) → (length cs ≡ 0 → ⊥) → waits cs ≡ false → (close_case p sat s cs).states ≡ closed s cs ∷ []
    by [] h v = absurd (h refl)
    by (c ∷ cs) h v = at_end p s c cs c.waiting v
