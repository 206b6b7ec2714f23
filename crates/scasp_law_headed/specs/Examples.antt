-- Programs to which the law applies, with states that have nothing left to do.
use Rattle.std.specs.Prelude.{◌≡◌, Bool, true, false, List, [], ◌∷◌}
use Rattle.std.proofs.Common.{refl}
use Rattle.scasp_checker_rules.specs.ExampleWords.{program}
use Rattle.scasp_law_headed_steps.specs.Calm.{IsHeaded}
use Rattle.scasp_law_headed_steps.specs.Examples.{a, ask_loop, ask_p, even, p, q, some_within, two}
use Rattle.scasp_law_sorted.specs.Asking.{is_rowless}
use Rattle.scasp_lines.specs.Samples.{constant, is_not, one, rule}
use Rattle.scasp_rows.specs.PlainRows.{is_met}
use Rattle.scasp_search_rules.specs.Successors.ExampleWords.{problem}
use Rattle.scasp_search_rules.specs.Successors.Search.{start}
use Rattle.scasp_search_rules.specs.declared.states.state.State.{State}
use Rattle.scasp_search_rules.specs.declared.states.tasks.Task.{Task}
use Rattle.scasp_syntax.specs.Tm.{app, nil, var}
use Rattle.scasp_syntax.specs.declared.clause.Item.TheVariants.{Call, Differ}
use Rattle.scasp_syntax.specs.declared.program.Program.{Program}
use Rattle.scasp_syntax.specs.declared.term.Term.TheVariants.{App, Var}
use Rattle.scasp_unify.specs.Unification.{unifier}

abbrev is_none : List Task → Bool
is_none [] = true
is_none (t ∷ ts) = false

-- nothing is left to do
abbrev pub is_finished : State → Bool
is_finished s = is_none s.work

-- ---- p(f(X), Y) :- Y \= b, not q(X, Y). q(c, a). ?- p(Z, W), not p(Z, a). Terms and a disequation, and a case of q(c, a) that is void.

abbrev terms : Program
terms =
    program
    (rule 2 (p (two (app 4 (one (var 0))) (var 1))) (Differ (Var 1) (App 7 nil) ∷ Call (is_not (q (two (var 0) (var 1)))) ∷ [])
    ∷ rule 0 (q (two (constant 8) a)) [] ∷ [])
    (ask_p ∷ []) refl

terms_is_headed : IsHeaded (problem terms []) ask_p
terms_is_headed = record { program = refl; query = refl; test = refl }

terms_is_rowless : is_rowless (problem terms []) ask_p ≡ true
terms_is_rowless = refl

terms_finishes : some_within is_finished 80 (problem terms []) ask_p (start ask_p [] ∷ []) ≡ true
unfolding is_met unifier
terms_finishes = refl

-- ---- p(X) :- not q(X). q(X) :- not p(X). ?- p(Z). A loop through negation, over arguments.

even_is_rowless : is_rowless (problem even []) ask_loop ≡ true
even_is_rowless = refl

even_finishes : some_within is_finished 60 (problem even []) ask_loop (start ask_loop [] ∷ []) ≡ true
unfolding is_met unifier
even_finishes = refl
