-- Pairs that are put as equations.
use Rattle.std.specs.Prelude.{◌≡◌, List, [], ◌∷◌, ◌++◌, map, refl}
use Rattle.std.proofs.Common.{◌∙◌, ap, append_assoc, sym}
use Rattle.std.proofs.lemmas.List.{map-append}
use Rattle.scasp_search_rules.specs.declared.states.state.State.{State}
use Rattle.scasp_search_rules.specs.declared.states.tasks.Pair.{Pair}
use Rattle.scasp_search_rules.specs.declared.states.tasks.Task.TheVariants as task
use Rattle.scasp_search_rules.specs.Successors.Equations.{equations_of}
use Rattle.scasp_search_rules.specs.Successors.Regions.{before}

-- the last of the pairs is put first
pub last_equation : (ps : List Pair) (q : Pair) (s : State) → before (equations_of ps) (before (task.Equate q.left q.right ∷ []) s) ≡ before (equations_of (ps ++ q ∷ [])) s
last_equation ps q s =
    ap (λ w. record s { work = w })
    (sym (append_assoc (equations_of ps) (task.Equate q.left q.right ∷ []) s.work) ∙ ap (λ ts. ts ++ s.work) (sym (map-append (λ (p : Pair). task.Equate p.left p.right) ps (q ∷ []))))
