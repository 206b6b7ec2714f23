-- A call behind constraints that are assumed.
use Rattle.std.specs.Prelude.{◌≡◌, Bool, true, false, Option, Some, List, [], ◌∷◌, Ok, map}
use Rattle.std.specs.List.{list_any}
use Rattle.std.proofs.Common.{ap, subst, sym, ◌∙◌}
use Rattle.scasp_search_assuming.proofs.StepLemmas.{followed-none, followed-one, overflows-first}
use Rattle.scasp_hint.specs.Finding.{overflows_in}
use Rattle.scasp_hint.specs.Satisfying.{sat}
use Rattle.scasp_search_rules.specs.declared.states.outcomes.Repeated.{Repeated}
use Rattle.scasp_search_rules.specs.declared.states.state.State.{State}
use Rattle.scasp_search_rules.specs.Successors.Assumptions.{assume_all}
use Rattle.scasp_search_rules.specs.Successors.Calls.{ancestors, call, differing, entered, judged, looped, nearest, opposites, unrepeated}
use Rattle.scasp_search_rules.specs.Successors.Steps.{Step, gives}
use Rattle.scasp_search_state.specs.Choices.{Point}
use Rattle.scasp_search_state.specs.Going.{Leaves}
use Rattle.scasp_search_steps.proofs.ForkLemmas.{leaves_forked}
use Rattle.scasp_search_steps.specs.Foresight.{ForkedIf, ForksIf}
use Rattle.scasp_syntax.specs.declared.atom.Lit.{Lit}
use Rattle.scasp_syntax.specs.declared.con.Con.{Con}
use Rattle.scasp_syntax.specs.declared.program.Program.{Program}

-- these are assumed, in order, as the differences from all opposites are
abbrev AreAssumed : State → Lit → List Con → Type 0
AreAssumed s l cs = assume_all sat cs s ≡ assume_all sat (map (differing l) (opposites s l)) s

pub new_overflows : (p : Program) (s : State) (l : Lit) (cs : List Con) → AreAssumed s l cs → list_any overflows_in (assume_all sat cs s).asked ≡ true
    → list_any overflows_in (unrepeated p sat s l []).asked ≡ true
new_overflows p s l cs e h =
    overflows-first (assume_all sat (map (differing l) (opposites s l)) s) (λ t. gives (entered p t l)) (subst (λ (r : Step). list_any overflows_in r.asked ≡ true) e h)

pub new_none : (p : Program) (s : State) (l : Lit) (cs : List Con) → AreAssumed s l cs → (assume_all sat cs s).states ≡ [] → (unrepeated p sat s l []).states ≡ []
new_none p s l cs e h = followed-none (assume_all sat (map (differing l) (opposites s l)) s) (λ t. gives (entered p t l)) (sym h ∙ ap (λ (r : Step). r.states) e)

new_one : (p : Program) (s : State) (l : Lit) (cs : List Con) (t : State) → AreAssumed s l cs → (assume_all sat cs s).states ≡ t ∷ [] → (unrepeated p sat s l []).states ≡ entered p t l
new_one p s l cs t e h = followed-one (assume_all sat (map (differing l) (opposites s l)) s) (λ u. gives (entered p u l)) t (sym h ∙ ap (λ (r : Step). r.states) e)

-- what comes of the literal where it is gone into
pub new_forked : (may : Bool) (p : Program) (s : State) (l : Lit) (cs : List Con) (t now : State) (new mid old : List Point) (went : Bool) → AreAssumed s l cs → (assume_all sat cs s).states ≡ t ∷ [] → mid ≡ old
    → ForkedIf may p (entered p t l) now new mid went → ForksIf may p (unrepeated p sat s l []) now new old (Ok went)
new_forked may p s l cs t now new mid old went e h m f =
    subst (λ (qs : List Point). ForkedIf may p (unrepeated p sat s l []).states now new qs went) m
    (subst (λ (ss : List State). ForkedIf may p ss now new mid went) (sym (new_one p s l cs t e h)) f)

-- what comes of a literal that repeats one above it
pub loop_forked : (may : Bool) (p : Program) (s : State) (l : Lit) (r : Repeated) (now : State) (new old : List Point) (went : Bool) → Some r ≡ nearest s l false (ancestors s) → Leaves went (looped s l r) now
    → new ≡ old → ForksIf may p (call p sat s l) now new old (Ok went)
loop_forked may p s l r now new old went f h e =
    leaves_forked may p (call p sat s l) now new old went (subst (λ (o : Option Repeated). Leaves went (judged p sat s l o).states now) f h) e
