-- Steps by what their parts are known to be.
use Rattle.std.specs.Prelude.{◌≡◌, ℕ, Bool, true, false, List, [], ◌∷◌, length, refl}
use Rattle.scasp_search_rules.specs.declared.states.state.Kind.TheVariants.{Existential, Universal}
use Rattle.scasp_search_rules.specs.declared.states.state.State.{State}
use Rattle.scasp_search_rules.specs.declared.states.tasks.Aim.{Aim}
use Rattle.scasp_search_rules.specs.declared.states.tasks.Pair.{Pair}
use Rattle.scasp_search_rules.specs.declared.states.tasks.Task.{Task}
use Rattle.scasp_search_rules.specs.declared.states.tasks.Task.TheVariants as task
use Rattle.scasp_search_rules.specs.Successors.Differences.{at_part, differ_shape}
use Rattle.scasp_search_rules.specs.Successors.Equations.{becomes_shape, bound_if, replaced_if}
use Rattle.scasp_search_rules.specs.Successors.Variables.{bind, depth_of, is_universal, next_variable, with_new}
use Rattle.scasp_syntax.specs.Tm.{Tms, app, items}
use Rattle.scasp_syntax.specs.declared.con.Con.{Con}
use Rattle.scasp_syntax.specs.declared.con.Con.TheVariants as con
use Rattle.scasp_unify.specs.Negations.{new_parts}
use Rattle.scasp_unify.specs.Parts.{occurs_among}

-- a name with new arguments, by the kind of the variable
pub shape_universal : (sat : List Con → Bool) (s t : State) (x f n d k : ℕ) (ts : Tms) → is_universal s x ≡ true → t ≡ with_new s Universal d n → d ≡ depth_of s x
    → ts ≡ new_parts k n → k ≡ next_variable s → replaced_if sat t x (app f ts) ≡ becomes_shape sat s x f n
shape_universal sat s t x f n d k ts u e g h m = rw (e, g, h, m, u) refl

pub shape_existential : (sat : List Con → Bool) (s t : State) (x f n d k : ℕ) (ts : Tms) → is_universal s x ≡ false → t ≡ with_new s Existential d n → d ≡ depth_of s x
    → ts ≡ new_parts k n → k ≡ next_variable s → bound_if sat (bind t x (app f ts)) ≡ becomes_shape sat s x f n
shape_existential sat s t x f n d k ts u e g h m = rw (e, g, h, m, u) refl

-- a shape where the variable does not stand in the arguments
pub other_shape : (sat : List Con → Bool) (s : State) (x f n : ℕ) (ts us : Tms) (rest : List Pair) (aim : Aim) (other : List Task) → occurs_among x ts ≡ false
    → n ≡ length (items ts) → us ≡ ts → other ≡ task.Shape x f us rest aim ∷ [] → at_part sat s (con.NotShape x f n) aim other ≡ differ_shape sat s x f ts rest aim
other_shape sat s x f n ts us rest aim other o e g h = rw (h, g, e, o) refl
