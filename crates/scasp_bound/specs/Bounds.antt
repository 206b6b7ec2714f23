-- Bindings in order.
use Rattle.std.specs.Prelude.{◌≡◌, ◌<◌, ◌≤◌, ℕ, Bool, not, ◌||◌, nat_eq, if◌then◌else◌, List, [], ◌∷◌, Option, None, Some}
use Rattle.std.specs.List.{filter, list_any}
use Rattle.scasp_bound.specs.declared.roots.Root.{Root}
use Rattle.scasp_bound.specs.declared.roots.Root.TheVariants as root
use Rattle.scasp_syntax.specs.declared.con.Con.{Con}
use Rattle.scasp_syntax.specs.declared.con.Con.TheVariants as con
use Rattle.scasp_syntax.specs.declared.term.Term.TheVariants.{Var}
use Rattle.scasp_syntax.specs.Tm.{Tm, var, num, app}
use Rattle.scasp_unify.specs.Solving.{sub_of}
use Rattle.scasp_unify.specs.declared.bindings.Binding.{Binding}

-- the first binding of the variable
abbrev pub bound_in : ℕ → List Binding → Option Binding
bound_in x [] = None
bound_in x (b ∷ bs) = if nat_eq b.x x then Some b else bound_in x bs

-- the bindings without those of the variable
abbrev pub without : ℕ → List Binding → List Binding
without x bs = filter (λ b. not (nat_eq b.x x)) bs

abbrev pub among : ℕ → List ℕ → Bool
among x xs = list_any (nat_eq x) xs

-- the bindings without those of these variables, but for some
abbrev pub unbound : List ℕ → List ℕ → List Binding → List Binding
unbound xs but bs = filter (λ b. not (among b.x xs) || among b.x but) bs

abbrev pub is_bound_in : List Binding → ℕ → Bool
is_bound_in bs x = list_any (λ b. nat_eq b.x x) bs

abbrev pub equation : Binding → Con
equation b = con.Eq (Var b.x) b.term

-- the variable that the term is, if it is one
abbrev pub as_variable : Tm → Option ℕ
as_variable (var x) = Some x
as_variable (num q) = None
as_variable (app f ts) = None

-- how the term begins
abbrev pub root_of : Tm → Root
root_of (var x) = root.Var x
root_of (num q) = root.Num q
root_of (app f ts) = root.Name f

-- what reads as a variable beyond n is that variable or a later one
pub record ReadsDown (n : ℕ) (bs : List Binding) : Type 0 where
  pub each : (x r : ℕ) → n < r → sub_of bs x ≡ var r → r ≤ x
