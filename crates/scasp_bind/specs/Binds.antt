-- When a variable can be bound to a term, and what binding does.
use Rattle.std.specs.Prelude.{◌≡◌, ℕ, ◌<◌, true, false, nat_eq, if◌then◌else◌, List, length, slice_get, Option, None, Some, option_map}
use Rattle.scasp_syntax.specs.Tm.{Tm}
use Rattle.scasp_syntax.specs.View.{tm_of}
use Rattle.scasp_syntax.specs.WellFormed.{is_below}
use Rattle.scasp_syntax.specs.declared.term.Term.{Term}
use Rattle.scasp_unify.specs.Parts.{occurs}
use Rattle.scasp_bind.specs.Depths.{lowered}
use Rattle.scasp_bind.specs.Kept.{Kept, with_term}
use Rattle.scasp_bind.specs.Resolving.{Resolves, binding}
use Rattle.scasp_bind.specs.declared.variable.Variable.{Variable}

-- x is an unbound variable that does not stand in the resolved term
pub record CanBind (s : Kept) (x : ℕ) (t : Tm) : Type 0 where
  pub known : x < length s.variables
  pub term : is_below (length s.variables) t ≡ true
  pub unbound : binding s.variables x ≡ None
  pub apart : (u : Tm) → Resolves (binding s.variables) t u → occurs x u ≡ false

-- what is kept of a variable y once x is bound to the term
abbrev pub bound_one : List Variable → ℕ → Term → ℕ → ℕ → Option Variable
bound_one vs x t d y =
    if nat_eq y x then option_map (with_term (Some t)) (slice_get vs y) else lowered (occurs y (tm_of t)) d (slice_get vs y)

-- x is bound to the term, and the existentials in the term have the depth of x at most; all else is as it was
abbrev pub Binds : List Variable → List Variable → ℕ → Term → Type 0
Binds vs ws x t = (v : Variable) → slice_get vs x ≡ Some v → (y : ℕ) → slice_get ws y ≡ bound_one vs x t v.depth y
