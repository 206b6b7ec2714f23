-- What a term is under bindings: they are applied until none applies.
use Rattle.std.specs.Prelude.{◌≡◌, ℕ, zero, suc, Bool, true, ◌&&◌, List, slice_get, Option, None, Some, is_none, option_map}
use Rattle.scasp_syntax.specs.Tm.{Tm, Tms, var, num, app, nil, cons}
use Rattle.scasp_syntax.specs.Values.{Sub, under}
use Rattle.scasp_syntax.specs.View.{tm_of}
use Rattle.scasp_bind.specs.declared.variable.Variable.{Variable}

-- what each variable is bound to
abbrev pub Binding : Type 0
Binding = ℕ → Option Tm

abbrev pub term_in : Option Variable → Option Tm
term_in None = None
term_in (Some v) = option_map tm_of v.term

abbrev pub binding : List Variable → Binding
binding vs x = term_in (slice_get vs x)

-- no variable of the term is bound
abbrev mutual
  pub is_free : Binding → Tm → Bool
  is_free b (var x) = is_none (b x)
  is_free b (num q) = true
  is_free b (app f ts) = are_free b ts

  pub are_free : Binding → Tms → Bool
  are_free b nil = true
  are_free b (cons t ts) = is_free b t && are_free b ts

abbrev pub under_bound : Sub → ℕ → Option Tm → Tm
under_bound s x None = var x
under_bound s x (Some t) = under s t

-- bindings applied n times
abbrev pub applied : ℕ → Binding → Sub
applied zero b x = var x
applied (suc n) b x = under_bound (applied n b) x (b x)

-- u is t under the bindings, of which none applies any more
pub record Resolves (b : Binding) (t u : Tm) : Type 0 where
  pub times : ℕ
  pub value : under (applied times b) t ≡ u
  pub free : is_free b u ≡ true
