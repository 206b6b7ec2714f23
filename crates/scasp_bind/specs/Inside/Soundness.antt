-- That bindings have no cycle and speak of variables that are there, now and at each time before.
use Rattle.std.specs.Prelude.{◌≡◌, ℕ, zero, suc, ◌+◌, ◌≤◌, true, List, length, Option, None, Some}
use Rattle.scasp_syntax.specs.Tm.{Tm, var, num, app}
use Rattle.scasp_syntax.specs.Values.{Sub, under}
use Rattle.scasp_syntax.specs.WellFormed.{is_below}
use Rattle.scasp_bind.specs.Kept.{Kept, Continues, variables_at}
use Rattle.scasp_bind.specs.Resolving.{Binding, binding, is_free, applied}
use Rattle.scasp_bind.specs.declared.variable.Variable.{Variable}

-- so often bindings are to be applied at most, after k changes
abbrev pub most : ℕ → ℕ
most zero = 0
most (suc k) = suc (most k) + most k

pub record IsSoundAt (k : ℕ) (vs : List Variable) : Type 0 where
  pub below : (x : ℕ) (t : Tm) → binding vs x ≡ Some t → is_below (length vs) t ≡ true
  pub ends : (x : ℕ) → is_free (binding vs) (applied (most k) (binding vs) x) ≡ true

abbrev pub IsSoundNow : Kept → Type 0
IsSoundNow s = IsSoundAt (length s.changes) s.variables

abbrev pub IsSound : Kept → Type 0
IsSound s = (k : ℕ) → k ≤ length s.changes → IsSoundAt k (variables_at k s)

-- what variables stand for
abbrev pub resolver : Kept → Sub
resolver s = applied (most (length s.changes)) (binding s.variables)

-- what the term is bound to, where it is a variable
abbrev pub bound_to : Binding → Tm → Option Tm
bound_to b (var x) = b x
bound_to b (num q) = None
bound_to b (app f ts) = None

-- the term that t leads to, which is no bound variable
pub record LeadsTo (s : Kept) (t u : Tm) : Type 0 where
  pub below : is_below (length s.variables) u ≡ true
  pub same : under (resolver s) u ≡ under (resolver s) t
  pub unbound : bound_to (binding s.variables) u ≡ None

-- the later store has come from the earlier one by changes of depths and of nothing else
pub record GoesOn (earlier later : Kept) : Type 0 where
  pub continues : Continues earlier later
  pub count : length later.variables ≡ length earlier.variables
  pub bindings : (x : ℕ) → binding later.variables x ≡ binding earlier.variables x
  pub sound : IsSound earlier → IsSound later
