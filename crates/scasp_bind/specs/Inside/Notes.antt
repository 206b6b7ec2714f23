-- What is noted of bound variables in the course of one walk.
use Rattle.std.specs.Prelude.{◌≡◌, ◌⊎◌, ℕ, true, false, length, Option, None, Some}
use Rattle.std.specs.Borrow.{Bor}
use Rattle.scasp_syntax.specs.Tm.{Tm, var, num, app}
use Rattle.scasp_syntax.specs.Values.{Sub, under}
use Rattle.scasp_syntax.specs.View.{tm_of}
use Rattle.scasp_syntax.specs.WellFormed.{is_below}
use Rattle.scasp_syntax.specs.declared.term.Term.{Term}
use Rattle.scasp_unify.specs.Parts.{occurs}
use Rattle.scasp_bind.specs.Kept.{Kept}
use Rattle.scasp_bind.specs.Resolving.{binding}
use Rattle.scasp_bind.specs.Inside.Soundness.{LeadsTo, bound_to, resolver}

-- a term for some variables
abbrev pub Notes : Type 0
Notes = ℕ → Option (Bor Term)

-- what is noted of the term, where it is a variable
abbrev pub noted_of : Notes → Tm → Option (Bor Term)
noted_of n (var x) = n x
noted_of n (num q) = None
noted_of n (app f ts) = None

-- each of the variables leads to what is noted of it
abbrev pub AreEnds : Kept → Notes → Type 0
AreEnds s n = (y : ℕ) (u : Bor Term) → n y ≡ Some u → LeadsTo s (var y) (tm_of u.now)

-- none of the variables of which something is noted has x
abbrev pub AreWithout : ℕ → Sub → Notes → Type 0
AreWithout x s n = (y : ℕ) (u : Bor Term) → n y ≡ Some u → occurs x (s y) ≡ false

-- t leads to u, which is no bound variable unless something is noted of it
pub record Approaches (s : Kept) (n : Notes) (t u : Tm) : Type 0 where
  pub below : is_below (length s.variables) u ≡ true
  pub same : under (resolver s) u ≡ under (resolver s) t
  pub unbound : noted_of n u ≡ None → bound_to (binding s.variables) u ≡ None

-- nothing is noted anew but e, of variables that resolve as t
abbrev pub Adds : Kept → Tm → Term → Notes → Notes → Type 0
Adds s t e n m = (y : ℕ) (u : Bor Term) → m y ≡ Some u → (n y ≡ Some u) ⊎ ((u.now ≡ e) × (resolver s y ≡ under (resolver s) t))

-- nothing is noted anew but e, of t
abbrev pub Puts : Tm → Term → Notes → Notes → Type 0
Puts t e n m = (y : ℕ) (u : Bor Term) → m y ≡ Some u → (n y ≡ Some u) ⊎ ((u.now ≡ e) × (var y ≡ t))
