-- Values for the unbound variables of a list: numbers for those that have a num, names of their own for the others.
use Rattle.std.specs.Prelude.{◌≡◌, ℕ, ◌<◌, ◌≤◌, Bool, true, false, ◌&&◌, nat_lt, IsTrue, List, Option, None, Some, ⊤}
use Rattle.scasp_list.specs.Each.{Each}
use Rattle.scasp_syntax.specs.Constraints.{holds, is_number}
use Rattle.scasp_syntax.specs.Tm.{Tm, Tms, var, num, app, nil, cons}
use Rattle.scasp_syntax.specs.Values.{Sub, under}
use Rattle.scasp_syntax.specs.View.{tm_of}
use Rattle.scasp_syntax.specs.declared.con.Con.{Con}
use Rattle.scasp_syntax.specs.declared.con.Con.TheVariants as con
use Rattle.scasp_unify.specs.Numbers.{number_var, is_among_numbers}
use Rattle.scasp_unify.specs.Parts.{Part, parts}
use Rattle.scasp_unify.specs.Resolver.{resolver}

-- each name in the term is below k
abbrev mutual
  pub is_named_below : ℕ → Tm → Bool
  is_named_below k (var x) = true
  is_named_below k (num q) = true
  is_named_below k (app f ts) = nat_lt f k && are_named_below k ts

  pub are_named_below : ℕ → Tms → Bool
  are_named_below k nil = true
  are_named_below k (cons t ts) = is_named_below k t && are_named_below k ts

-- the names of a disequation, resolved, and of a shape are below k
abbrev pub Named : ℕ → Sub → Con → Type 0
Named k s (con.Eq t u) = ⊤
Named k s (con.Neq t u) = (is_named_below k (under s (tm_of t)) ≡ true) × (is_named_below k (under s (tm_of u)) ≡ true)
Named k s (con.NotShape x f n) = f < k
Named k s (con.Num t) = ⊤
Named k s (con.NotNum t) = ⊤
Named k s (con.Row r) = ⊤

-- parts that are all between numbers are not all equal
abbrev pub IfParts-apart : List Con → Sub → Option (List Part) → Type 0
IfParts-apart cs w None = ⊤
IfParts-apart cs w (Some ps) = is_among_numbers cs ps ≡ true → Each (λ (p : Part). w p.at ≡ under w p.term) ps → ⊥

-- a disequation among numbers is met by w
abbrev pub Apart : List Con → Sub → Con → Type 0
Apart cs w (con.Neq t u) = IfParts-apart cs w (parts (under (resolver cs) (tm_of t)) (under (resolver cs) (tm_of u)))
Apart cs w (con.Eq t u) = ⊤
Apart cs w (con.NotShape x f n) = ⊤
Apart cs w (con.Num t) = ⊤
Apart cs w (con.NotNum t) = ⊤
Apart cs w (con.Row r) = ⊤

-- the constraint holds, or is a row
abbrev pub TermsHold : Sub → Con → Type 0
TermsHold v (con.Row r) = ⊤
TermsHold v (con.Eq t u) = IsTrue (holds v (con.Eq t u))
TermsHold v (con.Neq t u) = IsTrue (holds v (con.Neq t u))
TermsHold v (con.NotShape x f n) = IsTrue (holds v (con.NotShape x f n))
TermsHold v (con.Num t) = IsTrue (holds v (con.Num t))
TermsHold v (con.NotNum t) = IsTrue (holds v (con.NotNum t))

-- the values of unbound variables: numbers for those that have a num, and names of their own for the others
pub record Choice (cs : List Con) (k : ℕ) (w : Sub) : Type 0 where
  pub named : ℕ → ℕ
  pub fresh : (y : ℕ) → k ≤ named y
  pub distinct : (x y : ℕ) → named x ≡ named y → x ≡ y
  pub numbers : (y : ℕ) → number_var cs y ≡ true → is_number (w y) ≡ true
  pub names : (y : ℕ) → number_var cs y ≡ false → w y ≡ app (named y) nil
