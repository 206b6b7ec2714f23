-- Terms and atoms as lists of numbers, by which tables find them: equal lists are of equal terms.
use Rattle.std.specs.Prelude.{ℕ, ◌/◌, ◌%◌, ◌^◌, Bool, true, false, ℤ, pos, negsuc, unsigned_abs, List, [], ◌∷◌, ◌++◌}
use Rattle.scasp_num.specs.Number.{Number}
use Rattle.scasp_syntax.specs.Tm.{Tm, Tms, var, num, app, nil, cons}
use Rattle.scasp_syntax.specs.declared.atom.Atom.{Atom}

-- the number's part above 2^64, and the rest
abbrev pub words : ℕ → List ℕ
words n = n / 2 ^ 64 ∷ n % 2 ^ 64 ∷ []

-- 1 of an integer below 0
abbrev pub sign : ℤ → ℕ
sign (pos n) = 0
sign (negsuc n) = 1

abbrev pub number_key : Number → List ℕ
number_key q = sign q.num ∷ words (unsigned_abs q.num) ++ words (unsigned_abs q.den)

abbrev mutual
  pub key_of : Tm → List ℕ
  key_of (var x) = 0 ∷ x ∷ []
  key_of (num q) = 1 ∷ number_key q
  key_of (app f ts) = 2 ∷ f ∷ keys_of ts

  pub keys_of : Tms → List ℕ
  keys_of nil = 3 ∷ []
  keys_of (cons t ts) = key_of t ++ keys_of ts

abbrev pub bit : Bool → ℕ
bit true = 1
bit false = 0

abbrev pub atom_key : Atom → List ℕ
atom_key a = bit a.minus ∷ a.name ∷ keys_of a.args
