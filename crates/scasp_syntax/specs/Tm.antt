-- Terms, as plain values: variables, numbers, and names with a list of terms.
use Rattle.std.specs.Prelude.{ℕ, ◌+◌, List, [], ◌∷◌}
use Rattle.scasp_num.specs.Number.{Number}

mutual
  pub data Tm : Type 0 where
    var : ℕ → Tm
    num : Number → Tm
    app : ℕ → Tms → Tm

  pub data Tms : Type 0 where
    nil : Tms
    cons : Tm → Tms → Tms

-- the terms of a list of terms
abbrev pub items : Tms → List Tm
items nil = []
items (cons t ts) = t ∷ items ts

-- the arguments of a term; a variable and a number have none
abbrev pub args_of : Tm → Tms
args_of (var x) = nil
args_of (num q) = nil
args_of (app f ts) = ts

-- a list of terms, as `Tms`
abbrev pub listed : List Tm → Tms
listed [] = nil
listed (t ∷ ts) = cons t (listed ts)

-- the list with one more term at its end
abbrev pub pushed : Tms → Tm → Tms
pushed nil t = cons t nil
pushed (cons u us) t = cons u (pushed us t)

-- the number of nodes
abbrev mutual
  pub weight : Tm → ℕ
  weight (var x) = 1
  weight (num q) = 1
  weight (app f ts) = 1 + weight_s ts

  pub weight_s : Tms → ℕ
  weight_s nil = 0
  weight_s (cons t ts) = weight t + weight_s ts
