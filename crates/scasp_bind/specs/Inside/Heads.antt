-- Terms written down head by head, and built again from the last head on.
use Rattle.std.specs.Prelude.{List, [], ◌∷◌, ◌++◌, length, map, take, drop, reverse}
use Rattle.std.specs.Borrow.{Bor}
use Rattle.scasp_syntax.specs.Tm.{Tm, Tms, var, num, app, nil, cons, items, listed}
use Rattle.scasp_syntax.specs.View.{tm_of}
use Rattle.scasp_syntax.specs.declared.term.Term.{Term}
use Rattle.scasp_bind.specs.declared.resolving.Head.{Head}
use Rattle.scasp_bind.specs.declared.resolving.Head.TheVariants as head

abbrev pub terms_of : List (Bor Term) → List Tm
terms_of ts = map (λ t. tm_of t.now) ts

abbrev pub head_of : Tm → Head
head_of (var x) = head.Var x
head_of (num q) = head.Num q
head_of (app f ts) = head.Name f (length (items ts))

-- each head before those of its arguments
abbrev mutual
  pub heads_of : Tm → List Head
  heads_of (var x) = head.Var x ∷ []
  heads_of (num q) = head.Num q ∷ []
  heads_of (app f ts) = head.Name f (length (items ts)) ∷ heads_of_each ts

  pub heads_of_each : Tms → List Head
  heads_of_each nil = []
  heads_of_each (cons t ts) = heads_of t ++ heads_of_each ts

-- the finished terms, the latest first
abbrev pub tops : List Term → List Tm
tops ts = map tm_of (reverse ts)

-- what the heads, the last one first, make of the finished terms
abbrev pub assembled : List Head → List Tm → List Tm
assembled [] ds = ds
assembled (head.Var x ∷ hs) ds = assembled hs (var x ∷ ds)
assembled (head.Num q ∷ hs) ds = assembled hs (num q ∷ ds)
assembled (head.Name f n ∷ hs) ds = assembled hs (app f (listed (take n ds)) ∷ drop n ds)
