-- The names that a program has.
use Rattle.std.specs.Prelude.{ℕ, Bool, nat_eq, List, [], ◌∷◌, ◌++◌, map, Option, None, Some}
use Rattle.std.specs.List.{list_any, flat_map}
use Rattle.scasp_syntax.specs.Tm.{Tm, Tms, var, num, app, nil, cons}
use Rattle.scasp_syntax.specs.View.{tm_of}
use Rattle.scasp_syntax.specs.declared.atom.Atom.{Atom}
use Rattle.scasp_syntax.specs.declared.atom.Pred.{Pred}
use Rattle.scasp_syntax.specs.declared.clause.Clause.{Clause}
use Rattle.scasp_syntax.specs.declared.clause.Item.{Item}
use Rattle.scasp_syntax.specs.declared.clause.Item.TheVariants.{Call, Equal, Differ, Linear}
use Rattle.scasp_syntax.specs.declared.clause.Query.{Query}

-- the number is in the list
abbrev pub has : List ℕ → ℕ → Bool
has numbers n = list_any (nat_eq n) numbers

abbrev mutual
  pub term_names : Tm → List ℕ
  term_names (var x) = []
  term_names (num q) = []
  term_names (app f ts) = f ∷ terms_names ts

  pub terms_names : Tms → List ℕ
  terms_names nil = []
  terms_names (cons t ts) = term_names t ++ terms_names ts

abbrev pub atom_names : Atom → List ℕ
atom_names a = a.name ∷ terms_names a.args

abbrev pub item_names : Item → List ℕ
item_names (Call l) = atom_names l.atom
item_names (Equal t s) = term_names (tm_of t) ++ term_names (tm_of s)
item_names (Differ t s) = term_names (tm_of t) ++ term_names (tm_of s)
item_names (Linear l) = []

abbrev pub head_names : Option Atom → List ℕ
head_names None = []
head_names (Some a) = atom_names a

abbrev pub clause_names : Clause → List ℕ
clause_names c = head_names c.head ++ flat_map item_names c.body

-- the name of a variable of a query; `_` has none
abbrev pub variable_names : Option ℕ → List ℕ
variable_names None = []
variable_names (Some n) = n ∷ []

abbrev pub query_names : Query → List ℕ
query_names q = flat_map item_names q.body ++ flat_map variable_names q.names

-- those of the clauses, of the queries with their variables, and of the abducible predicates
abbrev pub names_of : List Clause → List Query → List Pred → List ℕ
names_of clauses queries abducibles =
    flat_map clause_names clauses ++ flat_map query_names queries ++ map (λ p. p.name) abducibles
