-- Classical negation: -p is a predicate of its own, and a generated denial keeps it apart from p.
use Rattle.std.specs.Prelude.{ℕ, zero, suc, ◌+◌, true, false, List, [], ◌∷◌, ◌++◌, map, filter, None}
use Rattle.scasp_syntax.specs.Programs.{predicates_in}
use Rattle.scasp_syntax.specs.Tm.{Tms, var, nil, cons}
use Rattle.scasp_syntax.specs.declared.atom.Pred.{Pred}
use Rattle.scasp_syntax.specs.declared.clause.Clause.{Clause}
use Rattle.scasp_syntax.specs.declared.clause.Item.TheVariants.{Call}
use Rattle.scasp_syntax.specs.declared.clause.Query.{Query}

-- n variables, from the variable x on
abbrev pub variables_from : ℕ → ℕ → Tms
variables_from x zero = nil
variables_from x (suc n) = cons (var x) (variables_from (x + 1) n)

-- :- p(V0, ..), -p(V0, ..).
abbrev pub denial_of : Pred → Clause
denial_of p =
    let args = variables_from 0 p.arity in
    record {
      head = None;
      body =
          Call (record { positive = true; atom = record { minus = false; name = p.name; args = args } })
          ∷ Call (record { positive = true; atom = record { minus = true; name = p.name; args = args } }) ∷ [];
      vars = p.arity;
    }

-- one for each -p that occurs, in order of first occurrence
abbrev pub generated_denials : List Clause → List Query → List Clause
generated_denials clauses queries = map denial_of (filter (λ p. p.minus) (predicates_in clauses queries))

-- the clauses of a file, and behind them the generated denials
abbrev pub with_denials : List Clause → List Query → List Clause
with_denials clauses queries = clauses ++ generated_denials clauses queries
