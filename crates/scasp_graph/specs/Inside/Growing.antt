-- Lists of predicates that grow by those that they lack.
use Rattle.std.specs.Prelude.{List, [], ◌∷◌, ◌++◌, if◌then◌else◌}
use Rattle.std.specs.List.{list_any}
use Rattle.scasp_syntax.specs.Programs.{body_preds}
use Rattle.scasp_syntax.specs.Same.{same_pred}
use Rattle.scasp_syntax.specs.declared.atom.Pred.{Pred}
use Rattle.scasp_syntax.specs.declared.clause.Query.{Query}

-- the list with the predicate at its end unless it has it
abbrev pub with_pred : List Pred → Pred → List Pred
with_pred seen p = if list_any (same_pred p) seen then seen else seen ++ p ∷ []

-- likewise for each predicate in order
abbrev pub grown : List Pred → List Pred → List Pred
grown seen [] = seen
grown seen (p ∷ ps) = grown (with_pred seen p) ps

abbrev pub query_preds : Query → List Pred
query_preds q = body_preds q.body
