-- What private functions alone speak of.
use Rattle.std.specs.Prelude.{◌≡◌, ℕ, zero, suc, Bool, true, false, List, [], Option, None, Some, slice_get}
use Rattle.std.specs.List.{list_any}
use Rattle.std.specs.Option.{unwrap_or}
use Rattle.indexmap.specs.IndexSet.{insert_all}
use Rattle.std.specs.Prelude.{nat_eq}
use Rattle.scasp_syntax.specs.Programs.{is_rule_of}
use Rattle.scasp_syntax.specs.Same.{same_pred}
use Rattle.scasp_syntax.specs.declared.atom.Pred.{Pred}
use Rattle.scasp_syntax.specs.declared.clause.Clause.{Clause}
use Rattle.scasp_graph.specs.Inside.Growing.{grown}
use Rattle.scasp_touched.specs.declared.named.Named.{Named}

-- the predicate is in the list
abbrev pub among : List Pred → Pred → Bool
among preds p = list_any (same_pred p) preds

-- with these clauses and predicates too
abbrev pub with_named : Named → List ℕ → List Pred → Named
with_named n ks ps = record { clauses = insert_all nat_eq n.clauses ks; preds = grown n.preds ps }
