-- Where a search begins.
use Rattle.std.specs.Prelude.{◌≡◌, List, length}
use Rattle.std.proofs.Common.{append-nil, ap, ◌∙◌}
use Rattle.scasp_nmr.specs.declared.items.CheckItem.{CheckItem}
use Rattle.scasp_search_rules.specs.declared.states.state.Kind.TheVariants.{Existential}
use Rattle.scasp_search_rules.specs.declared.states.state.State.{State}
use Rattle.scasp_search_rules.specs.declared.states.tasks.Task.{Task}
use Rattle.scasp_search_rules.specs.Successors.Regions.{before}
use Rattle.scasp_search_rules.specs.Successors.Search.{nothing, start}
use Rattle.scasp_search_rules.specs.Successors.Variables.{with_new}
use Rattle.scasp_syntax.specs.declared.clause.Query.{Query}

pub starts : (q : Query) (checks : List CheckItem) → before (start q checks).work (with_new nothing Existential 0 (length q.names)) ≡ start q checks
starts q checks = ap (λ (ts : List Task). record (with_new nothing Existential 0 (length q.names)) { work = ts }) (append-nil (start q checks).work)
