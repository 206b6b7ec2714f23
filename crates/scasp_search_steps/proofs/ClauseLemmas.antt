-- Bodies of clauses.
use Rattle.std.specs.Prelude.{◌≡◌, ℕ, Some, length}
use Rattle.std.proofs.lemmas.List.{length-map}
use Rattle.scasp_search_rules.specs.Successors.Items.{item_raised, items_of}
use Rattle.scasp_syntax.specs.Flat.{flat_body}
use Rattle.scasp_syntax.specs.declared.clause.Clause.{Clause}

pub body_count : (c : Clause) (first : ℕ) → length (items_of (Some c) first) ≡ length (flat_body c.body)
body_count c first = length-map (flat_body c.body) (item_raised first)
