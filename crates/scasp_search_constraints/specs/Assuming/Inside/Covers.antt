-- One cover at a split.
use Rattle.std.specs.Prelude.{ℕ, nat_eq, if◌then◌else◌, List, [], ◌∷◌, ◌++◌, filter}
use Rattle.scasp_search_rules.specs.declared.states.covers.Cover.{Cover}
use Rattle.scasp_search_rules.specs.declared.states.covers.Remainder.{Remainder}
use Rattle.scasp_search_rules.specs.declared.states.outcomes.Parting.{Parting}
use Rattle.scasp_search_rules.specs.Successors.Splits.{cover_parted, is_bound_in, replacement}
use Rattle.scasp_unify.specs.declared.bindings.Binding.{Binding}

-- the remainder that waits where one side holds in the case
abbrev pub other_side : Parting → List Binding → Cover → Remainder
other_side p bound c = record {
  region = c.region ++ p.there ∷ [];
  universals = c.universals ++ p.parts_there;
  replaced = filter (is_bound_in bound) c.universals;
  equation = replacement p.there;
}

abbrev pub parted_where : ℕ → Parting → List Binding → Cover → Cover
parted_where d p bound c = if nat_eq c.depth d then cover_parted p bound c else c
