-- The covers that are kept.
use Rattle.std.specs.Prelude.{ℕ, suc, List, [], ◌∷◌, ◌++◌, map}
use Rattle.std.specs.List.{flat_map}
use Rattle.scasp_forall.specs.Inside.Listed.{listed}
use Rattle.scasp_forall.specs.declared.scope.Rest.{Rest}
use Rattle.scasp_forall.specs.declared.scope.Scope.{Scope}
use Rattle.scasp_lines_places.specs.Places.Chains.{chained}
use Rattle.scasp_search_rules.specs.declared.states.covers.Cover.{Cover}
use Rattle.scasp_search_rules.specs.declared.states.covers.Remainder.{Remainder}
use Rattle.scasp_syntax.specs.declared.con.Con.{Con}
use Rattle.scasp_trail.specs.Past.{Past}

abbrev pub remainder_of : Rest → Remainder
remainder_of r = record { region = listed r.region; universals = listed r.universals; replaced = r.replaced; equation = r.equation }

-- the cover of this depth
abbrev pub cover_of : ℕ → Scope → Cover
cover_of d s = record {
  clause = s.opening.clause;
  first = s.opening.first;
  checks_head = s.opening.checks_head;
  plain = s.opening.plain;
  depth = d;
  case = s.case;
  universals = listed s.universals;
  region = listed s.region;
  waiting = map remainder_of (chained s.waiting);
  before = [];
}

-- the covers of depth d and those behind it
abbrev pub covers_from : ℕ → List Scope → List Cover
covers_from d [] = []
covers_from d (s ∷ ss) = cover_of d s ∷ covers_from (suc d) ss

abbrev pub past_covers : Past Scope → Past Cover
past_covers p = record { now = covers_from 1 p.now; before = map (covers_from 1) p.before }

-- ---- constraints

abbrev pub remaining_of : List Rest → List Con
remaining_of rs = flat_map (λ r. listed r.region) rs

-- the constraints of a cover and of its remainders
abbrev pub constraints_of : Scope → List Con
constraints_of s = listed s.region ++ remaining_of (chained s.waiting)
