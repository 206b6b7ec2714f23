-- Each literal with those behind it that it makes a pair with.
use Rattle.std.specs.Bool.{beq}
use Rattle.std.specs.Borrow.{Bor}
use Rattle.std.specs.HashMap.{HashMap, get}
use Rattle.std.specs.Prelude.{Bool, ◌&&◌, if◌then◌else◌, Option, None, Some, List, [], ◌∷◌, map, filter}
use Rattle.scasp_checker_rules.specs.Pairs.{is_pair}
use Rattle.scasp_checker_rules.specs.Told.{Told}
use Rattle.scasp_lines_places.specs.Places.Chains.{chained}
use Rattle.scasp_lines_places.specs.declared.places.chain.Chain.{Chain}
use Rattle.scasp_lines_walk.specs.Shown.TableView.{told_from}
use Rattle.scasp_lines_walk.specs.declared.shown.table.Saying.{Saying}
use Rattle.scasp_syntax.specs.Programs.{pred_of}
use Rattle.scasp_syntax.specs.Same.{same_bool, same_pred}
use Rattle.scasp_syntax.specs.contracts.atom.PredPartialEq.TheImpl.{eq-value}
use Rattle.scasp_syntax.specs.declared.atom.Pred.{Pred}
use Rattle.scasp_checker.specs.declared.partners.partners.Partners.{Partners}

-- each literal with those behind it that it makes a pair with
abbrev pub grouped : List Told → List (Told × List Told)
grouped [] = []
grouped (a ∷ behind) = (a, filter (is_pair a) behind) ∷ grouped behind

-- the pairs of one literal
abbrev pub pairs_of : Told × List Told → List (Told × Told)
pairs_of g = map (λ b. (g.0, b)) g.1

abbrev pub told_in : Chain (Bor Saying) → List Told
told_in c = map told_from (chained c)

abbrev pub group_of : Partners → Told × List Told
group_of p = (told_from p.first, told_in p.behind)

-- the literal is of this predicate and sign
abbrev pub is_like : Pred → Bool → Told → Bool
is_like p s t = same_pred (pred_of t.atom) p && same_bool t.positive s

-- the literal before those of the predicate and sign, where it is one of them
abbrev pub has_first : Told → Pred → Bool → List Told → List Told
has_first t p s ts = if is_like p s t then t ∷ ts else ts

-- the test of keys
abbrev pub same_key : Pred × Bool → Pred × Bool → Bool
same_key k j = eq-value.it k.0 j.0 && beq k.1 j.1

abbrev pub told_or_none : Option (Chain (Bor Saying)) → List Told
told_or_none None = []
told_or_none (Some c) = told_in c

module _ {S : Type 0} where
  -- the literals of the predicate and sign
  abbrev pub behind_of : HashMap (Pred × Bool) (Chain (Bor Saying)) S → Pred → Bool → List Told
  behind_of m p s = told_or_none (get same_key m (p, s))
