-- When each constraint of a list is needed: none is told by the others.
use Rattle.std.specs.Prelude.{◌≡◌, ◌⊎◌, true, List, [], ◌∷◌, ◌++◌, ⊤}
use Rattle.scasp_hint.specs.Finding.{found, unknown_list}
use Rattle.scasp_syntax.specs.Values.{Valuation}
use Rattle.scasp_syntax.specs.declared.con.Con.{Con}
use Rattle.scasp_unify.specs.Negations.{negated}
use Rattle.scasp_shorten.specs.Following.{has_negation}
use Rattle.scasp_shorten.specs.Shortest.{shortened}
use Rattle.scasp_shorten.specs.declared.shortening.Means.TheVariants as means
use Rattle.scasp_shorten.specs.Told.{tells, tells_all}

-- each valuation that makes the list true as it is told makes the constraint true so
abbrev pub Says : List Con → Con → Type 0
Says cs c = (v : Valuation) → tells_all v.of cs ≡ true → tells v.of c ≡ true

-- its negation was asked beside those before it and a list behind it, of which these stay, and that overflows
abbrev pub OverflowsAt : List Con → Con → List Con → Type 0
OverflowsAt before c behind =
    (left : List Con) × (shortened means.Question (before ++ c ∷ []) left ≡ (before ++ c ∷ []) ++ behind) × (found ((before ++ left) ++ negated 0 c ∷ []) ≡ unknown_list)

-- those before and behind the constraint do not say it, unless what was asked overflows
abbrev pub IsNeeded : List Con → Con → List Con → Type 0
IsNeeded before c behind = has_negation c ≡ true → (Says (before ++ behind) c → ⊥) ⊎ OverflowsAt before c behind

-- so for each of the constraints behind these
abbrev pub EachNeeded : List Con → List Con → Type 0
EachNeeded before [] = ⊤
EachNeeded before (c ∷ behind) = IsNeeded before c behind × EachNeeded (before ++ c ∷ []) behind
