-- The model above the answer to a fact beside an even loop, computed: p :- not q. q :- not p. r. ?- r.
use Rattle.std.specs.Prelude.{◌≡◌, List, [], ◌∷◌}
use Rattle.std.proofs.Common.{refl}
use Rattle.scasp_law_extension.specs.Above.{model_above}
use Rattle.scasp_law_promise.specs.Examples.{aside, even, q, r}
use Rattle.scasp_syntax.specs.Tm.{Tm}
use Rattle.scasp_syntax.specs.Values.{Sub}

-- p has the sign `+` and q `-`, so q is true beside r
above_the_fact : (v : Sub) (d : List Tm) → model_above even aside v d ≡ r ∷ q ∷ []
above_the_fact v d = refl
