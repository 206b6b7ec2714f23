-- A term as no numbers make it.
use Rattle.std.proofs.Common.{◌≡◌, ◌∙◌, ℕ, List, ◌++◌, append_assoc, ap}
use Rattle.std.specs.Prelude.{OnOk, Result, Ok, Err}
use Rattle.scasp_cert.specs.Text.Terms.{term_text}
use Rattle.scasp_syntax.specs.Tm.{Tm, var}
use Rattle.scasp_syntax.specs.Values.{under}
use Rattle.scasp_unify.proofs.SolvingLemmas.{under-var}

pub plain_text : (names : List (List ℕ)) (t : Tm) → term_text names (under var t) ≡ term_text names t
plain_text names t = ap (term_text names) (under-var t)

-- what is put behind a text that was put
pub put-behind : {A E : Type 0} (r : Result A E) (now mid old one two line : List ℕ) → mid ≡ old ++ one → line ≡ two → OnOk r (now ≡ mid ++ line) → OnOk r (now ≡ old ++ (one ++ two))
put-behind (Ok u) now mid old one two line e f h = h ∙ (λ i. e i ++ f i) ∙ append_assoc old one two
put-behind (Err m) now mid old one two line e f h = tt
