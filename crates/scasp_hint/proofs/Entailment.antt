-- The test of a list with a negation decides what the list entails.
use Rattle.std.proofs.Common.{◌≡◌, ◌↔◌, ℕ, Bool, true, false, List, [], ◌∷◌, ◌++◌, refl, sym, ◌∙◌}
use Rattle.std.specs.List.{list_all}
use Rattle.std.proofs.lemmas.Bool.{true≢false}
use Rattle.scasp_syntax.specs.Constraints.{Entails}
use Rattle.scasp_syntax.specs.declared.con.Con.{Con}
use Rattle.scasp_unify.specs.Negations.{is_con_below, negated}
use Rattle.scasp_unify.specs.Sorted.{Sorted}
use Rattle.scasp_unify.proofs.NegationLemmas.{entailed}
use Rattle.scasp_hint.specs.Satisfying.{sat}
use Rattle.scasp_hint.proofs.SatisfyingLemmas.{sat-sorted}

pub entailed-tested : (cs : List Con) (c : Con) (k : ℕ) → list_all (is_con_below k) cs ≡ true → is_con_below k c ≡ true → Sorted (cs ++ negated k c ∷ []) → Entails cs c ↔ (sat (cs ++ negated k c ∷ []) ≡ false)
entailed-tested cs c k b d s = (
  (λ h. false-by (λ e. (entailed cs c k b d).0 h ((sat-sorted (cs ++ negated k c ∷ []) s).0 e))),
  (λ e. (entailed cs c k b d).1 (λ m. true≢false (sym ((sat-sorted (cs ++ negated k c ∷ []) s).1 m) ∙ e))),
)
  where
    false-by : (sat (cs ++ negated k c ∷ []) ≡ true → ⊥) → sat (cs ++ negated k c ∷ []) ≡ false
    false-by h = by (sat (cs ++ negated k c ∷ [])) refl
      where
        by : (b : Bool) → sat (cs ++ negated k c ∷ []) ≡ b → b ≡ false
        by true e = absurd (h e)
        by false e = refl
