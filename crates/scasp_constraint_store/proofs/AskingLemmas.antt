-- Questions answered by the test of a list.
use Rattle.std.proofs.Common.{◌≡◌, ◌↔◌, ℕ, Bool, true, false, not, List, Result, Err, [], ◌∷◌, ◌++◌, subst, refl, sym, ap, ◌∙◌}
use Rattle.std.specs.List.{list_all}
use Rattle.std.proofs.lemmas.Bool.{true≢false}
use Rattle.scasp_hint.specs.Finding.{overflows_in}
use Rattle.scasp_hint.specs.Satisfying.{sat}
use Rattle.scasp_hint.proofs.Entailment.{entailed-tested}
use Rattle.scasp_hint.proofs.SatisfyingLemmas.{sat-sorted}
use Rattle.scasp_syntax.specs.Constraints.{Entails, Sat}
use Rattle.scasp_syntax.specs.declared.con.Con.{Con}
use Rattle.scasp_syntax.specs.declared.con.Con.TheVariants as con
use Rattle.scasp_unify.specs.Negations.{is_con_below, negated}
use Rattle.scasp_unify.specs.Sorted.{Sorted}
use Rattle.scasp_unify.proofs.SortedLemmas.{negation-sorted, one-more}
use Rattle.scasp_constraint_store.specs.Asked.{is_tested}
use Rattle.scasp_constraint_store.specs.declared.asking.Assumed.{Assumed}
use Rattle.scasp_constraint_store.specs.declared.asking.Assumed.TheVariants as answer
use Rattle.scasp_constraint_store.specs.declared.asking.StoreErr.{StoreErr}

sorted-negated : (k : ℕ) (cs : List Con) (c : Con) → Sorted cs → Sorted (cs ++ c ∷ []) → Sorted (cs ++ negated k c ∷ [])
sorted-negated k cs (con.Eq t u) s r = one-more cs (con.Neq t u) s refl
sorted-negated k cs (con.Neq t u) s r = one-more cs (con.Eq t u) s refl
sorted-negated k cs (con.NotShape x f n) s r = one-more cs (negated k (con.NotShape x f n)) s refl
sorted-negated k cs (con.Num t) s r = one-more cs (con.NotNum t) s refl
sorted-negated k cs (con.NotNum t) s r = one-more cs (con.Num t) s refl
sorted-negated k cs (con.Row q) s r = negation-sorted cs q s r

not-false : (b : Bool) → not b ≡ true → b ≡ false
not-false true e = absurd (true≢false (sym e))
not-false false e = refl

pub entails-tested : (k : ℕ) (cs : List Con) (c : Con) → list_all (is_con_below k) cs ≡ true → is_con_below k c ≡ true → Sorted cs → Sorted (cs ++ c ∷ [])
    → (is_tested k cs c ≡ true) ↔ Entails cs c
entails-tested k cs c a b s r =
    let law = entailed-tested cs c k a b (sorted-negated k cs c s r) in
    ((λ e. law.1 (not-false (sat (cs ++ negated k c ∷ [])) e)), (λ h. ap not (law.0 h)))

pub entails-answer : (k n : ℕ) (cs ds : List Con) (c d : Con) (b : Bool) → b ≡ sat (ds ++ d ∷ []) → d ≡ negated n c → n ≡ k → ds ≡ cs → list_all (is_con_below k) cs ≡ true → is_con_below k c ≡ true
    → Sorted cs → Sorted (cs ++ c ∷ []) → (not b ≡ true) ↔ Entails cs c
entails-answer k n cs ds c d b e f g h a w s r =
    let same : b ≡ sat (cs ++ negated k c ∷ []) = e ∙ ap (λ (xs : List Con). sat (xs ++ d ∷ [])) h ∙ ap (λ (x : Con). sat (cs ++ x ∷ [])) (f ∙ ap (λ (m : ℕ). negated m c) g) in
    subst (λ (q : Bool). (not q ≡ true) ↔ Entails cs c) (sym same) (entails-tested k cs c a w s r)

-- ---- what becomes of a constraint that is assumed

no-false : (b : Bool) → b ≡ false → b ≡ true → ⊥
no-false b e f = true≢false (sym f ∙ e)

entailed-not_impossible : answer.Entailed ≡ answer.Impossible → ⊥
entailed-not_impossible e = cc

impossible-not_entailed : answer.Impossible ≡ answer.Entailed → ⊥
impossible-not_entailed e = cc

added-not_entailed : answer.Added ≡ answer.Entailed → ⊥
added-not_entailed e = cc

added-not_impossible : answer.Added ≡ answer.Impossible → ⊥
added-not_impossible e = cc

pub met-tested : (cs ds : List Con) (c d : Con) (b : Bool) → b ≡ sat (ds ++ d ∷ []) → ds ≡ cs → d ≡ c → Sorted (cs ++ c ∷ []) → (b ≡ true) ↔ Sat (cs ++ c ∷ [])
met-tested cs ds c d b e f g r =
    let same : b ≡ sat (cs ++ c ∷ []) = e ∙ ap (λ (xs : List Con). sat (xs ++ d ∷ [])) f ∙ ap (λ (x : Con). sat (cs ++ x ∷ [])) g in
    subst (λ (q : Bool). (q ≡ true) ↔ Sat (cs ++ c ∷ [])) (sym same) (sat-sorted (cs ++ c ∷ []) r)

pub entailed-is : (P : Type 0) (b : Bool) → (b ≡ true) ↔ P → b ≡ true → (answer.Entailed ≡ answer.Entailed) ↔ P
entailed-is P b l e = ((λ x. l.0 e), (λ x. refl))

pub impossible-is_no : (P : Type 0) (b : Bool) → (b ≡ true) ↔ P → b ≡ false → (answer.Impossible ≡ answer.Entailed) ↔ P
impossible-is_no P b l e = ((λ x. absurd (impossible-not_entailed x)), (λ h. absurd (no-false b e (l.1 h))))

pub added-is_no : (P : Type 0) (b : Bool) → (b ≡ true) ↔ P → b ≡ false → (answer.Added ≡ answer.Entailed) ↔ P
added-is_no P b l e = ((λ x. absurd (added-not_entailed x)), (λ h. absurd (no-false b e (l.1 h))))

pub entailed-is_met : (P Q : Type 0) (b : Bool) → (b ≡ true) ↔ P → b ≡ true → (answer.Entailed ≡ answer.Impossible) ↔ (P → ⊥) × (Q → ⊥)
entailed-is_met P Q b l e = ((λ x. absurd (entailed-not_impossible x)), (λ p. absurd (p.0 (l.0 e))))

pub impossible-is : (P Q : Type 0) (b d : Bool) → (b ≡ true) ↔ P → b ≡ false → (d ≡ true) ↔ Q → d ≡ false → (answer.Impossible ≡ answer.Impossible) ↔ (P → ⊥) × (Q → ⊥)
impossible-is P Q b d l e m f = ((λ x. ((λ h. no-false b e (l.1 h)), (λ q. no-false d f (m.1 q)))), (λ x. refl))

pub added-is_met : (P Q : Type 0) (d : Bool) → (d ≡ true) ↔ Q → d ≡ true → (answer.Added ≡ answer.Impossible) ↔ (P → ⊥) × (Q → ⊥)
added-is_met P Q d m e = ((λ x. absurd (added-not_impossible x)), (λ p. absurd (p.1 (m.0 e))))

pub same-error : (a b : StoreErr) → ◌≡◌ {A = Result Assumed StoreErr} (Err a) (Err b) → a ≡ b
same-error a b e = cc

pub overflows-with : (cs ds : List Con) (c d : Con) → overflows_in (ds ++ d ∷ []) ≡ true → ds ≡ cs → d ≡ c → overflows_in (cs ++ c ∷ []) ≡ true
overflows-with cs ds c d e f g = sym (ap (λ (xs : List Con). overflows_in (xs ++ d ∷ [])) f ∙ ap (λ (x : Con). overflows_in (cs ++ x ∷ [])) g) ∙ e
