-- Which clauses break a map.
use Rattle.std.proofs.Common.{◌≡◌, ◌∙◌, ◌↔◌, ℕ, ◌+◌, Bool, true, false, ◌&&◌, is_some, List, [], ◌∷◌, Some, None, IsTrue, refl, sym}
use Rattle.std.specs.List.{list_all}
use Rattle.std.proofs.lemmas.Bool.{and_parts, and_from, cond-true, cond-false}
use Rattle.scasp_syntax.specs.Programs.{pred_of}
use Rattle.scasp_syntax.specs.Same.{same_bool}
use Rattle.scasp_syntax.specs.declared.atom.Pred.{Pred}
use Rattle.scasp_syntax.specs.declared.clause.Clause.{Clause}
use Rattle.scasp_syntax.specs.declared.clause.Item.{Item}
use Rattle.scasp_syntax.specs.declared.clause.Item.TheVariants.{Call, Equal, Differ, Linear}
use Rattle.scasp_syntax.specs.declared.predicate_map.PredMap.{PredMap}
use Rattle.scasp_syntax.specs.declared.program.Program.{Program}
use Rattle.scasp_graph.specs.Map.{keeps_item, keeps_below, keeps, faults_from, MapHolds, is_positive_item, is_positive_rule}

same_as_true : (b : Bool) → same_bool b true ≡ b
same_as_true true = refl
same_as_true false = refl

empty-keeps_item : (p : Pred) (item : Item) → keeps_item [] p item ≡ is_positive_item item
empty-keeps_item p (Call l) = same_as_true l.positive
empty-keeps_item p (Equal t s) = refl
empty-keeps_item p (Differ t s) = refl
empty-keeps_item p (Linear l) = refl

empty-keep_items : (p : Pred) (body : List Item) → list_all (keeps_item [] p) body ≡ list_all is_positive_item body
empty-keep_items p [] = refl
empty-keep_items p (item ∷ body) = rw (empty-keeps_item p item, empty-keep_items p body) refl

empty-keeps_below : (c : Clause) → keeps [] [] 0 c ≡ is_positive_rule c
empty-keeps_below c =
    elim c.head as (λ h. keeps_below [] h c.body ≡ is_some h && list_all is_positive_item c.body) [
      | None ↦ refl
      | Some a ↦ empty-keep_items (pred_of a) c.body
    ]

-- no clause breaks the map exactly where the first keeps it and no other breaks it
pub faults-cons : (covered : List ℕ) (map : List PredMap) (n : ℕ) (c : Clause) (cs : List Clause) → (faults_from covered map n (c ∷ cs) ≡ []) ↔ ((keeps covered map n c ≡ true) × (faults_from covered map (n + 1) cs ≡ []))
faults-cons covered map n c cs =
    by (keeps covered map n c) refl
  where
    by : (b : Bool) → keeps covered map n c ≡ b → (faults_from covered map n (c ∷ cs) ≡ []) ↔ ((keeps covered map n c ≡ true) × (faults_from covered map (n + 1) cs ≡ []))
    by true e =
        let f : faults_from covered map n (c ∷ cs) ≡ faults_from covered map (n + 1) cs = cond-true (keeps covered map n c) _ _ e in
        (λ h. (e, sym f ∙ h), λ p. f ∙ p.1)
    by false e =
        let f : faults_from covered map n (c ∷ cs) ≡ n ∷ faults_from covered map (n + 1) cs = cond-false (keeps covered map n c) _ _ e in
        (λ h. let k = sym f ∙ h in cc, λ p. let k = sym e ∙ p.0 in cc)

empty-holds : (n : ℕ) (cs : List Clause) → (faults_from [] [] n cs ≡ []) ↔ (list_all is_positive_rule cs ≡ true)
empty-holds n [] = (λ h. refl, λ h. refl)
empty-holds n (c ∷ cs) =
    let k = faults-cons [] [] n c cs in
    let rest = empty-holds (n + 1) cs in (
      λ h. let p = k.0 h in and_from (is_positive_rule c) (list_all is_positive_rule cs) (sym (empty-keeps_below c) ∙ p.0) (rest.0 p.1),
      λ h. let p = and_parts (is_positive_rule c) (list_all is_positive_rule cs) h in k.1 (empty-keeps_below c ∙ p.0, rest.1 p.1),
    )

pub empty_map_holds : (p : Program) → MapHolds p [] [] ↔ IsTrue (list_all is_positive_rule p.clauses)
empty_map_holds p = empty-holds 1 p.clauses
