-- The predicates that occur in clauses and queries within a table.
use Rattle.std.specs.Prelude.{◌≡◌, ℕ, ◌<◌, ◌^◌, nat_eq, nat_lt, Bool, true, false, not, ◌&&◌, ◌||◌, Option, None, Some, List, [], ◌∷◌, ◌++◌}
use Rattle.std.specs.List.{flat_map, list_all, list_any}
use Rattle.std.proofs.Common.{refl, subst, sym}
use Rattle.std.proofs.lemmas.Bool.{and_parts, eqb-true}
use Rattle.scasp_checker_rules.specs.Faults.{are_single, is_map_of}
use Rattle.scasp_list.specs.Each.{Each}
use Rattle.scasp_list.proofs.EachLemmas.{Each-append, Each-filter, Each-from_test}
use Rattle.scasp_num.proofs.Numbers.{lt_ltb}
use Rattle.scasp_syntax.specs.Programs.{body_preds, clause_preds, first_occurrences, head_preds, item_preds, predicates_in}
use Rattle.scasp_syntax.specs.Same.{same_bool, same_pred}
use Rattle.scasp_syntax.specs.declared.atom.Atom.{Atom}
use Rattle.scasp_syntax.specs.declared.atom.Pred.{Pred}
use Rattle.scasp_syntax.specs.declared.clause.Clause.{Clause}
use Rattle.scasp_syntax.specs.declared.clause.Item.{Item}
use Rattle.scasp_syntax.specs.declared.clause.Item.TheVariants as item
use Rattle.scasp_syntax.specs.declared.clause.Query.{Query}
use Rattle.scasp_syntax.specs.declared.predicate_map.PredMap.{PredMap}
use Rattle.scasp_law_printable.specs.Within.{ClauseWithin, HeadWithin, ItemWithin, QueryWithin}

module _ (count : ℕ) where
  abbrev pub PredWithin : Pred → Type 0
  PredWithin k = (k.name < count) × (k.arity < 2 ^ 64)

  item-preds : (i : Item) → ItemWithin count i → Each PredWithin (item_preds i)
  item-preds (item.Call c) h = ((h.0, h.1), tt)
  item-preds (item.Equal t u) h = tt
  item-preds (item.Differ t u) h = tt
  item-preds (item.Linear r) h = tt

  body-preds : (is : List Item) → Each (ItemWithin count) is → Each PredWithin (body_preds is)
  body-preds [] h = tt
  body-preds (i ∷ is) h = Each-append PredWithin (item_preds i) (body_preds is) (item-preds i h.0) (body-preds is h.1)

  head-preds : (o : Option Atom) → HeadWithin count o → Each PredWithin (head_preds o)
  head-preds None h = tt
  head-preds (Some a) h = ((h.0, h.1), tt)

  clauses-preds : (cs : List Clause) → Each (ClauseWithin count) cs → Each PredWithin (flat_map clause_preds cs)
  clauses-preds [] h = tt
  clauses-preds (c ∷ cs) h =
      Each-append PredWithin (clause_preds c) (flat_map clause_preds cs) (Each-append PredWithin (head_preds c.head) (body_preds c.body) (head-preds c.head h.0.0) (body-preds c.body h.0.1)) (clauses-preds cs h.1)

  queries-preds : (qs : List Query) → Each (QueryWithin count) qs → Each PredWithin (flat_map (λ q. body_preds q.body) qs)
  queries-preds [] h = tt
  queries-preds (q ∷ qs) h = Each-append PredWithin (body_preds q.body) (flat_map (λ q. body_preds q.body) qs) (body-preds q.body h.0) (queries-preds qs h.1)

  first-preds : (ps : List Pred) → Each PredWithin ps → Each PredWithin (first_occurrences ps)
  first-preds [] h = tt
  first-preds (k ∷ ps) h = (h.0, Each-filter PredWithin (λ j. not (same_pred k j)) (first_occurrences ps) (first-preds ps h.1))

  pub predicates-within : (cs : List Clause) (qs : List Query) → Each (ClauseWithin count) cs → Each (QueryWithin count) qs → Each PredWithin (predicates_in cs qs)
  predicates-within cs qs h k =
      first-preds (flat_map clause_preds cs ++ flat_map (λ q. body_preds q.body) qs)
      (Each-append PredWithin (flat_map clause_preds cs) (flat_map (λ q. body_preds q.body) qs) (clauses-preds cs h) (queries-preds qs k))

  same-named : (a b : Pred) → same_pred a b ≡ true → PredWithin b → nat_lt a.name count ≡ true
  same-named a b e h =
      let both = and_parts (same_bool a.minus b.minus && nat_eq a.name b.name) (nat_eq a.arity b.arity) e in
      let name = and_parts (same_bool a.minus b.minus) (nat_eq a.name b.name) both.0 in
      subst (λ (x : ℕ). nat_lt x count ≡ true) (sym (eqb-true a.name b.name name.1)) (lt_ltb h.0)

  known-named : (a : Pred) (ps : List Pred) → Each PredWithin ps → list_any (same_pred a) ps ≡ true → nat_lt a.name count ≡ true
  known-named a [] h e = absurd (cc e)
  known-named a (k ∷ ps) h e = by (same_pred a k) refl e (known-named a ps h.1)
    where
      by : (b : Bool) → same_pred a k ≡ b → (b || list_any (same_pred a) ps) ≡ true → (list_any (same_pred a) ps ≡ true → nat_lt a.name count ≡ true) → nat_lt a.name count ≡ true
      by true f g rest = same-named a k f h.0
      by false f g rest = rest g

  -- a map of such predicates
  pub map-named : (ms : List PredMap) (known : List Pred) → Each PredWithin known → is_map_of known ms ≡ true → Each (λ (m : PredMap). nat_lt m.pred.name count ≡ true) ms
  map-named ms known h e =
      Each-from_test (λ (m : PredMap). list_any (same_pred m.pred) known) (λ (m : PredMap). nat_lt m.pred.name count ≡ true) (λ m f. known-named m.pred known h f) ms
      (and_parts (list_all (λ (m : PredMap). list_any (same_pred m.pred) known) ms) (are_single ms) e).0
