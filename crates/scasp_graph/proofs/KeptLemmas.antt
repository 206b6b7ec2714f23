-- No clause breaks a map exactly where each denial is covered and each literal of the other rules keeps the map.
use Rattle.std.proofs.Common.{◌≡◌, ◌∙◌, ◌∷◌, ℕ, zero, suc, ◌+◌, ◌<◌, Bool, true, false, ◌&&◌, nat_eq, nat_lt, List, [], Option, Some, None, slice_get, refl, ap, sym, inl, inr, arith}
use Rattle.std.specs.List.{list_any, list_all, Contains}
use Rattle.std.proofs.lemmas.Bool.{cases_Bool, or_cases, false≢true, and_from, and_parts, or_left, or_right, ltb-true, eqb-true, lt-ltb, eq-eqb, cases_lt, both_ways}
use Rattle.std.proofs.lemmas.Cmp.{nat_eq_equiv}
use Rattle.std.proofs.lemmas.List.Folds.{list_all_at}
use Rattle.std.proofs.lemmas.Map.Views.{list_any-from_Contains, Contains-from_any}
use Rattle.scasp_syntax.specs.Programs.{pred_of, numbered}
use Rattle.scasp_syntax.specs.Same.{same_bool}
use Rattle.scasp_syntax.specs.declared.atom.Atom.{Atom}
use Rattle.scasp_syntax.specs.declared.atom.Lit.{Lit}
use Rattle.scasp_syntax.specs.declared.atom.Pred.{Pred}
use Rattle.scasp_syntax.specs.declared.clause.Clause.{Clause}
use Rattle.scasp_syntax.specs.declared.clause.Item.{Item}
use Rattle.scasp_syntax.specs.declared.clause.Item.TheVariants.{Call, Equal, Differ, Linear}
use Rattle.scasp_syntax.specs.declared.predicate_map.PredMap.{PredMap}
use Rattle.scasp_syntax.specs.declared.program.Program.{Program}
use Rattle.scasp_graph.specs.Kept.{level_of, is_plus, KeepsLiteral, KeepsMap}
use Rattle.scasp_graph.specs.Map.{keeps_item, keeps_below, keeps, faults_from, MapHolds}
use Rattle.scasp_graph.proofs.MapLemmas.{faults-cons}

-- the sign that a literal asks for is the same where it is positive, and the other where it is negated
sign-is : (s u v : Bool) → same_bool s (same_bool u v) ≡ true → s ≡ true → v ≡ u
sign-is true true true h e = refl
sign-is true true false h e = h
sign-is true false true h e = sym h
sign-is true false false h e = refl
sign-is false u v h e = absurd (false≢true e)

sign-differs : (s u v : Bool) → same_bool s (same_bool u v) ≡ true → s ≡ false → v ≡ u → ⊥
sign-differs false true true h e k = false≢true h
sign-differs false true false h e k = false≢true k
sign-differs false false true h e k = false≢true (sym k)
sign-differs false false false h e k = false≢true h
sign-differs true u v h e k = false≢true (sym e)

sign-from : (s u v : Bool) → (s ≡ true → v ≡ u) → (s ≡ false → v ≡ u → ⊥) → same_bool s (same_bool u v) ≡ true
sign-from true true true same other = refl
sign-from true true false same other = same refl
sign-from true false true same other = sym (same refl)
sign-from true false false same other = refl
sign-from false true true same other = absurd (other refl refl)
sign-from false true false same other = refl
sign-from false false true same other = refl
sign-from false false false same other = absurd (other refl refl)

literal-kept : (map : List PredMap) (p : Pred) (l : Lit) → keeps_item map p (Call l) ≡ true → KeepsLiteral map p l
literal-kept map p l h =
    let x = level_of map (pred_of l.atom) in
    let y = level_of map p in
    elim (or_cases (nat_lt x y) (nat_eq x y && same_bool l.positive (same_bool (is_plus map p) (is_plus map (pred_of l.atom)))) h) [
      | inl low ↦
          (let lower : level_of map (pred_of l.atom) < level_of map p = ltb-true _ _ low in
          record { no_higher = omega arith; same_sign = λ e s. absurd (omega arith); other_sign = λ e s k. absurd (omega arith) })
      | inr level ↦
          (let both = and_parts (nat_eq x y) (same_bool l.positive (same_bool (is_plus map p) (is_plus map (pred_of l.atom)))) level in
          let equal : level_of map (pred_of l.atom) ≡ level_of map p = eqb-true _ _ both.0 in
          record {
            no_higher = omega arith;
            same_sign = λ e s. sign-is l.positive (is_plus map p) (is_plus map (pred_of l.atom)) both.1 s;
            other_sign = λ e s k. sign-differs l.positive (is_plus map p) (is_plus map (pred_of l.atom)) both.1 s k;
          })
    ]

literal-keeps : (map : List PredMap) (p : Pred) (l : Lit) → KeepsLiteral map p l → keeps_item map p (Call l) ≡ true
literal-keeps map p l k =
    let signs = same_bool l.positive (same_bool (is_plus map p) (is_plus map (pred_of l.atom))) in
    let x = level_of map (pred_of l.atom) in
    let y = level_of map p in
    elim (cases_lt (level_of map (pred_of l.atom)) (level_of map p)) [
      | inl lower ↦ or_left (nat_lt x y) (nat_eq x y && signs) (lt-ltb _ _ lower)
      | inr above ↦
          (let equal : level_of map (pred_of l.atom) ≡ level_of map p = omega (arith, k.no_higher) in
          or_right (nat_lt x y) (nat_eq x y && signs)
          (and_from (nat_eq x y) signs (eq-eqb _ _ equal) (sign-from l.positive (is_plus map p) (is_plus map (pred_of l.atom)) (k.same_sign equal) (k.other_sign equal))))
    ]

-- a body keeps the map exactly where each of its literals does
body-kept : (map : List PredMap) (p : Pred) (body : List Item) → list_all (keeps_item map p) body ≡ true → (l : Lit) → Contains body (Call l) → KeepsLiteral map p l
body-kept map p body h l i =
    elim (cases_Bool (keeps_item map p (Call l))) [
      | inl kept ↦ literal-kept map p l kept
      | inr broken ↦ absurd (both_ways (list_all (keeps_item map p) body) (list_all_at (keeps_item map p) body i.0 (Call l) i.1 (ap (keeps_item map p) i.2 ∙ broken)) h)
    ]

body-keeps : (map : List PredMap) (p : Pred) (body : List Item) → ((l : Lit) → Contains body (Call l) → KeepsLiteral map p l) → list_all (keeps_item map p) body ≡ true
body-keeps map p [] h = refl
body-keeps map p (item ∷ items) h =
    and_from (keeps_item map p item) (list_all (keeps_item map p) items)
    (item-keeps item (λ l e. h l (0, omega arith, e)))
    (body-keeps map p items (λ l i. h l (suc i.0, omega (arith, i.1), i.2)))
  where
    item-keeps : (it : Item) → ((l : Lit) → it ≡ Call l → KeepsLiteral map p l) → keeps_item map p it ≡ true
    item-keeps (Call l) k = literal-keeps map p l (k l refl)
    item-keeps (Equal t s) k = refl
    item-keeps (Differ t s) k = refl
    item-keeps (Linear l) k = refl

-- no clause breaks the map exactly where each keeps it
faults-none : (covered : List ℕ) (map : List PredMap) (n : ℕ) (cs : List Clause) → faults_from covered map n cs ≡ [] → (i : ℕ) (c : Clause) → slice_get cs i ≡ Some c → keeps covered map (n + i) c ≡ true
faults-none covered map n [] h i c e = cc
faults-none covered map n (d ∷ cs) h zero c e =
    let same : d ≡ c = cc in
    let here : n + 0 ≡ n = omega arith in
    rw (here, ← same) ((faults-cons covered map n d cs).0 h).0
faults-none covered map n (d ∷ cs) h (suc i) c e =
    let next : n + suc i ≡ (n + 1) + i = omega arith in
    rw next (faults-none covered map (n + 1) cs ((faults-cons covered map n d cs).0 h).1 i c e)

none-faults : (covered : List ℕ) (map : List PredMap) (n : ℕ) (cs : List Clause) → ((i : ℕ) (c : Clause) → slice_get cs i ≡ Some c → keeps covered map (n + i) c ≡ true) → faults_from covered map n cs ≡ []
none-faults covered map n [] h = refl
none-faults covered map n (c ∷ cs) h =
    let here : n + 0 ≡ n = omega arith in
    (faults-cons covered map n c cs).1 (
      rw here at (h 0 c refl),
      none-faults covered map (n + 1) cs (λ i d e. let next : n + suc i ≡ (n + 1) + i = omega arith in rw next at (h (suc i) d e)),
    )

module _ (program : Program) (covered : List ℕ) (map : List PredMap) where
  numbered-keeps : MapHolds program covered map → (n : ℕ) (c : Clause) → numbered program.clauses n ≡ Some c → keeps covered map n c ≡ true
  numbered-keeps h zero c e = cc
  numbered-keeps h (suc n) c e = let same : 1 + n ≡ suc n = omega arith in rw (← same) (faults-none covered map 1 program.clauses h n c e)

  listed : (n : ℕ) → list_any (nat_eq n) covered ≡ true → Contains covered n
  listed n h = Contains-from_any (λ x y e. eqb-true x y e) n covered h

  pub holds-keeps : MapHolds program covered map → KeepsMap program covered map
  holds-keeps h = record {
    denials = λ n c e none.
        elim (or_cases (list_any (nat_eq n) covered) (keeps_below map c.head c.body) (numbered-keeps h n c e)) [
          | inl is ↦ listed n is
          | inr below ↦ absurd (false≢true (rw none at below))
        ];
    rules = λ n c a l e head out i.
        elim (or_cases (list_any (nat_eq n) covered) (keeps_below map c.head c.body) (numbered-keeps h n c e)) [
          | inl is ↦ absurd (out (listed n is))
          | inr below ↦ body-kept map (pred_of a) c.body (rw head at below) l i
        ];
  }

  pub keeps-holds : KeepsMap program covered map → MapHolds program covered map
  keeps-holds k = none-faults covered map 1 program.clauses each
    where
      clause-keeps : (n : ℕ) (c : Clause) → numbered program.clauses n ≡ Some c → (h : Option Atom) → c.head ≡ h → (Contains covered n → ⊥) → keeps_below map h c.body ≡ true
      clause-keeps n c e None head out = absurd (out (k.denials n c e head))
      clause-keeps n c e (Some a) head out = body-keeps map (pred_of a) c.body (λ l i. k.rules n c a l e head out i)

      each : (i : ℕ) (c : Clause) → slice_get program.clauses i ≡ Some c → keeps covered map (1 + i) c ≡ true
      each i c e =
          let same : 1 + i ≡ suc i = omega arith in
          rw same
          (elim (cases_Bool (list_any (nat_eq (suc i)) covered)) [
            | inl is ↦ or_left (list_any (nat_eq (suc i)) covered) (keeps_below map c.head c.body) is
            | inr out ↦
                or_right (list_any (nat_eq (suc i)) covered) (keeps_below map c.head c.body)
                (clause-keeps (suc i) c e c.head refl (λ j. both_ways (list_any (nat_eq (suc i)) covered) out (list_any-from_Contains nat_eq_equiv (suc i) covered j)))
          ])
