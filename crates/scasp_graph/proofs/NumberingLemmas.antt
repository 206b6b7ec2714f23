-- Predicates and their places in a list without repeats.
use Rattle.std.proofs.Common.{◌≡◌, ◌∙◌, ◌∷◌, ◌++◌, ℕ, zero, suc, ◌+◌, ◌<◌, Bool, true, false, ◌&&◌, ◌||◌, not, List, [], length, get_or, Option, Some, None, slice_get, refl, ap, sym, subst, inl, inr, arith, add-one}
use Rattle.std.specs.Prelude.{filter}
use Rattle.std.specs.List.{Contains, list_any, list_all, flat_map}
use Rattle.std.proofs.lemmas.Bool.{cases_Bool, false≢true, and_parts, and_from, or_left, or_right, cond-true, cond-false, not-true}
use Rattle.std.proofs.lemmas.List.Folds.{list_any-append, list_all-append}
use Rattle.std.proofs.lemmas.Option.{get_or_from_slice_get, slice_get_within}
use Rattle.scasp_list.proofs.MemberLemmas.{Contains-flat_map, Contains-here, Contains-there, list_all-member}
use Rattle.scasp_syntax.specs.Programs.{pred_of, body_preds, clause_preds, head_preds, first_occurrences, predicates}
use Rattle.scasp_syntax.specs.Same.{same_pred}
use Rattle.scasp_syntax.specs.declared.atom.Atom.{Atom}
use Rattle.scasp_syntax.specs.declared.atom.Pred.{Pred}
use Rattle.scasp_syntax.specs.declared.clause.Clause.{Clause}
use Rattle.scasp_syntax.specs.declared.clause.Item.{Item}
use Rattle.scasp_syntax.specs.declared.clause.Item.TheVariants.{Call, Equal, Differ, Linear}
use Rattle.scasp_syntax.specs.declared.clause.Query.{Query}
use Rattle.scasp_syntax.specs.declared.program.Program.{Program}
use Rattle.scasp_graph.specs.Numbering.{place_in}
use Rattle.scasp_graph.specs.RightMap.{comes_before}
use Rattle.scasp_graph.specs.Walks.{Dependency, item_dependencies, body_dependencies, clause_dependencies, dependencies, Depends}
use Rattle.scasp_graph.proofs.PredLemmas.{pred_is, pred_same, same_pred-sym}

-- the predicate is in the list
abbrev pub among : List Pred → Pred → Bool
among preds p = list_any (same_pred p) preds

-- no predicate stands twice
abbrev pub are_distinct : List Pred → Bool
are_distinct [] = true
are_distinct (p ∷ ps) = not (among ps p) && are_distinct ps

abbrev pub no_pred : Pred
no_pred = record { minus = false; name = 0; arity = 0 }

abbrev pub pred_at : List Pred → ℕ → Pred
pred_at preds i = get_or preds i no_pred

among-filter : (f : Pred → Bool) (xs : List Pred) (p : Pred) → f p ≡ true → among (filter f xs) p ≡ among xs p
among-filter f [] p h = refl
among-filter f (x ∷ xs) p h = by (f x) refl (among-filter f xs p h)
  where
    by : (b : Bool) → f x ≡ b → among (filter f xs) p ≡ among xs p → among (filter f (x ∷ xs)) p ≡ among (x ∷ xs) p
    by true e r = ap (λ z. among z p) (cond-true (f x) (x ∷ filter f xs) (filter f xs) e) ∙ ap (λ z. same_pred p x || z) r
    by false e r =
        ap (λ z. among z p) (cond-false (f x) (x ∷ filter f xs) (filter f xs) e) ∙ r
        ∙ elim (cases_Bool (same_pred p x)) [
          | inl s ↦ (let k : f p ≡ f x = ap f (pred_is p x s) in absurd (false≢true (sym e ∙ sym k ∙ h)))
          | inr s ↦ sym (ap (λ z. z || among xs p) s)
        ]

among-dropped : (f : Pred → Bool) (xs : List Pred) (p : Pred) → f p ≡ false → among (filter f xs) p ≡ false
among-dropped f [] p h = refl
among-dropped f (x ∷ xs) p h = by (f x) refl (among-dropped f xs p h)
  where
    by : (b : Bool) → f x ≡ b → among (filter f xs) p ≡ false → among (filter f (x ∷ xs)) p ≡ false
    by true e r =
        ap (λ z. among z p) (cond-true (f x) (x ∷ filter f xs) (filter f xs) e)
        ∙ elim (cases_Bool (same_pred p x)) [
          | inl s ↦ (let k : f p ≡ f x = ap f (pred_is p x s) in absurd (false≢true (sym h ∙ k ∙ e)))
          | inr s ↦ ap (λ z. z || among (filter f xs) p) s ∙ r
        ]
    by false e r = ap (λ z. among z p) (cond-false (f x) (x ∷ filter f xs) (filter f xs) e) ∙ r

pub among-first : (xs : List Pred) (p : Pred) → among xs p ≡ true → among (first_occurrences xs) p ≡ true
among-first [] p h = h
among-first (x ∷ xs) p h =
    elim (cases_Bool (same_pred p x)) [
      | inl s ↦ ap (λ z. z || among (filter (λ q. not (same_pred x q)) (first_occurrences xs)) p) s
      | inr s ↦
          (let rest : among xs p ≡ true = sym (ap (λ z. z || among xs p) s) ∙ h in
          let keeps : not (same_pred x p) ≡ true = ap not (same_pred-sym x p ∙ s) in
          ap (λ z. z || among (filter (λ q. not (same_pred x q)) (first_occurrences xs)) p) s
          ∙ among-filter (λ q. not (same_pred x q)) (first_occurrences xs) p keeps ∙ among-first xs p rest)
    ]

distinct-filter : (f : Pred → Bool) (xs : List Pred) → are_distinct xs ≡ true → are_distinct (filter f xs) ≡ true
distinct-filter f [] d = refl
distinct-filter f (x ∷ xs) d =
    let p = and_parts (not (among xs x)) (are_distinct xs) d in by (f x) refl (distinct-filter f xs p.1) p.0
  where
    by : (b : Bool) → f x ≡ b → are_distinct (filter f xs) ≡ true → not (among xs x) ≡ true → are_distinct (filter f (x ∷ xs)) ≡ true
    by true e r n =
        ap are_distinct (cond-true (f x) (x ∷ filter f xs) (filter f xs) e)
        ∙ and_from (not (among (filter f xs) x)) (are_distinct (filter f xs)) (ap not (among-filter f xs x e ∙ not-true (among xs x) n)) r
    by false e r n = ap are_distinct (cond-false (f x) (x ∷ filter f xs) (filter f xs) e) ∙ r

pub distinct-first : (xs : List Pred) → are_distinct (first_occurrences xs) ≡ true
distinct-first [] = refl
distinct-first (x ∷ xs) =
    let f : Pred → Bool = λ q. not (same_pred x q) in
    and_from (not (among (filter (λ q. not (same_pred x q)) (first_occurrences xs)) x)) (are_distinct (filter (λ q. not (same_pred x q)) (first_occurrences xs)))
    (ap not (among-dropped (λ q. not (same_pred x q)) (first_occurrences xs) x (ap not (pred_same x))))
    (distinct-filter (λ q. not (same_pred x q)) (first_occurrences xs) (distinct-first xs))

pub among-at : (xs : List Pred) (i : ℕ) → i < length xs → among xs (pred_at xs i) ≡ true
among-at [] i h = absurd (omega (arith, h))
among-at (x ∷ xs) zero h = or_left (same_pred x x) (among xs x) (pred_same x)
among-at (x ∷ xs) (suc i) h = or_right (same_pred (pred_at xs i) x) (among xs (pred_at xs i)) (among-at xs i (omega (arith, h)))

differs-at : (x : Pred) (xs : List Pred) (j : ℕ) → not (among xs x) ≡ true → j < length xs → same_pred (pred_at xs j) x ≡ false
differs-at x xs j n b =
    elim (cases_Bool (same_pred (pred_at xs j) x)) [
      | inl s ↦ (let k : among xs x ≡ true = ap (among xs) (sym (pred_is (pred_at xs j) x s)) ∙ among-at xs j b in absurd (false≢true (sym (not-true (among xs x) n) ∙ k)))
      | inr s ↦ s
    ]

-- the place of a predicate of the list
pub place-below : (xs : List Pred) (p : Pred) → among xs p ≡ true → (place_in xs p < length xs) × (pred_at xs (place_in xs p) ≡ p)
place-below [] p h = absurd (false≢true h)
place-below (x ∷ xs) p h =
    elim (cases_Bool (same_pred p x)) [
      | inl s ↦
          (let e : place_in (x ∷ xs) p ≡ 0 = cond-true (same_pred p x) 0 (place_in xs p + 1) s in
          (omega (arith, e), ap (pred_at (x ∷ xs)) e ∙ sym (pred_is p x s)))
      | inr s ↦
          (let e : place_in (x ∷ xs) p ≡ suc (place_in xs p) = cond-false (same_pred p x) 0 (place_in xs p + 1) s ∙ add-one (place_in xs p) in
          let rest : among xs p ≡ true = sym (ap (λ z. z || among xs p) s) ∙ h in
          let r = place-below xs p rest in
          let b = r.0 in
          (omega (arith, e, b), ap (pred_at (x ∷ xs)) e ∙ r.1))
    ]

pub place-at : (xs : List Pred) (i : ℕ) → are_distinct xs ≡ true → i < length xs → place_in xs (pred_at xs i) ≡ i
place-at [] i d h = absurd (omega (arith, h))
place-at (x ∷ xs) zero d h = cond-true (same_pred x x) 0 (place_in xs x + 1) (pred_same x)
place-at (x ∷ xs) (suc i) d h =
    let p = and_parts (not (among xs x)) (are_distinct xs) d in
    let b : i < length xs = omega (arith, h) in
    let r = place-at xs i p.1 b in
    elim (cases_Bool (same_pred (pred_at xs i) x)) [
      | inl s ↦
          (let k : among xs x ≡ true = ap (among xs) (sym (pred_is (pred_at xs i) x s)) ∙ among-at xs i b in
          absurd (false≢true (sym (not-true (among xs x) p.0) ∙ k)))
      | inr s ↦ cond-false (same_pred (pred_at xs i) x) 0 (place_in xs (pred_at xs i) + 1) s ∙ add-one (place_in xs (pred_at xs i)) ∙ ap suc r
    ]

-- what stands at an earlier place comes before
pub before-at : (xs : List Pred) (i j : ℕ) → are_distinct xs ≡ true → i < j → j < length xs → comes_before xs (pred_at xs i) (pred_at xs j) ≡ true
before-at [] i j d l h = absurd (omega (arith, h))
before-at (x ∷ xs) i zero d l h = absurd (omega (arith, l))
before-at (x ∷ xs) zero (suc j) d l h =
    let p = and_parts (not (among xs x)) (are_distinct xs) d in
    cond-false (same_pred (pred_at xs j) x) false (same_pred x x || comes_before xs x (pred_at xs j)) (differs-at x xs j p.0 (omega (arith, h)))
    ∙ or_left (same_pred x x) (comes_before xs x (pred_at xs j)) (pred_same x)
before-at (x ∷ xs) (suc i) (suc j) d l h =
    let p = and_parts (not (among xs x)) (are_distinct xs) d in
    cond-false (same_pred (pred_at xs j) x) false (same_pred (pred_at xs i) x || comes_before xs (pred_at xs i) (pred_at xs j)) (differs-at x xs j p.0 (omega (arith, h)))
    ∙ or_right (same_pred (pred_at xs i) x) (comes_before xs (pred_at xs i) (pred_at xs j)) (before-at xs i j p.1 (omega (arith, l)) (omega (arith, h)))

-- what stands at a place is a member
pub Contains-from_get : {X : Type 0} → (xs : List X) (i : ℕ) (x : X) → slice_get xs i ≡ Some x → Contains xs x
Contains-from_get xs i x h = (i, slice_get_within xs i x h, get_or_from_slice_get xs i x x h)

-- both predicates of the dependency are in the list
abbrev ends_among : List Pred → Dependency → Bool
ends_among preds d = among preds d.from && among preds d.to

body-ends : (preds : List Pred) (p : Pred) (body : List Item) → among preds p ≡ true → ((q : Pred) → among (body_preds body) q ≡ true → among preds q ≡ true) → list_all (ends_among preds) (flat_map (item_dependencies p) body) ≡ true
body-ends preds p [] h k = refl
body-ends preds p (Call l ∷ items) h k =
    and_from (among preds p && among preds (pred_of l.atom)) (list_all (ends_among preds) (flat_map (item_dependencies p) items))
    (and_from (among preds p) (among preds (pred_of l.atom)) h (k (pred_of l.atom) (or_left (same_pred (pred_of l.atom) (pred_of l.atom)) (among (body_preds items) (pred_of l.atom)) (pred_same (pred_of l.atom)))))
    (body-ends preds p items h (λ q m. k q (or_right (same_pred q (pred_of l.atom)) (among (body_preds items) q) m)))
body-ends preds p (Equal t s ∷ items) h k = body-ends preds p items h k
body-ends preds p (Differ t s ∷ items) h k = body-ends preds p items h k
body-ends preds p (Linear l ∷ items) h k = body-ends preds p items h k

clause-ends : (preds : List Pred) (head : Option Atom) (body : List Item) → ((q : Pred) → among (head_preds head ++ body_preds body) q ≡ true → among preds q ≡ true) → list_all (ends_among preds) (body_dependencies head body) ≡ true
clause-ends preds None body k = refl
clause-ends preds (Some a) body k =
    body-ends preds (pred_of a) body (k (pred_of a) (or_left (same_pred (pred_of a) (pred_of a)) (among (body_preds body) (pred_of a)) (pred_same (pred_of a))))
    (λ q m. k q (or_right (same_pred q (pred_of a)) (among (body_preds body) q) m))

clauses-ends : (preds : List Pred) (cs : List Clause) → ((q : Pred) → among (flat_map clause_preds cs) q ≡ true → among preds q ≡ true) → list_all (ends_among preds) (flat_map clause_dependencies cs) ≡ true
clauses-ends preds [] k = refl
clauses-ends preds (c ∷ cs) k =
    list_all-append (ends_among preds) (clause_dependencies c) (flat_map clause_dependencies cs)
    ∙ and_from (list_all (ends_among preds) (clause_dependencies c)) (list_all (ends_among preds) (flat_map clause_dependencies cs))
    (clause-ends preds c.head c.body (λ q m. k q (list_any-append (same_pred q) (clause_preds c) (flat_map clause_preds cs) ∙ or_left (among (clause_preds c) q) (among (flat_map clause_preds cs) q) m)))
    (clauses-ends preds cs (λ q m. k q (list_any-append (same_pred q) (clause_preds c) (flat_map clause_preds cs) ∙ or_right (among (clause_preds c) q) (among (flat_map clause_preds cs) q) m)))

-- the ends of each dependency are predicates of the program
pub depends-among : (program : Program) (p q : Pred) (b : Bool) → Depends program p b q → (among (predicates program) p ≡ true) × (among (predicates program) q ≡ true)
depends-among program p q b e =
    let cs : List Pred = flat_map clause_preds program.clauses in
    let qs : List Pred = flat_map (λ (r : Query). body_preds r.body) program.queries in
    let all = clauses-ends (predicates program) program.clauses
    (λ r m. among-first (cs ++ qs) r (list_any-append (same_pred r) cs qs ∙ or_left (among cs r) (among qs r) m)) in
    let d : Dependency = record { from = p; to = q; negated = b } in
    let t = list_all-member (ends_among (predicates program)) (dependencies program) d all e in
    and_parts (among (predicates program) p) (among (predicates program) q) t

body-depends : (p q : Pred) (body : List Item) → among (body_preds body) q ≡ true → (b : Bool) × Contains (flat_map (item_dependencies p) body) (record { from = p; to = q; negated = b })
body-depends p q [] h = absurd (false≢true h)
body-depends p q (Call l ∷ items) h =
    let first : Dependency = record { from = p; to = pred_of l.atom; negated = not l.positive } in
    elim (cases_Bool (same_pred q (pred_of l.atom))) [
      | inl s ↦
          (let e = pred_is q (pred_of l.atom) s in
          (not l.positive, subst (λ z. Contains (first ∷ flat_map (item_dependencies p) items) (record { from = p; to = z; negated = not l.positive })) (sym e) (Contains-here first (flat_map (item_dependencies p) items))))
      | inr s ↦
          (let rest : among (body_preds items) q ≡ true = sym (ap (λ z. z || among (body_preds items) q) s) ∙ h in
          let r = body-depends p q items rest in
          (r.0, Contains-there first (flat_map (item_dependencies p) items) (record { from = p; to = q; negated = r.0 }) r.1))
    ]
body-depends p q (Equal t s ∷ items) h = body-depends p q items h
body-depends p q (Differ t s ∷ items) h = body-depends p q items h
body-depends p q (Linear l ∷ items) h = body-depends p q items h

-- what a rule's body makes, the program has
pub clause-depends : (program : Program) (c : Clause) (a : Atom) (d : Dependency) → Contains program.clauses c → c.head ≡ Some a → Contains (flat_map (item_dependencies (pred_of a)) c.body) d → Contains (dependencies program) d
clause-depends program c a d i h k =
    let P : Option Atom → Type 0 = λ o. Contains (body_dependencies o c.body) d in
    Contains-flat_map clause_dependencies program.clauses c d i (subst P (sym h) k)

-- the head's predicate depends on each of the body
pub rule-depends : (program : Program) (i : ℕ) (c : Clause) (a : Atom) (q : Pred) → slice_get program.clauses i ≡ Some c → c.head ≡ Some a → among (body_preds c.body) q ≡ true → (b : Bool) × Depends program (pred_of a) b q
rule-depends program i c a q s h m =
    let r = body-depends (pred_of a) q c.body m in
    (r.0, clause-depends program c a (record { from = pred_of a; to = q; negated = r.0 }) (Contains-from_get program.clauses i c s) h r.1)
