-- Lists of predicates without repeats.
use Rattle.std.proofs.Common.{ℕ, ◌+◌, ◌<◌, length, get_or, drop, ◌≡◌, ◌∙◌, ◌∷◌, ◌++◌, Bool, true, false, ◌&&◌, ◌||◌, not, List, [], refl, ap, sym, subst, inl, inr, append_assoc}
use Rattle.std.specs.Prelude.{filter, nat_eq}
use Rattle.std.specs.List.{list_any, flat_map}
use Rattle.std.proofs.lemmas.Bool.{and_parts, and_from, cond-true, cond-false, cases_Bool, false≢true}
use Rattle.std.proofs.lemmas.Bool.Decides.{Decides-eqb}
use Rattle.std.proofs.lemmas.List.{append-nil, at_drop_more}
use Rattle.std.proofs.lemmas.List.Folds.{list_any-append}
use Rattle.scasp_syntax.specs.Programs.{clause_preds, first_occurrences, predicates}
use Rattle.scasp_syntax.specs.Same.{same_bool, same_pred}
use Rattle.scasp_syntax.specs.declared.atom.Pred.{Pred}
use Rattle.scasp_syntax.specs.declared.program.Program.{Program}
use Rattle.scasp_graph.specs.Inside.Growing.{grown, with_pred, query_preds}

pub bool_is : (a b : Bool) → same_bool a b ≡ true → a ≡ b
bool_is true b e = sym e
bool_is false true e = cc
bool_is false false e = refl

bool_same : (a : Bool) → same_bool a a ≡ true
bool_same true = refl
bool_same false = refl

pub pred_is : (p q : Pred) → same_pred p q ≡ true → p ≡ q
pred_is p q e =
    let h = and_parts (same_bool p.minus q.minus && nat_eq p.name q.name) (nat_eq p.arity q.arity) e in
    let k = and_parts (same_bool p.minus q.minus) (nat_eq p.name q.name) h.0 in
    let m = bool_is p.minus q.minus k.0 in
    let n = (Decides-eqb p.name q.name).0 k.1 in
    let a = (Decides-eqb p.arity q.arity).0 h.1 in
    λ i. record { minus = m i; name = n i; arity = a i }

pub pred_same : (p : Pred) → same_pred p p ≡ true
pred_same p =
    and_from (same_bool p.minus p.minus && nat_eq p.name p.name) (nat_eq p.arity p.arity)
    (and_from (same_bool p.minus p.minus) (nat_eq p.name p.name) (bool_same p.minus) ((Decides-eqb p.name p.name).1 refl))
    ((Decides-eqb p.arity p.arity).1 refl)

pub pred_differs : (p q : Pred) → same_pred p q ≡ false → p ≡ q → ⊥
pred_differs p q e h =
    let P : Pred → Type 0 = λ z. same_pred p z ≡ false in
    let k : same_pred p p ≡ false = subst P (sym h) e in
    false≢true (sym k ∙ pred_same p)

pub same_pred-sym : (p q : Pred) → same_pred p q ≡ same_pred q p
same_pred-sym p q =
    elim (cases_Bool (same_pred p q)) [
      | inl e ↦ (let h = pred_is p q e in ap (λ z. same_pred z q) h ∙ ap (λ z. same_pred q z) (sym h))
      | inr e ↦
          elim (cases_Bool (same_pred q p)) [
            | inl f ↦ absurd (pred_differs p q e (sym (pred_is q p f)))
            | inr f ↦ e ∙ sym f
          ]
    ]

-- two filters in one
filter-filter : (f g h : Pred → Bool) (xs : List Pred) → ((q : Pred) → h q ≡ (g q && f q)) → filter f (filter g xs) ≡ filter h xs
filter-filter f g h [] k = refl
filter-filter f g h (x ∷ xs) k =
    let rest : filter f (filter g xs) ≡ filter h xs = filter-filter f g h xs k in
    by (g x) (f x) refl refl (k x) rest
  where
    by : (b c : Bool) → g x ≡ b → f x ≡ c → h x ≡ (g x && f x) → filter f (filter g xs) ≡ filter h xs → filter f (filter g (x ∷ xs)) ≡ filter h (x ∷ xs)
    by true true e d s r = rw (s, e, d, r) refl
    by true false e d s r = rw (s, e, d, r) refl
    by false c e d s r = rw (s, e, r) refl

-- the predicates that the list lacks
abbrev lacks : List Pred → Pred → Bool
lacks seen q = not (list_any (same_pred q) seen)

nor : (a b : Bool) → not (a || (b || false)) ≡ (not b && not a)
nor true true = refl
nor true false = refl
nor false true = refl
nor false false = refl

lacks-push : (seen : List Pred) (p q : Pred) → lacks (seen ++ p ∷ []) q ≡ (not (same_pred p q) && lacks seen q)
lacks-push seen p q =
    ap not (list_any-append (same_pred q) seen (p ∷ []))
    ∙ nor (list_any (same_pred q) seen) (same_pred q p)
    ∙ ap (λ z. not z && lacks seen q) (same_pred-sym q p)

lacks_known : (seen : List Pred) (p q : Pred) → list_any (same_pred p) seen ≡ true → lacks seen q ≡ (not (same_pred p q) && lacks seen q)
lacks_known seen p q e =
    elim (cases_Bool (same_pred p q)) [
      | inl s ↦
          (let P : Pred → Type 0 = λ z. list_any (same_pred z) seen ≡ true in
          let k : list_any (same_pred q) seen ≡ true = subst P (pred_is p q s) e in rw (s, k) refl)
      | inr s ↦ rw s refl
    ]

-- a list that grows by the predicates that it lacks gets their first occurrences
pub grown-is : (seen xs : List Pred) → grown seen xs ≡ seen ++ filter (lacks seen) (first_occurrences xs)
grown-is seen [] = sym (append-nil seen)
grown-is seen (p ∷ ps) =
    by (list_any (same_pred p) seen) refl (grown-is seen ps) (grown-is (seen ++ p ∷ []) ps)
  where
    others : List Pred
    others = filter (λ x. not (same_pred p x)) (first_occurrences ps)

    by : (b : Bool) → list_any (same_pred p) seen ≡ b → grown seen ps ≡ seen ++ filter (lacks seen) (first_occurrences ps) → grown (seen ++ p ∷ []) ps ≡ (seen ++ p ∷ []) ++ filter (lacks (seen ++ p ∷ [])) (first_occurrences ps) → grown seen (p ∷ ps) ≡ seen ++ filter (lacks seen) (first_occurrences (p ∷ ps))
    by true e here there =
        let w : with_pred seen p ≡ seen = cond-true (list_any (same_pred p) seen) seen (seen ++ p ∷ []) e in
        let k : filter (lacks seen) (filter (λ x. not (same_pred p x)) (first_occurrences ps)) ≡ filter (lacks seen) (first_occurrences ps) =
        filter-filter (lacks seen) (λ x. not (same_pred p x)) (lacks seen) (first_occurrences ps) (λ q. lacks_known seen p q e) in
        let m : lacks seen p ≡ false = ap not e in
        ap (λ z. grown z ps) w ∙ here ∙ ap (λ z. seen ++ z) (sym (cond-false (lacks seen p) _ _ m ∙ k))
    by false e here there =
        let w : with_pred seen p ≡ seen ++ p ∷ [] = cond-false (list_any (same_pred p) seen) seen (seen ++ p ∷ []) e in
        let k : filter (lacks seen) (filter (λ x. not (same_pred p x)) (first_occurrences ps)) ≡ filter (lacks (seen ++ p ∷ [])) (first_occurrences ps) =
        filter-filter (lacks seen) (λ x. not (same_pred p x)) (lacks (seen ++ p ∷ [])) (first_occurrences ps) (lacks-push seen p) in
        let m : lacks seen p ≡ true = ap not e in
        ap (λ z. grown z ps) w ∙ there ∙ append_assoc seen (p ∷ []) (filter (lacks (seen ++ p ∷ [])) (first_occurrences ps)) ∙ ap (λ z. seen ++ z) (sym (cond-true (lacks seen p) _ _ m ∙ ap (λ z. p ∷ z) k))

pub grown_append : (seen xs ys : List Pred) → grown seen (xs ++ ys) ≡ grown (grown seen xs) ys
grown_append seen [] ys = refl
grown_append seen (x ∷ xs) ys = grown_append (with_pred seen x) xs ys

-- the step of a loop over a list whose items have predicates
pub grown-step : {X : Type 0} (f : X → List Pred) (xs : List X) (i : ℕ) (x : X) (seen all : List Pred) → i < length xs → x ≡ get_or xs i x → grown seen (flat_map f (drop i xs)) ≡ all → grown (grown seen (f x)) (flat_map f (drop (i + 1) xs)) ≡ all
grown-step f xs i x seen all h e k =
    let d : grown seen (flat_map f (drop i xs)) ≡ grown seen (f (get_or xs i x) ++ flat_map f (drop (i + 1) xs)) =
    at_drop_more (λ ys. grown seen (flat_map f ys)) xs i x h in
    ap (λ z. grown (grown seen (f z)) (flat_map f (drop (i + 1) xs))) e
    ∙ sym (grown_append seen (f (get_or xs i x)) (flat_map f (drop (i + 1) xs))) ∙ sym d ∙ k

filter-all : (f : Pred → Bool) (xs : List Pred) → ((q : Pred) → f q ≡ true) → filter f xs ≡ xs
filter-all f [] h = refl
filter-all f (x ∷ xs) h = rw (h x, filter-all f xs h) refl

-- the predicates of a program, from those of its clauses and of its queries
pub predicates-grown : (program : Program) (none preds all : List Pred) → none ≡ [] → preds ≡ grown none (flat_map clause_preds program.clauses) → all ≡ grown preds (flat_map query_preds program.queries) → all ≡ predicates program
predicates-grown program none preds all n e f =
    let cs : List Pred = flat_map clause_preds program.clauses in
    let qs : List Pred = flat_map query_preds program.queries in
    f ∙ ap (λ z. grown z qs) (e ∙ ap (λ z. grown z cs) n) ∙ sym (grown_append [] cs qs) ∙ grown-is [] (cs ++ qs) ∙ filter-all (lacks []) (first_occurrences (cs ++ qs)) (λ q. refl)
