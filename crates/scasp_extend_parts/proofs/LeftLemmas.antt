-- What is left of the instances of a clause, one way after the other.
use Rattle.std.proofs.Common.{◌≡◌, ◌∙◌, ◌∷◌, ◌++◌, ℕ, zero, suc, ◌+◌, ◌<◌, ◌≤◌, ◌^◌, Bool, true, false, ◌||◌, not, List, [], Option, None, Some, length, slice_get, take, take_all, drop, get_or, arith, add-one, refl, ap, sym, subst, append_assoc, append-nil}
use Rattle.std.specs.List.{filter, flat_map, list_any}
use Rattle.std.proofs.lemmas.Bool.{cond-true, cond-false, or_from, or_left, or_right}
use Rattle.std.proofs.lemmas.Grind.{flat_map-append}
use Rattle.scasp_closure.proofs.ReadingLemmas.{take-pushed}
use Rattle.scasp_extend_levels.specs.Sorted.{IsSorted}
use Rattle.scasp_extend_levels.specs.declared.buckets.Levels.{Levels}
use Rattle.scasp_ground.specs.Bounded.{all_tested, body_tests}
use Rattle.scasp_ground.proofs.InstanceLemmas.{kept_of, kept-all, kept-false, kept-true}
use Rattle.scasp_model.specs.Grounding.{choices, instance_of, instances}
use Rattle.scasp_model.specs.Residual.{is_known, is_known_false, is_known_true, residual, residual_of}
use Rattle.scasp_model.specs.declared.program.GroundClause.{GroundClause}
use Rattle.scasp_syntax.specs.Tm.{Tm}
use Rattle.scasp_syntax.specs.declared.predicate_map.PredMap.{PredMap}
use Rattle.scasp_syntax.specs.Values.{giving}
use Rattle.scasp_syntax.specs.declared.atom.Atom.{Atom}
use Rattle.scasp_syntax.specs.declared.atom.Lit.{Lit}
use Rattle.scasp_syntax.specs.declared.clause.Clause.{Clause}
use Rattle.scasp_extend_parts.specs.Inside.{body_left}

-- one item more was gone through, for which the test does not hold
pub past-more : {A : Type 0} (f : A → Bool) (xs : List A) (i : ℕ) (x : A) (all : Bool) → i < length xs → x ≡ get_or xs i x → f x ≡ false
    → list_any f (drop i xs) ≡ all → list_any f (drop (i + 1) xs) ≡ all
past-more {A = A} f xs i x all h e n m = ap (λ k. list_any f (drop k xs)) (add-one i) ∙ go xs i h e ∙ m
  where
    go : (ys : List A) (j : ℕ) → j < length ys → x ≡ get_or ys j x → list_any f (drop (suc j) ys) ≡ list_any f (drop j ys)
    go [] j h e = absurd (omega (arith, h))
    go (y ∷ ys) zero h e = sym (ap (λ b. b || list_any f ys) (ap f (sym e) ∙ n))
    go (y ∷ ys) (suc j) h e = go ys j (omega (arith, h)) e

pub residual-append : (t f : List Atom) (g h : List GroundClause) → residual t f (g ++ h) ≡ residual t f g ++ residual t f h
residual-append t f g h = flat_map-append (residual_of t f) g h

module _ (t f : List Atom) where
  -- what is left of one clause
  known-none : (c : GroundClause) → is_known t f c.head ≡ true → residual_of t f c ≡ []
  known-none c e = cond-true (is_known t f c.head || list_any (is_known_false t f) c.body) [] _ (or_left (is_known t f c.head) (list_any (is_known_false t f) c.body) e)

  wrong-none : (c : GroundClause) → body_left t f c.body ≡ None → residual_of t f c ≡ []
  wrong-none c e = by (list_any (is_known_false t f) c.body) refl
    where
      by : (b : Bool) → list_any (is_known_false t f) c.body ≡ b → residual_of t f c ≡ []
      by true w = cond-true (is_known t f c.head || list_any (is_known_false t f) c.body) [] _ (or_right (is_known t f c.head) (list_any (is_known_false t f) c.body) w)
      by false w =
          let some : Some (filter (λ l. not (is_known_true t f l)) c.body) ≡ None =
          sym (cond-false (list_any (is_known_false t f) c.body) None (Some (filter (λ l. not (is_known_true t f l)) c.body)) w) ∙ e in
          cc

  kept-one : (c : GroundClause) (body : List Lit) → is_known t f c.head ≡ false → body_left t f c.body ≡ Some body
      → residual_of t f c ≡ record { head = c.head; body = body } ∷ []
  kept-one c body h e = by (list_any (is_known_false t f) c.body) refl
    where
      kept : List Lit
      kept = filter (λ l. not (is_known_true t f l)) c.body

      by : (b : Bool) → list_any (is_known_false t f) c.body ≡ b → residual_of t f c ≡ record { head = c.head; body = body } ∷ []
      by true w = let none : None ≡ Some body = sym (cond-true (list_any (is_known_false t f) c.body) None (Some kept) w) ∙ e in cc
      by false w =
          let same : Some kept ≡ Some body = sym (cond-false (list_any (is_known_false t f) c.body) None (Some kept) w) ∙ e in
          let is : kept ≡ body = cc in
          cond-false (is_known t f c.head || list_any (is_known_false t f) c.body) [] (record { head = c.head; body = kept } ∷ [])
          (or_from (is_known t f c.head) (list_any (is_known_false t f) c.body) h w)
          ∙ ap (λ (b : List Lit). record { head = c.head; body = b } ∷ []) is

  pub put-known : (c : GroundClause) (map : List PredMap) (made : Levels) (g : List GroundClause) → is_known t f c.head ≡ true → IsSorted map made g
      → IsSorted map made (g ++ residual_of t f c)
  put-known c map made g e s =
      subst (λ (z : List GroundClause). IsSorted map made z) (sym (append-nil g) ∙ ap (λ z. g ++ z) (sym (known-none c e))) s

  pub put-wrong : (c : GroundClause) (map : List PredMap) (made : Levels) (g : List GroundClause) → body_left t f c.body ≡ None → IsSorted map made g
      → IsSorted map made (g ++ residual_of t f c)
  put-wrong c map made g e s =
      subst (λ (z : List GroundClause). IsSorted map made z) (sym (append-nil g) ∙ ap (λ z. g ++ z) (sym (wrong-none c e))) s

  pub put-kept : (c : GroundClause) (body : List Lit) (map : List PredMap) (made : Levels) (g : List GroundClause) → is_known t f c.head ≡ false
      → body_left t f c.body ≡ Some body → IsSorted map made (g ++ record { head = c.head; body = body } ∷ [])
      → IsSorted map made (g ++ residual_of t f c)
  put-kept c body map made g h e s =
      subst (λ (z : List GroundClause). IsSorted map made z) (ap (λ z. g ++ z) (sym (kept-one c body h e))) s

  -- one instance more was put, where its tests are true
  pub left-true : (c : Clause) (ways : List (List Tm)) (i : ℕ) (ts : List Tm) (map : List PredMap) (made new : Levels) (g : List GroundClause) → slice_get ways i ≡ Some ts
      → all_tested (giving ts) (body_tests c) ≡ Some true
      → ((h : List GroundClause) → IsSorted map made h → IsSorted map new (h ++ residual_of t f (instance_of c (giving ts))))
      → IsSorted map made (g ++ residual t f (kept_of c (take i ways))) → IsSorted map new (g ++ residual t f (kept_of c (take (i + 1) ways)))
  left-true c ways i ts map made new g e s n m =
      let here : GroundClause = instance_of c (giving ts) in
      let kept : List GroundClause = kept_of c (take i ways) in
      subst (λ (z : List GroundClause). IsSorted map new z)
      (append_assoc g (residual t f kept) (residual_of t f here)
      ∙ ap (λ z. g ++ z)
      (ap (λ z. residual t f kept ++ z) (sym (append-nil (residual_of t f here)))
      ∙ sym (residual-append t f kept (here ∷ []))
      ∙ ap (residual t f) (kept-true c ways i ts [] kept e s refl)))
      (n (g ++ residual t f kept) m)

  pub left-false : (c : Clause) (ways : List (List Tm)) (i : ℕ) (ts : List Tm) (map : List PredMap) (made : Levels) (g : List GroundClause) → slice_get ways i ≡ Some ts
      → all_tested (giving ts) (body_tests c) ≡ Some false
      → IsSorted map made (g ++ residual t f (kept_of c (take i ways))) → IsSorted map made (g ++ residual t f (kept_of c (take (i + 1) ways)))
  left-false c ways i ts map made g e s m =
      subst (λ (z : List GroundClause). IsSorted map made (g ++ residual t f z)) (kept-false c ways i ts [] (kept_of c (take i ways)) e s refl) m

  -- all ways were gone through
  pub left-all : (c : Clause) (d : List Tm) (count i : ℕ) (map : List PredMap) (made : Levels) (g : List GroundClause) → count ≡ length d ^ c.vars → count ≤ i
      → IsSorted map made (g ++ residual t f (kept_of c (take i (choices d c.vars)))) → IsSorted map made (g ++ residual t f (instances d c))
  left-all c d count i map made g e h m =
      subst (λ (z : List GroundClause). IsSorted map made (g ++ residual t f z)) (kept-all c d count i [] (kept_of c (take i (choices d c.vars))) e h refl) m

  -- clause by clause
  pub clauses-left : (clauses : List Clause) (d : List Tm) → flat_map (λ c. residual t f (instances d c)) clauses ≡ residual t f (flat_map (instances d) clauses)
  clauses-left [] d = refl
  clauses-left (c ∷ clauses) d =
      ap (λ z. residual t f (instances d c) ++ z) (clauses-left clauses d)
      ∙ sym (residual-append t f (instances d c) (flat_map (instances d) clauses))

  -- one clause more was gone through
  pub clauses-more : (clauses : List Clause) (d : List Tm) (i : ℕ) (c : Clause) (map : List PredMap) (made new : Levels) → i < length clauses → c ≡ get_or clauses i c
      → ((h : List GroundClause) → IsSorted map made h → IsSorted map new (h ++ residual t f (instances d c)))
      → IsSorted map made (flat_map (λ k. residual t f (instances d k)) (take i clauses))
      → IsSorted map new (flat_map (λ k. residual t f (instances d k)) (take (i + 1) clauses))
  clauses-more clauses d i c map made new h e n m =
      let of : Clause → List GroundClause = λ k. residual t f (instances d k) in
      subst (λ (z : List GroundClause). IsSorted map new z)
      (ap (λ z. flat_map of (take i clauses) ++ z) (sym (append-nil (of c)))
      ∙ sym (flat_map-append of (take i clauses) (c ∷ []))
      ∙ ap (flat_map of) (sym (take-pushed clauses i c h e)))
      (n (flat_map of (take i clauses)) m)

  -- all clauses were gone through
  pub clauses-ended : (items clauses : List Clause) (d : List Tm) (i : ℕ) (map : List PredMap) (made : Levels) → items ≡ clauses → length items ≤ i
      → IsSorted map made (flat_map (λ k. residual t f (instances d k)) (take i items))
      → IsSorted map made (residual t f (flat_map (instances d) clauses))
  clauses-ended items clauses d i map made e h m =
      subst (λ (z : List GroundClause). IsSorted map made z)
      (ap (flat_map (λ k. residual t f (instances d k))) (take_all i items h ∙ e) ∙ clauses-left clauses d) m
