-- Levels one after the other: those that no head has add nothing.
use Rattle.std.proofs.Common.{◌≡◌, ◌∙◌, ◌∷◌, ◌++◌, ℕ, zero, suc, ◌+◌, ◌-◌, ◌<◌, ◌≤◌, Bool, true, false, ◌&&◌, ◌||◌, not, nat_eq, nat_lt, cond, List, [], Option, None, Some, refl, ap, sym, subst, inl, inr, arith, add-zero, add-suc, add-one, append-nil, length}
use Rattle.std.specs.Prelude.{IsSome}
use Rattle.std.specs.BTreeMap.{BTreeMap, btree_map_len, get, is_at}
use Rattle.std.specs.Map.{lookup}
use Rattle.std.specs.List.{filter, flat_map, list_any}
use Rattle.std.specs.Ordering.{is_eq, is_gt, nat_cmp}
use Rattle.std.proofs.Math.Nat.{le-max_left, le-max_right}
use Rattle.std.proofs.lemmas.Bool.{false≢true, cases_Bool, cond-true, cond-false, ltb-true, ltb-false, false_from_ne_true}
use Rattle.std.proofs.lemmas.Bool.Decides.{Decides-eqb, nat_tests}
use mathlib.Core.Path.{fun_ext}
use Rattle.scasp_graph.specs.Map.{entry_of}
use Rattle.scasp_model.specs.Atoms.{among, SameAtoms}
use Rattle.scasp_model.specs.Levelled.{above_head, above_heads, at_level, below_level, is_lower, levelled_model, read_lower, signed_model}
use Rattle.scasp_model.specs.Programs.{head_is, rules_for}
use Rattle.scasp_model.specs.Stable.{is_true_in}
use Rattle.scasp_model.specs.declared.program.GroundClause.{GroundClause}
use Rattle.scasp_sound.specs.MapLevels.{level_of, plus_of}
use Rattle.scasp_syntax.specs.Programs.{pred_of}
use Rattle.scasp_syntax.specs.declared.atom.Atom.{Atom}
use Rattle.scasp_syntax.specs.declared.atom.Lit.{Lit}
use Rattle.scasp_syntax.specs.declared.atom.Pred.{Pred}
use Rattle.scasp_syntax.specs.declared.predicate_map.PredMap.{PredMap}
use Rattle.scasp_extend_levels.specs.Numbered.{StandAll}
use Rattle.scasp_extend_levels.specs.Sorted.{StandIn}
use Rattle.scasp_extend_levels.specs.declared.numbered.Level.{Level}
use Rattle.scasp_extend_levels.proofs.BucketLemmas.{in-none, in-some, is_eq-nat}
use Rattle.scasp_extend_levels.proofs.SetLemmas.{append-same}

-- the literals that are read are those of lower levels, which ask only which atoms are there
true-same : (m n : List Atom) → SameAtoms m n → (l : Lit) → is_true_in m l ≡ is_true_in n l
true-same m n e l = ap (λ z. cond l.positive z (not z)) (e l.atom)

module _ (level : Atom → ℕ) (n : ℕ) where
  wrong-same : (m k : List Atom) → SameAtoms m k → (body : List Lit)
      → list_any (λ l. is_lower level n l && not (is_true_in m l)) body ≡ list_any (λ l. is_lower level n l && not (is_true_in k l)) body
  wrong-same m k e [] = refl
  wrong-same m k e (l ∷ body) =
      ap (λ z. (is_lower level n l && not z) || list_any (λ j. is_lower level n j && not (is_true_in m j)) body) (true-same m k e l)
      ∙ ap (λ z. (is_lower level n l && not (is_true_in k l)) || z) (wrong-same m k e body)

  read-same : (m k : List Atom) → SameAtoms m k → (c : GroundClause) → read_lower level n m c ≡ read_lower level n k c
  read-same m k e c = ap (λ b. cond b [] (record { head = c.head; body = filter (λ l. not (is_lower level n l)) c.body } ∷ [])) (wrong-same m k e c.body)

  reads-same : (m k : List Atom) → SameAtoms m k → (cs : List GroundClause) → flat_map (read_lower level n m) cs ≡ flat_map (read_lower level n k) cs
  reads-same m k e [] = refl
  reads-same m k e (c ∷ cs) = ap (λ ds. ds ++ flat_map (read_lower level n m) cs) (read-same m k e c) ∙ ap (λ ds. read_lower level n k c ++ ds) (reads-same m k e cs)

above-all : (level : Atom → ℕ) (g : List GroundClause) (k : ℕ) → above_heads level g ≤ k → rules_for (λ a. nat_eq (level a) k) g ≡ []
above-all level [] k h = refl
above-all level (c ∷ g) k h =
    let left = le-max_left (above_head level c.head) (above_heads level g) in
    let right = le-max_right (above_head level c.head) (above_heads level g) in
    let rest : rules_for (λ a. nat_eq (level a) k) g ≡ [] = above-all level g k (omega (arith, h, right)) in
    cond-false (head_is (λ a. nat_eq (level a) k) c.head) (c ∷ rules_for (λ a. nat_eq (level a) k) g) (rules_for (λ a. nat_eq (level a) k) g)
    (other c.head (omega (arith, h, left))) ∙ rest
  where
    other : (o : Option Atom) → above_head level o ≤ k → head_is (λ a. nat_eq (level a) k) o ≡ false
    other None f = refl
    other (Some a) f =
        false_from_ne_true (nat_eq (level a) k) (λ e. (let same = (Decides-eqb (level a) k).0 e in absurd (omega (arith, f, same))))

module _ (level : Atom → ℕ) (plus : Atom → Bool) (g : List GroundClause) where
  abbrev of_level : ℕ → List GroundClause
  of_level k = rules_for (λ a. nat_eq (level a) k) g

  abbrev below : ℕ → List Atom
  below n = below_level level plus g n

  skip : (n j : ℕ) → ((k : ℕ) → n ≤ k → k < n + j → of_level k ≡ []) → SameAtoms (below (n + j)) (below n)
  skip n zero none a = ap (λ k. among (below k) a) (add-zero n)
  skip n (suc j) none a =
      ap (λ k. among (below k) a) (add-suc n j)
      ∙ ap (λ rs. among (below (n + j) ++ signed_model plus (flat_map (read_lower level (n + j) (below (n + j))) rs)) a) (none (n + j) (omega arith) (omega arith))
      ∙ ap (λ xs. among xs a) (append-nil (below (n + j)))
      ∙ skip n j (λ k low high. none k low (omega (arith, high))) a

  -- where no head has a level from n on, all is there
  pub whole : (n : ℕ) → ((k : ℕ) → n ≤ k → of_level k ≡ []) → SameAtoms (below n) (levelled_model level plus g)
  whole n none a =
      let top : ℕ = above_heads level g in
      elim (cases_Bool (nat_lt n top)) [
        | inl e ↦
            (let less = ltb-true n top e in
            let all : n + (top - n) ≡ top = omega (arith, less) in
            sym (ap (λ k. among (below k) a) (sym all) ∙ skip n (top - n) (λ k low high. none k low) a))
        | inr e ↦
            (let more = ltb-false n top e in
            let all : top + (n - top) ≡ n = omega (arith, more) in
            ap (λ k. among (below k) a) (sym all) ∙ skip top (n - top) (λ k low high. above-all level g k low) a)
      ]

  -- the rules of a level, which are read in the atoms so far
  added : (n : ℕ) (m new : List Atom) → SameAtoms m (below n)
      → SameAtoms new (m ++ signed_model plus (flat_map (read_lower level n m) (of_level n))) → SameAtoms new (below (suc n))
  added n m new here step a =
      step a
      ∙ ap (λ rs. among (m ++ signed_model plus rs) a) (reads-same level n m (below n) here (of_level n))
      ∙ append-same m (signed_model plus (at_level level n (below n) g)) (below n) (signed_model plus (at_level level n (below n) g)) here (λ b. refl) a

  -- All levels below the next one are done, and the rules of the others wait.
  pub record Reached (m : List Atom) (f : ℕ → Option Level) : Type 0 where
    pub next : ℕ
    pub done : SameAtoms m (below next)
    pub waits : (k : ℕ) → next ≤ k → StandIn (f k) (of_level k)
    pub past : (k : ℕ) → k < next → f k ≡ None

  not-greater : (p k : ℕ) → is_gt (nat_cmp p k) ≡ false → p ≤ k
  not-greater p k e = grind (arith, nat_tests)

  none-lower : (f : ℕ → Option Level) (p : ℕ) → ((q : ℕ) → IsSome (f q) → is_gt (nat_cmp p q) ≡ false) → (k : ℕ) → k < p → f k ≡ None
  none-lower f p least k less = by (f k) refl
    where
      by : (o : Option Level) → f k ≡ o → f k ≡ None
      by None e = e
      by (Some b) e =
          let at : p ≤ k = not-greater p k (least k (subst IsSome (sym e) refl)) in
          absurd (omega (arith, less, at))

  pub taken : (f f' : ℕ → Option Level) (p : ℕ) (bucket : Level) (m new : List Atom) → Reached m f → f p ≡ Some bucket
      → ((q : ℕ) → IsSome (f q) → is_gt (nat_cmp p q) ≡ false)
      → ((q : ℕ) → f' q ≡ cond (is_eq (nat_cmp p q)) None (f q))
      → ((cs : List GroundClause) → StandAll bucket.table bucket.rules cs → SameAtoms new (m ++ signed_model plus (flat_map (read_lower level p m) cs))) → Reached new f'
  taken f f' p bucket m new r value least updates step =
      let low : r.next ≤ p = from (nat_lt p r.next) refl in
      let here : SameAtoms m (below p) =
      λ a. r.done a ∙ sym (ap (λ k. among (below k) a) (sym (all low)) ∙ skip r.next (p - r.next) (λ k from_next to. empty k from_next (omega (arith, to, low))) a) in
      record {
        next = p + 1;
        done = λ a. added p m new here (step (of_level p) (in-some (f p) bucket (of_level p) value (r.waits p low))) a ∙ ap (λ k. among (below k) a) (sym (add-one p));
        waits = λ k above. subst (λ (z : Option Level). StandIn z (of_level k)) (sym (other k (omega (arith, above)))) (r.waits k (omega (arith, above, low)));
        past = λ k less. gone k less (nat_eq p k) refl;
      }
    where
      all : r.next ≤ p → r.next + (p - r.next) ≡ p
      all low = omega (arith, low)

      from : (b : Bool) → nat_lt p r.next ≡ b → r.next ≤ p
      from true e = let no : Some bucket ≡ None = sym value ∙ r.past p (ltb-true p r.next e) in cc
      from false e = ltb-false p r.next e

      empty : (k : ℕ) → r.next ≤ k → k < p → of_level k ≡ []
      empty k at less = in-none (f k) (of_level k) (none-lower f p least k less) (r.waits k at)

      other : (k : ℕ) → p < k → f' k ≡ f k
      other k above =
          updates k
          ∙ cond-false (is_eq (nat_cmp p k)) None (f k)
          (is_eq-nat p k ∙ false_from_ne_true (nat_eq p k) (λ e. (let same = (Decides-eqb p k).0 e in absurd (omega (arith, above, same)))))

      gone : (k : ℕ) → k < p + 1 → (b : Bool) → nat_eq p k ≡ b → f' k ≡ None
      gone k less true e = updates k ∙ cond-true (is_eq (nat_cmp p k)) None (f k) (is_eq-nat p k ∙ e)
      gone k less false e =
          updates k ∙ cond-false (is_eq (nat_cmp p k)) None (f k) (is_eq-nat p k ∙ e)
          ∙ none-lower f p least k (lower k less e)
        where
          lower : (j : ℕ) → j < p + 1 → nat_eq p j ≡ false → j < p
          lower j h d = grind (arith, nat_tests)

  pub begins : (f : ℕ → Option Level) (m : List Atom) → m ≡ [] → ((k : ℕ) → StandIn (f k) (of_level k)) → Reached m f
  begins f m none e = record { next = 0; done = λ a. ap (λ xs. among xs a) none; waits = λ k above. e k; past = λ k less. absurd (omega (arith, less)) }

  pub ends : (f : ℕ → Option Level) (m : List Atom) → Reached m f → ((k : ℕ) → f k ≡ None) → SameAtoms m (levelled_model level plus g)
  ends f m r none a = r.done a ∙ whole r.next (λ k above. in-none (f k) (of_level k) (none k) (r.waits k above)) a

-- an empty table has no rules of a level
pub empty-get : (m : BTreeMap ℕ Level) (o : Option (ℕ × Level)) → (0 < btree_map_len m → IsSome o) → o ≡ None
    → (k : ℕ) → get nat_cmp m k ≡ None
empty-get m o h none k = by m.entries refl
  where
    no : (p : Option (ℕ × Level)) → p ≡ None → IsSome p → ⊥
    no None e i = false≢true i
    no (Some x) e i = cc

    by : (es : List (ℕ × Level)) → m.entries ≡ es → get nat_cmp m k ≡ None
    by [] e = ap (lookup (is_at (nat_cmp k))) e
    by (x ∷ es) e =
        let long : length m.entries ≡ length (x ∷ es) = ap length e in
        let some : 0 < btree_map_len m = omega (arith, long) in
        absurd (no o none (h some))

-- what is added at a level, by a table that has the entries of a map
pub step-by-map : (entry : Pred → PredMap) (map : List PredMap) → ((p : Pred) → entry p ≡ entry_of map p) → (here : Level) (n : ℕ) (m new : List Atom)
    → ((cs : List GroundClause) → StandAll here.table here.rules cs
    → SameAtoms new (m ++ signed_model (λ a. (entry (pred_of a)).plus) (flat_map (read_lower (λ a. (entry (pred_of a)).level) n m) cs)))
    → (cs : List GroundClause) → StandAll here.table here.rules cs → SameAtoms new (m ++ signed_model (plus_of map) (flat_map (read_lower (level_of map) n m) cs))
step-by-map entry map e here n m new h =
    let P : (Pred → PredMap) → Type 0 =
    λ f. (cs : List GroundClause) → StandAll here.table here.rules cs
    → SameAtoms new (m ++ signed_model (λ a. (f (pred_of a)).plus) (flat_map (read_lower (λ a. (f (pred_of a)).level) n m) cs)) in
    subst P (fun_ext e) h
