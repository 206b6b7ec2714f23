-- The instances of what opened, as a list and as a relation, agree.
use Rattle.std.proofs.Common.{Bool, ◌≡◌, ◌↔◌, ◌∙◌, ℕ, zero, suc, true, false, ◌&&◌, ◌||◌, nat_lt, nat_eq, List, [], ◌∷◌, ◌++◌, length, IsTrue, refl, ap, sym, subst, inl, inr}
use Rattle.std.specs.List.{Contains, list_all, list_any}
use Rattle.std.proofs.lemmas.List.Folds.{list_all-append}
use Rattle.std.proofs.lemmas.Bool.{cond_both, true≢false, and_parts, and_from, or_left, or_right, not-true, cond-true, cond-false, cases_Bool}
use Rattle.scasp_syntax.specs.declared.con.Con.{Con}
use Rattle.scasp_syntax.specs.Constraints.{Meets, holds}
use Rattle.scasp_syntax.specs.Same.{same_tm}
use Rattle.scasp_syntax.specs.Tm.{Tm, Tms, var, num, app, items}
use Rattle.scasp_syntax.specs.Values.{Sub, is_ground, all_under}
use Rattle.scasp_syntax.proofs.SameLemmas.{tm_decided}
use Rattle.scasp_lines.specs.Opened.{Opened, ranges, shaped, assumed, is_part, is_met, sets, knows, none_known, fits, well, AllMet, IsInstance}
use Rattle.scasp_lines.specs.Contexts.{AreInDomain, constraints_of, context}
use Rattle.scasp_unify.specs.Negations.{new_parts}
use Rattle.scasp_lines.specs.Ways.{set_to, set_all, shape_step, step, ways}
use Rattle.scasp_lines.proofs.KnownLemmas.{agree-con}
use Rattle.scasp_lines.proofs.PartLemmas.{set_to-ground, set_all-ground, nat-eq, nat-self, part-unknown, set-off, set-on, long-parts, pointwise}
use Rattle.scasp_list.proofs.MemberLemmas.{list_all-member, Contains-here, Contains-there, Contains-none, Contains-single, Contains-map, Contains-from_map, Contains-flat_map, Contains-from_flat_map, list_any-from, list_any-member}

-- an entry that fits is met alike where what is known, and what it sets, is alike
entry-agree : (d : List Tm) (n : ℕ) (os : List Opened) (o : Opened) (v w : Sub) → fits n os o ≡ true
    → ((x : ℕ) → knows n (o ∷ os) x ≡ true → v x ≡ w x) → is_met d v o ≡ is_met d w o
entry-agree d n os (ranges x) v w h a = ap (λ z. list_any (same_tm z) d) (a x (or_left (nat_eq x x) (knows n os x) (nat-self x)))
entry-agree d n os (shaped x f k m) v w h a =
    let p = and_parts (knows n os x) (none_known (knows n os) k m) h in
    let at = a x (or_right (is_part k m x) (knows n os x) p.0) in
    let below = parts-agree k m (λ y i. a y (or_left (is_part k m y) (knows n os y) i)) in cc
  where
    parts-agree : (j i : ℕ) → ((y : ℕ) → is_part j i y ≡ true → v y ≡ w y) → all_under v (new_parts j i) ≡ all_under w (new_parts j i)
    parts-agree j zero b = refl
    parts-agree j (suc i) b =
        let first = b j (or_left (nat_eq j j) (is_part (suc j) i j) (nat-self j)) in
        let rest = parts-agree (suc j) i (λ y q. b y (or_right (nat_eq y j) (is_part (suc j) i y) q)) in cc
entry-agree d n os (assumed c) v w h a = agree-con (knows n os) v w a c h

pub met-agree : (d : List Tm) (n : ℕ) (os : List Opened) (v w : Sub) → well n os ≡ true → ((x : ℕ) → knows n os x ≡ true → v x ≡ w x)
    → list_all (is_met d v) os ≡ true → list_all (is_met d w) os ≡ true
met-agree d n [] v w h a m = refl
met-agree d n (o ∷ os) v w h a m =
    let p = and_parts (well n os) (fits n os o) h in
    let q = and_parts (is_met d v o) (list_all (is_met d v) os) m in
    and_from (is_met d w o) (list_all (is_met d w) os) (sym (entry-agree d n os o v w p.1 a) ∙ q.0)
    (met-agree d n os v w p.0 (λ x i. a x (or_right (sets o x) (knows n os x) i)) q.1)

-- each step changes only what the entry sets, and meets it
pub record Stepped (d : List Tm) (n : ℕ) (os : List Opened) (o : Opened) (u w : Sub) : Type 0 where
  pub kept : (x : ℕ) → knows n os x ≡ true → w x ≡ u x
  pub met : is_met d w o ≡ true

stepped : (d : List Tm) (n : ℕ) (os : List Opened) (o : Opened) (u w : Sub) → fits n os o ≡ true → Contains (step d o u) w → Stepped d n os o u w
stepped d n os (ranges x) u w h i =
    let q = Contains-from_map (set_to u x) d w i in
    record {
      kept = λ y k. ap (λ (z : Sub). z y) (sym q.2) ∙ cond-false (nat_eq y x) q.0 (u y) (other y k);
      met = ap (λ (z : Sub). list_any (same_tm (z x)) d) (sym q.2)
          ∙ ap (λ z. list_any (same_tm z) d) (cond-true (nat_eq x x) q.0 (u x) (nat-self x))
          ∙ list_any-from (same_tm q.0) d q.0 q.1 ((tm_decided q.0 q.0).1 refl);
    }
  where
    other : (y : ℕ) → knows n os y ≡ true → nat_eq y x ≡ false
    other y k = elim (cases_Bool (nat_eq y x)) [
      | inl e ↦ absurd (true≢false (sym k ∙ ap (knows n os) (nat-eq y x e) ∙ not-true (knows n os x) h))
      | inr e ↦ e
    ]
stepped d n os (shaped x f k m) u w h i = by (u x) refl i
  where
    by : (t : Tm) → u x ≡ t → Contains (shape_step f k m u t) w → Stepped d n os (shaped x f k m) u w
    by (var y) e j = absurd (Contains-none w j)
    by (num q) e j = absurd (Contains-none w j)
    by (app g ts) e j =
        elim (cases_Bool (nat_eq g f && nat_eq (length (items ts)) m)) [
          | inr fails ↦ absurd (Contains-none w (subst (λ (z : List Sub). Contains z w) (cond-false (nat_eq g f && nat_eq (length (items ts)) m) (set_all u k ts ∷ []) [] fails) j))
          | inl passes ↦
              (let b = and_parts (nat_eq g f) (nat_eq (length (items ts)) m) passes in
              let p = and_parts (knows n os x) (none_known (knows n os) k m) h in
              let is : set_all u k ts ≡ w = Contains-single (set_all u k ts) w (subst (λ (z : List Sub). Contains z w) (cond-true (nat_eq g f && nat_eq (length (items ts)) m) (set_all u k ts ∷ []) [] passes) j) in
              let long : length (items ts) ≡ m = nat-eq (length (items ts)) m b.1 in
              let same : g ≡ f = nat-eq g f b.0 in
              let off : (y : ℕ) → knows n os y ≡ true → w y ≡ u y =
              λ y q. ap (λ (z : Sub). z y) (sym is) ∙ set-off u k ts y
              (ap (λ z. is_part k z y) long ∙ (elim (cases_Bool (is_part k m y)) [ inl c ↦ absurd (true≢false (sym q ∙ part-unknown (knows n os) k m y p.1 c)) | inr c ↦ c ])) in
              let shape : app f (all_under w (new_parts k m)) ≡ app g ts =
              ap (λ (z : Sub). app f (all_under z (new_parts k m))) (sym is)
              ∙ ap (λ z. app f (all_under (set_all u k ts) (new_parts k z))) (sym long)
              ∙ ap (λ z. app z (all_under (set_all u k ts) (new_parts k (length (items ts))))) (sym same)
              ∙ ap (app g) (set-on u k ts) in
              record {
                kept = off;
                met = (tm_decided (w x) (app f (all_under w (new_parts k m)))).1 (off x p.0 ∙ e ∙ sym shape);
              })
        ]
stepped d n os (assumed c) u w h i =
    elim (cases_Bool (holds u c)) [
      | inr fails ↦ absurd (Contains-none w (subst (λ (z : List Sub). Contains z w) (cond-false (holds u c) (u ∷ []) [] fails) i))
      | inl passes ↦
          (let is : u ≡ w = Contains-single u w (subst (λ (z : List Sub). Contains z w) (cond-true (holds u c) (u ∷ []) [] passes) i) in
          record { kept = λ x k. ap (λ (z : Sub). z x) (sym is); met = ap (λ (z : Sub). holds z c) (sym is) ∙ passes })
    ]

-- each way has the free values, and meets all that opened
pub ways-met : (d : List Tm) (n : ℕ) (os : List Opened) (v w : Sub) → well n os ≡ true → Contains (ways d os v) w
    → ((x : ℕ) → nat_lt x n ≡ true → w x ≡ v x) × (list_all (is_met d w) os ≡ true)
ways-met d n [] v w h i = (λ x l. ap (λ (z : Sub). z x) (sym (Contains-single v w i)), refl)
ways-met d n (o ∷ os) v w h i =
    let p = and_parts (well n os) (fits n os o) h in
    let q = Contains-from_flat_map (step d o) (ways d os v) w i in
    let u : Sub = q.0 in
    let r = ways-met d n os v u p.0 q.1 in
    let s = stepped d n os o u w p.1 q.2 in (
      λ x l. s.kept x (free os x l) ∙ r.0 x l,
      and_from (is_met d w o) (list_all (is_met d w) os) s.met (met-agree d n os u w p.0 (λ x k. sym (s.kept x k)) r.1),
    )
  where
    free : (ps : List Opened) (x : ℕ) → nat_lt x n ≡ true → knows n ps x ≡ true
    free [] x l = l
    free (e ∷ ps) x l = or_right (sets e x) (knows n ps x) (free ps x l)

pub record StepHas (d : List Tm) (n : ℕ) (os : List Opened) (o : Opened) (u w : Sub) : Type 0 where
  pub way : Sub
  pub listed : Contains (step d o u) way
  pub agrees : (x : ℕ) → knows n (o ∷ os) x ≡ true → way x ≡ w x

step-has : (d : List Tm) (n : ℕ) (os : List Opened) (o : Opened) (u w : Sub) → fits n os o ≡ true → is_met d w o ≡ true
    → ((x : ℕ) → knows n os x ≡ true → u x ≡ w x) → StepHas d n os o u w
step-has d n os (ranges x) u w h m a =
    let q = list_any-member (same_tm (w x)) d m in
    let is : w x ≡ q.0 = (tm_decided (w x) q.0).0 q.2 in
    record {
      way = set_to u x q.0;
      listed = Contains-map (set_to u x) d q.0 q.1;
      agrees = λ y k. elim (cases_Bool (nat_eq y x)) [
        | inl e ↦ cond-true (nat_eq y x) q.0 (u y) e ∙ sym is ∙ ap w (sym (nat-eq y x e))
        | inr e ↦ cond-false (nat_eq y x) q.0 (u y) e ∙ a y (sym (ap (λ z. z || knows n os y) e) ∙ k)
      ];
    }
step-has d n os (shaped x f k m) u w h met a =
    let p = and_parts (knows n os x) (none_known (knows n os) k m) h in
    let ts : Tms = all_under w (new_parts k m) in
    let long : length (items ts) ≡ m = long-parts w k m in
    let shape : u x ≡ app f ts = a x p.0 ∙ (tm_decided (w x) (app f ts)).0 met in
    let test : (nat_eq f f && nat_eq (length (items ts)) m) ≡ true =
    and_from (nat_eq f f) (nat_eq (length (items ts)) m) (nat-self f) (ap (λ z. nat_eq z m) long ∙ nat-self m) in
    record {
      way = set_all u k ts;
      listed = subst (λ (t : Tm). Contains (shape_step f k m u t) (set_all u k ts)) (sym shape)
          (subst (λ (z : List Sub). Contains z (set_all u k ts)) (sym (cond-true (nat_eq f f && nat_eq (length (items ts)) m) (set_all u k ts ∷ []) [] test)) (Contains-here (set_all u k ts) []));
      agrees = λ y i. elim (cases_Bool (is_part k m y)) [
        | inl e ↦ pointwise (set_all u k ts) w k m (ap (λ z. all_under (set_all u k ts) (new_parts k z)) (sym long) ∙ set-on u k ts) y e
        | inr e ↦ set-off u k ts y (ap (λ z. is_part k z y) long ∙ e) ∙ a y (sym (ap (λ z. z || knows n os y) e) ∙ i)
      ];
    }
step-has d n os (assumed c) u w h m a =
    let true_here : holds u c ≡ true = agree-con (knows n os) u w a c h ∙ m in
    record {
      way = u;
      listed = subst (λ (z : List Sub). Contains z u) (sym (cond-true (holds u c) (u ∷ []) [] true_here)) (Contains-here u []);
      agrees = a;
    }

pub met-ways : (d : List Tm) (n : ℕ) (os : List Opened) (v w : Sub) → well n os ≡ true → ((x : ℕ) → nat_lt x n ≡ true → w x ≡ v x) → list_all (is_met d w) os ≡ true
    → (u : Sub) × Contains (ways d os v) u × ((x : ℕ) → knows n os x ≡ true → u x ≡ w x)
met-ways d n [] v w h f m = (v, Contains-here v [], λ x l. sym (f x l))
met-ways d n (o ∷ os) v w h f m =
    let p = and_parts (well n os) (fits n os o) h in
    let q = and_parts (is_met d w o) (list_all (is_met d w) os) m in
    let r = met-ways d n os v w p.0 f q.1 in
    let s = step-has d n os o r.0 w p.1 q.0 r.2 in
    (s.way, Contains-flat_map (step d o) (ways d os v) r.0 s.way r.1 s.listed, s.agrees)

-- the same in the words of the law
pub way-is_instance : (d : List Tm) (n : ℕ) (os : List Opened) (free w : Sub) → IsTrue (well n os) → Contains (ways d os free) w → IsInstance n d free os w
way-is_instance d n os free w h i = let p = ways-met d n os free w h i in record { free_values = p.0; met = p.1 }

pub instance-has_way : (d : List Tm) (n : ℕ) (os : List Opened) (free v : Sub) → IsTrue (well n os) → IsInstance n d free os v
    → (w : Sub) × Contains (ways d os free) w × ((x : ℕ) → IsTrue (knows n os x) → w x ≡ v x)
instance-has_way d n os free v h i = met-ways d n os free v h i.free_values i.met

-- an instance of what opened is one of what opened before
pub met-before : (d : List Tm) (v : Sub) (more os : List Opened) → list_all (is_met d v) (more ++ os) ≡ true → list_all (is_met d v) os ≡ true
met-before d v [] os h = h
met-before d v (o ∷ more) os h = met-before d v more os (and_parts (is_met d v o) (list_all (is_met d v) (more ++ os)) h).1

pub instance-before : (n : ℕ) (d : List Tm) (free : Sub) (more os : List Opened) (v : Sub) → IsInstance n d free (more ++ os) v → IsInstance n d free os v
instance-before n d free more os v i = record { free_values = i.free_values; met = met-before d v more os i.met }

-- what is well is so up to each place
pub well-before : (n : ℕ) (more os : List Opened) → well n (more ++ os) ≡ true → well n os ≡ true
well-before n [] os h = h
well-before n (o ∷ more) os h = well-before n more os (and_parts (well n (more ++ os)) (fits n (more ++ os) o) h).0

pub knows-before : (n : ℕ) (more os : List Opened) (x : ℕ) → knows n os x ≡ true → knows n (more ++ os) x ≡ true
knows-before n [] os x h = h
knows-before n (o ∷ more) os x h = or_right (sets o x) (knows n (more ++ os) x) (knows-before n more os x h)

-- ---- the ways are ground

step-ground : (d : List Tm) (o : Opened) (u w : Sub) → list_all is_ground d ≡ true → ((x : ℕ) → is_ground (u x) ≡ true) → Contains (step d o u) w → (x : ℕ) → is_ground (w x) ≡ true
step-ground d (ranges x) u w domain g i =
    let q = Contains-from_map (set_to u x) d w i in
    subst (λ (z : Sub). (y : ℕ) → is_ground (z y) ≡ true) q.2 (set_to-ground u x q.0 (list_all-member is_ground d q.0 domain q.1) g)
step-ground d (shaped x f k m) u w domain g i = by (u x) (g x) i
  where
    by : (t : Tm) → is_ground t ≡ true → Contains (shape_step f k m u t) w → (y : ℕ) → is_ground (w y) ≡ true
    by (var y) e j = absurd (Contains-none w j)
    by (num q) e j = absurd (Contains-none w j)
    by (app h ts) e j =
        cond_both (nat_eq h f && nat_eq (length (items ts)) m) (set_all u k ts ∷ []) [] (λ (l : List Sub). Contains l w → (y : ℕ) → is_ground (w y) ≡ true)
        (λ _ c. subst (λ (z : Sub). (y : ℕ) → is_ground (z y) ≡ true) (Contains-single (set_all u k ts) w c) (set_all-ground u k ts e g))
        (λ _ c. absurd (Contains-none w c)) j
step-ground d (assumed c) u w domain g i =
    cond_both (holds u c) (u ∷ []) [] (λ (l : List Sub). Contains l w → (y : ℕ) → is_ground (w y) ≡ true)
    (λ _ j. subst (λ (z : Sub). (y : ℕ) → is_ground (z y) ≡ true) (Contains-single u w j) g) (λ _ j. absurd (Contains-none w j)) i

pub ways-ground : (d : List Tm) (os : List Opened) (free w : Sub) → list_all is_ground d ≡ true → ((x : ℕ) → is_ground (free x) ≡ true) → Contains (ways d os free) w → (x : ℕ) → is_ground (w x) ≡ true
ways-ground d [] free w domain g i = subst (λ (z : Sub). (y : ℕ) → is_ground (z y) ≡ true) (Contains-single free w i) g
ways-ground d (o ∷ os) free w domain g i =
    let q = Contains-from_flat_map (step d o) (ways d os free) w i in
    step-ground d o q.0 w domain (ways-ground d os free q.0 domain g q.1) q.2

-- ---- what opened, as constraints

constraints-met : (d : List Tm) (v : Sub) (o : Opened) → is_met d v o ≡ true → list_all (holds v) (constraints_of o) ≡ true
constraints-met d v (ranges x) h = refl
constraints-met d v (shaped x f k n) h = and_from (same_tm (v x) (app f (all_under v (new_parts k n)))) true h refl
constraints-met d v (assumed c) h = and_from (holds v c) true h refl

context-met : (d : List Tm) (given : List Con) (os : List Opened) (v : Sub) → list_all (holds v) given ≡ true → list_all (is_met d v) os ≡ true → list_all (holds v) (context given os) ≡ true
context-met d given [] v g m = g
context-met d given (o ∷ os) v g m =
    let q = and_parts (is_met d v o) (list_all (is_met d v) os) m in
    list_all-append (holds v) (context given os) (constraints_of o) ∙ and_from (list_all (holds v) (context given os)) (list_all (holds v) (constraints_of o)) (context-met d given os v g q.1) (constraints-met d v o q.0)

in-domain : (d : List Tm) (v : Sub) (os : List Opened) → list_all (is_met d v) os ≡ true → AreInDomain d v os
in-domain d v os m x i = list_all-member (is_met d v) os (ranges x) m i

opened-met : (d : List Tm) (v : Sub) (o : Opened) (os : List Opened) → AreInDomain d v (o ∷ os) → list_all (holds v) (constraints_of o) ≡ true → is_met d v o ≡ true
opened-met d v (ranges x) os a h = a x (Contains-here (ranges x) os)
opened-met d v (shaped x f k n) os a h = (and_parts (same_tm (v x) (app f (all_under v (new_parts k n)))) true h).0
opened-met d v (assumed c) os a h = (and_parts (holds v c) true h).0

met-context : (d : List Tm) (given : List Con) (os : List Opened) (v : Sub) → list_all (holds v) (context given os) ≡ true → AreInDomain d v os
    → (list_all (holds v) given ≡ true) × (list_all (is_met d v) os ≡ true)
met-context d given [] v h a = (h, refl)
met-context d given (o ∷ os) v h a =
    let p = and_parts (list_all (holds v) (context given os)) (list_all (holds v) (constraints_of o)) (sym (list_all-append (holds v) (context given os) (constraints_of o)) ∙ h) in
    let rest = met-context d given os v p.0 (λ x i. a x (Contains-there o os (ranges x) i)) in
    (rest.0, and_from (is_met d v o) (list_all (is_met d v) os) (opened-met d v o os a p.1) rest.1)

-- the values meet the context exactly where they meet what is given and what opened, but for the domain
pub context-exact : (d : List Tm) (given : List Con) (os : List Opened) (v : Sub)
    → (Meets v given × AllMet d v os) ↔ (Meets v (context given os) × AreInDomain d v os)
context-exact d given os v =
    (λ m. (context-met d given os v m.0 m.1, in-domain d v os m.1), λ m. met-context d given os v m.0 m.1)
