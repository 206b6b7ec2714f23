-- Founded atoms: in each closed list and each stable model, in longer programs, and by ranks.
use Rattle.std.proofs.Common.{◌≡◌, ◌∙◌, ℕ, Bool, true, false, ◌||◌, not, List, Some, refl, ap, sym, subst, inl, inr}
use Rattle.std.specs.List.{Contains}
use Rattle.std.proofs.lemmas.Bool.{true≢false, or_cases, not-true}
use Rattle.scasp_syntax.specs.declared.atom.Atom.{Atom}
use Rattle.scasp_model.specs.Atoms.{among, has_all}
use Rattle.scasp_model.specs.Least.{least_model}
use Rattle.scasp_model.specs.Programs.{positive_atoms, is_positive}
use Rattle.scasp_model.specs.Reduct.{reduct}
use Rattle.scasp_model.specs.Stable.{Stable}
use Rattle.scasp_model.specs.declared.program.GroundClause.{GroundClause}
use Rattle.scasp_model.proofs.AtomLemmas.{among-within, has_all_from}
use Rattle.scasp_sound.specs.Carried.{CarriedByRule}
use Rattle.scasp_sound.specs.Support.{Founded, by_rule, RestsBelow, Lower, LowerInPair, negated_atoms}
use Rattle.scasp_sound.proofs.BodyLemmas.{fires-from, unblocked, negated-none, negated-out}
use Rattle.scasp_sound.proofs.CarriedLemmas.{founded-carried}
use Rattle.scasp_sound.proofs.LeastInduction.{least_model-induction}
use Rattle.scasp_sound.proofs.ReductLemmas.{ClosedBy, least-closed, reduct-from}

-- where none of the false atoms is in s, each list that is closed under the reduct by s has what is founded
pub founded-within : (g : List GroundClause) (f s x : List Atom) → ClosedBy g s x → ((a : Atom) → among f a ≡ true → among s a ≡ false) → (a : Atom) → Founded g f a → among x a ≡ true
founded-within g f s x closed apart a (by_rule b c r h) =
    closed c b r.listed r.head
    (fires-from s x c.body (unblocked f s c.body apart r.negated)
    (has_all_from x (positive_atoms c.body) (λ d i. founded-within g f s x closed apart d (h d i))))

-- with more clauses and more false atoms no fewer atoms are founded
pub founded-more : (g k : List GroundClause) (f e : List Atom) → ((c : GroundClause) → Contains g c → Contains k c) → ((a : Atom) → among f a ≡ true → among e a ≡ true) → (a : Atom) → Founded g f a → Founded k e a
founded-more g k f e more wider a (by_rule b c r h) =
    by_rule b c
    (record {
      listed = more c r.listed;
      head = r.head;
      negated = has_all_from e (negated_atoms c.body) (λ d i. wider d (among-within f (negated_atoms c.body) d r.negated i));
    })
    (λ d i. founded-more g k f e more wider d (h d i))

-- an atom is founded by a rule without `not` whose atoms are
pub founded-positive : (g : List GroundClause) (f : List Atom) (a : Atom) (c : GroundClause) → Contains g c → c.head ≡ Some a → is_positive c.body ≡ true → ((b : Atom) → among (positive_atoms c.body) b ≡ true → Founded g f b) → Founded g f a
founded-positive g f a c i e p h =
    by_rule a c (record { listed = i; head = e; negated = negated-none f c.body p }) h

module _ (g : List GroundClause) (t f : List Atom) (first second : Atom → ℕ) (rests : (a : Atom) → among t a ≡ true → RestsBelow g t f (LowerInPair first second) a) where
  -- each atom of t carries itself
  carries-itself : (x a : Atom) → (x ≡ a) × (among t a ≡ true) → CarriedByRule g f (λ y b. (y ≡ b) × (among t b ≡ true)) first second x a
  carries-itself x a h =
      let r : RestsBelow g t f (LowerInPair first second) a = rests a h.1 in
      record {
        clause = r.clause;
        rule = r.rule;
        below = λ b j.
            record {
              by = b;
              carries = (refl, among-within t (positive_atoms (r.clause).body) b r.known j);
              lower = subst (LowerInPair first second b) (sym h.0) (r.smaller b j);
            };
      }

  pub founded-by_pair : (a : Atom) → among t a ≡ true → Founded g f a
  founded-by_pair a i = founded-carried g f (λ x b. (x ≡ b) × (among t b ≡ true)) first second carries-itself a a (refl, i)

-- what rests on smaller ranks alone is founded
pub founded-by_rank : (g : List GroundClause) (t f : List Atom) (rank : Atom → ℕ) → ((a : Atom) → among t a ≡ true → RestsBelow g t f (Lower rank) a) → (a : Atom) → among t a ≡ true → Founded g f a
founded-by_rank g t f rank rests =
    founded-by_pair g t f (λ a. 0) rank
    (λ a i.
    (let r : RestsBelow g t f (Lower rank) a = rests a i in
    record { clause = r.clause; rule = r.rule; known = r.known; smaller = λ b j. inr (refl, r.smaller b j) }))

-- what is founded is in each stable model that has none of the false atoms
pub founded-in_stable : (g : List GroundClause) (f m : List Atom) → Stable g m → ((b : Atom) → among f b ≡ true → not (among m b) ≡ true) → (a : Atom) → Founded g f a → among m a ≡ true
founded-in_stable g f m s apart a h =
    s.least_of_reduct a
    ∙ founded-within g f m (least_model (reduct m g)) (least-closed g m)
    (λ b i. not-true (among m b) (apart b i)) a h

-- each atom of a stable model is founded
pub stable-founded : (g : List GroundClause) (f m : List Atom) → Stable g m → ((c : GroundClause) (b : Atom) → Contains g c → among (negated_atoms c.body) b ≡ true → (among m b || among f b) ≡ true) → (a : Atom) → among m a ≡ true → Founded g f a
stable-founded g f m s negates a h =
    least_model-induction (reduct m g) (Founded g f)
    (λ r i below.
    (let p = reduct-from g m r i in
    let c : GroundClause = p.0 in
    let negated : has_all f (negated_atoms c.body) ≡ true =
    has_all_from f (negated_atoms c.body)
    (λ b j. or_other (among m b) (among f b) (negated-out m c.body b p.2 j) (negates c b p.1 j)) in
    by_rule r.head c (record { listed = p.1; head = p.3; negated = negated })
    (λ b j. below b (ap (λ (xs : List Atom). among xs b) p.4 ∙ j))))
    a (sym (s.least_of_reduct a) ∙ h)
  where
    or_other : (x y : Bool) → x ≡ false → (x || y) ≡ true → y ≡ true
    or_other x y n h = elim (or_cases x y h) [ inl e ↦ absurd (true≢false (sym e ∙ n)) | inr e ↦ e ]
