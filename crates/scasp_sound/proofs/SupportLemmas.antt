-- What shows that a program supports the atoms of an answer.
use Rattle.std.proofs.Common.{◌≡◌, ◌∙◌, Bool, true, false, ◌||◌, not, cond, List, [], refl, ap, sym, inl, inr}
use Rattle.std.specs.List.{list_all, list_any}
use Rattle.std.proofs.lemmas.Bool.{true≢false, false≢true, or_cases, not-true, not_from_false, false_from_ne_true, true_from_ne_false, cond-true, cond-false, cases_Bool}
use Rattle.scasp_syntax.specs.Same.{same_atom}
use Rattle.scasp_syntax.specs.declared.atom.Atom.{Atom}
use Rattle.scasp_syntax.specs.declared.atom.Lit.{Lit}
use Rattle.scasp_syntax.proofs.SameLemmas.{atom_decided}
use Rattle.scasp_model.specs.Atoms.{among}
use Rattle.scasp_model.specs.Programs.{head_is}
use Rattle.scasp_model.specs.Residual.{is_known_false}
use Rattle.scasp_model.specs.Stable.{Stable, is_true_in}
use Rattle.scasp_model.specs.declared.program.GroundClause.{GroundClause}
use Rattle.scasp_sound.specs.Support.{BodiesWithin, Founded, Supports}
use Rattle.scasp_sound.proofs.BodyLemmas.{negated-in}
use Rattle.scasp_sound.proofs.FoundedLemmas.{stable-founded}
use Rattle.scasp_sound.proofs.ReductLemmas.{stable-closed}
use Rattle.scasp_list.proofs.MemberLemmas.{list_all-from, list_all-member, list_any-member, list_any-none_member}

-- what a test says of each member, it says of each atom among them
pub all-among : (test : Atom → Bool) (xs : List Atom) (a : Atom) → list_all test xs ≡ true → among xs a ≡ true → test a ≡ true
all-among test xs a h i =
    let q = list_any-member (same_atom a) xs i in
    ap test ((atom_decided a q.0).0 q.2) ∙ list_all-member test xs q.0 h q.1

-- where the head is one of f, a literal of the body is known false
abbrev pub refutes : List Atom → List Atom → GroundClause → Bool
refutes t f c = cond (head_is (among f) c.head) (list_any (is_known_false t f) c.body) true

-- the parts of `Supports` that a test decides
pub Supports-tested : (g : List GroundClause) (t f : List Atom) → list_all (λ a. not (among f a)) t ≡ true → ((a : Atom) → among t a ≡ true → Founded g f a) → list_all (refutes t f) g ≡ true → Supports g t f
Supports-tested g t f apart founded refuted =
    record {
      apart = λ a h. all-among (λ b. not (among f b)) t a apart h;
      founded = founded;
      refuted = λ c a i e h. sym (cond-true (head_is (among f) c.head) (list_any (is_known_false t f) c.body) true (ap (head_is (among f)) e ∙ h))
          ∙ list_all-member (refutes t f) g c refuted i;
    }

-- where no atom is said to be false, founded atoms are supported
pub Supports-founded : (g : List GroundClause) (t : List Atom) → ((a : Atom) → among t a ≡ true → Founded g [] a) → Supports g t []
Supports-founded g t founded =
    record { apart = λ a h. refl; founded = founded; refuted = λ c a i e h. absurd (false≢true h) }

-- a literal that is not known false is true in t, where its atom is known
known-true : (t f : List Atom) → ((b : Atom) → among f b ≡ true → not (among t b) ≡ true) → (l : Lit) → (among t l.atom || among f l.atom) ≡ true → is_known_false t f l ≡ false → is_true_in t l ≡ true
known-true t f apart l k u =
    elim (cases_Bool l.positive) [
      | inl e ↦ cond-true l.positive (among t l.atom) (not (among t l.atom)) e
          ∙ elim (or_cases (among t l.atom) (among f l.atom) k) [
            | inl i ↦ i
            | inr i ↦ absurd (true≢false (sym i ∙ sym (cond-true l.positive (among f l.atom) (among t l.atom) e) ∙ u))
          ]
      | inr e ↦ cond-false l.positive (among t l.atom) (not (among t l.atom)) e
          ∙ not_from_false (among t l.atom) (sym (cond-false l.positive (among f l.atom) (among t l.atom) e) ∙ u)
    ]

-- a stable model is supported, where it and the false atoms have all atoms of bodies
pub stable-supported : (g : List GroundClause) (f m : List Atom) → Stable g m → ((b : Atom) → among f b ≡ true → not (among m b) ≡ true) → BodiesWithin g m f → Supports g m f
stable-supported g f m s apart within =
    record {
      apart = λ a h. not_from_false (among f a) (false_from_ne_true (among f a) (λ k. true≢false (sym h ∙ not-true (among m a) (apart a k))));
      founded = stable-founded g f m s
          (λ c b i h.
          (let p = negated-in c.body b h in
          ap (λ (a : Atom). among m a || among f a) p.2 ∙ within c p.0 i p.1));
      refuted = λ c a i e h.
          true_from_ne_false (list_any (is_known_false m f) c.body)
          (λ n.
          true≢false
          (sym (stable-closed g m s c a i e
          (list_all-from (is_true_in m) c.body
          (λ l j. known-true m f apart l (within c l i j) (list_any-none_member (is_known_false m f) c.body l n j))))
          ∙ not-true (among m a) (apart a h)));
    }
