-- Ground rules that keep signs have a stable model: positive literals have the sign of the head, negated ones the other.
use Rattle.std.proofs.Common.{◌≡◌, ◌∙◌, Bool, true, false, ◌&&◌, ◌||◌, not, List, Option, Some, refl, ap, sym, inl, inr}
use Rattle.std.specs.List.{Contains, list_all}
use Rattle.std.proofs.lemmas.Bool.{true≢false, or_cases, not-true, not_from_false, false_from_ne_true, cond-true, cond-false, cases_Bool}
use Rattle.scasp_syntax.specs.Same.{same_bool}
use Rattle.scasp_syntax.specs.declared.atom.Atom.{Atom}
use Rattle.scasp_syntax.specs.declared.atom.Lit.{Lit}
use Rattle.scasp_model.specs.Atoms.{among, has_all, SameAtoms}
use Rattle.scasp_model.specs.Least.{least_model}
use Rattle.scasp_model.specs.Levelled.{minus_by, next_plus, with_minus}
use Rattle.scasp_model.specs.Programs.{rules_for, is_headless}
use Rattle.scasp_model.specs.Reduct.{reduct}
use Rattle.scasp_model.specs.Stable.{Stable, is_violated, are_true_in, has_violation}
use Rattle.scasp_model.specs.declared.program.GroundClause.{GroundClause}
use Rattle.scasp_model.proofs.AtomLemmas.{among-append, among-within, has_all_from, SameAtoms-from_all}
use Rattle.scasp_sound.proofs.BodyLemmas.{fires}
use Rattle.scasp_sound.proofs.HeadLemmas.{rules_for-has, rules_for-from}
use Rattle.scasp_list.proofs.MemberLemmas.{list_all-from, list_all-member, list_any-none_from}
use Rattle.scasp_sound.proofs.ReductLemmas.{ClosedBy, least-closed, least-within, least_model-head}

-- each atom of x is in y
abbrev pub Within : List Atom → List Atom → Type 0
Within x y = (a : Atom) → among x a ≡ true → among y a ≡ true

-- what a literal needs to fire otherwise
fires-by : (s x t y : List Atom) (l : Lit) → fires s x l ≡ true
    → (l.positive ≡ true → among x l.atom ≡ true → among y l.atom ≡ true)
    → (l.positive ≡ false → among s l.atom ≡ false → among t l.atom ≡ false) → fires t y l ≡ true
fires-by s x t y l h p n =
    elim (cases_Bool l.positive) [
      | inl e ↦ cond-true l.positive (among y l.atom) (not (among t l.atom)) e ∙ p e (sym (cond-true l.positive (among x l.atom) (not (among s l.atom)) e) ∙ h)
      | inr e ↦ cond-false l.positive (among y l.atom) (not (among t l.atom)) e
          ∙ not_from_false (among t l.atom) (n e (not-true (among s l.atom) (sym (cond-false l.positive (among x l.atom) (not (among s l.atom)) e) ∙ h)))
    ]

body-by : (s x t y : List Atom) (body : List Lit) → list_all (fires s x) body ≡ true
    → ((l : Lit) → Contains body l → l.positive ≡ true → among x l.atom ≡ true → among y l.atom ≡ true)
    → ((l : Lit) → Contains body l → l.positive ≡ false → among s l.atom ≡ false → among t l.atom ≡ false) → list_all (fires t y) body ≡ true
body-by s x t y body h p n =
    list_all-from (fires t y) body (λ l i. fires-by s x t y l (list_all-member (fires s x) body l h i) (p l i) (n l i))

-- with more atoms that block, no more follows
antitone : (k : List GroundClause) (s t : List Atom) → Within s t → Within (least_model (reduct t k)) (least_model (reduct s k))
antitone k s t within a h =
    let x = least_model (reduct s k) in
    let closed : ClosedBy k t x =
    λ c b i e w. least-closed k s c b i e
    (body-by t x s x c.body w (λ l j p q. q)
    (λ l j p q. false_from_ne_true (among s l.atom) (λ y. true≢false (sym (within l.atom y) ∙ q)))) in
    among-within x (least_model (reduct t k)) a (least-within k t x closed) h

-- so with more atoms with `+` the next ones are no fewer
pub next-within : (plus : Atom → Bool) (g : List GroundClause) (x y : List Atom) → Within x y → Within (next_plus plus g x) (next_plus plus g y)
next-within plus g x y w =
    antitone (rules_for plus g) (minus_by plus g y) (minus_by plus g x) (antitone (rules_for (λ a. not (plus a)) g) x y w)

-- each positive literal has the sign of its rule's head, each negated one the other; there is no denial
pub record KeepsSigns (plus : Atom → Bool) (g : List GroundClause) : Type 0 where
  pub heads : (c : GroundClause) → Contains g c → (a : Atom) × (c.head ≡ Some a)
  pub signs : (c : GroundClause) (a : Atom) (l : Lit) → Contains g c → c.head ≡ Some a → Contains c.body l → plus l.atom ≡ same_bool l.positive (plus a)

module _ (plus : Atom → Bool) (g : List GroundClause) (keeps : KeepsSigns plus g) where
  -- the rules for atoms of one sign
  abbrev part : Bool → List GroundClause
  part true = rules_for plus g
  part false = rules_for (λ a. not (plus a)) g

  part-has : (b : Bool) (c : GroundClause) (a : Atom) → Contains g c → c.head ≡ Some a → plus a ≡ b → Contains (part b) c
  part-has true c a i e s = rules_for-has plus g c a i e s
  part-has false c a i e s = rules_for-has (λ k. not (plus k)) g c a i e (not_from_false (plus a) s)

  part-from : (b : Bool) (c : GroundClause) (a : Atom) → Contains (part b) c → c.head ≡ Some a → Contains g c × (plus a ≡ b)
  part-from true c a i e = rules_for-from plus g c a i e
  part-from false c a i e = let q = rules_for-from (λ k. not (plus k)) g c a i e in (q.0, not-true (plus a) q.1)

  -- what they give
  abbrev given : Bool → List Atom → List Atom
  given b s = least_model (reduct s (part b))

  -- no atom of the other sign
  given-other : (b : Bool) (s : List Atom) (a : Atom) → plus a ≡ not b → among (given b s) a ≡ false
  given-other b s a e =
      false_from_ne_true (among (given b s) a)
      (λ h.
      (let p = least_model-head (part b) s a h in
      differs b (sym (part-from b p.0 a p.1 p.2).1 ∙ e)))
    where
      differs : (x : Bool) → x ≡ not x → ⊥
      differs true h = true≢false h
      differs false h = true≢false (sym h)

  -- x has the atoms of the next list: then x, and the atoms with `-` by it, are the least model of the reduct by themselves
  module _ (x : List Atom) (fixed : SameAtoms x (next_plus plus g x)) where
    abbrev whole : List Atom
    whole = with_minus plus g x

    -- its atoms of one sign are what the rules for them give, by those of the other
    abbrev own : Bool → List Atom
    own true = x
    own false = minus_by plus g x

    own-given : (b : Bool) → SameAtoms (own b) (given b (own (not b)))
    own-given true = fixed
    own-given false = λ a. refl

    own-other : (b : Bool) (a : Atom) → plus a ≡ not b → among (own b) a ≡ false
    own-other b a e = own-given b a ∙ given-other b (own (not b)) a e

    whole-own : (b : Bool) (a : Atom) → plus a ≡ b → among whole a ≡ among (own b) a
    whole-own true a e = among-append x (own false) a ∙ ap (λ z. among x a || z) (own-other false a e) ∙ or-false (among x a)
      where
        or-false : (z : Bool) → (z || false) ≡ z
        or-false true = refl
        or-false false = refl
    whole-own false a e = among-append x (own false) a ∙ ap (λ z. z || among (own false) a) (own-other true a e)

    sign-of : (c : GroundClause) (a : Atom) (l : Lit) (b p : Bool) → Contains g c → c.head ≡ Some a → Contains c.body l → plus a ≡ b → l.positive ≡ p → plus l.atom ≡ same_bool p b
    sign-of c a l b p i e j s q = keeps.signs c a l i e j ∙ ap (same_bool l.positive) s ∙ ap (λ z. same_bool z b) q

    -- the whole is closed under its reduct
    whole-closed : ClosedBy g whole whole
    whole-closed c a i e w =
        let b : Bool = plus a in
        whole-own b a refl ∙ own-given b a
        ∙ least-closed (part b) (own (not b)) c a (part-has b c a i e refl) e
        (body-by whole whole (own (not b)) (given b (own (not b))) c.body w
        (λ l j p h. sym (own-given b l.atom) ∙ sym (whole-own b l.atom (sign-of c a l b true i e j refl p)) ∙ h)
        (λ l j p h. sym (whole-own (not b) l.atom (sign-of c a l b false i e j refl p)) ∙ h))

    -- what is closed under that reduct has the whole
    module _ (y : List Atom) (closed : ClosedBy g whole y) where
      own-within : (b : Bool) → Within (own b) y
      own-within b a h =
          among-within y (given b (own (not b))) a
          (least-within (part b) (own (not b)) y
          (λ c d i e w.
          (let q = part-from b c d i e in
          closed c d q.0 e
          (body-by (own (not b)) y whole y c.body w (λ l j p k. k)
          (λ l j p k. whole-own (not b) l.atom (sign-of c d l b false q.0 e j q.1 p) ∙ k)))))
          (sym (own-given b a) ∙ h)

      whole-within : has_all y whole ≡ true
      whole-within =
          has_all_from y whole
          (λ a h. elim (or_cases (among x a) (among (own false) a) (sym (among-append x (own false) a) ∙ h)) [
            | inl j ↦ own-within true a j
            | inr j ↦ own-within false a j
          ])

    none_violated : has_violation whole g ≡ false
    none_violated =
        list_any-none_from (is_violated whole) g
        (λ c i. ap (λ (o : Option Atom). is_headless o && are_true_in whole c.body) (keeps.heads c i).1)

    pub whole-stable : Stable g (with_minus plus g x)
    whole-stable =
        record {
          least_of_reduct =
              SameAtoms-from_all whole (least_model (reduct whole g))
              (whole-within (least_model (reduct whole g)) (least-closed g whole))
              (least-within g whole whole whole-closed);
          no_violation = not_from_false (has_violation whole g) none_violated;
        }
