-- A stable model of what is left, joined with the atoms known true, is a stable model of the whole.
use Rattle.std.proofs.Common.{◌≡◌, ◌++◌, ◌∙◌, true, false, not, List, Option, None, Some, refl, ap, sym, inl, inr}
use Rattle.std.specs.List.{Contains, list_all, list_any}
use Rattle.std.proofs.lemmas.Bool.{true≢false, and_parts, and_from, or_cases, or_parts, or_from, or_left, or_right, not-true, not_from_false, false_from_ne_true, cases_Bool}
use Rattle.scasp_syntax.specs.declared.atom.Atom.{Atom}
use Rattle.scasp_syntax.specs.declared.atom.Lit.{Lit}
use Rattle.scasp_model.specs.Atoms.{among}
use Rattle.scasp_model.specs.Least.{least_model}
use Rattle.scasp_model.specs.Programs.{is_headless}
use Rattle.scasp_model.specs.Reduct.{reduct}
use Rattle.scasp_model.specs.Residual.{is_known_true, is_known_false, is_known, residual}
use Rattle.scasp_model.specs.Stable.{Stable, is_true_in, are_true_in, is_violated, has_violation}
use Rattle.scasp_model.specs.declared.program.GroundClause.{GroundClause}
use Rattle.scasp_model.proofs.AtomLemmas.{among-append, among-within, has_all_from, SameAtoms-from_all}
use Rattle.scasp_sound.specs.Support.{Supports, Joins}
use Rattle.scasp_sound.proofs.BodyLemmas.{fires}
use Rattle.scasp_sound.proofs.FoundedLemmas.{founded-within}
use Rattle.scasp_list.proofs.MemberLemmas.{list_all-from, list_all-member, list_any-from, list_any-none_from, list_any-none_member, Contains-filter, Contains-from_filter}
use Rattle.scasp_sound.proofs.ReductLemmas.{ClosedBy, least-closed, stable-closed, least-within, least_model-head}
use Rattle.scasp_sound.proofs.ResidualLemmas.{left, residual-has, residual-from, known_false-not, left-true, fires-known}

module _ (g : List GroundClause) (t f : List Atom) (S : Supports g t f) (m : List Atom) (M : Stable (residual t f g) m) where
  -- an atom of the residual's model is the head of one of its rules, so nothing is known of it
  unknown : (a : Atom) → among m a ≡ true → (among t a ≡ false) × (among f a ≡ false)
  unknown a h =
      let q = least_model-head (residual t f g) m a (sym (M.least_of_reduct a) ∙ h) in
      let p = residual-from g t f q.0 q.1 in
      let e : (p.0).head ≡ Some a = ap (λ (c : GroundClause). c.head) p.4 ∙ q.2 in
      or_parts (among t a) (among f a) (sym (ap (is_known t f) e) ∙ p.2)

  joined-t : (a : Atom) → among t a ≡ true → among (t ++ m) a ≡ true
  joined-t a h = among-append t m a ∙ or_left (among t a) (among m a) h

  joined-m : (a : Atom) → among m a ≡ true → among (t ++ m) a ≡ true
  joined-m a h = among-append t m a ∙ or_right (among t a) (among m a) h

  joined-only : (a : Atom) → among (t ++ m) a ≡ true → among t a ≡ false → among m a ≡ true
  joined-only a h n =
      elim (or_cases (among t a) (among m a) (sym (among-append t m a) ∙ h)) [
        | inl e ↦ absurd (true≢false (sym e ∙ n))
        | inr e ↦ e
      ]

  -- none of them is false
  joined-apart : (a : Atom) → among (t ++ m) a ≡ true → among f a ≡ false
  joined-apart a h =
      elim (or_cases (among t a) (among m a) (sym (among-append t m a) ∙ h)) [
        | inl e ↦ not-true (among f a) (S.apart a e)
        | inr e ↦ (unknown a e).1
      ]

  false-apart : (a : Atom) → among f a ≡ true → among (t ++ m) a ≡ false
  false-apart a h = false_from_ne_true (among (t ++ m) a) (λ e. true≢false (sym h ∙ joined-apart a e))

  neither : (a : Atom) → among t a ≡ false → among m a ≡ false → among (t ++ m) a ≡ false
  neither a h n = among-append t m a ∙ or_from (among t a) (among m a) h n

  -- where a body is true, none of its literals is known false, and what is left of it is true in m
  true-none_false : (body : List Lit) → are_true_in (t ++ m) body ≡ true → list_any (is_known_false t f) body ≡ false
  true-none_false body h =
      list_any-none_from (is_known_false t f) body
      (λ l i. known_false-not t f (t ++ m) joined-t joined-apart l (list_all-member (is_true_in (t ++ m)) body l h i))

  true-left : (c : GroundClause) → are_true_in (t ++ m) c.body ≡ true → are_true_in m (left t f c).body ≡ true
  true-left c h =
      list_all-from (is_true_in m) (left t f c).body
      (λ l i.
      (let k = Contains-from_filter (λ k. not (is_known_true t f k)) c.body l i in
      left-true t f m (t ++ m) joined-only joined-m l (list_all-member (is_true_in (t ++ m)) c.body l h k.0) (not-true (is_known_true t f l) k.1)))

  -- the least model of the reduct by the joined atoms has the atoms of t
  least-has_t : (a : Atom) → among t a ≡ true → among (least_model (reduct (t ++ m) g)) a ≡ true
  least-has_t a h =
      founded-within g f (t ++ m) (least_model (reduct (t ++ m) g)) (least-closed g (t ++ m)) false-apart a (S.founded a h)

  -- it is closed under what is left, so it has the atoms of m
  least-closed_left : ClosedBy (residual t f g) m (least_model (reduct (t ++ m) g))
  least-closed_left d a i e w =
      let p = residual-from g t f d i in
      let c : GroundClause = p.0 in
      let body : list_all (fires m (least_model (reduct (t ++ m) g))) (left t f c).body ≡ true =
      ap (λ (k : GroundClause). list_all (fires m (least_model (reduct (t ++ m) g))) k.body) p.4 ∙ w in
      least-closed g (t ++ m) c a p.1 (ap (λ (k : GroundClause). k.head) p.4 ∙ e)
      (list_all-from (fires (t ++ m) (least_model (reduct (t ++ m) g))) c.body
      (λ l j.
      fires-known t f m (t ++ m) (least_model (reduct (t ++ m) g)) least-has_t false-apart neither l
      (list_any-none_member (is_known_false t f) c.body l p.3 j)
      (λ k. list_all-member (fires m (least_model (reduct (t ++ m) g))) (left t f c).body l body
      (Contains-filter (λ z. not (is_known_true t f z)) c.body l j (not_from_false (is_known_true t f l) k)))))

  least-has_m : (a : Atom) → among m a ≡ true → among (least_model (reduct (t ++ m) g)) a ≡ true
  least-has_m a h =
      among-within (least_model (reduct (t ++ m) g)) (least_model (reduct m (residual t f g))) a
      (least-within (residual t f g) m (least_model (reduct (t ++ m) g)) least-closed_left)
      (sym (M.least_of_reduct a) ∙ h)

  -- the joined atoms are closed under the whole
  joined-closed : ClosedBy g (t ++ m) (t ++ m)
  joined-closed c a i e w =
      let none : list_any (is_known_false t f) c.body ≡ false = true-none_false c.body w in
      elim (cases_Bool (among t a)) [
        | inl h ↦ joined-t a h
        | inr h ↦
            elim (cases_Bool (among f a)) [
              | inl k ↦ absurd (true≢false (sym (S.refuted c a i e k) ∙ none))
              | inr k ↦
                  joined-m a
                  (stable-closed (residual t f g) m M (left t f c) a
                  (residual-has g t f c i (ap (is_known t f) e ∙ or_from (among t a) (among f a) h k) none) e (true-left c w))
            ]
      ]

  none_violated : has_violation (t ++ m) g ≡ false
  none_violated =
      list_any-none_from (is_violated (t ++ m)) g
      (λ c i. false_from_ne_true (is_violated (t ++ m) c)
      (λ v.
      (let p = and_parts (is_headless c.head) (are_true_in (t ++ m) c.body) v in
      let stays : Contains (residual t f g) (left t f c) =
      residual-has g t f c i (headless-unknown c.head p.0) (true-none_false c.body p.1) in
      true≢false (sym (list_any-from (is_violated m) (residual t f g) (left t f c) stays (and_from (is_headless c.head) (are_true_in m (left t f c).body) p.0 (true-left c p.1)))
      ∙ not-true (has_violation m (residual t f g)) M.no_violation))))
    where
      headless-unknown : (o : Option Atom) → is_headless o ≡ true → is_known t f o ≡ false
      headless-unknown None h = refl
      headless-unknown (Some a) h = absurd (true≢false (sym h))

  joined-stable : Stable g (t ++ m)
  joined-stable =
      record {
        least_of_reduct =
            SameAtoms-from_all (t ++ m) (least_model (reduct (t ++ m) g))
            (has_all_from (least_model (reduct (t ++ m) g)) (t ++ m)
            (λ a h.
            elim (or_cases (among t a) (among m a) (sym (among-append t m a) ∙ h)) [
              | inl e ↦ least-has_t a e
              | inr e ↦ least-has_m a e
            ]))
            (least-within g (t ++ m) (t ++ m) joined-closed);
        no_violation = not_from_false (has_violation (t ++ m) g) none_violated;
      }

pub joined : (g : List GroundClause) (t f : List Atom) → Supports g t f → Joins g t f
joined g t f S m M = joined-stable g t f S m M
