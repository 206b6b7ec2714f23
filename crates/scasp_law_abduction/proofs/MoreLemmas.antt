-- A stable model of assumptions is, with the new atoms of the other choices, one of the choices.
use Rattle.std.proofs.Common.{◌≡◌, ◌∷◌, ◌++◌, ◌∙◌, Bool, true, false, not, List, [], Some, refl, ap, sym, subst, inl, inr}
use Rattle.std.specs.List.{Contains, list_all}
use Rattle.std.proofs.lemmas.Bool.{true≢false, false≢true, and_parts, and_from, or_cases, or_left, or_right, not-true, not_from_false, false_from_ne_true, cases_Bool}
use Rattle.std.proofs.lemmas.List.Elements.{Contains-append_left, Contains-append_right, Contains-append_cases}
use Rattle.scasp_syntax.specs.declared.atom.Atom.{Atom}
use Rattle.scasp_syntax.specs.declared.atom.Lit.{Lit}
use Rattle.scasp_list.proofs.MemberLemmas.{list_any-from, list_any-none_from}
use Rattle.scasp_model.specs.Atoms.{among}
use Rattle.scasp_model.specs.Least.{least_model}
use Rattle.scasp_model.specs.Programs.{positive_atoms, is_headless}
use Rattle.scasp_model.specs.Reduct.{reduct}
use Rattle.scasp_model.specs.Stable.{Stable, are_true_in, is_violated, has_violation}
use Rattle.scasp_model.specs.declared.program.DefiniteRule.{DefiniteRule}
use Rattle.scasp_model.specs.declared.program.GroundClause.{GroundClause}
use Rattle.scasp_model.proofs.AtomLemmas.{among-append, has_all_from, SameAtoms-from_all}
use Rattle.scasp_sound.proofs.BodyLemmas.{fires, fires-from}
use Rattle.scasp_sound.proofs.LeastInduction.{least_model-induction}
use Rattle.scasp_sound.proofs.ReductLemmas.{ClosedBy, least-closed, least-within, least_model-head, reduct-from, stable-closed}
use Rattle.scasp_law_abduction.specs.Choices.{fact, facts}
use Rattle.scasp_law_abduction.proofs.ChoiceLemmas.{AddsChoices, against, body-same, same_when}
use Rattle.scasp_law_abduction.proofs.LessLemmas.{fact-from, fact-has}

-- b is the new atom of a choice of which the other is not in m
pub record IsDenied (Pair : Atom → Atom → Type 0) (m : List Atom) (b : Atom) : Type 0 where
  pub a : Atom
  pub pair : Pair a b
  pub out : among m a ≡ false

-- a is a choice
pub record IsChosen (Pair : Atom → Atom → Type 0) (a : Atom) : Type 0 where
  pub b : Atom
  pub pair : Pair a b

module _ (g k : List GroundClause) (new : Atom → Bool) (Pair : Atom → Atom → Type 0) (T : AddsChoices g k new Pair)
    (atoms : List Atom) (chosen : (a : Atom) → among atoms a ≡ true → IsChosen Pair a) (m : List Atom) (M : Stable (facts atoms ++ g) m)
    (others : List Atom) (out : (b : Atom) → among others b ≡ true → IsDenied Pair m b) (all : (a b : Atom) → Pair a b → among m a ≡ false → among others b ≡ true) where
  abbrev h : List GroundClause
  h = facts atoms ++ g

  abbrev n : List Atom
  n = m ++ others

  has-m : (a : Atom) → among m a ≡ true → among n a ≡ true
  has-m a i = among-append m others a ∙ or_left (among m a) (among others a) i

  has-others : (a : Atom) → among others a ≡ true → among n a ≡ true
  has-others a i = among-append m others a ∙ or_right (among m a) (among others a) i

  -- the model has no new atom
  old-model : (a : Atom) → among m a ≡ true → new a ≡ false
  old-model a i =
      let q = least_model-head h m a (sym (M.least_of_reduct a) ∙ i) in
      elim (Contains-append_cases (facts atoms) g q.0 q.1) [
        | inl j ↦
            (let p = fact-from atoms q.0 j in
            let same : Some p.0 ≡ Some a = ap (λ (d : GroundClause). d.head) p.2 ∙ q.2 in
            let a-is : p.0 ≡ a = cc in
            let w = chosen p.0 p.1 in
            sym (ap new a-is) ∙ T.chosen p.0 w.b w.pair)
        | inr j ↦ T.old_head q.0 a j q.2
      ]

  -- of an old atom both say the same
  agree : (a : Atom) → new a ≡ false → among m a ≡ among n a
  agree a e =
      same_when m n a (has-m a)
      (λ i.
      elim (or_cases (among m a) (among others a) (sym (among-append m others a) ∙ i)) [
        | inl j ↦ j
        | inr j ↦ (let w = out a j in absurd (true≢false (sym (T.denied w.a a w.pair) ∙ e)))
      ])

  agree-body : (c : GroundClause) → Contains g c → (l : Lit) → Contains c.body l → among m l.atom ≡ among n l.atom
  agree-body c i l j = agree l.atom (T.old_body c l i j)

  narrowed : (c : GroundClause) → Contains g c → list_all (fires n n) c.body ≡ true → list_all (fires m m) c.body ≡ true
  narrowed c i w = body-same n n m m c.body (λ l j. sym (agree-body c i l j)) (λ l j e. agree-body c i l j ∙ e) w

  -- of a choice exactly one atom is in the joined model
  not-both : (a b : Atom) → Pair a b → among m a ≡ true → among n b ≡ false
  not-both a b p i =
      false_from_ne_true (among n b)
      (λ j.
      elim (or_cases (among m b) (among others b) (sym (among-append m others b) ∙ j)) [
        | inl e ↦ true≢false (sym (T.denied a b p) ∙ old-model b e)
        | inr e ↦
            (let w = out b e in
            true≢false (sym i ∙ ap (among m) (T.single a w.a b p w.pair) ∙ w.out))
      ])

  fires-against : (x : List Atom) (b : Atom) → among n b ≡ false → list_all (fires n x) (record { positive = false; atom = b } ∷ []) ≡ true
  fires-against x b e = and_from (not (among n b)) true (not_from_false (among n b) e) refl

  against-out : (a b : Atom) (c : GroundClause) → c ≡ against a b → list_all (fires n n) c.body ≡ true → among n b ≡ false
  against-out a b c e w =
      not-true (among n b) (and_parts (not (among n b)) true (ap (λ (d : GroundClause). list_all (fires n n) d.body) (sym e) ∙ w)).0

  joined-closed : ClosedBy k n n
  joined-closed c x i e w =
      elim (T.parts c i) [
        | inl j ↦ has-m x (stable-closed h m M c x (Contains-append_right (facts atoms) g c j) e (narrowed c j w))
        | inr q ↦
            elim q.one [
              | inl s ↦
                  (let same : Some q.a ≡ Some x = sym (ap (λ (d : GroundClause). d.head) s) ∙ e in
                  let is : q.a ≡ x = cc in
                  let none : among n q.b ≡ false = against-out q.a q.b c s w in
                  subst (λ (y : Atom). among n y ≡ true) is
                  (elim (cases_Bool (among m q.a)) [
                    | inl t ↦ has-m q.a t
                    | inr t ↦ absurd (true≢false (sym (has-others q.b (all q.a q.b q.pair t)) ∙ none))
                  ]))
              | inr s ↦
                  (let same : Some q.b ≡ Some x = sym (ap (λ (d : GroundClause). d.head) s) ∙ e in
                  let is : q.b ≡ x = cc in
                  let none : among n q.a ≡ false = against-out q.b q.a c s w in
                  subst (λ (y : Atom). among n y ≡ true) is
                  (has-others q.b (all q.a q.b q.pair (agree q.a (T.chosen q.a q.b q.pair) ∙ none))))
            ]
      ]

  abbrev Kept : Atom → Type 0
  Kept a = among (least_model (reduct n k)) a ≡ true

  rule-kept : (r : DefiniteRule) → Contains (reduct m h) r → ((b : Atom) → among r.body b ≡ true → Kept b) → Kept r.head
  rule-kept r i below =
      let p = reduct-from h m r i in
      let c : GroundClause = p.0 in
      elim (Contains-append_cases (facts atoms) g c p.1) [
        | inl j ↦
            (let q = fact-from atoms c j in
            let same : Some q.0 ≡ Some r.head = ap (λ (d : GroundClause). d.head) q.2 ∙ p.3 in
            let is : q.0 ≡ r.head = cc in
            let held : among m q.0 ≡ true =
            stable-closed h m M (fact q.0) q.0
            (Contains-append_left (facts atoms) g (fact q.0) (fact-has atoms q.0 q.1)) refl refl in
            let w = chosen q.0 q.1 in
            subst Kept is
            (least-closed k n (against q.0 w.b) q.0 (T.first q.0 w.b w.pair) refl
            (fires-against (least_model (reduct n k)) w.b (not-both q.0 w.b w.pair held))))
        | inr j ↦
            least-closed k n c r.head (T.old c j) p.3
            (body-same m (positive_atoms c.body) n (least_model (reduct n k)) c.body (agree-body c j)
            (λ l f o. below l.atom (ap (λ (xs : List Atom). among xs l.atom) p.4 ∙ o))
            (fires-from m (positive_atoms c.body) c.body p.2 (has_all_from (positive_atoms c.body) (positive_atoms c.body) (λ b o. o))))
      ]

  joined-least : (a : Atom) → among n a ≡ true → Kept a
  joined-least a i =
      elim (or_cases (among m a) (among others a) (sym (among-append m others a) ∙ i)) [
        | inl e ↦ least_model-induction (reduct m h) Kept rule-kept a (sym (M.least_of_reduct a) ∙ e)
        | inr e ↦
            (let w = out a e in
            least-closed k n (against a w.a) a (T.second w.a a w.pair) refl
            (fires-against (least_model (reduct n k)) w.a (sym (agree w.a (T.chosen w.a a w.pair)) ∙ w.out)))
      ]

  none_violated : has_violation n k ≡ false
  none_violated =
      list_any-none_from (is_violated n) k
      (λ c i. false_from_ne_true (is_violated n c)
      (λ v.
      (let p = and_parts (is_headless c.head) (are_true_in n c.body) v in
      elim (T.parts c i) [
        | inl j ↦
            true≢false
            (sym (list_any-from (is_violated m) h c (Contains-append_right (facts atoms) g c j) (and_from (is_headless c.head) (are_true_in m c.body) p.0 (narrowed c j p.1)))
            ∙ not-true (has_violation m h) M.no_violation)
        | inr q ↦
            elim q.one [
              | inl s ↦ false≢true (sym (ap (λ (d : GroundClause). is_headless d.head) s) ∙ p.0)
              | inr s ↦ false≢true (sym (ap (λ (d : GroundClause). is_headless d.head) s) ∙ p.0)
            ]
      ])))

  pub more : Stable k (m ++ others)
  more =
      record {
        least_of_reduct =
            SameAtoms-from_all n (least_model (reduct n k))
            (has_all_from (least_model (reduct n k)) n joined-least)
            (least-within k n n joined-closed);
        no_violation = not_from_false (has_violation n k) none_violated;
      }
