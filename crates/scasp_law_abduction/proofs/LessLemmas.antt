-- A stable model of the choices is, without the new atoms, one of the assumptions.
use Rattle.std.proofs.Common.{◌≡◌, ◌++◌, ◌∙◌, Bool, true, false, not, List, Some, refl, ap, sym, subst, inl, inr}
use Rattle.std.specs.List.{Contains, list_all, filter}
use Rattle.std.proofs.lemmas.Bool.{true≢false, false≢true, and_parts, and_from, not-true, not_from_false, false_from_ne_true}
use Rattle.std.proofs.lemmas.List.Elements.{Contains-append_left, Contains-append_right, Contains-append_cases}
use Rattle.scasp_syntax.specs.declared.atom.Atom.{Atom}
use Rattle.scasp_syntax.specs.declared.atom.Lit.{Lit}
use Rattle.scasp_list.proofs.MemberLemmas.{Contains-map, Contains-from_map, list_any-from, list_any-none_from}
use Rattle.scasp_model.specs.Atoms.{among}
use Rattle.scasp_model.specs.Least.{least_model}
use Rattle.scasp_model.specs.Programs.{positive_atoms, is_headless}
use Rattle.scasp_model.specs.Reduct.{reduct}
use Rattle.scasp_model.specs.Stable.{Stable, are_true_in, is_violated, has_violation}
use Rattle.scasp_model.specs.declared.program.DefiniteRule.{DefiniteRule}
use Rattle.scasp_model.specs.declared.program.GroundClause.{GroundClause}
use Rattle.scasp_model.proofs.AtomLemmas.{has_all_from, SameAtoms-from_all}
use Rattle.scasp_sound.proofs.BodyLemmas.{fires, fires-from}
use Rattle.scasp_sound.proofs.LeastInduction.{least_model-induction}
use Rattle.scasp_sound.proofs.ReductLemmas.{ClosedBy, least-closed, least-within, reduct-from, stable-closed}
use Rattle.scasp_law_abduction.specs.Choices.{fact, facts}
use Rattle.scasp_law_abduction.proofs.ChoiceLemmas.{AddsChoices, among-has, among-filter, among-from, among-from_filter, body-same, same_when}

-- a fact of a list of atoms
pub fact-from : (atoms : List Atom) (c : GroundClause) → Contains (facts atoms) c → (a : Atom) × (among atoms a ≡ true) × (fact a ≡ c)
fact-from atoms c i =
    let p = Contains-from_map fact atoms c i in
    (p.0, among-has atoms p.0 p.1, p.2)

pub fact-has : (atoms : List Atom) (a : Atom) → among atoms a ≡ true → Contains (facts atoms) (fact a)
fact-has atoms a h = Contains-map fact atoms a (among-from atoms a h)

module _ (g k : List GroundClause) (new : Atom → Bool) (Pair : Atom → Atom → Type 0) (T : AddsChoices g k new Pair) (n : List Atom) (N : Stable k n)
    (atoms : List Atom) (within : (a : Atom) → among atoms a ≡ true → (among n a ≡ true) × (new a ≡ false)) (all : (a b : Atom) → Pair a b → among n a ≡ true → among atoms a ≡ true) where
  -- the model without the new atoms
  abbrev m : List Atom
  m = filter (λ a. not (new a)) n

  abbrev h : List GroundClause
  h = facts atoms ++ g

  agree : (a : Atom) → new a ≡ false → among m a ≡ among n a
  agree a e =
      same_when m n a (λ i. (among-from_filter (λ b. not (new b)) n a i).0) (λ i. among-filter (λ b. not (new b)) n a i (not_from_false (new a) e))

  agree-body : (c : GroundClause) → Contains g c → (l : Lit) → Contains c.body l → among m l.atom ≡ among n l.atom
  agree-body c i l j = agree l.atom (T.old_body c l i j)

  -- a body of the program that is true without them is true with them
  widened : (c : GroundClause) → Contains g c → list_all (fires m m) c.body ≡ true → list_all (fires n n) c.body ≡ true
  widened c i w = body-same m m n n c.body (agree-body c i) (λ l j e. sym (agree-body c i l j) ∙ e) w

  kept : (a : Atom) → new a ≡ false → among n a ≡ true → among m a ≡ true
  kept a e i = agree a e ∙ i

  model-closed : ClosedBy h m m
  model-closed c a i e w =
      elim (Contains-append_cases (facts atoms) g c i) [
        | inl j ↦
            (let p = fact-from atoms c j in
            let same : Some p.0 ≡ Some a = ap (λ (d : GroundClause). d.head) p.2 ∙ e in
            let q = within p.0 p.1 in
            subst (λ (x : Atom). among m x ≡ true) (unwrapped p.0 a same) (kept p.0 q.1 q.0))
        | inr j ↦ kept a (T.old_head c a j e) (stable-closed k n N c a (T.old c j) e (widened c j w))
      ]
    where
      unwrapped : (x y : Atom) → Some x ≡ Some y → x ≡ y
      unwrapped x y e = cc

  -- what the least model has of the old atoms
  abbrev Keeps : Atom → Type 0
  Keeps a = new a ≡ false → among (least_model (reduct m h)) a ≡ true

  -- the rule of the reduct by the wider model gives an atom that the least model has
  rule-keeps : (r : DefiniteRule) → Contains (reduct n k) r → ((b : Atom) → among r.body b ≡ true → Keeps b) → Keeps r.head
  rule-keeps r i below e =
      let p = reduct-from k n r i in
      let c : GroundClause = p.0 in
      elim (T.parts c p.1) [
        | inl j ↦
            (let present : (l : Lit) → Contains c.body l → among (positive_atoms c.body) l.atom ≡ true → among (least_model (reduct m h)) l.atom ≡ true =
            λ l f o. below l.atom (ap (λ (xs : List Atom). among xs l.atom) p.4 ∙ o) (T.old_body c l j f) in
            least-closed h m c r.head (Contains-append_right (facts atoms) g c j) p.3
            (body-same n (positive_atoms c.body) m (least_model (reduct m h)) c.body (λ l f. sym (agree-body c j l f)) present
            (fires-from n (positive_atoms c.body) c.body p.2 (has_all_from (positive_atoms c.body) (positive_atoms c.body) (λ b o. o)))))
        | inr q ↦
            elim q.one [
              | inl s ↦
                  (let same : Some q.a ≡ Some r.head = sym (ap (λ (d : GroundClause). d.head) s) ∙ p.3 in
                  let a-is : q.a ≡ r.head = cc in
                  let body : list_all (fires n n) c.body ≡ true =
                  fires-from n n c.body p.2 (ap (λ (d : GroundClause). list_all (among n) (positive_atoms d.body)) s) in
                  let held : among n r.head ≡ true = stable-closed k n N c r.head p.1 p.3 body in
                  let chosen : among atoms r.head ≡ true =
                  subst (λ (x : Atom). among atoms x ≡ true) a-is (all q.a q.b q.pair (ap (among n) a-is ∙ held)) in
                  least-closed h m (fact r.head) r.head
                  (Contains-append_left (facts atoms) g (fact r.head) (fact-has atoms r.head chosen)) refl refl)
              | inr s ↦
                  (let same : Some q.b ≡ Some r.head = sym (ap (λ (d : GroundClause). d.head) s) ∙ p.3 in
                  let b-is : q.b ≡ r.head = cc in
                  absurd (true≢false (sym (T.denied q.a q.b q.pair) ∙ ap new b-is ∙ e)))
            ]
      ]

  model-least : (a : Atom) → among m a ≡ true → among (least_model (reduct m h)) a ≡ true
  model-least a i =
      let q = among-from_filter (λ b. not (new b)) n a i in
      least_model-induction (reduct n k) Keeps rule-keeps a (sym (N.least_of_reduct a) ∙ q.0) (not-true (new a) q.1)

  none_violated : has_violation m h ≡ false
  none_violated =
      list_any-none_from (is_violated m) h
      (λ c i. false_from_ne_true (is_violated m c)
      (λ v.
      (let p = and_parts (is_headless c.head) (are_true_in m c.body) v in
      elim (Contains-append_cases (facts atoms) g c i) [
        | inl j ↦
            (let q = fact-from atoms c j in
            false≢true (ap (λ (d : GroundClause). is_headless d.head) q.2 ∙ p.0))
        | inr j ↦
            true≢false
            (sym (list_any-from (is_violated n) k c (T.old c j) (and_from (is_headless c.head) (are_true_in n c.body) p.0 (widened c j p.1)))
            ∙ not-true (has_violation n k) N.no_violation)
      ])))

  pub less : Stable (facts atoms ++ g) (filter (λ a. not (new a)) n)
  less =
      record {
        least_of_reduct =
            SameAtoms-from_all m (least_model (reduct m h))
            (has_all_from (least_model (reduct m h)) m model-least)
            (least-within h m m model-closed);
        no_violation = not_from_false (has_violation m h) none_violated;
      }
