-- Where the atoms below a level are known, what they leave of a rule of that level is the rule with its lower literals read.
use Rattle.std.proofs.Common.{◌≡◌, ◌∙◌, ℕ, ◌<◌, Bool, true, false, ◌&&◌, ◌||◌, not, nat_eq, nat_lt, List, [], ◌∷◌, Some, refl, ap, sym, inl, inr}
use Rattle.std.specs.List.{Contains, list_any, filter}
use Rattle.std.proofs.lemmas.Bool.{true≢false, or_cases, or_from, or_left, false_from_ne_true, cond_both, cond-true, cond-false, cases_Bool, lt-ltb, ltb-true}
use Rattle.scasp_syntax.specs.declared.atom.Atom.{Atom}
use Rattle.scasp_syntax.specs.declared.atom.Lit.{Lit}
use Rattle.scasp_model.specs.Atoms.{among}
use Rattle.scasp_model.specs.Levelled.{is_lower, read_lower, at_level}
use Rattle.scasp_model.specs.Programs.{rules_for}
use Rattle.scasp_model.specs.Residual.{is_known, is_known_true, is_known_false, residual_of}
use Rattle.scasp_model.specs.Stable.{is_true_in}
use Rattle.scasp_model.specs.declared.program.GroundClause.{GroundClause}
use Rattle.scasp_list.proofs.MemberLemmas.{Contains-none, Contains-single, Contains-from_flat_map, list_any-none_member}
use Rattle.scasp_sound.proofs.SameLists.{filter-same, list_any-same}

not-not : (b : Bool) → not (not b) ≡ b
not-not true = refl
not-not false = refl

from-not : (b c : Bool) → b ≡ not c → b ≡ false → c ≡ true
from-not b true e h = refl
from-not b false e h = absurd (true≢false (sym e ∙ h))

-- t and out have only atoms of levels below n, and none in common
module _ (level : Atom → ℕ) (n : ℕ) (t out : List Atom)
    (t_low : (a : Atom) → among t a ≡ true → level a < n)
    (out_low : (a : Atom) → among out a ≡ true → (level a < n) × (among t a ≡ false)) where
  t-not : (a : Atom) → nat_lt (level a) n ≡ false → among t a ≡ false
  t-not a h = false_from_ne_true (among t a) (λ e. true≢false (sym (lt-ltb (level a) n (t_low a e)) ∙ h))

  out-not : (a : Atom) → nat_lt (level a) n ≡ false → among out a ≡ false
  out-not a h = false_from_ne_true (among out a) (λ e. true≢false (sym (lt-ltb (level a) n (out_low a e).0) ∙ h))

  -- a literal whose atom is known where its level is below n
  module _ (l : Lit) (known : level l.atom < n → (among t l.atom || among out l.atom) ≡ true) where
    out-is : nat_lt (level l.atom) n ≡ true → among out l.atom ≡ not (among t l.atom)
    out-is h =
        elim (cases_Bool (among t l.atom)) [
          | inl e ↦ false_from_ne_true (among out l.atom) (λ k. true≢false (sym e ∙ (out_low l.atom k).1)) ∙ sym (ap not e)
          | inr e ↦
              elim (or_cases (among t l.atom) (among out l.atom) (known (ltb-true (level l.atom) n h))) [
                | inl k ↦ absurd (true≢false (sym k ∙ e))
                | inr k ↦ k ∙ sym (ap not e)
              ]
        ]

    -- it is known false where it is lower and false in t
    false-is : is_known_false t out l ≡ (is_lower level n l && not (is_true_in t l))
    false-is =
        elim (cases_Bool (nat_lt (level l.atom) n)) [
          | inl h ↦
              elim (cases_Bool l.positive) [
                | inl e ↦ cond-true l.positive (among out l.atom) (among t l.atom) e ∙ out-is h
                    ∙ sym (ap (λ b. b && not (is_true_in t l)) h ∙ ap not (cond-true l.positive (among t l.atom) (not (among t l.atom)) e))
                | inr e ↦ cond-false l.positive (among out l.atom) (among t l.atom) e ∙ sym (not-not (among t l.atom))
                    ∙ sym (ap (λ b. b && not (is_true_in t l)) h ∙ ap not (cond-false l.positive (among t l.atom) (not (among t l.atom)) e))
              ]
          | inr h ↦
              (let none : (is_lower level n l && not (is_true_in t l)) ≡ false = ap (λ b. b && not (is_true_in t l)) h in
              elim (cases_Bool l.positive) [
                | inl e ↦ cond-true l.positive (among out l.atom) (among t l.atom) e ∙ out-not l.atom h ∙ sym none
                | inr e ↦ cond-false l.positive (among out l.atom) (among t l.atom) e ∙ t-not l.atom h ∙ sym none
              ])
        ]

    -- where it is not known false, it is known true where it is lower
    true-is : is_known_false t out l ≡ false → is_known_true t out l ≡ is_lower level n l
    true-is u =
        elim (cases_Bool (nat_lt (level l.atom) n)) [
          | inl h ↦
              elim (cases_Bool l.positive) [
                | inl e ↦ cond-true l.positive (among t l.atom) (among out l.atom) e
                    ∙ from-not (among out l.atom) (among t l.atom) (out-is h) (sym (cond-true l.positive (among out l.atom) (among t l.atom) e) ∙ u) ∙ sym h
                | inr e ↦ cond-false l.positive (among t l.atom) (among out l.atom) e ∙ out-is h
                    ∙ ap not (sym (cond-false l.positive (among out l.atom) (among t l.atom) e) ∙ u) ∙ sym h
              ]
          | inr h ↦
              elim (cases_Bool l.positive) [
                | inl e ↦ cond-true l.positive (among t l.atom) (among out l.atom) e ∙ t-not l.atom h ∙ sym h
                | inr e ↦ cond-false l.positive (among t l.atom) (among out l.atom) e ∙ out-not l.atom h ∙ sym h
              ]
        ]

  module _ (c : GroundClause) (a : Atom) (head : c.head ≡ Some a) where
    -- of a rule for a known atom nothing is left
    pub residual_of-known : (among t a || among out a) ≡ true → residual_of t out c ≡ []
    residual_of-known k =
        cond-true (is_known t out c.head || list_any (is_known_false t out) c.body) []
        (record { head = c.head; body = filter (λ l. not (is_known_true t out l)) c.body } ∷ [])
        (or_left (is_known t out c.head) (list_any (is_known_false t out) c.body) (ap (is_known t out) head ∙ k))

    -- of a rule for an atom that is not lower is left what its lower literals leave
    pub residual_of-read : nat_lt (level a) n ≡ false → ((l : Lit) → Contains c.body l → level l.atom < n → (among t l.atom || among out l.atom) ≡ true)
        → residual_of t out c ≡ read_lower level n t c
    residual_of-read not_low known =
        let falls : Bool = is_known t out c.head || list_any (is_known_false t out) c.body in
        let wrong : Bool = list_any (λ l. is_lower level n l && not (is_true_in t l)) c.body in
        let one : List GroundClause = record { head = c.head; body = filter (λ l. not (is_known_true t out l)) c.body } ∷ [] in
        let two : List GroundClause = record { head = c.head; body = filter (λ l. not (is_lower level n l)) c.body } ∷ [] in
        let unknown : is_known t out c.head ≡ false = ap (is_known t out) head ∙ or_from (among t a) (among out a) (t-not a not_low) (out-not a not_low) in
        let members : list_any (is_known_false t out) c.body ≡ wrong =
        list_any-same (is_known_false t out) (λ l. is_lower level n l && not (is_true_in t l)) c.body (λ l i. false-is l (known l i)) in
        let test : falls ≡ wrong = ap (λ b. b || list_any (is_known_false t out) c.body) unknown ∙ members in
        elim (cases_Bool wrong) [
          | inl e ↦ cond-true falls [] one (test ∙ e) ∙ sym (cond-true wrong [] two e)
          | inr e ↦ cond-false falls [] one (test ∙ e)
              ∙ ap (λ (body : List Lit). record { head = c.head; body = body } ∷ [])
              (filter-same (λ l. not (is_known_true t out l)) (λ l. not (is_lower level n l)) c.body
              (λ l i. ap not (true-is l (known l i) (list_any-none_member (is_known_false t out) c.body l (members ∙ e) i))))
              ∙ sym (cond-false wrong [] two e)
        ]

-- a rule of a level, with its lower literals read, comes from a rule for an atom of that level, and keeps only literals that are not lower
pub at_level-from : (level : Atom → ℕ) (n : ℕ) (t : List Atom) (g : List GroundClause) (d : GroundClause) → Contains (at_level level n t g) d
    → (c : GroundClause) × Contains (rules_for (λ a. nat_eq (level a) n) g) c × (record { head = c.head; body = filter (λ l. not (is_lower level n l)) c.body } ≡ d)
at_level-from level n t g d i =
    let p = Contains-from_flat_map (read_lower level n t) (rules_for (λ a. nat_eq (level a) n) g) d i in
    let c : GroundClause = p.0 in
    let kept : GroundClause = record { head = c.head; body = filter (λ l. not (is_lower level n l)) c.body } in (
      c,
      p.1,
      cond_both (list_any (λ l. is_lower level n l && not (is_true_in t l)) c.body) [] (kept ∷ []) (λ cs. Contains cs d → kept ≡ d)
          (λ e j. absurd (Contains-none d j)) (λ e j. Contains-single kept d j) p.2,
    )
