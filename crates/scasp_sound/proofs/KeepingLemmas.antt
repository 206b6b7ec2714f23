-- Ground rules that keep levels and signs, and what known atoms leave of them.
use Rattle.std.proofs.Common.{◌≡◌, ◌∙◌, ◌⊎◌, ℕ, ◌<◌, Bool, true, false, ◌&&◌, ◌||◌, not, nat_eq, nat_lt, List, [], ◌∷◌, Option, None, Some, refl, ap, sym, inl, inr}
use Rattle.std.specs.List.{Contains, list_all, list_any, filter}
use Rattle.std.proofs.lemmas.Bool.{false≢true, and_parts, or_cases, or_from, cond-false, ltb-true}
use Rattle.std.proofs.lemmas.Bool.Decides.{Decides-eqb}
use Rattle.scasp_syntax.specs.Same.{same_bool}
use Rattle.scasp_syntax.specs.declared.atom.Atom.{Atom}
use Rattle.scasp_syntax.specs.declared.atom.Lit.{Lit}
use Rattle.scasp_model.specs.Levels.{keeps_literal, keeps_rule, keeps_levels}
use Rattle.scasp_model.specs.Programs.{head_is}
use Rattle.scasp_model.specs.Residual.{is_known, is_known_true, is_known_false, residual_of, residual}
use Rattle.scasp_model.specs.declared.program.GroundClause.{GroundClause}
use Rattle.scasp_list.proofs.MemberLemmas.{Contains-from_filter, list_all-from, list_all-member}
use Rattle.scasp_sound.proofs.ResidualLemmas.{left, residual-from}

-- what the test says: no literal of a body is above the head, those of its level keep signs, and there is no denial
pub record KeepsLevels (level : Atom → ℕ) (plus : Atom → Bool) (g : List GroundClause) : Type 0 where
  pub heads : (c : GroundClause) → Contains g c → (a : Atom) × (c.head ≡ Some a)
  pub lower : (c : GroundClause) (a : Atom) (l : Lit) → Contains g c → c.head ≡ Some a → Contains c.body l
      → (level l.atom < level a) ⊎ ((level l.atom ≡ level a) × (plus l.atom ≡ same_bool l.positive (plus a)))

sign-from : (p h b : Bool) → same_bool p (same_bool h b) ≡ true → b ≡ same_bool p h
sign-from true true b e = e
sign-from true false true e = sym e
sign-from true false false e = refl
sign-from false true true e = sym e
sign-from false true false e = refl
sign-from false false true e = refl
sign-from false false false e = e

has-head : (test : Atom → Bool) (o : Option Atom) → head_is test o ≡ true → (a : Atom) × (o ≡ Some a)
has-head test None h = absurd (false≢true h)
has-head test (Some a) h = (a, refl)

module _ (level : Atom → ℕ) (plus : Atom → Bool) where
  literal-from : (a : Atom) (l : Lit) → keeps_literal level plus a l ≡ true → (level l.atom < level a) ⊎ ((level l.atom ≡ level a) × (plus l.atom ≡ same_bool l.positive (plus a)))
  literal-from a l h =
      elim (or_cases (nat_lt (level l.atom) (level a)) (nat_eq (level l.atom) (level a) && same_bool l.positive (same_bool (plus a) (plus l.atom))) h) [
        | inl e ↦ inl (ltb-true (level l.atom) (level a) e)
        | inr e ↦
            (let p = and_parts (nat_eq (level l.atom) (level a)) (same_bool l.positive (same_bool (plus a) (plus l.atom))) e in
            inr ((Decides-eqb (level l.atom) (level a)).0 p.0, sign-from l.positive (plus a) (plus l.atom) p.1))
      ]

  -- each literal of the body keeps them below this head
  abbrev body_keeps : List Lit → Atom → Bool
  body_keeps body a = list_all (keeps_literal level plus a) body

  pub KeepsLevels-from : (g : List GroundClause) → keeps_levels level plus g ≡ true → KeepsLevels level plus g
  KeepsLevels-from g h =
      record {
        heads = λ c i. has-head (body_keeps c.body) c.head (list_all-member (keeps_rule level plus) g c h i);
        lower = λ c a l i e j.
            literal-from a l
            (list_all-member (keeps_literal level plus a) c.body l (sym (ap (head_is (body_keeps c.body)) e) ∙ list_all-member (keeps_rule level plus) g c h i) j);
      }

  fewer-keep : (test : Lit → Bool) (o : Option Atom) (body : List Lit) → head_is (body_keeps body) o ≡ true → head_is (body_keeps (filter test body)) o ≡ true
  fewer-keep test None body h = h
  fewer-keep test (Some a) body h =
      list_all-from (keeps_literal level plus a) (filter test body)
      (λ l j. list_all-member (keeps_literal level plus a) body l h (Contains-from_filter test body l j).0)

  module _ (g : List GroundClause) (t f : List Atom) where
    -- the residual keeps them where each clause does of which something is left
    pub residual-keeps : ((c : GroundClause) → Contains g c → (keeps_rule level plus c ≡ true) ⊎ (residual_of t f c ≡ [])) → keeps_levels level plus (residual t f g) ≡ true
    residual-keeps h =
        list_all-from (keeps_rule level plus) (residual t f g)
        (λ d i.
        (let p = residual-from g t f d i in
        let c : GroundClause = p.0 in
        ap (keeps_rule level plus) (sym p.4)
        ∙ elim (h c p.1) [
          | inl k ↦ fewer-keep (λ l. not (is_known_true t f l)) c.head c.body k
          | inr none ↦
              (let one : residual_of t f c ≡ left t f c ∷ [] =
              cond-false (is_known t f c.head || list_any (is_known_false t f) c.body) [] (left t f c ∷ []) (or_from (is_known t f c.head) (list_any (is_known_false t f) c.body) p.2 p.3) in
              let nothing : [] ≡ left t f c ∷ [] = sym none ∙ one in cc)
        ]))

    pub residual-all_keeps : keeps_levels level plus g ≡ true → keeps_levels level plus (residual t f g) ≡ true
    residual-all_keeps h = residual-keeps (λ c i. inl (list_all-member (keeps_rule level plus) g c h i))
