-- From a stable model of the rules below a level to one of those below the next.
use Rattle.std.proofs.Common.{◌≡◌, ◌∙◌, ℕ, suc, ◌<◌, Bool, false, not, nat_lt, nat_eq, List, [], Some, ap, sym, subst, inl, inr, arith}
use Rattle.std.specs.List.{Contains, filter}
use Rattle.std.proofs.lemmas.Bool.{true≢false, not-true, false_from_ne_true, cond-true, cond-false, cases_Bool, lt-ltb, ltb-true, ltb-false}
use Rattle.std.proofs.lemmas.Bool.Decides.{Decides-eqb}
use Rattle.scasp_syntax.specs.declared.atom.Atom.{Atom}
use Rattle.scasp_model.specs.Levelled.{is_lower, read_lower, at_level, signed_model, with_level}
use Rattle.scasp_model.specs.Programs.{head_is}
use Rattle.scasp_model.specs.Residual.{residual_of, residual}
use Rattle.scasp_model.specs.Stable.{Stable}
use Rattle.scasp_model.specs.declared.program.GroundClause.{GroundClause}
use Rattle.scasp_sound.proofs.BelowLemmas.{rules_below, lacked, lacked-from, known-head, known-literal, stable-low, next-supported}
use Rattle.scasp_sound.proofs.HeadLemmas.{rules_for-from}
use Rattle.scasp_sound.proofs.JoinLemmas.{joined}
use Rattle.scasp_sound.proofs.KeepingLemmas.{KeepsLevels}
use Rattle.scasp_list.proofs.MemberLemmas.{Contains-from_filter}
use Rattle.scasp_sound.proofs.ReadingLemmas.{residual_of-known, residual_of-read, at_level-from}
use Rattle.scasp_sound.proofs.SameLists.{taken, taken-same}
use Rattle.scasp_sound.proofs.SignLemmas.{KeepsSigns}
use Rattle.scasp_sound.proofs.StepLemmas.{signed-stable}

differs : (k n : ℕ) → k < n → nat_eq k n ≡ false
differs k n less = false_from_ne_true (nat_eq k n) (λ e. (let same = (Decides-eqb k n).0 e in absurd (omega (arith, less, same))))

above : (k n : ℕ) → nat_lt k n ≡ false → nat_eq k n ≡ false → nat_lt k (suc n) ≡ false
above k n p q =
    false_from_ne_true (nat_lt k (suc n))
    (λ e.
    (let at_least = ltb-false k n p in
    let at_most = ltb-true k (suc n) e in
    true≢false (sym ((Decides-eqb k n).1 (omega (arith, at_least, at_most))) ∙ q)))

module _ (level : Atom → ℕ) (plus : Atom → Bool) (g : List GroundClause) (keeps : KeepsLevels level plus g) (n : ℕ) (t : List Atom) where
  -- the tests of heads: of this level, and below the next
  abbrev at : Atom → Bool
  at a = nat_eq (level a) n

  abbrev below_next : Atom → Bool
  below_next a = nat_lt (level a) (suc n)

  -- the rules of a level keep signs, once their lower literals are read
  level-signs : KeepsSigns plus (at_level level n t g)
  level-signs =
      record {
        heads = λ d i.
            (let p = at_level-from level n t g d i in
            let h = keeps.heads p.0 (Contains-from_filter (λ k. head_is at k.head) g p.0 p.1).0 in
            (h.0, ap (λ (k : GroundClause). k.head) (sym p.2) ∙ h.1));
        signs = λ d a l i e j.
            (let p = at_level-from level n t g d i in
            let c : GroundClause = p.0 in
            let head : c.head ≡ Some a = ap (λ (k : GroundClause). k.head) p.2 ∙ e in
            let rule = rules_for-from at g c a p.1 head in
            let same = (Decides-eqb (level a) n).0 rule.1 in
            let body : Contains (filter (λ k. not (is_lower level n k)) c.body) l = subst (λ (k : GroundClause). Contains k.body l) (sym p.2) j in
            let q = Contains-from_filter (λ k. not (is_lower level n k)) c.body l body in
            let not_lower = ltb-false (level l.atom) n (not-true (is_lower level n l) q.1) in
            elim (keeps.lower c a l rule.0 head q.0) [
              | inl less ↦ absurd (omega (arith, less, same, not_lower))
              | inr kept ↦ kept.1
            ]);
      }

  module _ (stable : Stable (rules_below level g n) t) where
    abbrev out : List Atom
    out = lacked level g n t

    -- clause by clause, what is left below the next level is what is read at this one
    one-read : (c : GroundClause) → Contains g c → taken (λ k. head_is below_next k.head) (residual_of t out) c ≡ taken (λ k. head_is at k.head) (read_lower level n t) c
    one-read c i =
        let h = keeps.heads c i in
        let a : Atom = h.0 in
        let p : Bool = head_is below_next c.head in
        let q : Bool = head_is at c.head in
        let is_p : p ≡ nat_lt (level a) (suc n) = ap (head_is below_next) h.1 in
        let is_q : q ≡ nat_eq (level a) n = ap (head_is at) h.1 in
        elim (cases_Bool (nat_lt (level a) n)) [
          | inl low ↦
              (let less = ltb-true (level a) n low in
              cond-true p (residual_of t out c) [] (is_p ∙ lt-ltb (level a) (suc n) (omega (arith, less)))
              ∙ residual_of-known level n t out (stable-low level g n t stable) (lacked-from level g n t) c a h.1 (known-head level g n t c a i h.1 less)
              ∙ sym (cond-false q (read_lower level n t c) [] (is_q ∙ differs (level a) n less)))
          | inr not_low ↦
              elim (cases_Bool (nat_eq (level a) n)) [
                | inl same ↦
                    (let equal = (Decides-eqb (level a) n).0 same in
                    cond-true p (residual_of t out c) [] (is_p ∙ lt-ltb (level a) (suc n) (omega (arith, equal)))
                    ∙ residual_of-read level n t out (stable-low level g n t stable) (lacked-from level g n t) c a h.1 not_low (λ l j less. known-literal level g n t c l i j less)
                    ∙ sym (cond-true q (read_lower level n t c) [] (is_q ∙ same)))
                | inr other ↦
                    cond-false p (residual_of t out c) [] (is_p ∙ above (level a) n not_low other)
                    ∙ sym (cond-false q (read_lower level n t c) [] (is_q ∙ other))
              ]
        ]

    rest-read : residual t out (rules_below level g (suc n)) ≡ at_level level n t g
    rest-read = taken-same (λ c. head_is below_next c.head) (λ c. head_is at c.head) (residual_of t out) (read_lower level n t) g one-read

    pub next-stable : Stable (rules_below level g (suc n)) (with_level level plus g n t)
    next-stable =
        joined (rules_below level g (suc n)) t out (next-supported level plus g keeps n t stable) (signed_model plus (at_level level n t g))
        (subst (λ (h : List GroundClause). Stable h (signed_model plus (at_level level n t g))) (sym rest-read) (signed-stable plus (at_level level n t g) level-signs))
