-- The levelled model of rules that keep levels and signs is stable: by induction over levels.
use Rattle.std.proofs.Common.{◌≡◌, ◌∙◌, ℕ, zero, suc, ◌+◌, ◌<◌, Bool, true, nat_lt, List, [], ◌∷◌, ◌++◌, Some, refl, ap, sym, subst, inl, inr, arith}
use Rattle.std.specs.List.{Contains}
use Rattle.std.proofs.Math.Nat.{le-max_left, le-max_right}
use Rattle.std.proofs.lemmas.Bool.{false_from_ne_true, lt-ltb, ltb-true}
use Rattle.scasp_syntax.specs.declared.atom.Atom.{Atom}
use Rattle.scasp_model.specs.Levelled.{below_level, above_head, above_heads, levelled_model}
use Rattle.scasp_model.specs.Levels.{keeps_levels}
use Rattle.scasp_model.specs.Programs.{head_is}
use Rattle.scasp_model.specs.Residual.{residual}
use Rattle.scasp_model.specs.Stable.{Stable}
use Rattle.scasp_model.specs.declared.program.GroundClause.{GroundClause}
use Rattle.scasp_sound.specs.Support.{Supports}
use Rattle.scasp_sound.proofs.BelowLemmas.{rules_below}
use Rattle.scasp_sound.proofs.JoinLemmas.{joined}
use Rattle.scasp_sound.proofs.KeepingLemmas.{KeepsLevels, KeepsLevels-from}
use Rattle.scasp_sound.proofs.LevelLemmas.{next-stable}
use Rattle.scasp_list.proofs.MemberLemmas.{Contains-none, Contains-cases}
use Rattle.scasp_sound.proofs.SameLists.{filter-all, filter-none}

head-below : (level : Atom → ℕ) (g : List GroundClause) (c : GroundClause) (a : Atom) → Contains g c → c.head ≡ Some a → level a < above_heads level g
head-below level [] c a i e = absurd (Contains-none c i)
head-below level (d ∷ g) c a i e =
    let left = le-max_left (above_head level d.head) (above_heads level g) in
    let right = le-max_right (above_head level d.head) (above_heads level g) in
    elim (Contains-cases d g c i) [
      | inl same ↦
          (let one : above_head level d.head ≡ level a + 1 = ap (λ (k : GroundClause). above_head level k.head) same ∙ ap (above_head level) e in
          omega (arith, left, one))
      | inr later ↦ (let rest = head-below level g c a later e in omega (arith, right, rest))
    ]

module _ (level : Atom → ℕ) (plus : Atom → Bool) (g : List GroundClause) (keeps : KeepsLevels level plus g) where
  none-below : rules_below level g 0 ≡ []
  none-below =
      filter-none (λ c. head_is (λ a. nat_lt (level a) 0) c.head) g
      (λ c i.
      (let h = keeps.heads c i in
      ap (head_is (λ a. nat_lt (level a) 0)) h.1
      ∙ false_from_ne_true (nat_lt (level h.0) 0) (λ e. (let less = ltb-true (level h.0) 0 e in absurd (omega (arith, less))))))

  all-below : rules_below level g (above_heads level g) ≡ g
  all-below =
      filter-all (λ c. head_is (λ a. nat_lt (level a) (above_heads level g)) c.head) g
      (λ c i.
      (let h = keeps.heads c i in
      ap (head_is (λ a. nat_lt (level a) (above_heads level g))) h.1
      ∙ lt-ltb (level h.0) (above_heads level g) (head-below level g c h.0 i h.1)))

  nothing-stable : Stable [] []
  nothing-stable = record { least_of_reduct = λ a. refl; no_violation = refl }

  below-stable : (n : ℕ) → Stable (rules_below level g n) (below_level level plus g n)
  below-stable zero = subst (λ (h : List GroundClause). Stable h []) (sym none-below) nothing-stable
  below-stable (suc n) = next-stable level plus g keeps n (below_level level plus g n) (below-stable n)

pub levelled-stable : (level : Atom → ℕ) (plus : Atom → Bool) (g : List GroundClause) → keeps_levels level plus g ≡ true → Stable g (levelled_model level plus g)
levelled-stable level plus g h =
    let keeps = KeepsLevels-from level plus g h in
    subst (λ (k : List GroundClause). Stable k (levelled_model level plus g)) (all-below level plus g keeps) (below-stable level plus g keeps (above_heads level g))

-- atoms that a program supports, and the levelled model of what they leave
pub levelled-extends : (level : Atom → ℕ) (plus : Atom → Bool) (g : List GroundClause) (t f : List Atom) → keeps_levels level plus (residual t f g) ≡ true → Supports g t f → Stable g (t ++ levelled_model level plus (residual t f g))
levelled-extends level plus g t f h s =
    joined g t f s (levelled_model level plus (residual t f g)) (levelled-stable level plus (residual t f g) h)
