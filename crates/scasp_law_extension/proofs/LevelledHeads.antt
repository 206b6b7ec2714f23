-- Each atom of a levelled model is the head of a rule.
use Rattle.std.proofs.Common.{◌≡◌, ◌∙◌, ℕ, zero, suc, Bool, true, not, nat_eq, List, Some, length, ap, sym, inl, inr}
use Rattle.std.specs.List.{Contains}
use Rattle.std.proofs.lemmas.Bool.{false≢true, or_cases}
use Rattle.scasp_model.specs.Atoms.{among}
use Rattle.scasp_model.specs.Levelled.{above_heads, at_level, below_level, levelled_model, minus_by, plus_model, plus_steps, signed_model}
use Rattle.scasp_model.specs.Programs.{rules_for}
use Rattle.scasp_model.specs.declared.program.GroundClause.{GroundClause}
use Rattle.scasp_model.proofs.AtomLemmas.{among-append}
use Rattle.scasp_sound.proofs.HeadLemmas.{rules_for-from}
use Rattle.scasp_sound.proofs.ReadingLemmas.{at_level-from}
use Rattle.scasp_sound.proofs.ReductLemmas.{least_model-head}
use Rattle.scasp_syntax.specs.declared.atom.Atom.{Atom}

-- the list has a rule for the atom
pub record HasRule (g : List GroundClause) (a : Atom) : Type 0 where
  pub rule : GroundClause
  pub listed : Contains g rule
  pub head : rule.head ≡ Some a

module _ (plus : Atom → Bool) (g : List GroundClause) where
  plus-head : (n : ℕ) (a : Atom) → among (plus_steps plus g n) a ≡ true → HasRule g a
  plus-head zero a h = absurd (false≢true h)
  plus-head (suc n) a h =
      let p = least_model-head (rules_for plus g) (minus_by plus g (plus_steps plus g n)) a h in
      record { rule = p.0; listed = (rules_for-from plus g p.0 a p.1 p.2).0; head = p.2 }

  minus-head : (s : List Atom) (a : Atom) → among (minus_by plus g s) a ≡ true → HasRule g a
  minus-head s a h =
      let p = least_model-head (rules_for (λ b. not (plus b)) g) s a h in
      record { rule = p.0; listed = (rules_for-from (λ b. not (plus b)) g p.0 a p.1 p.2).0; head = p.2 }

  signed-head : (a : Atom) → among (signed_model plus g) a ≡ true → HasRule g a
  signed-head a h =
      elim (or_cases (among (plus_model plus g) a) (among (minus_by plus g (plus_model plus g)) a) (sym (among-append (plus_model plus g) (minus_by plus g (plus_model plus g)) a) ∙ h)) [
        | inl e ↦ plus-head (length g) a e
        | inr e ↦ minus-head (plus_model plus g) a e
      ]

module _ (level : Atom → ℕ) (plus : Atom → Bool) (g : List GroundClause) where
  level-head : (n : ℕ) (t : List Atom) (a : Atom) → HasRule (at_level level n t g) a → HasRule g a
  level-head n t a h =
      let p = at_level-from level n t g h.rule h.listed in
      let head : (p.0).head ≡ Some a = ap (λ (c : GroundClause). c.head) p.2 ∙ h.head in
      record { rule = p.0; listed = (rules_for-from (λ b. nat_eq (level b) n) g p.0 a p.1 head).0; head = head }

  below-head : (n : ℕ) (a : Atom) → among (below_level level plus g n) a ≡ true → HasRule g a
  below-head zero a h = absurd (false≢true h)
  below-head (suc n) a h =
      let lower : List Atom = below_level level plus g n in
      let here : List GroundClause = at_level level n lower g in
      elim (or_cases (among lower a) (among (signed_model plus here) a) (sym (among-append lower (signed_model plus here) a) ∙ h)) [
        | inl e ↦ below-head n a e
        | inr e ↦ level-head n lower a (signed-head plus here a e)
      ]

  pub levelled-head : (a : Atom) → among (levelled_model level plus g) a ≡ true → HasRule g a
  levelled-head a h = below-head (above_heads level g) a h
