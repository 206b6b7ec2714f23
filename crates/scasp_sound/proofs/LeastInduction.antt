-- What holds of the head of each rule whose body atoms it holds of, holds of the least model.
use Rattle.std.proofs.Common.{◌≡◌, ◌∷◌, ◌++◌, ◌∙◌, ℕ, zero, suc, true, false, ◌&&◌, not, List, [], length, sym, subst, inl, inr}
use Rattle.std.specs.List.{Contains}
use Rattle.std.proofs.lemmas.Bool.{false≢true, and_parts, or_cases, cond_both}
use Rattle.scasp_syntax.specs.Same.{same_atom}
use Rattle.scasp_syntax.specs.declared.atom.Atom.{Atom}
use Rattle.scasp_syntax.proofs.SameLemmas.{atom_decided}
use Rattle.scasp_model.specs.Atoms.{among, has_all}
use Rattle.scasp_model.specs.Least.{with_head, with_heads, rounds, least_model}
use Rattle.scasp_model.specs.declared.program.DefiniteRule.{DefiniteRule}
use Rattle.scasp_model.proofs.AtomLemmas.{among-append, among-within}
use Rattle.scasp_list.proofs.MemberLemmas.{Contains-here, Contains-there}

module _ (rs : List DefiniteRule) (P : Atom → Type 0) (rule : (r : DefiniteRule) → Contains rs r → ((b : Atom) → among r.body b ≡ true → P b) → P r.head) where
  with_head-keeps : (present got : List Atom) (r : DefiniteRule) → Contains rs r → ((a : Atom) → among present a ≡ true → P a) → ((a : Atom) → among got a ≡ true → P a) → (a : Atom) → among (with_head present got r) a ≡ true → P a
  with_head-keeps present got r i f k =
      cond_both (has_all present r.body && not (among got r.head)) (got ++ r.head ∷ []) got (λ z. (a : Atom) → among z a ≡ true → P a)
      (λ e a h.
      (let p = and_parts (has_all present r.body) (not (among got r.head)) e in
      elim (or_cases (among got a) (among (r.head ∷ []) a) (sym (among-append got (r.head ∷ []) a) ∙ h)) [
        | inl j ↦ k a j
        | inr j ↦
            elim (or_cases (same_atom a r.head) false j) [
              | inl s ↦ subst P (sym ((atom_decided a r.head).0 s)) (rule r i (λ b t. f b (among-within present r.body b p.0 t)))
              | inr s ↦ absurd (false≢true s)
            ]
      ]))
      (λ e. k)

  with_heads-keeps : (present got : List Atom) (qs : List DefiniteRule) → ((r : DefiniteRule) → Contains qs r → Contains rs r) → ((a : Atom) → among present a ≡ true → P a) → ((a : Atom) → among got a ≡ true → P a) → (a : Atom) → among (with_heads present got qs) a ≡ true → P a
  with_heads-keeps present got [] within f k = k
  with_heads-keeps present got (r ∷ qs) within f k =
      with_heads-keeps present (with_head present got r) qs (λ q i. within q (Contains-there r qs q i)) f
      (with_head-keeps present got r (within r (Contains-here r qs)) f k)

  rounds-keep : (n : ℕ) (a : Atom) → among (rounds rs n) a ≡ true → P a
  rounds-keep zero a h = absurd (false≢true h)
  rounds-keep (suc n) a h =
      with_heads-keeps (rounds rs n) (rounds rs n) rs (λ r i. i) (rounds-keep n) (rounds-keep n) a h

  pub least_model-induction : (a : Atom) → among (least_model rs) a ≡ true → P a
  least_model-induction a h = rounds-keep (length rs) a h
