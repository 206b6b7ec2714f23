-- What is left by sets of atoms asks only which atoms are there.
use Rattle.std.proofs.Common.{◌≡◌, ◌∙◌, ◌∷◌, ◌++◌, ℕ, Bool, ◌||◌, not, cond, List, [], Option, None, Some, refl, ap}
use Rattle.std.specs.List.{filter, list_any}
use Rattle.std.specs.Prelude.{Result, Ok, Err, IfOk}
use Rattle.scasp_extend_levels.specs.Sets.{with_atoms}
use Rattle.scasp_extend_levels.proofs.SetLemmas.{append-same, with_atoms-same}
use Rattle.scasp_extend_parts.specs.declared.errors.ExtendErr.{ExtendErr}
use Rattle.scasp_model.specs.Atoms.{among, SameAtoms}
use Rattle.scasp_model.specs.Levelled.{levelled_model}
use Rattle.scasp_model.specs.Residual.{is_known, is_known_false, is_known_true, residual, residual_of}
use Rattle.scasp_model.specs.declared.program.GroundClause.{GroundClause}
use Rattle.scasp_syntax.specs.declared.atom.Atom.{Atom}
use Rattle.scasp_syntax.specs.declared.atom.Lit.{Lit}

module _ (t u f g : List Atom) (trues : SameAtoms t u) (falses : SameAtoms f g) where
  head-same : (head : Option Atom) → is_known t f head ≡ is_known u g head
  head-same None = refl
  head-same (Some a) = ap (λ b. b || among f a) (trues a) ∙ ap (λ b. among u a || b) (falses a)

  true-same : (l : Lit) → is_known_true t f l ≡ is_known_true u g l
  true-same l = ap (λ b. cond l.positive b (among f l.atom)) (trues l.atom) ∙ ap (λ b. cond l.positive (among u l.atom) b) (falses l.atom)

  false-same : (l : Lit) → is_known_false t f l ≡ is_known_false u g l
  false-same l = ap (λ b. cond l.positive b (among t l.atom)) (falses l.atom) ∙ ap (λ b. cond l.positive (among g l.atom) b) (trues l.atom)

  wrong-same : (body : List Lit) → list_any (is_known_false t f) body ≡ list_any (is_known_false u g) body
  wrong-same [] = refl
  wrong-same (l ∷ body) =
      ap (λ b. b || list_any (is_known_false t f) body) (false-same l) ∙ ap (λ b. is_known_false u g l || b) (wrong-same body)

  kept-same : (body : List Lit) → filter (λ l. not (is_known_true t f l)) body ≡ filter (λ l. not (is_known_true u g l)) body
  kept-same [] = refl
  kept-same (l ∷ body) =
      let rest : List Lit = filter (λ k. not (is_known_true t f k)) body in
      ap (λ b. cond (not b) (l ∷ rest) rest) (true-same l)
      ∙ ap (λ (ls : List Lit). cond (not (is_known_true u g l)) (l ∷ ls) ls) (kept-same body)

  clause-same : (c : GroundClause) → residual_of t f c ≡ residual_of u g c
  clause-same c =
      let kept : List Lit = filter (λ l. not (is_known_true t f l)) c.body in
      ap (λ b. cond (b || list_any (is_known_false t f) c.body) [] (record { head = c.head; body = kept } ∷ [])) (head-same c.head)
      ∙ ap (λ b. cond (is_known u g c.head || b) [] (record { head = c.head; body = kept } ∷ [])) (wrong-same c.body)
      ∙ ap (λ (ls : List Lit). cond (is_known u g c.head || list_any (is_known_false u g) c.body) [] (record { head = c.head; body = ls } ∷ [])) (kept-same c.body)

  residual-same : (cs : List GroundClause) → residual t f cs ≡ residual u g cs
  residual-same [] = refl
  residual-same (c ∷ cs) = ap (λ ds. ds ++ residual t f cs) (clause-same c) ∙ ap (λ ds. residual_of u g c ++ ds) (residual-same cs)

-- by the sets of the atoms that are true and false, the model is that by the lists
model-by_sets : (level : Atom → ℕ) (plus : Atom → Bool) (cs : List GroundClause) (atoms set other trues falses : List Atom)
    → set ≡ with_atoms [] trues → other ≡ with_atoms [] falses → SameAtoms atoms (set ++ levelled_model level plus (residual set other cs))
    → SameAtoms atoms (trues ++ levelled_model level plus (residual trues falses cs))
model-by_sets level plus cs atoms set other trues falses e h same a =
    let there : SameAtoms set trues = λ b. ap (λ xs. among xs b) e ∙ with_atoms-same [] trues b in
    let others : SameAtoms other falses = λ b. ap (λ xs. among xs b) h ∙ with_atoms-same [] falses b in
    same a
    ∙ append-same set (levelled_model level plus (residual set other cs)) trues (levelled_model level plus (residual trues falses cs)) there
    (λ b. ap (λ rs. among (levelled_model level plus rs) b) (residual-same set trues other falses there others cs)) a

-- the same of a model that is told
pub told-by_sets : (level : Atom → ℕ) (plus : Atom → Bool) (cs : List GroundClause) (r : Result (List Atom) ExtendErr) (set other trues falses : List Atom)
    → set ≡ with_atoms [] trues → other ≡ with_atoms [] falses
    → IfOk r (λ atoms. SameAtoms atoms (set ++ levelled_model level plus (residual set other cs)))
    → IfOk r (λ atoms. SameAtoms atoms (trues ++ levelled_model level plus (residual trues falses cs)))
told-by_sets level plus cs (Ok atoms) set other trues falses e h same = model-by_sets level plus cs atoms set other trues falses e h same
told-by_sets level plus cs (Err error) set other trues falses e h same = same
