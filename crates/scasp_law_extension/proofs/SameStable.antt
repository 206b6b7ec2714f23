-- Stable models with the same atoms.
use Rattle.std.proofs.Common.{◌≡◌, ◌∙◌, ◌++◌, ◌&&◌, ◌||◌, not, cond, List, [], ◌∷◌, refl, ap, sym}
use Rattle.scasp_model.specs.Atoms.{among, SameAtoms}
use Rattle.scasp_model.specs.Least.{least_model}
use Rattle.scasp_model.specs.Programs.{is_blocked, is_headless}
use Rattle.scasp_model.specs.Reduct.{reduced, reduct, rule_of}
use Rattle.scasp_model.specs.Stable.{Stable, are_true_in, has_violation, is_violated, is_true_in}
use Rattle.scasp_model.specs.declared.program.GroundClause.{GroundClause}
use Rattle.scasp_syntax.specs.declared.atom.Atom.{Atom}
use Rattle.scasp_syntax.specs.declared.atom.Lit.{Lit}

module _ (s t : List Atom) (e : SameAtoms s t) where
  blocked-same : (body : List Lit) → is_blocked s body ≡ is_blocked t body
  blocked-same [] = refl
  blocked-same (l ∷ body) =
      ap (λ z. (not l.positive && z) || is_blocked s body) (e l.atom) ∙ ap (λ z. (not l.positive && among t l.atom) || z) (blocked-same body)

  -- the reduct asks only which atoms are there
  pub reduct-same : (g : List GroundClause) → reduct s g ≡ reduct t g
  reduct-same [] = refl
  reduct-same (c ∷ g) =
      ap (λ b. cond b [] (rule_of c.head c.body) ++ reduct s g) (blocked-same c.body) ∙ ap (λ rs. reduced t c ++ rs) (reduct-same g)

  body-same : (body : List Lit) → are_true_in s body ≡ are_true_in t body
  body-same [] = refl
  body-same (l ∷ body) =
      ap (λ z. cond l.positive z (not z) && are_true_in s body) (e l.atom) ∙ ap (λ z. is_true_in t l && z) (body-same body)

  violation-same : (g : List GroundClause) → has_violation s g ≡ has_violation t g
  violation-same [] = refl
  violation-same (c ∷ g) =
      ap (λ z. (is_headless c.head && z) || has_violation s g) (body-same c.body) ∙ ap (λ z. is_violated t c || z) (violation-same g)

  pub stable-same : (g : List GroundClause) → Stable g t → Stable g s
  stable-same g h =
      record {
        least_of_reduct = λ a. e a ∙ h.least_of_reduct a ∙ sym (ap (λ rs. among (least_model rs) a) (reduct-same g));
        no_violation = ap not (violation-same g) ∙ h.no_violation;
      }
