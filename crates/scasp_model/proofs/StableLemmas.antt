-- Stable models: the test of them, and those of programs without `not`.
use Rattle.std.proofs.Common.{◌≡◌, ◌∷◌, ◌++◌, ◌∙◌, true, false, ◌&&◌, not, List, [], refl, ap, sym}
use Rattle.std.proofs.lemmas.Bool.{and_parts, and_left, or_from, not_from_true, cond-false}
use Rattle.scasp_syntax.specs.declared.atom.Atom.{Atom}
use Rattle.scasp_syntax.specs.declared.atom.Lit.{Lit}
use Rattle.scasp_model.specs.Atoms.{among, SameAtoms}
use Rattle.scasp_model.specs.Least.{least_model}
use Rattle.scasp_model.specs.Programs.{is_positive, is_without_not, is_blocked}
use Rattle.scasp_model.specs.Reduct.{rule_of, definite, reduct}
use Rattle.scasp_model.specs.Stable.{Stable, has_violation}
use Rattle.scasp_model.specs.declared.program.GroundClause.{GroundClause}

not_blocked : (m : List Atom) (body : List Lit) → is_positive body ≡ true → is_blocked m body ≡ false
not_blocked m [] p = refl
not_blocked m (l ∷ body) p =
    let q = and_parts l.positive (is_positive body) p in
    or_from (not l.positive && among m l.atom) (is_blocked m body)
    (and_left (not l.positive) (among m l.atom) (not_from_true l.positive q.0)) (not_blocked m body q.1)

-- the reduct of a program without `not` is its rules
pub reduct-without_not : (m : List Atom) (g : List GroundClause) → is_without_not g ≡ true → reduct m g ≡ definite g
reduct-without_not m [] p = refl
reduct-without_not m (c ∷ g) p =
    let q = and_parts (is_positive c.body) (is_without_not g) p in
    ap (λ z. z ++ reduct m g) (cond-false (is_blocked m c.body) [] (rule_of c.head c.body) (not_blocked m c.body q.0))
    ∙ ap (λ z. rule_of c.head c.body ++ z) (reduct-without_not m g q.1)

pub stable_is_least : (g : List GroundClause) (m : List Atom) → is_without_not g ≡ true → Stable g m → SameAtoms m (least_model (definite g))
stable_is_least g m p s a =
    s.least_of_reduct a ∙ ap (λ rules. among (least_model rules) a) (reduct-without_not m g p)

pub least_is_stable : (g : List GroundClause) → is_without_not g ≡ true → not (has_violation (least_model (definite g)) g) ≡ true → Stable g (least_model (definite g))
least_is_stable g p v =
    record {
      least_of_reduct = λ a. sym (ap (λ rules. among (least_model rules) a) (reduct-without_not (least_model (definite g)) g p));
      no_violation = v;
    }
