-- Stable models by tables: a list and its table have the same atoms.
use Rattle.std.proofs.Common.{◌≡◌, ◌↔◌, ◌∷◌, ◌++◌, ◌∙◌, Bool, true, false, ◌&&◌, ◌||◌, not, if◌then◌else◌, List, [], Option, Some, None, refl, sym, ap, inl, inr}
use Rattle.std.proofs.lemmas.Bool.{true≢false, and_parts, and_from, or_cases, or_left, or_right, cond_both, cases_Bool}
use Rattle.scasp_model.specs.Atoms.{among, has_all, SameAtoms}
use Rattle.scasp_model.specs.Least.{least_model}
use Rattle.scasp_model.specs.Programs.{is_blocked, is_headless}
use Rattle.scasp_model.specs.Reduct.{rule_of, reduced, reduct}
use Rattle.scasp_model.specs.Stable.{Stable, is_true_in, are_true_in, is_violated, has_violation}
use Rattle.scasp_model.specs.declared.program.GroundClause.{GroundClause}
use Rattle.scasp_model.proofs.AtomLemmas.{among-append, SameAtoms-from_all, all-from_SameAtoms}
use Rattle.scasp_syntax.specs.Same.{same_atom}
use Rattle.scasp_syntax.specs.declared.atom.Atom.{Atom}
use Rattle.scasp_syntax.specs.declared.atom.Lit.{Lit}
use Rattle.scasp_syntax.proofs.SameLemmas.{atom_decided}
use Rattle.scasp_tables.specs.Tables.{with_atom}
use Rattle.scasp_closure.specs.Reading.{with_atoms}
use Rattle.scasp_closure.proofs.ReadingLemmas.{same_truth}

among-with_atom : (t : List Atom) (a x : Atom) → among (with_atom t a) x ≡ (among t x || same_atom x a)
among-with_atom t a x =
    cond_both (among t a) t (t ++ a ∷ []) (λ z. among z x ≡ (among t x || same_atom x a))
    (λ there.
    same_truth (among t x) (among t x || same_atom x a) (λ h. or_left (among t x) (same_atom x a) h)
    (λ h.
    elim (or_cases (among t x) (same_atom x a) h) [
      | inl e ↦ e
      | inr e ↦ ap (among t) ((atom_decided x a).0 e) ∙ there
    ]))
    (λ new. among-append t (a ∷ []) x ∙ ap (λ b. among t x || b) (last (same_atom x a)))
  where
    last : (b : Bool) → (b || false) ≡ b
    last true = refl
    last false = refl

among-with_atoms : (t bs : List Atom) (x : Atom) → among (with_atoms t bs) x ≡ (among t x || among bs x)
among-with_atoms t [] x = sym (last (among t x))
  where
    last : (b : Bool) → (b || false) ≡ b
    last true = refl
    last false = refl
among-with_atoms t (a ∷ bs) x =
    among-with_atoms (with_atom t a) bs x ∙ ap (λ b. b || among bs x) (among-with_atom t a x)
    ∙ assoc (among t x) (same_atom x a) (among bs x)
  where
    assoc : (a b c : Bool) → ((a || b) || c) ≡ (a || (b || c))
    assoc true b c = refl
    assoc false b c = refl

pub same-in_table : (m t : List Atom) → t ≡ with_atoms [] m → SameAtoms t m
same-in_table m t e a = ap (λ z. among z a) e ∙ among-with_atoms [] m a

-- ---- lists with the same atoms

blocked-same : (m n : List Atom) (body : List Lit) → SameAtoms m n → is_blocked m body ≡ is_blocked n body
blocked-same m n [] s = refl
blocked-same m n (l ∷ body) s = λ j. (not l.positive && s l.atom j) || blocked-same m n body s j

reduct-same : (m n : List Atom) (g : List GroundClause) → SameAtoms m n → reduct m g ≡ reduct n g
reduct-same m n [] s = refl
reduct-same m n (c ∷ g) s =
    λ j. (if blocked-same m n c.body s j then [] else rule_of c.head c.body) ++ reduct-same m n g s j

true-same : (m n : List Atom) (l : Lit) → SameAtoms m n → is_true_in m l ≡ is_true_in n l
true-same m n l s = λ j. if l.positive then s l.atom j else not (s l.atom j)

all_true-same : (m n : List Atom) (body : List Lit) → SameAtoms m n → are_true_in m body ≡ are_true_in n body
all_true-same m n [] s = refl
all_true-same m n (l ∷ body) s = λ j. true-same m n l s j && all_true-same m n body s j

violation-same : (m n : List Atom) (g : List GroundClause) → SameAtoms m n → has_violation m g ≡ has_violation n g
violation-same m n [] s = refl
violation-same m n (c ∷ g) s =
    λ j. (is_headless c.head && all_true-same m n c.body s j) || violation-same m n g s j

has_all-same : (m n xs : List Atom) → SameAtoms m n → has_all m xs ≡ has_all n xs
has_all-same m n [] s = refl
has_all-same m n (x ∷ xs) s = λ j. s x j && has_all-same m n xs s j

-- ---- the test

pub stable-tested : (g : List GroundClause) (m table model reached : List Atom) (closed founded violated answer : Bool)
    → table ≡ with_atoms [] m → SameAtoms model (least_model (reduct table g)) → reached ≡ with_atoms [] model
    → closed ≡ has_all table model → founded ≡ has_all reached m → violated ≡ has_violation table g
    → answer ≡ (closed && founded && not violated) → (answer ≡ true) ↔ Stable g m
stable-tested g m table model reached closed founded violated answer t l r c f v e =
    let st = same-in_table m table t in
    let sr = same-in_table model reached r in
    let least : SameAtoms model (least_model (reduct m g)) = λ a. l a ∙ ap (λ z. among (least_model z) a) (reduct-same table m g st) in
    let c' : closed ≡ has_all m model = c ∙ has_all-same table m model st in
    let f' : founded ≡ has_all model m = f ∙ has_all-same reached model m sr in
    let v' : violated ≡ has_violation m g = v ∙ violation-same table m g st in (
      λ h.
          let p = and_parts (closed && founded) (not violated) (sym e ∙ h) in
          let q = and_parts closed founded p.0 in
          let same : SameAtoms m model = SameAtoms-from_all m model (sym f' ∙ q.1) (sym c' ∙ q.0) in
          record { least_of_reduct = λ a. same a ∙ least a; no_violation = ap not (sym v') ∙ p.1 },
      λ s.
          let same : SameAtoms m model = λ a. s.least_of_reduct a ∙ sym (least a) in
          let back : SameAtoms model m = λ a. sym (same a) in
          e ∙ and_from (closed && founded) (not violated)
          (and_from closed founded (c' ∙ all-from_SameAtoms model m back) (f' ∙ all-from_SameAtoms m model same))
          (ap not v' ∙ s.no_violation),
    )
