-- Bodies of ground clauses, literal by literal.
use Rattle.std.proofs.Common.{◌≡◌, ◌∷◌, ◌∙◌, Bool, true, false, ◌&&◌, not, cond, List, [], refl, ap, sym, inl, inr, map}
use Rattle.std.specs.List.{Contains, list_all, filter}
use Rattle.std.proofs.lemmas.Bool.{false≢true, and_parts, and_from, or_cases, or_parts, or_from, not-true, not_from_false, cond-true, cond-false, cases_Bool}
use Rattle.scasp_syntax.specs.Same.{same_atom}
use Rattle.scasp_syntax.specs.declared.atom.Atom.{Atom}
use Rattle.scasp_syntax.specs.declared.atom.Lit.{Lit}
use Rattle.scasp_syntax.proofs.SameLemmas.{atom_decided}
use Rattle.scasp_model.specs.Atoms.{among, has_all}
use Rattle.scasp_model.specs.Programs.{positive_atoms, is_blocked, is_positive}
use Rattle.scasp_sound.specs.Support.{negated_atoms}
use Rattle.scasp_list.proofs.MemberLemmas.{Contains-here, Contains-there}

-- the literal's atom is in x, or behind `not` it is not in s
abbrev pub fires : List Atom → List Atom → Lit → Bool
fires s x l = cond l.positive (among x l.atom) (not (among s l.atom))

-- the atoms of the literals whose sign the test takes
abbrev picked : (Lit → Bool) → List Lit → List Atom
picked sign body = map (λ l. l.atom) (filter sign body)

-- one literal more
picked-true : (sign : Lit → Bool) (l : Lit) (body : List Lit) → sign l ≡ true → picked sign (l ∷ body) ≡ l.atom ∷ picked sign body
picked-true sign l body e = ap (map (λ (k : Lit). k.atom)) (cond-true (sign l) (l ∷ filter sign body) (filter sign body) e)

picked-false : (sign : Lit → Bool) (l : Lit) (body : List Lit) → sign l ≡ false → picked sign (l ∷ body) ≡ picked sign body
picked-false sign l body e = ap (map (λ (k : Lit). k.atom)) (cond-false (sign l) (l ∷ filter sign body) (filter sign body) e)

-- a body fires where no negated atom is in s and each positive one is in x
pub fires-from : (s x : List Atom) (body : List Lit) → is_blocked s body ≡ false → has_all x (positive_atoms body) ≡ true → list_all (fires s x) body ≡ true
fires-from s x [] b h = refl
fires-from s x (l ∷ body) b h =
    let q = or_parts (not l.positive && among s l.atom) (is_blocked s body) b in
    elim (cases_Bool l.positive) [
      | inl e ↦
          (let w : has_all x (l.atom ∷ positive_atoms body) ≡ true = ap (has_all x) (sym (picked-true (λ k. k.positive) l body e)) ∙ h in
          let p = and_parts (among x l.atom) (has_all x (positive_atoms body)) w in
          and_from (fires s x l) (list_all (fires s x) body)
          (cond-true l.positive (among x l.atom) (not (among s l.atom)) e ∙ p.0)
          (fires-from s x body q.1 p.1))
      | inr e ↦
          (let w : has_all x (positive_atoms body) ≡ true = ap (has_all x) (sym (picked-false (λ k. k.positive) l body e)) ∙ h in
          let n : among s l.atom ≡ false = ap (λ b. not b && among s l.atom) (sym e) ∙ q.0 in
          and_from (fires s x l) (list_all (fires s x) body)
          (cond-false l.positive (among x l.atom) (not (among s l.atom)) e ∙ not_from_false (among s l.atom) n)
          (fires-from s x body q.1 w))
    ]

pub fires-parts : (s x : List Atom) (body : List Lit) → list_all (fires s x) body ≡ true → (is_blocked s body ≡ false) × (has_all x (positive_atoms body) ≡ true)
fires-parts s x [] h = (refl, refl)
fires-parts s x (l ∷ body) h =
    let q = and_parts (fires s x l) (list_all (fires s x) body) h in
    let r = fires-parts s x body q.1 in
    elim (cases_Bool l.positive) [
      | inl e ↦ (
        or_from (not l.positive && among s l.atom) (is_blocked s body) (ap (λ b. not b && among s l.atom) e) r.0,
        ap (has_all x) (picked-true (λ k. k.positive) l body e)
            ∙ and_from (among x l.atom) (has_all x (positive_atoms body)) (sym (cond-true l.positive (among x l.atom) (not (among s l.atom)) e) ∙ q.0) r.1,
      )
      | inr e ↦ (
        or_from (not l.positive && among s l.atom) (is_blocked s body)
            (ap (λ b. not b && among s l.atom) e ∙ not-true (among s l.atom) (sym (cond-false l.positive (among x l.atom) (not (among s l.atom)) e) ∙ q.0)) r.0,
        ap (has_all x) (picked-false (λ k. k.positive) l body e) ∙ r.1,
      )
    ]

-- no negated atom of the body is in s where each is in f and none of f is
pub unblocked : (f s : List Atom) (body : List Lit) → ((a : Atom) → among f a ≡ true → among s a ≡ false) → has_all f (negated_atoms body) ≡ true → is_blocked s body ≡ false
unblocked f s [] d h = refl
unblocked f s (l ∷ body) d h =
    elim (cases_Bool l.positive) [
      | inl e ↦
          (let w : has_all f (negated_atoms body) ≡ true = ap (has_all f) (sym (picked-false (λ k. not k.positive) l body (ap not e))) ∙ h in
          or_from (not l.positive && among s l.atom) (is_blocked s body) (ap (λ b. not b && among s l.atom) e) (unblocked f s body d w))
      | inr e ↦
          (let w : has_all f (l.atom ∷ negated_atoms body) ≡ true = ap (has_all f) (sym (picked-true (λ k. not k.positive) l body (ap not e))) ∙ h in
          let p = and_parts (among f l.atom) (has_all f (negated_atoms body)) w in
          or_from (not l.positive && among s l.atom) (is_blocked s body)
          (ap (λ b. not b && among s l.atom) e ∙ d l.atom p.0) (unblocked f s body d p.1))
    ]

-- a body without `not` negates nothing
pub negated-none : (f : List Atom) (body : List Lit) → is_positive body ≡ true → has_all f (negated_atoms body) ≡ true
negated-none f [] p = refl
negated-none f (l ∷ body) p =
    let q = and_parts l.positive (is_positive body) p in
    ap (has_all f) (picked-false (λ k. not k.positive) l body (ap not q.0)) ∙ negated-none f body q.1

-- a body that fires by x fires by each list that has the atoms of x
pub fires-wider : (s x y : List Atom) (body : List Lit) → ((a : Atom) → among x a ≡ true → among y a ≡ true) → list_all (fires s x) body ≡ true → list_all (fires s y) body ≡ true
fires-wider s x y [] w h = refl
fires-wider s x y (l ∷ body) w h =
    let q = and_parts (fires s x l) (list_all (fires s x) body) h in
    let here : fires s y l ≡ true =
    elim (cases_Bool l.positive) [
      | inl e ↦ cond-true l.positive (among y l.atom) (not (among s l.atom)) e
          ∙ w l.atom (sym (cond-true l.positive (among x l.atom) (not (among s l.atom)) e) ∙ q.0)
      | inr e ↦ cond-false l.positive (among y l.atom) (not (among s l.atom)) e
          ∙ sym (cond-false l.positive (among x l.atom) (not (among s l.atom)) e) ∙ q.0
    ] in
    and_from (fires s y l) (list_all (fires s y) body) here (fires-wider s x y body w q.1)

-- no atom that a body negates is in s where s does not block it
pub negated-out : (s : List Atom) (body : List Lit) (a : Atom) → is_blocked s body ≡ false → among (negated_atoms body) a ≡ true → among s a ≡ false
negated-out s [] a b h = absurd (false≢true h)
negated-out s (l ∷ body) a b h =
    let q = or_parts (not l.positive && among s l.atom) (is_blocked s body) b in
    elim (cases_Bool l.positive) [
      | inl e ↦
          negated-out s body a q.1 (ap (λ (xs : List Atom). among xs a) (sym (picked-false (λ k. not k.positive) l body (ap not e))) ∙ h)
      | inr e ↦
          elim (or_cases (same_atom a l.atom) (among (negated_atoms body) a) (ap (λ (xs : List Atom). among xs a) (sym (picked-true (λ k. not k.positive) l body (ap not e))) ∙ h)) [
            | inl k ↦ ap (among s) ((atom_decided a l.atom).0 k) ∙ ap (λ z. not z && among s l.atom) (sym e) ∙ q.0
            | inr k ↦ negated-out s body a q.1 k
          ]
    ]

-- an atom that a body negates stands in it
pub negated-in : (body : List Lit) (a : Atom) → among (negated_atoms body) a ≡ true → (l : Lit) × Contains body l × (a ≡ l.atom)
negated-in [] a h = absurd (false≢true h)
negated-in (l ∷ body) a h =
    let later : among (negated_atoms body) a ≡ true → (k : Lit) × Contains (l ∷ body) k × (a ≡ k.atom) =
    λ j. (let p = negated-in body a j in (p.0, Contains-there l body p.0 p.1, p.2)) in
    elim (cases_Bool l.positive) [
      | inl e ↦
          later (ap (λ (xs : List Atom). among xs a) (sym (picked-false (λ k. not k.positive) l body (ap not e))) ∙ h)
      | inr e ↦
          elim (or_cases (same_atom a l.atom) (among (negated_atoms body) a) (ap (λ (xs : List Atom). among xs a) (sym (picked-true (λ k. not k.positive) l body (ap not e))) ∙ h)) [
            | inl k ↦ (l, Contains-here l body, (atom_decided a l.atom).0 k)
            | inr k ↦ later k
          ]
    ]
