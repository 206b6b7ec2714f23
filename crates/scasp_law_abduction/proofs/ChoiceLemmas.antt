-- Two ground programs, of which the second has choices between two rules in place of assumptions.
use Rattle.std.proofs.Common.{◌≡◌, ◌⊎◌, ◌∷◌, ◌∙◌, Bool, true, false, not, List, [], Some, ap, sym, subst, inl, inr}
use Rattle.std.specs.List.{Contains, list_all, filter}
use Rattle.std.proofs.lemmas.Bool.{true≢false, cond-true, cond-false, false_from_ne_true, cases_Bool}
use Rattle.scasp_syntax.specs.Same.{same_atom}
use Rattle.scasp_syntax.specs.declared.atom.Atom.{Atom}
use Rattle.scasp_syntax.specs.declared.atom.Lit.{Lit}
use Rattle.scasp_syntax.proofs.SameLemmas.{atom_decided}
use Rattle.scasp_list.proofs.MemberLemmas.{Contains-filter, Contains-from_filter, list_all-from, list_all-member, list_any-from, list_any-member}
use Rattle.scasp_model.specs.Atoms.{among}
use Rattle.scasp_model.specs.declared.program.GroundClause.{GroundClause}
use Rattle.scasp_model.proofs.AtomLemmas.{same_atom-self}
use Rattle.scasp_sound.proofs.BodyLemmas.{fires}

-- a :- not b.
abbrev pub against : Atom → Atom → GroundClause
against a b = record { head = Some a; body = record { positive = false; atom = b } ∷ [] }

-- the clause is one of the two rules of a choice
pub record IsOfPair (Pair : Atom → Atom → Type 0) (c : GroundClause) : Type 0 where
  pub a : Atom
  pub b : Atom
  pub pair : Pair a b
  pub one : (c ≡ against a b) ⊎ (c ≡ against b a)

-- k has the clauses of g and two rules for each choice, of which one atom is new
pub record AddsChoices (g k : List GroundClause) (new : Atom → Bool) (Pair : Atom → Atom → Type 0) : Type 0 where
  pub parts : (c : GroundClause) → Contains k c → Contains g c ⊎ IsOfPair Pair c
  pub old : (c : GroundClause) → Contains g c → Contains k c
  pub first : (a b : Atom) → Pair a b → Contains k (against a b)
  pub second : (a b : Atom) → Pair a b → Contains k (against b a)
  pub old_head : (c : GroundClause) (a : Atom) → Contains g c → c.head ≡ Some a → new a ≡ false
  pub old_body : (c : GroundClause) (l : Lit) → Contains g c → Contains c.body l → new l.atom ≡ false
  pub chosen : (a b : Atom) → Pair a b → new a ≡ false
  pub denied : (a b : Atom) → Pair a b → new b ≡ true
  pub single : (a d b : Atom) → Pair a b → Pair d b → a ≡ d

-- ---- lists of atoms

pub among-has : (atoms : List Atom) (a : Atom) → Contains atoms a → among atoms a ≡ true
among-has atoms a i = list_any-from (same_atom a) atoms a i (same_atom-self a)

pub among-from : (atoms : List Atom) (a : Atom) → among atoms a ≡ true → Contains atoms a
among-from atoms a h =
    let q = list_any-member (same_atom a) atoms h in
    subst (λ (b : Atom). Contains atoms b) (sym ((atom_decided a q.0).0 q.2)) q.1

pub among-filter : (test : Atom → Bool) (atoms : List Atom) (a : Atom) → among atoms a ≡ true → test a ≡ true → among (filter test atoms) a ≡ true
among-filter test atoms a h t = among-has (filter test atoms) a (Contains-filter test atoms a (among-from atoms a h) t)

pub among-from_filter : (test : Atom → Bool) (atoms : List Atom) (a : Atom) → among (filter test atoms) a ≡ true → (among atoms a ≡ true) × (test a ≡ true)
among-from_filter test atoms a h =
    let p = Contains-from_filter test atoms a (among-from (filter test atoms) a h) in
    (among-has atoms a p.0, p.1)

pub same_when : (m n : List Atom) (a : Atom) → (among m a ≡ true → among n a ≡ true) → (among n a ≡ true → among m a ≡ true) → among m a ≡ among n a
same_when m n a f g =
    elim (cases_Bool (among n a)) [
      | inl e ↦ g e ∙ sym e
      | inr e ↦ false_from_ne_true (among m a) (λ h. true≢false (sym (f h) ∙ e)) ∙ sym e
    ]

-- ---- bodies whose atoms two lists agree on

-- a literal fires by other lists that say the same of its atom
pub fires-same : (s x t y : List Atom) (l : Lit) → among s l.atom ≡ among t l.atom → (among x l.atom ≡ true → among y l.atom ≡ true) → fires s x l ≡ true → fires t y l ≡ true
fires-same s x t y l e f h =
    elim (cases_Bool l.positive) [
      | inl p ↦ cond-true l.positive (among y l.atom) (not (among t l.atom)) p
          ∙ f (sym (cond-true l.positive (among x l.atom) (not (among s l.atom)) p) ∙ h)
      | inr p ↦ cond-false l.positive (among y l.atom) (not (among t l.atom)) p
          ∙ ap not (sym e) ∙ sym (cond-false l.positive (among x l.atom) (not (among s l.atom)) p) ∙ h
    ]

pub body-same : (s x t y : List Atom) (body : List Lit) → ((l : Lit) → Contains body l → among s l.atom ≡ among t l.atom) → ((l : Lit) → Contains body l → among x l.atom ≡ true → among y l.atom ≡ true) → list_all (fires s x) body ≡ true → list_all (fires t y) body ≡ true
body-same s x t y body e f h =
    list_all-from (fires t y) body
    (λ l i. fires-same s x t y l (e l i) (f l i) (list_all-member (fires s x) body l h i))
