-- What known atoms leave of a program, clause by clause and literal by literal.
use Rattle.std.proofs.Common.{◌≡◌, ◌∷◌, ◌∙◌, Bool, true, false, ◌||◌, not, List, [], sym, subst, inl, inr}
use Rattle.std.specs.List.{Contains, list_any, filter}
use Rattle.std.proofs.lemmas.Bool.{true≢false, or_from, or_parts, not-true, not_from_false, false_from_ne_true, cond-true, cond-false, cases_Bool}
use Rattle.scasp_syntax.specs.declared.atom.Atom.{Atom}
use Rattle.scasp_syntax.specs.declared.atom.Lit.{Lit}
use Rattle.scasp_model.specs.Atoms.{among}
use Rattle.scasp_model.specs.Residual.{is_known_true, is_known_false, is_known, residual_of, residual}
use Rattle.scasp_model.specs.Stable.{is_true_in}
use Rattle.scasp_model.specs.declared.program.GroundClause.{GroundClause}
use Rattle.scasp_sound.proofs.BodyLemmas.{fires}
use Rattle.scasp_list.proofs.MemberLemmas.{Contains-none, Contains-here, Contains-single, Contains-flat_map, Contains-from_flat_map}

-- the clause without the literals that are known true
abbrev pub left : List Atom → List Atom → GroundClause → GroundClause
left t f c = record { head = c.head; body = filter (λ l. not (is_known_true t f l)) c.body }

-- the test by which a clause falls away
abbrev falls : List Atom → List Atom → GroundClause → Bool
falls t f c = is_known t f c.head || list_any (is_known_false t f) c.body

pub residual-has : (g : List GroundClause) (t f : List Atom) (c : GroundClause) → Contains g c → is_known t f c.head ≡ false → list_any (is_known_false t f) c.body ≡ false → Contains (residual t f g) (left t f c)
residual-has g t f c i k u =
    Contains-flat_map (residual_of t f) g c (left t f c) i
    (subst (λ (cs : List GroundClause). Contains cs (left t f c))
    (sym (cond-false (falls t f c) [] (left t f c ∷ []) (or_from (is_known t f c.head) (list_any (is_known_false t f) c.body) k u)))
    (Contains-here (left t f c) []))

-- each clause of the residual is what is left of one of the program
pub residual-from : (g : List GroundClause) (t f : List Atom) (d : GroundClause) → Contains (residual t f g) d → (c : GroundClause) × Contains g c × (is_known t f c.head ≡ false) × (list_any (is_known_false t f) c.body ≡ false) × (left t f c ≡ d)
residual-from g t f d i =
    let p = Contains-from_flat_map (residual_of t f) g d i in
    let c : GroundClause = p.0 in
    elim (cases_Bool (falls t f c)) [
      | inl e ↦ absurd (Contains-none d (subst (λ (cs : List GroundClause). Contains cs d) (cond-true (falls t f c) [] (left t f c ∷ []) e) p.2))
      | inr e ↦
          (let q = or_parts (is_known t f c.head) (list_any (is_known_false t f) c.body) e in
          (c, p.1, q.0, q.1, Contains-single (left t f c) d (subst (λ (cs : List GroundClause). Contains cs d) (cond-false (falls t f c) [] (left t f c ∷ []) e) p.2)))
    ]

-- a literal that is true where all of t are and none of f is, is not known false
pub known_false-not : (t f s : List Atom) → ((a : Atom) → among t a ≡ true → among s a ≡ true) → ((a : Atom) → among s a ≡ true → among f a ≡ false) → (l : Lit) → is_true_in s l ≡ true → is_known_false t f l ≡ false
known_false-not t f s within apart l h =
    elim (cases_Bool l.positive) [
      | inl e ↦ cond-true l.positive (among f l.atom) (among t l.atom) e
          ∙ apart l.atom (sym (cond-true l.positive (among s l.atom) (not (among s l.atom)) e) ∙ h)
      | inr e ↦
          (let out : among s l.atom ≡ false = not-true (among s l.atom) (sym (cond-false l.positive (among s l.atom) (not (among s l.atom)) e) ∙ h) in
          cond-false l.positive (among f l.atom) (among t l.atom) e
          ∙ false_from_ne_true (among t l.atom) (λ k. true≢false (sym (within l.atom k) ∙ out)))
    ]

-- a literal that is left is true in m where it is true in what t and m have
pub left-true : (t f m s : List Atom) → ((a : Atom) → among s a ≡ true → among t a ≡ false → among m a ≡ true) → ((a : Atom) → among m a ≡ true → among s a ≡ true) → (l : Lit) → is_true_in s l ≡ true → is_known_true t f l ≡ false → is_true_in m l ≡ true
left-true t f m s only within l h k =
    elim (cases_Bool l.positive) [
      | inl e ↦ cond-true l.positive (among m l.atom) (not (among m l.atom)) e
          ∙ only l.atom (sym (cond-true l.positive (among s l.atom) (not (among s l.atom)) e) ∙ h)
          (sym (cond-true l.positive (among t l.atom) (among f l.atom) e) ∙ k)
      | inr e ↦
          (let out : among s l.atom ≡ false = not-true (among s l.atom) (sym (cond-false l.positive (among s l.atom) (not (among s l.atom)) e) ∙ h) in
          cond-false l.positive (among m l.atom) (not (among m l.atom)) e
          ∙ not_from_false (among m l.atom) (false_from_ne_true (among m l.atom) (λ i. true≢false (sym (within l.atom i) ∙ out))))
    ]

-- a literal that is not known false fires by s and x where it fires by m and x if it is left
pub fires-known : (t f m s x : List Atom) → ((a : Atom) → among t a ≡ true → among x a ≡ true) → ((a : Atom) → among f a ≡ true → among s a ≡ false) → ((a : Atom) → among t a ≡ false → among m a ≡ false → among s a ≡ false) → (l : Lit) → is_known_false t f l ≡ false → (is_known_true t f l ≡ false → fires m x l ≡ true) → fires s x l ≡ true
fires-known t f m s x has apart only l u k =
    elim (cases_Bool l.positive) [
      | inl e ↦ cond-true l.positive (among x l.atom) (not (among s l.atom)) e
          ∙ elim (cases_Bool (among t l.atom)) [
            | inl i ↦ has l.atom i
            | inr i ↦ sym (cond-true l.positive (among x l.atom) (not (among m l.atom)) e)
                ∙ k (cond-true l.positive (among t l.atom) (among f l.atom) e ∙ i)
          ]
      | inr e ↦ cond-false l.positive (among x l.atom) (not (among s l.atom)) e
          ∙ not_from_false (among s l.atom)
          (elim (cases_Bool (among f l.atom)) [
            | inl i ↦ apart l.atom i
            | inr i ↦ only l.atom (sym (cond-false l.positive (among f l.atom) (among t l.atom) e) ∙ u)
                (not-true (among m l.atom) (sym (cond-false l.positive (among x l.atom) (not (among m l.atom)) e)
                ∙ k (cond-false l.positive (among t l.atom) (among f l.atom) e ∙ i)))
          ])
    ]
