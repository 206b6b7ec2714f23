-- The rules below a level: a stable model of them supports what it has, and what it lacks as false, in the rules below the next level.
use Rattle.std.proofs.Common.{◌≡◌, ◌∙◌, ℕ, suc, ◌<◌, Bool, true, false, ◌&&◌, ◌||◌, not, nat_lt, List, [], ◌∷◌, ◌++◌, map, Option, None, Some, ap, sym, subst, inl, inr, arith}
use Rattle.std.specs.List.{Contains, filter, flat_map}
use Rattle.std.proofs.lemmas.Bool.{and_parts, and_from, or_left, or_right, not-true, not_from_false, cases_Bool, lt-ltb, ltb-true}
use Rattle.std.proofs.lemmas.List.Elements.{Contains-append_left, Contains-append_right}
use Rattle.scasp_syntax.specs.Same.{same_atom}
use Rattle.scasp_syntax.specs.declared.atom.Atom.{Atom}
use Rattle.scasp_syntax.specs.declared.atom.Lit.{Lit}
use Rattle.scasp_syntax.proofs.SameLemmas.{atom_decided}
use Rattle.scasp_model.specs.Atoms.{among}
use Rattle.scasp_model.specs.Programs.{head_is, rules_for}
use Rattle.scasp_model.specs.Stable.{Stable}
use Rattle.scasp_model.specs.declared.program.GroundClause.{GroundClause}
use Rattle.scasp_model.proofs.AtomLemmas.{same_atom-self}
use Rattle.scasp_sound.specs.Support.{Supports}
use Rattle.scasp_sound.proofs.FoundedLemmas.{founded-more}
use Rattle.scasp_sound.proofs.HeadLemmas.{rules_for-has, rules_for-from}
use Rattle.scasp_sound.proofs.KeepingLemmas.{KeepsLevels}
use Rattle.scasp_list.proofs.MemberLemmas.{Contains-here, Contains-map, Contains-flat_map, Contains-filter, Contains-from_filter, list_any-from, list_any-member}
use Rattle.scasp_sound.proofs.ReductLemmas.{least_model-head}
use Rattle.scasp_sound.proofs.SupportLemmas.{stable-supported}

-- the rules whose heads have a level below n
abbrev pub rules_below : (Atom → ℕ) → List GroundClause → ℕ → List GroundClause
rules_below level g n = rules_for (λ a. nat_lt (level a) n) g

-- the head, where there is one
abbrev head_atoms : Option Atom → List Atom
head_atoms None = []
head_atoms (Some a) = a ∷ []

-- all atoms of a clause
abbrev atoms_in : GroundClause → List Atom
atoms_in c = head_atoms c.head ++ map (λ l. l.atom) c.body

abbrev is_lacked : (Atom → ℕ) → ℕ → List Atom → Atom → Bool
is_lacked level n t a = nat_lt (level a) n && not (among t a)

-- the atoms of the program of levels below n that are not in t
abbrev pub lacked : (Atom → ℕ) → List GroundClause → ℕ → List Atom → List Atom
lacked level g n t = filter (is_lacked level n t) (flat_map atoms_in g)

head-listed : (g : List GroundClause) (c : GroundClause) (a : Atom) → Contains g c → c.head ≡ Some a → Contains (flat_map atoms_in g) a
head-listed g c a i e =
    Contains-flat_map atoms_in g c a i
    (Contains-append_left (head_atoms c.head) (map (λ (k : Lit). k.atom) c.body) a
    (subst (λ (o : Option Atom). Contains (head_atoms o) a) (sym e) (Contains-here a [])))

body-listed : (g : List GroundClause) (c : GroundClause) (l : Lit) → Contains g c → Contains c.body l → Contains (flat_map atoms_in g) l.atom
body-listed g c l i j =
    Contains-flat_map atoms_in g c l.atom i
    (Contains-append_right (head_atoms c.head) (map (λ (k : Lit). k.atom) c.body) l.atom (Contains-map (λ (k : Lit). k.atom) c.body l j))

module _ (level : Atom → ℕ) (g : List GroundClause) (n : ℕ) where
  below-from : (c : GroundClause) (a : Atom) → Contains (rules_below level g n) c → c.head ≡ Some a → Contains g c × (level a < n)
  below-from c a i e = let q = rules_for-from (λ b. nat_lt (level b) n) g c a i e in (q.0, ltb-true (level a) n q.1)

  below-has : (c : GroundClause) (a : Atom) → Contains g c → c.head ≡ Some a → level a < n → Contains (rules_below level g n) c
  below-has c a i e l = rules_for-has (λ b. nat_lt (level b) n) g c a i e (lt-ltb (level a) n l)

  module _ (t : List Atom) where
    pub lacked-from : (a : Atom) → among (lacked level g n t) a ≡ true → (level a < n) × (among t a ≡ false)
    lacked-from a h =
        let q = list_any-member (same_atom a) (lacked level g n t) h in
        let k = Contains-from_filter (is_lacked level n t) (flat_map atoms_in g) q.0 q.1 in
        let e : a ≡ q.0 = (atom_decided a q.0).0 q.2 in
        let p = and_parts (nat_lt (level a) n) (not (among t a)) (ap (is_lacked level n t) e ∙ k.1) in
        (ltb-true (level a) n p.0, not-true (among t a) p.1)

    lacked-has : (a : Atom) → Contains (flat_map atoms_in g) a → level a < n → among t a ≡ false → among (lacked level g n t) a ≡ true
    lacked-has a i l h =
        list_any-from (same_atom a) (lacked level g n t) a
        (Contains-filter (is_lacked level n t) (flat_map atoms_in g) a i
        (and_from (nat_lt (level a) n) (not (among t a)) (lt-ltb (level a) n l) (not_from_false (among t a) h)))
        (same_atom-self a)

    -- an atom of the program of a level below n is in t or lacked
    known : (a : Atom) → Contains (flat_map atoms_in g) a → level a < n → (among t a || among (lacked level g n t) a) ≡ true
    known a i less =
        elim (cases_Bool (among t a)) [
          | inl e ↦ or_left (among t a) (among (lacked level g n t) a) e
          | inr e ↦ or_right (among t a) (among (lacked level g n t) a) (lacked-has a i less e)
        ]

    pub known-head : (c : GroundClause) (a : Atom) → Contains g c → c.head ≡ Some a → level a < n → (among t a || among (lacked level g n t) a) ≡ true
    known-head c a i e = known a (head-listed g c a i e)

    pub known-literal : (c : GroundClause) (l : Lit) → Contains g c → Contains c.body l → level l.atom < n → (among t l.atom || among (lacked level g n t) l.atom) ≡ true
    known-literal c l i j = known l.atom (body-listed g c l i j)

    -- a stable model of the rules below n has only atoms of levels below n
    pub stable-low : Stable (rules_below level g n) t → (a : Atom) → among t a ≡ true → level a < n
    stable-low s a h =
        let p = least_model-head (rules_below level g n) t a (sym (s.least_of_reduct a) ∙ h) in
        (below-from p.0 a p.1 p.2).1

module _ (level : Atom → ℕ) (plus : Atom → Bool) (g : List GroundClause) (keeps : KeepsLevels level plus g) (n : ℕ) (t : List Atom) (stable : Stable (rules_below level g n) t) where
  abbrev out : List Atom
  out = lacked level g n t

  literal-low : (c : GroundClause) (a : Atom) (l : Lit) → Contains g c → c.head ≡ Some a → Contains c.body l → level a < n → level l.atom < n
  literal-low c a l i e j less =
      elim (keeps.lower c a l i e j) [
        | inl k ↦ omega (arith, k, less)
        | inr k ↦ (let same = k.0 in omega (arith, same, less))
      ]

  supported : Supports (rules_below level g n) t out
  supported =
      stable-supported (rules_below level g n) out t stable (λ b h. not_from_false (among t b) (lacked-from level g n t b h).1)
      (λ c l i j.
      (let listed : Contains g c = (Contains-from_filter (λ k. head_is (λ a. nat_lt (level a) n) k.head) g c i).0 in
      let h = keeps.heads c listed in
      let q = below-from level g n c h.0 i h.1 in
      known-literal level g n t c l listed j (literal-low c h.0 l listed h.1 j q.1)))

  -- the rules below n are among those below the next level
  still-below : (c : GroundClause) → Contains (rules_below level g n) c → Contains (rules_below level g (suc n)) c
  still-below c i =
      let h = keeps.heads c (Contains-from_filter (λ k. head_is (λ a. nat_lt (level a) n) k.head) g c i).0 in
      let q = below-from level g n c h.0 i h.1 in
      let less = q.1 in
      below-has level g (suc n) c h.0 q.0 h.1 (omega (arith, less))

  pub next-supported : Supports (rules_below level g (suc n)) t out
  next-supported =
      record {
        apart = supported.apart;
        founded = λ a h. founded-more (rules_below level g n) (rules_below level g (suc n)) out out still-below (λ b k. k) a (supported.founded a h);
        refuted = λ c a i e h.
            supported.refuted c a (below-has level g n c a (below-from level g (suc n) c a i e).0 e (lacked-from level g n t a h).0) e h;
      }
