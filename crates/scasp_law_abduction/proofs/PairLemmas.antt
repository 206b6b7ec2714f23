-- The translation adds choices to the program over a domain.
use Rattle.std.proofs.Common.{◌≡◌, ◌⊎◌, ℕ, Bool, true, false, List, [], ◌∷◌, ◌++◌, Some, map, refl, ap, sym, subst, ◌∙◌, inl, inr}
use Rattle.std.specs.List.{Contains, flat_map}
use Rattle.std.proofs.lemmas.Bool.{true≢false, false_from_ne_true}
use Rattle.std.proofs.lemmas.List.Elements.{Contains-append_left, Contains-append_right, Contains-append_cases}
use Rattle.scasp_list.proofs.MemberLemmas.{Contains-here, Contains-there, Contains-cases, Contains-single, Contains-map, Contains-from_map, Contains-flat_map, Contains-from_flat_map}
use Rattle.scasp_syntax.specs.Tm.{Tm, listed}
use Rattle.scasp_syntax.specs.declared.atom.Atom.{Atom}
use Rattle.scasp_syntax.specs.declared.atom.Lit.{Lit}
use Rattle.scasp_syntax.specs.declared.atom.Pred.{Pred}
use Rattle.scasp_syntax.specs.declared.clause.Clause.{Clause}
use Rattle.scasp_syntax.specs.declared.program.Program.{Program}
use Rattle.scasp_model.specs.Grounding.{choices, instances, ground_program}
use Rattle.scasp_model.specs.declared.program.GroundClause.{GroundClause}
use Rattle.scasp_abduce.specs.Occurrences.{has, names_of, clause_names, query_names}
use Rattle.scasp_abduce.specs.Translation.{Choice, atom_of, unless, choice_rules, translation}
use Rattle.scasp_abduce.proofs.NewNameLemmas.{has-from, has-in}
use Rattle.scasp_abduce.proofs.OpposedLemmas.{opposed-free, opposed-single, opposed-arity, opposed-from}
use Rattle.scasp_law_abduction.specs.Choices.{atoms_over, choices_of, ground_translation}
use Rattle.scasp_law_abduction.proofs.ChoiceLemmas.{AddsChoices, IsOfPair, against}
use Rattle.scasp_law_abduction.proofs.GroundLemmas.{instance-head, instance-body, unless-has, unless-from}

module _ (names : List (List ℕ)) (p : Program) (d : List Tm) where
  abbrev pub cs : List Choice
  cs = (translation names p).choices

  abbrev own : List ℕ
  own = names_of p.clauses p.queries p.abducibles

  -- the atom has a new name
  abbrev pub is_new : Atom → Bool
  is_new a = has (map (λ c. c.opposite.name) cs) a.name

  -- the atoms of a choice
  pub record IsPair (a b : Atom) : Type 0 where
    pub choice : Choice
    pub listed_choice : Contains cs choice
    pub terms : List Tm
    pub given : Contains (choices d choice.pred.arity) terms
    pub is_a : atom_of choice.pred (listed terms) ≡ a
    pub is_b : atom_of choice.opposite (listed terms) ≡ b

  -- a name of the program is not new
  pub old-name : (a : Atom) → Contains own a.name → is_new a ≡ false
  old-name a i =
      false_from_ne_true (is_new a)
      (λ h.
      (let q = Contains-from_map (λ c. c.opposite.name) cs a.name (has-from (map (λ c. c.opposite.name) cs) a.name h) in
      let free : has own (q.0).opposite.name ≡ false = opposed-free own names p.abducibles q.0 q.1 in
      true≢false (sym (has-in own a.name i) ∙ ap (has own) (sym q.2) ∙ free)))

  clause-own : (c : Clause) (n : ℕ) → Contains p.clauses c → Contains (clause_names c) n → Contains own n
  clause-own c n i j =
      Contains-append_left (flat_map clause_names p.clauses ++ flat_map query_names p.queries) (map (λ q. q.name) p.abducibles) n
      (Contains-append_left (flat_map clause_names p.clauses) (flat_map query_names p.queries) n
      (Contains-flat_map clause_names p.clauses c n i j))

  abducible-own : (q : Pred) → Contains p.abducibles q → Contains own q.name
  abducible-own q i =
      Contains-append_right (flat_map clause_names p.clauses ++ flat_map query_names p.queries) (map (λ q. q.name) p.abducibles) q.name
      (Contains-map (λ q. q.name) p.abducibles q i)

  -- the atoms of an abducible predicate are not new
  pub abducible-old : (q : Pred) (a : Atom) → Contains p.abducibles q → a.name ≡ q.name → is_new a ≡ false
  abducible-old q a i e =
      let P : ℕ → Type 0 = Contains own in old-name a (subst P (sym e) (abducible-own q i))

  of-first : (c : Choice) → Contains cs c → (g : GroundClause) → Contains (instances d (unless c.pred c.opposite)) g → IsOfPair IsPair g
  of-first c i g j =
      let r = unless-from d c.pred c.opposite g j in
      record {
        a = atom_of c.pred (listed r.terms);
        b = atom_of c.opposite (listed r.terms);
        pair = record { choice = c; listed_choice = i; terms = r.terms; given = r.given; is_a = refl; is_b = refl };
        one = inl r.is;
      }

  of-second : (c : Choice) → Contains cs c → (g : GroundClause) → Contains (instances d (unless c.opposite c.pred)) g → IsOfPair IsPair g
  of-second c i g j =
      let r = unless-from d c.opposite c.pred g j in
      let P : ℕ → Type 0 = λ n. Contains (choices d n) r.terms in
      record {
        a = atom_of c.pred (listed r.terms);
        b = atom_of c.opposite (listed r.terms);
        pair = record { choice = c; listed_choice = i; terms = r.terms; given = subst P (opposed-arity own names p.abducibles c i) r.given; is_a = refl; is_b = refl };
        one = inr r.is;
      }

  parts : (g : GroundClause) → Contains (ground_translation d names p) g → Contains (ground_program d p) g ⊎ IsOfPair IsPair g
  parts g i =
      let r = Contains-from_flat_map (instances d) (translation names p).clauses g i in
      elim (Contains-append_cases p.clauses (flat_map choice_rules cs) r.0 r.1) [
        | inl j ↦ inl (Contains-flat_map (instances d) p.clauses r.0 g j r.2)
        | inr j ↦
            (let s = Contains-from_flat_map choice_rules cs r.0 j in
            let c : Choice = s.0 in
            elim (Contains-cases (unless c.pred c.opposite) (unless c.opposite c.pred ∷ []) r.0 s.2) [
              | inl e ↦ inr (of-first c s.1 g (subst (λ (x : Clause). Contains (instances d x) g) (sym e) r.2))
              | inr k ↦
                  (let e : unless c.opposite c.pred ≡ r.0 = Contains-single (unless c.opposite c.pred) r.0 k in
                  inr (of-second c s.1 g (subst (λ (x : Clause). Contains (instances d x) g) (sym e) r.2)))
            ])
      ]

  old : (g : GroundClause) → Contains (ground_program d p) g → Contains (ground_translation d names p) g
  old g i =
      let r = Contains-from_flat_map (instances d) p.clauses g i in
      Contains-flat_map (instances d) (translation names p).clauses r.0 g (Contains-append_left p.clauses (flat_map choice_rules cs) r.0 r.1) r.2

  -- the rules of a choice stand behind the clauses
  rule-stands : (c : Choice) (x : Clause) (g : GroundClause) → Contains cs c → Contains (choice_rules c) x → Contains (instances d x) g → Contains (ground_translation d names p) g
  rule-stands c x g i j k =
      Contains-flat_map (instances d) (translation names p).clauses x g
      (Contains-append_right p.clauses (flat_map choice_rules cs) x (Contains-flat_map choice_rules cs c x i j)) k

  first : (a b : Atom) → IsPair a b → Contains (ground_translation d names p) (against a b)
  first a b q =
      let c : Choice = q.choice in
      let rule : Clause = unless c.pred c.opposite in
      subst (λ (x : GroundClause). Contains (ground_translation d names p) x) (ap (λ (x : Atom). against x (atom_of c.opposite (listed q.terms))) q.is_a ∙ ap (against a) q.is_b)
      (rule-stands c rule (against (atom_of c.pred (listed q.terms)) (atom_of c.opposite (listed q.terms))) q.listed_choice
      (Contains-here rule (unless c.opposite c.pred ∷ [])) (unless-has d c.pred c.opposite q.terms q.given))

  second : (a b : Atom) → IsPair a b → Contains (ground_translation d names p) (against b a)
  second a b q =
      let c : Choice = q.choice in
      let rule : Clause = unless c.opposite c.pred in
      let P : ℕ → Type 0 = λ n. Contains (choices d n) q.terms in
      let given : Contains (choices d c.opposite.arity) q.terms = subst P (sym (opposed-arity own names p.abducibles c q.listed_choice)) q.given in
      subst (λ (x : GroundClause). Contains (ground_translation d names p) x) (ap (λ (x : Atom). against x (atom_of c.pred (listed q.terms))) q.is_b ∙ ap (against b) q.is_a)
      (rule-stands c rule (against (atom_of c.opposite (listed q.terms)) (atom_of c.pred (listed q.terms))) q.listed_choice
      (Contains-there (unless c.pred c.opposite) (rule ∷ []) rule (Contains-here rule [])) (unless-has d c.opposite c.pred q.terms given))

  old-head : (g : GroundClause) (a : Atom) → Contains (ground_program d p) g → g.head ≡ Some a → is_new a ≡ false
  old-head g a i e =
      let r = Contains-from_flat_map (instances d) p.clauses g i in
      old-name a (clause-own r.0 a.name r.1 (instance-head d r.0 g a r.2 e))

  old-body : (g : GroundClause) (l : Lit) → Contains (ground_program d p) g → Contains g.body l → is_new l.atom ≡ false
  old-body g l i j =
      let r = Contains-from_flat_map (instances d) p.clauses g i in
      old-name l.atom (clause-own r.0 l.atom.name r.1 (instance-body d r.0 g l r.2 j))

  pair-abducible : (a b : Atom) (q : IsPair a b) → Contains p.abducibles q.choice.pred
  pair-abducible a b q = opposed-from own names p.abducibles q.choice q.listed_choice

  chosen : (a b : Atom) → IsPair a b → is_new a ≡ false
  chosen a b q = abducible-old q.choice.pred a (pair-abducible a b q) (ap (λ (x : Atom). x.name) (sym q.is_a))

  denied : (a b : Atom) → IsPair a b → is_new b ≡ true
  denied a b q =
      let names_new : List ℕ = map (λ c. c.opposite.name) cs in
      let P : ℕ → Type 0 = Contains names_new in
      has-in names_new b.name
      (subst P (ap (λ (x : Atom). x.name) q.is_b) (Contains-map (λ c. c.opposite.name) cs q.choice q.listed_choice))

  single : (a e b : Atom) → IsPair a b → IsPair e b → a ≡ e
  single a e b q r =
      let same : atom_of q.choice.opposite (listed q.terms) ≡ atom_of r.choice.opposite (listed r.terms) = q.is_b ∙ sym r.is_b in
      let choice : q.choice ≡ r.choice =
      opposed-single own names p.abducibles q.choice r.choice q.listed_choice r.listed_choice (ap (λ (x : Atom). x.name) same) in
      sym q.is_a ∙ ap (λ (c : Choice). atom_of c.pred (listed q.terms)) choice
      ∙ ap (λ (x : Atom). atom_of r.choice.pred x.args) same ∙ r.is_a

  pub adds : AddsChoices (ground_program d p) (ground_translation d names p) is_new IsPair
  adds = record {
    parts = parts;
    old = old;
    first = first;
    second = second;
    old_head = old-head;
    old_body = old-body;
    chosen = chosen;
    denied = denied;
    single = single;
  }

  -- ---- choice atoms

  pub record IsChoiceAtom (a : Atom) : Type 0 where
    pub pred : Pred
    pub abducible : Contains p.abducibles pred
    pub terms : List Tm
    pub given : Contains (choices d pred.arity) terms
    pub is : atom_of pred (listed terms) ≡ a

  pub choice_atom-from : (a : Atom) → Contains (choices_of d p) a → IsChoiceAtom a
  choice_atom-from a i =
      let r = Contains-from_flat_map (atoms_over d) p.abducibles a i in
      let q : Pred = r.0 in
      let s = Contains-from_map (λ ts. atom_of q (listed ts)) (choices d q.arity) a r.2 in
      record { pred = q; abducible = r.1; terms = s.0; given = s.1; is = s.2 }

  pub choice_atom-old : (a : Atom) → Contains (choices_of d p) a → is_new a ≡ false
  choice_atom-old a i =
      let r = choice_atom-from a i in abducible-old r.pred a r.abducible (ap (λ (x : Atom). x.name) (sym r.is))

  pub pair-choice_atom : (a b : Atom) → IsPair a b → Contains (choices_of d p) a
  pair-choice_atom a b q =
      let c : Choice = q.choice in
      subst (λ (x : Atom). Contains (choices_of d p) x) q.is_a
      (Contains-flat_map (atoms_over d) p.abducibles c.pred (atom_of c.pred (listed q.terms)) (pair-abducible a b q)
      (Contains-map (λ ts. atom_of c.pred (listed ts)) (choices d c.pred.arity) q.terms q.given))
