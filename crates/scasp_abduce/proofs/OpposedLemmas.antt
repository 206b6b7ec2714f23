-- Predicates and their opposites.
use Rattle.std.proofs.Common.{◌≡◌, ◌≢◌, ℕ, Bool, true, false, ◌||◌, List, [], ◌∷◌, ◌++◌, append-nil, append_assoc, length, refl, ap, sym, subst, ◌∙◌, inl, inr}
use Rattle.std.specs.Prelude.{nat_eq}
use Rattle.std.specs.List.{Contains, flat_map}
use Rattle.std.proofs.Math.Bool.{or-false}
use Rattle.std.proofs.lemmas.Bool.{true≢false, or_parts, eq-eqb}
use Rattle.scasp_list.proofs.MemberLemmas.{Contains-none, Contains-here, Contains-there, Contains-cases}
use Rattle.scasp_syntax.specs.declared.atom.Pred.{Pred}
use Rattle.scasp_syntax.specs.declared.clause.Clause.{Clause}
use Rattle.scasp_syntax.specs.declared.program.Program.{Program}
use Rattle.scasp_abduce.specs.Inside.{HasBoth}
use Rattle.scasp_abduce.specs.NewNames.{Named, new_name, text_of}
use Rattle.scasp_abduce.specs.Occurrences.{has, names_of}
use Rattle.scasp_abduce.specs.Translation.{Choice, IsTranslation, Opposed, choice_rules, opposed}
use Rattle.scasp_abduce.proofs.NewNameLemmas.{SameNumbers, new_name-is_free, new_name-same}

-- the new name of the first of them
abbrev pub first : List ℕ → List (List ℕ) → Pred → Named
first taken names p = new_name taken (length taken) names (text_of names p.name)

abbrev pub choice : Pred → Named → Choice
choice p new = record { pred = p; opposite = record { minus = false; name = new.name; arity = p.arity } }

abbrev pub joined : Pred → Named → Opposed → Opposed
joined p new others = record { choices = choice p new ∷ others.choices; names = others.names }

-- they depend on the numbers alone that are taken
pub opposed-same : (ns ks : List ℕ) → SameNumbers ns ks → (names : List (List ℕ)) (ps : List Pred) → opposed ns names ps ≡ opposed ks names ps
opposed-same ns ks s names [] = refl
opposed-same ns ks s names (p ∷ ps) =
    let here = first ns names p in
    let there = first ks names p in
    ap (λ (new : Named). joined p new (opposed (new.name ∷ ns) new.names ps)) (new_name-same ns ks s names (text_of names p.name))
    ∙ ap (joined p there) (opposed-same (there.name ∷ ns) (there.name ∷ ks) (λ n. ap (λ b. nat_eq n there.name || b) (s n)) there.names ps)

or-turned : (a b : Bool) → (a || b) ≡ (b || a)
or-turned true true = refl
or-turned true false = refl
or-turned false true = refl
or-turned false false = refl

-- a program without abducible predicates is its translation
pub none-assumed : (names : List (List ℕ)) (p : Program) → p.abducibles ≡ [] → IsTranslation names p p names
none-assumed names p e =
    let own = names_of p.clauses p.queries p.abducibles in
    record {
      clauses = sym (append-nil p.clauses) ∙ ap (λ ps. p.clauses ++ flat_map choice_rules (opposed own names ps).choices) (sym e);
      queries = refl;
      abducibles = e;
      names = ap (λ ps. (opposed own names ps).names) (sym e);
    }

-- one predicate more
pub opposed-next : (taken after : List ℕ) (names table : List (List ℕ)) (p : Pred) (ps : List Pred) (name : ℕ) → record { names = table; name = name } ≡ first taken names p → HasBoth after taken (name ∷ [])
    → opposed taken names (p ∷ ps) ≡ joined p (record { names = table; name = name }) (opposed after table ps)
opposed-next taken after names table p ps name e both =
    let new : Named = record { names = table; name = name } in
    let same : SameNumbers (name ∷ taken) after =
    λ n. ap (λ b. b || has taken n) (sym (or-false (nat_eq n name))) ∙ or-turned (has (name ∷ []) n) (has taken n) ∙ sym (both n) in
    ap (λ (w : Named). joined p w (opposed (w.name ∷ taken) w.names ps)) (sym e) ∙ ap (joined p new) (opposed-same (name ∷ taken) after same table ps)

-- the rules of a choice were put behind clauses
pub rules-pushed : (clauses after rest : List Clause) (c : Choice) → after ≡ clauses ++ choice_rules c → after ++ rest ≡ clauses ++ (choice_rules c ++ rest)
rules-pushed clauses after rest c e = ap (λ (xs : List Clause). xs ++ rest) e ∙ append_assoc clauses (choice_rules c) rest

-- the new names are not taken
pub opposed-free : (taken : List ℕ) (names : List (List ℕ)) (ps : List Pred) (c : Choice) → Contains (opposed taken names ps).choices c → has taken c.opposite.name ≡ false
opposed-free taken names [] c i = absurd (Contains-none c i)
opposed-free taken names (p ∷ ps) c i =
    let new = first taken names p in
    elim (Contains-cases (choice p new) (opposed (new.name ∷ taken) new.names ps).choices c i) [
      | inl e ↦ ap (λ (d : Choice). has taken d.opposite.name) (sym e) ∙ new_name-is_free taken names (text_of names p.name)
      | inr j ↦ (or_parts (nat_eq c.opposite.name new.name) (has taken c.opposite.name) (opposed-free (new.name ∷ taken) new.names ps c j)).1
    ]

-- so no two of them have one name
pub opposed-single : (taken : List ℕ) (names : List (List ℕ)) (ps : List Pred) (c d : Choice) → Contains (opposed taken names ps).choices c → Contains (opposed taken names ps).choices d → c.opposite.name ≡ d.opposite.name → c ≡ d
opposed-single taken names [] c d i j e = absurd (Contains-none c i)
opposed-single taken names (p ∷ ps) c d i j e =
    let new = first taken names p in
    let others = (opposed (new.name ∷ taken) new.names ps).choices in
    let apart : (k : Choice) → Contains others k → k.opposite.name ≢ new.name =
    λ k o f. true≢false
    (sym (eq-eqb k.opposite.name new.name f)
    ∙ (or_parts (nat_eq k.opposite.name new.name) (has taken k.opposite.name) (opposed-free (new.name ∷ taken) new.names ps k o)).0) in
    let name-of : Choice → ℕ = λ k. k.opposite.name in
    elim (Contains-cases (choice p new) others c i) [
      | inl f ↦
          elim (Contains-cases (choice p new) others d j) [
            | inl g ↦ sym f ∙ g
            | inr k ↦ absurd (apart d k (sym e ∙ ap name-of (sym f)))
          ]
      | inr k ↦
          elim (Contains-cases (choice p new) others d j) [
            | inl g ↦ absurd (apart c k (e ∙ ap name-of (sym g)))
            | inr l ↦ opposed-single (new.name ∷ taken) new.names ps c d k l e
          ]
    ]

pub opposed-arity : (taken : List ℕ) (names : List (List ℕ)) (ps : List Pred) (c : Choice) → Contains (opposed taken names ps).choices c → c.opposite.arity ≡ c.pred.arity
opposed-arity taken names [] c i = absurd (Contains-none c i)
opposed-arity taken names (p ∷ ps) c i =
    let new = first taken names p in
    elim (Contains-cases (choice p new) (opposed (new.name ∷ taken) new.names ps).choices c i) [
      | inl e ↦ ap (λ (d : Choice). d.opposite.arity) (sym e) ∙ ap (λ (d : Choice). d.pred.arity) e
      | inr j ↦ opposed-arity (new.name ∷ taken) new.names ps c j
    ]

-- they are the choices of the predicates
pub opposed-from : (taken : List ℕ) (names : List (List ℕ)) (ps : List Pred) (c : Choice) → Contains (opposed taken names ps).choices c → Contains ps c.pred
opposed-from taken names [] c i = absurd (Contains-none c i)
opposed-from taken names (p ∷ ps) c i =
    let new = first taken names p in
    elim (Contains-cases (choice p new) (opposed (new.name ∷ taken) new.names ps).choices c i) [
      | inl e ↦ subst (λ (d : Choice). Contains (p ∷ ps) d.pred) e (Contains-here p ps)
      | inr j ↦ Contains-there p ps c.pred (opposed-from (new.name ∷ taken) new.names ps c j)
    ]

-- p is the predicate of a choice
pub record HasChoice (cs : List Choice) (p : Pred) : Type 0 where
  pub choice : Choice
  pub listed : Contains cs choice
  pub is : choice.pred ≡ p

pub opposed-has : (taken : List ℕ) (names : List (List ℕ)) (ps : List Pred) (p : Pred) → Contains ps p → HasChoice (opposed taken names ps).choices p
opposed-has taken names [] p i = absurd (Contains-none p i)
opposed-has taken names (q ∷ ps) p i =
    let new = first taken names q in
    let others = (opposed (new.name ∷ taken) new.names ps).choices in
    elim (Contains-cases q ps p i) [
      | inl e ↦ record { choice = choice q new; listed = Contains-here (choice q new) others; is = e }
      | inr j ↦
          (let r = opposed-has (new.name ∷ taken) new.names ps p j in
          record { choice = r.choice; listed = Contains-there (choice q new) others r.choice r.listed; is = r.is })
    ]
