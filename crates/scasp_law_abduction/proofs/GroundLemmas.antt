-- Instances of clauses: whose names they have, and those of the rules of a choice.
use Rattle.std.proofs.Common.{◌≡◌, ℕ, zero, suc, ◌+◌, List, [], ◌∷◌, Option, None, Some, length, map, refl, ap, sym, subst, ◌∙◌, arith}
use Rattle.std.specs.List.{Contains, list_all, filter, flat_map}
use Rattle.std.proofs.lemmas.List.Elements.{Contains-append_left, Contains-append_right}
use Rattle.scasp_list.proofs.MemberLemmas.{Contains-none, Contains-here, Contains-single, Contains-map, Contains-from_map, Contains-filter, Contains-from_filter, Contains-flat_map, Contains-from_flat_map}
use Rattle.scasp_syntax.specs.Denials.{variables_from}
use Rattle.scasp_syntax.specs.Instances.{atom_under, head_under}
use Rattle.scasp_syntax.specs.Tm.{Tm, Tms, cons, listed}
use Rattle.scasp_syntax.specs.Values.{Sub, all_under, giving}
use Rattle.scasp_syntax.specs.declared.atom.Atom.{Atom}
use Rattle.scasp_syntax.specs.declared.atom.Lit.{Lit}
use Rattle.scasp_syntax.specs.declared.atom.Pred.{Pred}
use Rattle.scasp_syntax.specs.declared.clause.Clause.{Clause}
use Rattle.scasp_syntax.specs.declared.clause.Item.{Item}
use Rattle.scasp_syntax.specs.declared.clause.Item.TheVariants.{Call, Equal, Differ, Linear}
use Rattle.scasp_model.specs.Grounding.{choices, is_test_true, literal_under, instance_of, instances}
use Rattle.scasp_model.specs.declared.program.GroundClause.{GroundClause}
use Rattle.scasp_abduce.specs.Occurrences.{atom_names, item_names, head_names, clause_names, terms_names}
use Rattle.scasp_abduce.specs.Translation.{atom_of, unless}
use Rattle.scasp_law_abduction.proofs.ChoiceLemmas.{against}

-- an instance of a clause over d, by these terms
pub record IsInstance (d : List Tm) (c : Clause) (g : GroundClause) : Type 0 where
  pub terms : List Tm
  pub given : Contains (choices d c.vars) terms
  pub is : instance_of c (giving terms) ≡ g

pub instance-from : (d : List Tm) (c : Clause) (g : GroundClause) → Contains (instances d c) g → IsInstance d c g
instance-from d c g i =
    let taken : List (List Tm) = filter (λ ts. list_all (is_test_true (giving ts)) c.body) (choices d c.vars) in
    let p = Contains-from_map (λ ts. instance_of c (giving ts)) taken g i in
    let q = Contains-from_filter (λ ts. list_all (is_test_true (giving ts)) c.body) (choices d c.vars) p.0 p.1 in
    record { terms = p.0; given = q.0; is = p.2 }

-- ---- names

head-name : (v : Sub) (o : Option Atom) (a : Atom) → head_under v o ≡ Some a → Contains (head_names o) a.name
head-name v None a e = cc
head-name v (Some b) a e =
    let same : atom_under v b ≡ a = cc in
    let P : ℕ → Type 0 = Contains (atom_names b) in
    subst P (ap (λ (x : Atom). x.name) same) (Contains-here b.name (terms_names b.args))

literal-name : (v : Sub) (it : Item) (l : Lit) → Contains (literal_under v it) l → Contains (item_names it) l.atom.name
literal-name v (Call k) l i =
    let same : record { positive = k.positive; atom = atom_under v k.atom } ≡ l = Contains-single (record { positive = k.positive; atom = atom_under v k.atom }) l i in
    let P : ℕ → Type 0 = Contains (atom_names k.atom) in
    subst P (ap (λ (x : Lit). x.atom.name) same) (Contains-here k.atom.name (terms_names k.atom.args))
literal-name v (Equal t s) l i = absurd (Contains-none l i)
literal-name v (Differ t s) l i = absurd (Contains-none l i)
literal-name v (Linear r) l i = absurd (Contains-none l i)

-- the names of an instance's atoms are names of the clause
pub instance-head : (d : List Tm) (c : Clause) (g : GroundClause) (a : Atom) → Contains (instances d c) g → g.head ≡ Some a → Contains (clause_names c) a.name
instance-head d c g a i e =
    let q = instance-from d c g i in
    let same : head_under (giving q.terms) c.head ≡ Some a = ap (λ (x : GroundClause). x.head) q.is ∙ e in
    Contains-append_left (head_names c.head) (flat_map item_names c.body) a.name (head-name (giving q.terms) c.head a same)

pub instance-body : (d : List Tm) (c : Clause) (g : GroundClause) (l : Lit) → Contains (instances d c) g → Contains g.body l → Contains (clause_names c) l.atom.name
instance-body d c g l i j =
    let q = instance-from d c g i in
    let k : Contains (flat_map (literal_under (giving q.terms)) c.body) l = subst (λ (x : GroundClause). Contains x.body l) (sym q.is) j in
    let p = Contains-from_flat_map (literal_under (giving q.terms)) c.body l k in
    Contains-append_right (head_names c.head) (flat_map item_names c.body) l.atom.name
    (Contains-flat_map item_names c.body p.0 l.atom.name p.1 (literal-name (giving q.terms) p.0 l p.2))

-- ---- the rules of a choice

choices-length : (d : List Tm) (n : ℕ) (ts : List Tm) → Contains (choices d n) ts → length ts ≡ n
choices-length d zero ts i = ap length (sym (Contains-single [] ts i))
choices-length d (suc n) ts i =
    let p = Contains-from_flat_map (λ t. map (λ us. t ∷ us) (choices d n)) d ts i in
    let q = Contains-from_map (λ us. p.0 ∷ us) (choices d n) ts p.2 in
    let rest : length q.0 ≡ n = choices-length d n q.0 q.1 in
    let same : length (p.0 ∷ q.0) ≡ length ts = ap length q.2 in
    omega (arith, rest, same)

given-from : (s : Sub) (x : ℕ) (ts : List Tm) → ((i : ℕ) → s (x + i) ≡ giving ts i) → all_under s (variables_from x (length ts)) ≡ listed ts
given-from s x [] f = refl
given-from s x (t ∷ ts) f =
    let start : x ≡ x + zero = omega arith in
    let here : s x ≡ t = ap s start ∙ f zero in
    let rest : all_under s (variables_from (x + 1) (length ts)) ≡ listed ts =
    given-from s (x + 1) ts (λ i. (let e : x + 1 + i ≡ x + suc i = omega arith in ap s e ∙ f (suc i))) in
    ap (λ u. cons u (all_under s (variables_from (x + 1) (length ts)))) here ∙ ap (cons t) rest

-- the variables of a rule get the terms in order
given-in_order : (d : List Tm) (n : ℕ) (ts : List Tm) → Contains (choices d n) ts → all_under (giving ts) (variables_from 0 n) ≡ listed ts
given-in_order d n ts i =
    ap (λ k. all_under (giving ts) (variables_from 0 k)) (sym (choices-length d n ts i))
    ∙ given-from (giving ts) 0 ts (λ i. (let e : 0 + i ≡ i = omega arith in ap (giving ts) e))

abbrev with_args : Pred → Pred → Tms → GroundClause
with_args p q args = against (atom_of p args) (atom_of q args)

pub unless-has : (d : List Tm) (p q : Pred) (ts : List Tm) → Contains (choices d p.arity) ts → Contains (instances d (unless p q)) (against (atom_of p (listed ts)) (atom_of q (listed ts)))
unless-has d p q ts i =
    let c : Clause = unless p q in
    let k = Contains-filter (λ us. list_all (is_test_true (giving us)) c.body) (choices d c.vars) ts i refl in
    subst (λ (x : GroundClause). Contains (instances d (unless p q)) x) (ap (with_args p q) (given-in_order d p.arity ts i))
    (Contains-map (λ us. instance_of c (giving us)) (filter (λ us. list_all (is_test_true (giving us)) c.body) (choices d c.vars)) ts k)

-- the two atoms of a choice, by these terms
pub record IsAgainst (d : List Tm) (p q : Pred) (g : GroundClause) : Type 0 where
  pub terms : List Tm
  pub given : Contains (choices d p.arity) terms
  pub is : g ≡ against (atom_of p (listed terms)) (atom_of q (listed terms))

pub unless-from : (d : List Tm) (p q : Pred) (g : GroundClause) → Contains (instances d (unless p q)) g → IsAgainst d p q g
unless-from d p q g i =
    let r = instance-from d (unless p q) g i in
    record { terms = r.terms; given = r.given; is = sym r.is ∙ ap (with_args p q) (given-in_order d p.arity r.terms r.given) }
