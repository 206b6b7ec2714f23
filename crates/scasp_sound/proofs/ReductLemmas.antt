-- Lists that are closed under the reduct of a ground program, and the least of them.
use Rattle.std.proofs.Common.{◌≡◌, ◌∷◌, ◌∙◌, Bool, true, false, cond, List, [], Option, None, Some, length, map, refl, ap, sym, subst, inl, inr}
use Rattle.std.specs.List.{Contains, list_all}
use Rattle.std.proofs.lemmas.Bool.{false≢true, or_cases, or_left, or_right, cond-true, cond-false, cond_both, cases_Bool}
use Rattle.scasp_syntax.specs.Same.{same_atom}
use Rattle.scasp_syntax.specs.declared.atom.Atom.{Atom}
use Rattle.scasp_syntax.specs.declared.atom.Lit.{Lit}
use Rattle.scasp_syntax.proofs.SameLemmas.{atom_decided}
use Rattle.scasp_model.specs.Atoms.{among, has_all}
use Rattle.scasp_model.specs.Least.{least_model, is_closed}
use Rattle.scasp_model.specs.Programs.{positive_atoms, is_blocked}
use Rattle.scasp_model.specs.Reduct.{rule_of, reduced, reduct}
use Rattle.scasp_model.specs.Stable.{Stable}
use Rattle.scasp_model.specs.declared.program.DefiniteRule.{DefiniteRule}
use Rattle.scasp_model.specs.declared.program.GroundClause.{GroundClause}
use Rattle.scasp_model.proofs.AtomLemmas.{among-within}
use Rattle.scasp_model.proofs.LeastLemmas.{least_model-closed, rounds-within}
use Rattle.scasp_sound.proofs.BodyLemmas.{fires, fires-from, fires-parts, fires-wider}
use Rattle.scasp_list.proofs.MemberLemmas.{Contains-none, Contains-here, Contains-there, Contains-cases, Contains-single, Contains-flat_map, Contains-from_flat_map, list_all-from, list_all-member}

-- the test of `is_closed`
abbrev gives : List Atom → DefiniteRule → Bool
gives x r = cond (has_all x r.body) (among x r.head) true

-- x has the head of each rule of g whose body fires
abbrev pub ClosedBy : List GroundClause → List Atom → List Atom → Type 0
ClosedBy g s x = (c : GroundClause) (a : Atom) → Contains g c → c.head ≡ Some a → list_all (fires s x) c.body ≡ true → among x a ≡ true

-- a rule whose body has no negated atom in s stays in the reduct
reduct-has : (g : List GroundClause) (s : List Atom) (c : GroundClause) (a : Atom) → Contains g c → c.head ≡ Some a → is_blocked s c.body ≡ false → Contains (reduct s g) (record { head = a; body = positive_atoms c.body })
reduct-has g s c a i e b =
    let r : DefiniteRule = record { head = a; body = positive_atoms c.body } in
    let rules : Contains (rule_of c.head c.body) r = subst (λ (o : Option Atom). Contains (rule_of o c.body) r) (sym e) (Contains-here r []) in
    let stays : Contains (reduced s c) r = subst (λ (rs : List DefiniteRule). Contains rs r) (sym (cond-false (is_blocked s c.body) [] (rule_of c.head c.body) b)) rules in
    Contains-flat_map (reduced s) g c r i stays

pub closed-at : (g : List GroundClause) (s x : List Atom) → is_closed (reduct s g) x ≡ true → ClosedBy g s x
closed-at g s x h c a i e w =
    let p = fires-parts s x c.body w in
    let r : DefiniteRule = record { head = a; body = positive_atoms c.body } in
    let given : gives x r ≡ true = list_all-member (gives x) (reduct s g) r h (reduct-has g s c a i e p.0) in
    sym (cond-true (has_all x r.body) (among x r.head) true p.1) ∙ given

-- the least model of the reduct is one
pub least-closed : (g : List GroundClause) (s : List Atom) → ClosedBy g s (least_model (reduct s g))
least-closed g s = closed-at g s (least_model (reduct s g)) (least_model-closed (reduct s g))

rule_is : (o : Option Atom) (body : List Lit) (r : DefiniteRule) → Contains (rule_of o body) r → (o ≡ Some r.head) × (r.body ≡ positive_atoms body)
rule_is None body r i = absurd (Contains-none r i)
rule_is (Some a) body r i =
    let e : record { head = a; body = positive_atoms body } ≡ r = Contains-single (record { head = a; body = positive_atoms body }) r i in
    (ap (λ (q : DefiniteRule). Some q.head) e, ap (λ (q : DefiniteRule). q.body) (sym e))

-- a rule of the reduct comes from a clause that is not blocked
pub reduct-from : (g : List GroundClause) (s : List Atom) (r : DefiniteRule) → Contains (reduct s g) r → (c : GroundClause) × Contains g c × (is_blocked s c.body ≡ false) × (c.head ≡ Some r.head) × (r.body ≡ positive_atoms c.body)
reduct-from g s r i =
    let p = Contains-from_flat_map (reduced s) g r i in
    let c : GroundClause = p.0 in
    elim (cases_Bool (is_blocked s c.body)) [
      | inl b ↦ absurd (Contains-none r (subst (λ (rs : List DefiniteRule). Contains rs r) (cond-true (is_blocked s c.body) [] (rule_of c.head c.body) b) p.2))
      | inr b ↦
          (let q = rule_is c.head c.body r (subst (λ (rs : List DefiniteRule). Contains rs r) (cond-false (is_blocked s c.body) [] (rule_of c.head c.body) b) p.2) in
          (c, p.1, b, q.0, q.1))
    ]

pub closed-from : (g : List GroundClause) (s x : List Atom) → ClosedBy g s x → is_closed (reduct s g) x ≡ true
closed-from g s x f =
    list_all-from (gives x) (reduct s g)
    (λ r i. (let p = reduct-from g s r i in
    cond_both (has_all x r.body) (among x r.head) true (λ z. z ≡ true)
    (λ h. f p.0 r.head p.1 p.3 (fires-from s x (p.0).body p.2 (ap (has_all x) (sym p.4) ∙ h)))
    (λ h. refl)))

-- what each closed list has, the least model being one of them
pub least-within : (g : List GroundClause) (s x : List Atom) → ClosedBy g s x → has_all x (least_model (reduct s g)) ≡ true
least-within g s x f = rounds-within (reduct s g) x (length (reduct s g)) (closed-from g s x f)

-- the heads of the rules
abbrev heads : List DefiniteRule → List Atom
heads rs = map (λ r. r.head) rs

among-heads : (rs : List DefiniteRule) (r : DefiniteRule) → Contains rs r → among (heads rs) r.head ≡ true
among-heads [] r i = absurd (Contains-none r i)
among-heads (q ∷ rs) r i =
    elim (Contains-cases q rs r i) [
      | inl e ↦ or_left (same_atom r.head q.head) (among (heads rs) r.head) ((atom_decided r.head q.head).1 (ap (λ (z : DefiniteRule). z.head) (sym e)))
      | inr k ↦ or_right (same_atom r.head q.head) (among (heads rs) r.head) (among-heads rs r k)
    ]

head-among : (rs : List DefiniteRule) (a : Atom) → among (heads rs) a ≡ true → (r : DefiniteRule) × Contains rs r × (r.head ≡ a)
head-among [] a h = absurd (false≢true h)
head-among (q ∷ rs) a h =
    elim (or_cases (same_atom a q.head) (among (heads rs) a) h) [
      | inl e ↦ (q, Contains-here q rs, sym ((atom_decided a q.head).0 e))
      | inr k ↦ (let p = head-among rs a k in (p.0, Contains-there q rs p.0 p.1, p.2))
    ]

-- each atom of the least model is the head of a clause
pub least_model-head : (g : List GroundClause) (s : List Atom) (a : Atom) → among (least_model (reduct s g)) a ≡ true → (c : GroundClause) × Contains g c × (c.head ≡ Some a)
least_model-head g s a h =
    let rs : List DefiniteRule = reduct s g in
    let closed : ClosedBy g s (heads rs) =
    λ c b i e w. among-heads rs (record { head = b; body = positive_atoms c.body }) (reduct-has g s c b i e (fires-parts s (heads rs) c.body w).0) in
    let q = head-among rs a (among-within (heads rs) (least_model rs) a (least-within g s (heads rs) closed) h) in
    let p = reduct-from g s q.0 q.1 in
    (p.0, p.1, p.3 ∙ ap (λ (b : Atom). Some b) q.2)

-- a stable model has the head of each rule whose body is true in it
pub stable-closed : (g : List GroundClause) (m : List Atom) → Stable g m → ClosedBy g m m
stable-closed g m s c a i e w =
    s.least_of_reduct a
    ∙ least-closed g m c a i e
    (fires-wider m m (least_model (reduct m g)) c.body (λ b h. sym (s.least_of_reduct b) ∙ h) w)
