-- The equations of a list, and what a valuation makes of its constraints resolved.
use Rattle.std.proofs.Common.{◌≡◌, ℕ, true, List, [], ◌∷◌, Option, None, Some, is_some, refl, sym, ap, subst, ◌∙◌}
use Rattle.scasp_num.specs.Arithmetic.{◌>>=◌}
use Rattle.scasp_list.specs.Each.{Each}
use Rattle.scasp_syntax.specs.Tm.{Tm, var}
use Rattle.scasp_syntax.specs.Values.{Sub, under}
use Rattle.scasp_syntax.specs.View.{tm_of}
use Rattle.scasp_unify.specs.Unification.{then_by, unifier, Absorbs}
use Rattle.scasp_unify.specs.Resolver.{taken, unifies, extended, resolver_after, resolver, Equal}
use Rattle.scasp_syntax.specs.declared.con.Con.{Con}
use Rattle.scasp_syntax.specs.declared.con.Con.TheVariants as con
use Rattle.scasp_syntax.proofs.ValueLemmas.{under-under}
use Rattle.scasp_unify.proofs.UnificationLemmas.{unifier-solves, unifier-general, resolved-twice}

-- the substitution that the list's equations make, where they have one, is one that v absorbs
pub taken-general : (v s : Sub) (cs : List Con) → Absorbs v s → Each (Equal v) cs → (is_some (taken s cs) ≡ true) × Absorbs v (resolver_after s cs)
taken-general v s [] h k = (refl, h)
taken-general v s (con.Eq t u ∷ cs) h k =
    by (unifier (under s (tm_of t)) (under s (tm_of u))) (unifier-general (under s (tm_of t)) (under s (tm_of u)) v (resolved-twice v s (tm_of t) h ∙ k.0 ∙ sym (resolved-twice v s (tm_of u) h)))
    (λ r a. taken-general v (then_by s r) cs (λ y. resolved-twice v r (s y) a ∙ h y) k.1)
  where
    by : (o : Option Sub) → (r : Sub) × (o ≡ Some r) × ((x : ℕ) → under v (r x) ≡ v x) → ((r : Sub) → Absorbs v r → (is_some (taken (then_by s r) cs) ≡ true) × Absorbs v (resolver_after (then_by s r) cs)) → (is_some (o >>= (λ r. taken (then_by s r) cs)) ≡ true) × Absorbs v (resolver_after (extended s o) cs)
    by None (r, e, a) rest = cc
    by (Some q) (r, e, a) rest = let p : r ≡ q = cc in rest q (subst (λ (q : Sub). Absorbs v q) p a)
taken-general v s (con.Neq t u ∷ cs) h k = taken-general v s cs h k.1
taken-general v s (con.NotShape x f n ∷ cs) h k = taken-general v s cs h k.1
taken-general v s (con.Num t ∷ cs) h k = taken-general v s cs h k.1
taken-general v s (con.NotNum t ∷ cs) h k = taken-general v s cs h k.1
taken-general v s (con.Row r ∷ cs) h k = taken-general v s cs h k.1

-- both terms equal, under a substitution that goes on from one where they are
abbrev pub After : Sub → Sub → Type 0
After s r = (u w : Tm) → under s u ≡ under s w → under r u ≡ under r w

-- a list whose equations are taken makes them hold
pub taken-equal : (s : Sub) (cs : List Con) → is_some (taken s cs) ≡ true → After s (resolver_after s cs) × Each (Equal (resolver_after s cs)) cs
taken-equal s [] e = (λ u w same. same, tt)
taken-equal s (con.Eq t u ∷ cs) e =
    by (unifier (under s (tm_of t)) (under s (tm_of u))) (unifier-solves (under s (tm_of t)) (under s (tm_of u))) e (λ r f. taken-equal (then_by s r) cs f)
  where
    by : (o : Option Sub) → ((r : Sub) → o ≡ Some r → under r (under s (tm_of t)) ≡ under r (under s (tm_of u))) → is_some (o >>= (λ r. taken (then_by s r) cs)) ≡ true → ((r : Sub) → is_some (taken (then_by s r) cs) ≡ true → After (then_by s r) (resolver_after (then_by s r) cs) × Each (Equal (resolver_after (then_by s r) cs)) cs) → After s (resolver_after (extended s o) cs) × Each (Equal (resolver_after (extended s o) cs)) (con.Eq t u ∷ cs)
    by None says f rest = cc
    by (Some r) says f rest =
        let k = rest r f in
        (λ x y same. k.0 x y (sym (under-under r s x) ∙ ap (under r) same ∙ under-under r s y), (k.0 (tm_of t) (tm_of u) (sym (under-under r s (tm_of t)) ∙ says r refl ∙ under-under r s (tm_of u)), k.1))
taken-equal s (con.Neq t u ∷ cs) e = let k = taken-equal s cs e in (k.0, (tt, k.1))
taken-equal s (con.NotShape x f n ∷ cs) e = let k = taken-equal s cs e in (k.0, (tt, k.1))
taken-equal s (con.Num t ∷ cs) e = let k = taken-equal s cs e in (k.0, (tt, k.1))
taken-equal s (con.NotNum t ∷ cs) e = let k = taken-equal s cs e in (k.0, (tt, k.1))
taken-equal s (con.Row r ∷ cs) e = let k = taken-equal s cs e in (k.0, (tt, k.1))

-- what makes the equations of a list hold absorbs its resolver
pub complete-list : (v : Sub) (cs : List Con) → Each (Equal v) cs → (unifies cs ≡ true) × Absorbs v (resolver cs)
complete-list v cs k = taken-general v var cs (λ y. refl) k

pub resolver-equal : (cs : List Con) → unifies cs ≡ true → Each (Equal (resolver cs)) cs
resolver-equal cs e = (taken-equal var cs e).1

-- the resolver of a list that unifies is idempotent
pub idempotent : (cs : List Con) → unifies cs ≡ true → Absorbs (resolver cs) (resolver cs)
idempotent cs e = (complete-list (resolver cs) cs (resolver-equal cs e)).1
