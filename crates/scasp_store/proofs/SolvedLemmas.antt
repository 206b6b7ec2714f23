-- What triangular bindings, as equations before others, make of variables.
use Rattle.std.proofs.Common.{◌≡◌, ℕ, false, nat_eq, List, [], ◌∷◌, ◌++◌, length, Option, None, Some, refl, sym, ap, ◌∙◌}
use Rattle.scasp_list.specs.Each.{Each}
use Rattle.scasp_law_parts.specs.Bound.{IsFree, Triangular, equations}
use Rattle.scasp_num.specs.Arithmetic.{◌>>=◌}
use Rattle.scasp_syntax.specs.Tm.{Tm, var, num, app}
use Rattle.scasp_syntax.specs.Values.{Sub, under}
use Rattle.scasp_syntax.specs.View.{tm_of}
use Rattle.scasp_syntax.specs.declared.con.Con.{Con}
use Rattle.scasp_syntax.specs.declared.con.Con.TheVariants as con
use Rattle.scasp_syntax.proofs.ValueLemmas.{under-under}
use Rattle.scasp_unify.specs.Parts.{Part, occurs, parts}
use Rattle.scasp_unify.specs.Resolver.{extended, resolver, resolver_after}
use Rattle.scasp_unify.specs.Solving.{sub_of}
use Rattle.scasp_unify.specs.Unification.{single, solved, term_vars, then_by, unifier}
use Rattle.scasp_unify.specs.declared.bindings.Binding.{Binding}
use Rattle.scasp_unify.proofs.SolvingLemmas.{then-assoc, then-var, under-var}
use Rattle.scasp_unify.proofs.UnificationLemmas.{single-absent}

part-alone : (x : ℕ) (t : Tm) → occurs x t ≡ false → parts (var x) t ≡ Some (record { at = x; term = t; turned = false } ∷ [])
part-alone x (var y) e = rw e refl
part-alone x (num q) e = refl
part-alone x (app f ts) e = rw e refl

unifier-var : (x : ℕ) (t : Tm) → occurs x t ≡ false → unifier (var x) t ≡ Some (single x t)
unfolding unifier
unifier-var x t e = ap (λ (o : Option (List Part)). o >>= solved (length (term_vars (var x) ++ term_vars t))) (part-alone x t e) ∙ ap Some (then-var (single x t))

-- neither the binding's variable nor those of its term are bound
pub record Untouched (s : Sub) (b : Binding) : Type 0 where
  pub at : s b.x ≡ var b.x
  pub term : under s (tm_of b.term) ≡ tm_of b.term

one-taken : (s : Sub) (b : Binding) → occurs b.x (tm_of b.term) ≡ false → Untouched s b → extended s (unifier (s b.x) (under s (tm_of b.term))) ≡ then_by s (single b.x (tm_of b.term))
one-taken s b e u = ap (extended s) ((λ i. unifier (u.at i) (u.term i)) ∙ unifier-var b.x (tm_of b.term) e)

passed : (b : Binding) (y : ℕ) → nat_eq y b.x ≡ false → single b.x (tm_of b.term) y ≡ var y
passed b y e = rw e refl

still : (s : Sub) (b a : Binding) → IsFree b.x a → Untouched s a → Untouched (then_by s (single b.x (tm_of b.term))) a
still s b a f u =
    let g : Sub = single b.x (tm_of b.term) in
    record {
      at = ap (under g) u.at ∙ passed b a.x f.0;
      term = sym (under-under g s (tm_of a.term)) ∙ ap (under g) u.term ∙ single-absent b.x (tm_of b.term) (tm_of a.term) f.1;
    }

all-still : (s : Sub) (b : Binding) (bs : List Binding) → Each (IsFree b.x) bs → Each (Untouched s) bs → Each (Untouched (then_by s (single b.x (tm_of b.term)))) bs
all-still s b [] f u = tt
all-still s b (a ∷ bs) f u = (still s b a f.0 u.0, all-still s b bs f.1 u.1)

resolved-from : (s : Sub) (bs : List Binding) (cs : List Con) → Triangular bs → Each (Untouched s) bs → resolver_after s (equations bs ++ cs) ≡ resolver_after (then_by s (sub_of bs)) cs
resolved-from s [] cs h u = ap (λ (r : Sub). resolver_after r cs) (sym (then-var s))
resolved-from s (b ∷ bs) cs h u =
    let g : Sub = single b.x (tm_of b.term) in
    ap (λ (r : Sub). resolver_after r (equations bs ++ cs)) (one-taken s b h.0 u.0) ∙ resolved-from (then_by s g) bs cs h.2 (all-still s b bs h.1 u.1) ∙ ap (λ (r : Sub). resolver_after r cs) (then-assoc s g (sub_of bs))

none-touched : (bs : List Binding) → Each (Untouched var) bs
none-touched [] = tt
none-touched (b ∷ bs) = (record { at = refl; term = under-var (tm_of b.term) }, none-touched bs)

pub resolved-behind : (bs : List Binding) (cs : List Con) → Triangular bs → resolver (equations bs ++ cs) ≡ resolver_after (sub_of bs) cs
resolved-behind bs cs h = resolved-from var bs cs h (none-touched bs)

-- whatever the equations are, what they make goes on from what was made before
pub goes-on : (s : Sub) (cs : List Con) → (r : Sub) × (resolver_after s cs ≡ then_by s r)
goes-on s [] = (var, sym (then-var s))
goes-on s (con.Eq t u ∷ cs) = by (unifier (under s (tm_of t)) (under s (tm_of u))) (goes-on s cs) (λ q. goes-on (then_by s q) cs)
  where
    by : (o : Option Sub) → (r : Sub) × (resolver_after s cs ≡ then_by s r) → ((q : Sub) → (r : Sub) × (resolver_after (then_by s q) cs ≡ then_by (then_by s q) r)) → (r : Sub) × (resolver_after (extended s o) cs ≡ then_by s r)
    by None h more = h
    by (Some q) h more = let k = more q in (then_by q k.0, k.1 ∙ then-assoc s q k.0)
goes-on s (con.Neq t u ∷ cs) = goes-on s cs
goes-on s (con.NotShape x f n ∷ cs) = goes-on s cs
goes-on s (con.Num t ∷ cs) = goes-on s cs
goes-on s (con.NotNum t ∷ cs) = goes-on s cs
goes-on s (con.Row r ∷ cs) = goes-on s cs
