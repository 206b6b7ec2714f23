-- The bindings that an equation makes, as a substitution.
use Rattle.std.proofs.Common.{◌≡◌, ℕ, zero, suc, List, [], ◌∷◌, ◌++◌, length, Option, None, Some, option_map, drop, map, refl, sym, ap, ◌∙◌, take, ◌-◌, arith}
use Rattle.std.proofs.Math.Seq.{drop-append_seam}
use Rattle.std.proofs.lemmas.List.{append_assoc, length-append}
use Rattle.scasp_num.specs.Arithmetic.{◌>>=◌}
use Rattle.scasp_syntax.specs.Tm.{Tm, var}
use Rattle.scasp_syntax.specs.Values.{Sub, under}
use Rattle.scasp_syntax.specs.View.{tm_of}
use Rattle.scasp_syntax.specs.declared.con.Con.{Con}
use Rattle.scasp_syntax.specs.declared.con.Con.TheVariants as con
use Rattle.scasp_syntax.specs.declared.term.Term.{Term}
use Rattle.scasp_syntax.specs.declared.term.Term.TheVariants.{Var, Num, App}
use Rattle.scasp_unify.specs.Parts.{Part, parts}
use Rattle.scasp_unify.specs.Resolver.{extended, resolver, resolver_after}
use Rattle.scasp_unify.specs.SimpleForm.{term_with}
use Rattle.scasp_unify.specs.Solving.{part_of, sub_of}
use Rattle.scasp_unify.specs.Unification.{parts_under, single, solved, term_vars, then_by, unifier}
use Rattle.scasp_unify.specs.declared.bindings.Binding.{Binding}
use Rattle.scasp_unify.specs.declared.parts.Part.{Part as FoundPart}
use Rattle.scasp_unify.proofs.SimpleLemmas.{viewed}
use Rattle.scasp_unify.proofs.SolvingLemmas.{then-var, under-var}
use Rattle.scasp_constraint_store.specs.Bound.{binding_of, bindings_by, bindings_of, bound_by, listed}

-- ---- one binding after the other

pub term-again : (t : Term) → term_with (tm_of t) ≡ t
term-again (Var x) = refl
term-again (Num q) = refl
term-again (App f ts) = refl

pub one-more : (made : List Binding) (b : Binding) (o : Option (List Binding)) → option_map (λ bs. made ++ bs) (o >>= (λ bs. Some (b ∷ bs))) ≡ option_map (λ bs. (made ++ b ∷ []) ++ bs) o
one-more made b None = refl
one-more made b (Some bs) = ap Some (sym (append_assoc made (b ∷ []) bs))

pub bound-step : (m : ℕ) (made : List Binding) (b : Binding) (left now : List FoundPart) (first : FoundPart) (qs : List Part) (r : Option (List Binding)) → left ≡ first ∷ now → b ≡ binding_of (part_of first)
    → Some qs ≡ parts_under (sub_of (b ∷ [])) (map part_of now) → option_map (λ bs. made ++ bs) (bound_by (suc m) (map part_of left)) ≡ r
    → option_map (λ bs. (made ++ b ∷ []) ++ bs) (bound_by m qs) ≡ r
bound-step m made b left now first qs r e f g h = sym (one-more made b (bound_by m qs)) ∙ ap (option_map (λ bs. made ++ bs)) whole ∙ h
  where
    whole : (bound_by m qs >>= (λ bs. Some (b ∷ bs))) ≡ bound_by (suc m) (map part_of left)
    whole =
        ap (λ (o : Option (List Part)). o >>= (λ ps. bound_by m ps >>= (λ bs. Some (b ∷ bs)))) g
        ∙ ap (λ (d : Binding). parts_under (sub_of (d ∷ [])) (map part_of now) >>= (λ ps. bound_by m ps >>= (λ bs. Some (d ∷ bs)))) f
        ∙ ap (λ (l : List FoundPart). bound_by (suc m) (map part_of l)) (sym e)

pub latest-alone : (n : ℕ) (made xs : List Binding) (b : Binding) → xs ≡ made ++ b ∷ [] → n ≡ length made → take (length xs - n) (drop n xs) ≡ b ∷ []
latest-alone n made xs b e h =
    let one : length xs - n ≡ 1 = omega (arith, ap length e, length-append made (b ∷ []), h) in
    let behind : drop n xs ≡ b ∷ [] = ap (drop n) e ∙ ap (λ (k : ℕ). drop k (made ++ b ∷ [])) h ∙ drop-append_seam made (b ∷ []) in
    ap (λ (k : ℕ). take k (drop n xs)) one ∙ ap (take 1) behind

pub unbound-sides : (t u : Tm) (o : Option (List Part)) → o ≡ parts (under var t) (under var u) → o ≡ parts t u
unbound-sides t u o e = e ∙ ap (λ (a : Tm). parts a (under var u)) (under-var t) ∙ ap (parts t) (under-var u)

-- ---- bindings as the unifier

first-sub : (p : Part) → sub_of (binding_of p ∷ []) ≡ single p.at p.term
first-sub p = then-var (single p.at (tm_of (term_with p.term))) ∙ ap (single p.at) (viewed p.term)

behind : (p : Part) (a : Option (List Binding)) (r : Option Sub) → option_map sub_of a ≡ r
    → option_map sub_of (a >>= (λ bs. Some (binding_of p ∷ bs))) ≡ (r >>= (λ s. Some (then_by (single p.at p.term) s)))
behind p None r e = ap (λ (r : Option Sub). r >>= (λ s. Some (then_by (single p.at p.term) s))) e
behind p (Some bs) r e =
    ap (λ (t : Tm). Some (then_by (single p.at t) (sub_of bs))) (viewed p.term)
    ∙ ap (λ (r : Option Sub). r >>= (λ s. Some (then_by (single p.at p.term) s))) e

each-behind : (n : ℕ) (p : Part) → ((qs : List Part) → option_map sub_of (bound_by n qs) ≡ solved n qs) → (o : Option (List Part))
    → option_map sub_of (o >>= (λ qs. bound_by n qs >>= (λ bs. Some (binding_of p ∷ bs)))) ≡ (o >>= (λ qs. solved n qs >>= (λ s. Some (then_by (single p.at p.term) s))))
each-behind n p h None = refl
each-behind n p h (Some qs) = behind p (bound_by n qs) (solved n qs) (h qs)

bound-solves : (n : ℕ) (ps : List Part) → option_map sub_of (bound_by n ps) ≡ solved n ps
bound-solves n [] = refl
bound-solves zero (p ∷ ps) = refl
bound-solves (suc n) (p ∷ ps) =
    ap (λ (s : Sub). option_map sub_of (parts_under s ps >>= (λ qs. bound_by n qs >>= (λ bs. Some (binding_of p ∷ bs))))) (first-sub p)
    ∙ each-behind n p (bound-solves n) (parts_under (single p.at p.term) ps)

each-solved : (n : ℕ) (o : Option (List Part)) → option_map sub_of (o >>= bound_by n) ≡ (o >>= solved n)
each-solved n None = refl
each-solved n (Some ps) = bound-solves n ps

bindings-unify : (t u : Tm) → option_map sub_of (bindings_by t u) ≡ unifier t u
unfolding unifier
bindings-unify t u = each-solved (length (term_vars t ++ term_vars u)) (parts t u)

-- ---- bindings behind a list

after-append : (s : Sub) (cs ds : List Con) → resolver_after s (cs ++ ds) ≡ resolver_after (resolver_after s cs) ds
after-append s [] ds = refl
after-append s (con.Eq t u ∷ cs) ds = after-append (extended s (unifier (under s (tm_of t)) (under s (tm_of u)))) cs ds
after-append s (con.Neq t u ∷ cs) ds = after-append s cs ds
after-append s (con.NotShape x f n ∷ cs) ds = after-append s cs ds
after-append s (con.Num t ∷ cs) ds = after-append s cs ds
after-append s (con.NotNum t ∷ cs) ds = after-append s cs ds
after-append s (con.Row r ∷ cs) ds = after-append s cs ds

extended-by : (s : Sub) (a : Option (List Binding)) (o : Option Sub) → option_map sub_of a ≡ o → extended s o ≡ then_by s (sub_of (listed a))
extended-by s None o e = ap (extended s) (sym e) ∙ sym (then-var s)
extended-by s (Some bs) o e = ap (extended s) (sym e)

resolved-after : (cs : List Con) (c : Con) → resolver_after (resolver cs) (c ∷ []) ≡ then_by (resolver cs) (sub_of (bindings_of cs c))
resolved-after cs (con.Eq t u) =
    let s = resolver cs in
    extended-by s (bindings_by (under s (tm_of t)) (under s (tm_of u))) (unifier (under s (tm_of t)) (under s (tm_of u))) (bindings-unify (under s (tm_of t)) (under s (tm_of u)))
resolved-after cs (con.Neq t u) = sym (then-var (resolver cs))
resolved-after cs (con.NotShape x f n) = sym (then-var (resolver cs))
resolved-after cs (con.Num t) = sym (then-var (resolver cs))
resolved-after cs (con.NotNum t) = sym (then-var (resolver cs))
resolved-after cs (con.Row r) = sym (then-var (resolver cs))

pub resolved-with : (cs : List Con) (c : Con) → resolver (cs ++ c ∷ []) ≡ then_by (resolver cs) (sub_of (bindings_of cs c))
resolved-with cs c = after-append var cs (c ∷ []) ∙ resolved-after cs c
