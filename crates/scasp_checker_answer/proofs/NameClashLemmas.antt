-- Terms that differ by a name or a number do not unify.
use Rattle.std.proofs.Common.{◌≡◌, ◌≢◌, ℕ, suc, Bool, true, false, ◌||◌, not, nat_eq, List, [], ◌∷◌, ◌++◌, length, Option, None, Some, if◌then◌else◌, max, map, refl, ap, sym, ◌∙◌, arith}
use Rattle.scasp_num.specs.Arithmetic.{◌>>=◌}
use Rattle.scasp_syntax.specs.Same.{same_number}
use Rattle.scasp_syntax.specs.Tm.{Tm, Tms, var, num, app, nil, cons, items}
use Rattle.scasp_syntax.specs.Values.{Sub, under, all_under}
use Rattle.scasp_syntax.specs.View.{tm_of}
use Rattle.scasp_syntax.specs.declared.con.Con.{Con}
use Rattle.scasp_syntax.specs.declared.con.Con.TheVariants as con
use Rattle.scasp_syntax.specs.declared.hint.Hint.TheVariants as hint
use Rattle.scasp_unify.specs.Parts.{Part, parts, parts_each, both_parts}
use Rattle.scasp_unify.specs.Unification.{then_by, unifier, solved, term_vars}
use Rattle.scasp_unify.specs.Resolver.{taken}
use Rattle.scasp_unify.proofs.SimpleLemmas.{viewed}
use Rattle.scasp_unify.proofs.SolvingLemmas.{under-var}
use Rattle.scasp_unify.specs.SimpleForm.{term_with}
use Rattle.scasp_hint.specs.Showing.{fault_of}
use Rattle.scasp_lines.specs.Contexts.{context}
use Rattle.scasp_lines.specs.Openings.{equal}
use Rattle.scasp_checker_rules.specs.PairLists.{above_all, above_cons, con_raised, equal_args, raising, pair_list}
use Rattle.scasp_checker_rules.specs.Told.{Told}
use Rattle.scasp_checker_answer.specs.NameClashes.{clash, clash_among}

or-later : (a b c : Bool) → (b ≡ true → c ≡ true) → (a || b) ≡ true → (a || c) ≡ true
or-later true b c h e = refl
or-later false b c h e = h e

or-both : (a b c d : Bool) → (a ≡ true → c ≡ true) → (b ≡ true → d ≡ true) → (a || b) ≡ true → (c || d) ≡ true
or-both true b c d h k e = ap (λ x. x || d) (h refl)
or-both false b true d h k e = refl
or-both false b false d h k e = k e

-- ---- replaced variables leave the difference

mutual
  clash-under : (r s : Sub) (t u : Tm) → clash t u ≡ true → clash (under r t) (under s u) ≡ true
  clash-under r s (var x) u e = cc
  clash-under r s (num q) (var y) e = cc
  clash-under r s (num q) (num p) e = e
  clash-under r s (num q) (app g us) e = e
  clash-under r s (app f ts) (var y) e = cc
  clash-under r s (app f ts) (num p) e = e
  clash-under r s (app f ts) (app g us) e = or-later (not (nat_eq f g)) _ _ (clash_among-under r s ts us) e

  clash_among-under : (r s : Sub) (ts us : Tms) → clash_among ts us ≡ true → clash_among (all_under r ts) (all_under s us) ≡ true
  clash_among-under r s nil nil e = e
  clash_among-under r s nil (cons u us) e = e
  clash_among-under r s (cons t ts) nil e = e
  clash_among-under r s (cons t ts) (cons u us) e = or-both _ _ _ _ (clash-under r s t u) (clash_among-under r s ts us) e

-- ---- they have no parts

unless : (b : Bool) (o : Option (List Part)) → not b ≡ true → (if b then o else None) ≡ None
unless true o e = cc
unless false o e = refl

by-name : (b a : Bool) (o : Option (List Part)) → (a ≡ true → o ≡ None) → (not b || a) ≡ true → (if b then o else None) ≡ None
by-name true a o h e = h e
by-name false a o h e = refl

either : (a b : Bool) (o p : Option (List Part)) → (a ≡ true → o ≡ None) → (b ≡ true → p ≡ None) → (a || b) ≡ true → both_parts o p ≡ None
either true b o p h k e = ap (λ x. both_parts x p) (h refl)
either false b None p h k e = refl
either false b (Some ps) p h k e = ap (both_parts (Some ps)) (k e)

mutual
  clash-parts : (t u : Tm) → clash t u ≡ true → parts t u ≡ None
  clash-parts (var x) u e = cc
  clash-parts (num q) (var y) e = cc
  clash-parts (num q) (num r) e = unless (same_number q r) (Some []) e
  clash-parts (num q) (app g us) e = refl
  clash-parts (app f ts) (var y) e = cc
  clash-parts (app f ts) (num r) e = refl
  clash-parts (app f ts) (app g us) e = by-name (nat_eq f g) _ _ (clash_among-parts ts us) e

  clash_among-parts : (ts us : Tms) → clash_among ts us ≡ true → parts_each ts us ≡ None
  clash_among-parts nil nil e = cc
  clash_among-parts nil (cons u us) e = refl
  clash_among-parts (cons t ts) nil e = refl
  clash_among-parts (cons t ts) (cons u us) e = either _ _ _ _ (clash-parts t u) (clash_among-parts ts us) e

clash-unifier : (t u : Tm) → clash t u ≡ true → unifier t u ≡ None
unfolding unifier
clash-unifier t u e = ap (λ o. o >>= solved (length (term_vars t ++ term_vars u))) (clash-parts t u e)

-- ---- an equation of them is not taken, wherever it stands

not-taken : (s : Sub) (t u : Tm) (cs : List Con) → clash t u ≡ true → taken s (equal t u ∷ cs) ≡ None
not-taken s t u cs e =
    let there : clash (tm_of (term_with t)) (tm_of (term_with u)) ≡ true = rw (viewed t, viewed u) e in
    ap (λ o. o >>= (λ r. taken (then_by s r) cs)) (clash-unifier (under s (tm_of (term_with t))) (under s (tm_of (term_with u))) (clash-under s s (tm_of (term_with t)) (tm_of (term_with u)) there))

taken-behind : (s : Sub) (cs ds : List Con) → ((r : Sub) → taken r ds ≡ None) → taken s (cs ++ ds) ≡ None
taken-behind s [] ds h = h s
taken-behind s (con.Eq t u ∷ cs) ds h = by (unifier (under s (tm_of t)) (under s (tm_of u))) (λ r. taken-behind (then_by s r) cs ds h)
  where
    by : (o : Option Sub) → ((r : Sub) → taken (then_by s r) (cs ++ ds) ≡ None) → (o >>= (λ r. taken (then_by s r) (cs ++ ds))) ≡ None
    by None k = refl
    by (Some r) k = k r
taken-behind s (con.Neq t u ∷ cs) ds h = taken-behind s cs ds h
taken-behind s (con.NotShape x f n ∷ cs) ds h = taken-behind s cs ds h
taken-behind s (con.Num t ∷ cs) ds h = taken-behind s cs ds h
taken-behind s (con.NotNum t ∷ cs) ds h = taken-behind s cs ds h
taken-behind s (con.Row r ∷ cs) ds h = taken-behind s cs ds h

args-fail : (ts us : Tms) → length (items ts) ≡ length (items us) → clash_among ts us ≡ true → (s : Sub) → taken s (equal_args ts us) ≡ None
args-fail nil nil n e s = cc
args-fail nil (cons u us) n e s = absurd (omega (arith, n))
args-fail (cons t ts) nil n e s = absurd (omega (arith, n))
args-fail (cons t ts) (cons u us) n e s = by (clash t u) refl e (args-fail ts us (omega (arith, n)))
  where
    by : (b : Bool) → clash t u ≡ b → (b || clash_among ts us) ≡ true → (clash_among ts us ≡ true → (r : Sub) → taken r (equal_args ts us) ≡ None) → taken s (equal t u ∷ equal_args ts us) ≡ None
    by true is h k = not-taken s t u (equal_args ts us) is
    by false is h k = taken-behind s (equal t u ∷ []) (equal_args ts us) (k h)

unreplaced : (ts : Tms) → all_under var ts ≡ ts
unreplaced nil = refl
unreplaced (cons t ts) = let e = under-var t in let f = unreplaced ts in cc

length-under : (s : Sub) (ts : Tms) → length (items (all_under s ts)) ≡ length (items ts)
length-under s nil = refl
length-under s (cons t ts) = ap suc (length-under s ts)

-- a list that is not taken is shown by its terms
shown : (cs : List Con) → taken var cs ≡ None → fault_of cs hint.Terms ≡ None
shown cs e = rw e refl

pub shown-by_names : (free : ℕ) (given : List Con) (a b : Told) → length (items a.atom.args) ≡ length (items b.atom.args) → clash_among a.atom.args b.atom.args ≡ true → fault_of (pair_list free given a b) hint.Terms ≡ None
shown-by_names free given a b n e =
    let first = context given a.opened in
    let by = max (above_cons first) (above_all a.atom.args) in
    let raised = all_under (raising free by) b.atom.args in
    let there : clash_among a.atom.args raised ≡ true = ap (λ ts. clash_among ts raised) (sym (unreplaced a.atom.args)) ∙ clash_among-under var (raising free by) a.atom.args b.atom.args e in
    shown (pair_list free given a b)
    (taken-behind var (first ++ map (con_raised free by) (context [] b.opened)) (equal_args a.atom.args raised)
    (args-fail a.atom.args raised (n ∙ sym (length-under (raising free by) b.atom.args)) there))

-- lists of other lengths
or-true : (b : Bool) → (b || true) ≡ true
or-true true = refl
or-true false = refl

pub clash_among-lengths : (ts us : Tms) → length (items ts) ≢ length (items us) → clash_among ts us ≡ true
clash_among-lengths nil nil n = absurd (n refl)
clash_among-lengths nil (cons u us) n = refl
clash_among-lengths (cons t ts) nil n = refl
clash_among-lengths (cons t ts) (cons u us) n = ap (λ b. clash t u || b) (clash_among-lengths ts us (λ e. n (ap suc e))) ∙ or-true (clash t u)
