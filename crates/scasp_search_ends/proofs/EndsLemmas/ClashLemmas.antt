-- Literals that differ by a name or a number are apart.
use Rattle.std.proofs.Common.{◌≡◌, ◌∙◌, ℕ, Bool, true, false, if◌then◌else◌, ◌||◌, ◌&&◌, not, nat_eq, List, [], ◌∷◌, ◌++◌, length, max, map, Some, refl, ap, sym, arith}
use Rattle.std.specs.List.{list_all, list_any}
use Rattle.std.specs.Ordering.{int_eq}
use Rattle.std.specs.Prelude.{ℤ, unsigned_abs}
use Rattle.std.proofs.lemmas.Bool.{and_parts, and_from, false≢true}
use Rattle.std.proofs.lemmas.Bool.Decides.{Decides-eqb, Decides-int_eq}
use Rattle.scasp_checker_answer.specs.NameClashes.{clash, clash_among}
use Rattle.scasp_checker_rules.specs.PairLists.{above_all, above_cons, con_raised, equal_args, pair_list, raising}
use Rattle.scasp_checker_rules.specs.Pairs.{is_pair}
use Rattle.scasp_checker_rules.specs.Told.{Told}
use Rattle.scasp_hint.specs.ExactRows.{differing, exact_rows}
use Rattle.scasp_hint.specs.Satisfying.{is_apart, sat}
use Rattle.scasp_lines.specs.Contexts.{context}
use Rattle.scasp_list.proofs.EachLemmas.{Each-right}
use Rattle.scasp_list.specs.Each.{Each}
use Rattle.scasp_num.specs.Number.{Number}
use Rattle.scasp_rows.specs.PlainRows.{is_met}
use Rattle.scasp_search_ends.specs.Ends.Inside.Apart.{all_fail, lists_behind}
use Rattle.scasp_search_ends.specs.Ends.Inside.Behind.{mark, term_mark}
use Rattle.scasp_syntax.proofs.ValueLemmas.{under-under}
use Rattle.scasp_syntax.specs.Programs.{pred_of}
use Rattle.scasp_syntax.specs.Same.{same_bool, same_number, same_pred}
use Rattle.scasp_syntax.specs.Tm.{Tm, Tms, var, num, app, nil, cons, items}
use Rattle.scasp_syntax.specs.Values.{Sub, under, all_under}
use Rattle.scasp_syntax.specs.declared.con.Con.{Con}
use Rattle.scasp_unify.proofs.ResolverLemmas.{resolver-equal}
use Rattle.scasp_unify.proofs.SimpleLemmas.{viewed}
use Rattle.scasp_unify.specs.Resolver.{Equal, resolver, unifies}
use Rattle.scasp_unify.specs.TermFailures.{is_refuted}

-- ---- terms that a substitution makes one do not differ

int-same : (x : ℤ) → int_eq x x ≡ true
int-same x = (Decides-int_eq x x).1 refl

number-same : (q r : Number) → q ≡ r → not (same_number q r) ≡ false
number-same q r e = ap (λ p. not (same_number q p)) (sym e) ∙ ap not (and_from (int_eq q.num q.num) (int_eq q.den q.den) (int-same q.num) (int-same q.den))

names-same : (f g : ℕ) (b : Bool) → f ≡ g → b ≡ false → (not (nat_eq f g) || b) ≡ false
names-same f g b e h = ap (λ w. not w || b) ((Decides-eqb f g).1 e) ∙ h

both-false : (a b : Bool) → a ≡ false → b ≡ false → (a || b) ≡ false
both-false a b e h = ap (λ w. w || b) e ∙ h

mutual
  one-same : (r s : Sub) (t u : Tm) → under r t ≡ under s u → clash t u ≡ false
  one-same r s (var x) u e = refl
  one-same r s (num q) (var y) e = refl
  one-same r s (num q) (num p) e = let k : q ≡ p = cc in number-same q p k
  one-same r s (num q) (app g us) e = cc
  one-same r s (app f ts) (var y) e = refl
  one-same r s (app f ts) (num p) e = cc
  one-same r s (app f ts) (app g us) e =
      let n : f ≡ g = cc in
      let k : all_under r ts ≡ all_under s us = cc in
      names-same f g (clash_among ts us) n (all-same r s ts us k)

  all-same : (r s : Sub) (ts us : Tms) → all_under r ts ≡ all_under s us → clash_among ts us ≡ false
  all-same r s nil nil e = refl
  all-same r s nil (cons u us) e = cc
  all-same r s (cons t ts) nil e = cc
  all-same r s (cons t ts) (cons u us) e =
      let h : under r t ≡ under s u = cc in
      let k : all_under r ts ≡ all_under s us = cc in
      both-false (clash t u) (clash_among ts us) (one-same r s t u h) (all-same r s ts us k)

equal-same : (r s : Sub) (ts us : Tms) → length (items ts) ≡ length (items us) → Each (Equal r) (equal_args ts (all_under s us)) → clash_among ts us ≡ false
equal-same r s nil nil n h = refl
equal-same r s nil (cons u us) n h = absurd (omega (arith, n))
equal-same r s (cons t ts) nil n h = absurd (omega (arith, n))
equal-same r s (cons t ts) (cons u us) n h =
    both-false (clash t u) (clash_among ts us)
    (one-same r (λ x. under r (s x)) t u (sym (ap (under r) (viewed t)) ∙ h.0 ∙ ap (under r) (viewed (under s u)) ∙ under-under r s u))
    (equal-same r s ts us (omega (arith, n)) h.1)

-- ---- so their list fails by terms

pub clashing-fails : (free : ℕ) (given : List Con) (a b : Told) → length (items a.atom.args) ≡ length (items b.atom.args) → clash_among a.atom.args b.atom.args ≡ true → sat (pair_list free given a b) ≡ false
clashing-fails free given a b n e = by (unifies cs) refl
  where
    first : List Con
    first = context given a.opened

    raised : Sub
    raised = raising free (max (above_cons first) (above_all a.atom.args))

    front : List Con
    front = first ++ map (con_raised free (max (above_cons first) (above_all a.atom.args))) (context [] b.opened)

    cs : List Con
    cs = pair_list free given a b

    by : (w : Bool) → unifies cs ≡ w → sat cs ≡ false
    by true u =
        let h = Each-right (Equal (resolver cs)) front (equal_args a.atom.args (all_under raised b.atom.args)) (resolver-equal cs u) in
        absurd (false≢true (sym (equal-same (resolver cs) raised a.atom.args b.atom.args n h) ∙ e))
    by false u = ap (λ w. not (not w || list_any (is_refuted cs) cs) && (is_met (exact_rows cs) && list_all (is_apart (exact_rows cs)) (differing cs))) u

pair-lengths : (a b : Told) → is_pair a b ≡ true → length (items a.atom.args) ≡ length (items b.atom.args)
pair-lengths a b e =
    let p = pred_of a.atom in
    let q = pred_of b.atom in
    let h = and_parts (not (same_bool a.positive b.positive)) (same_pred p q) e in
    let k = and_parts (same_bool p.minus q.minus && nat_eq p.name q.name) (nat_eq p.arity q.arity) h.1 in
    (Decides-eqb p.arity q.arity).0 k.1

pub pair-fails : (free : ℕ) (given : List Con) (a b : Told) → is_pair a b ≡ true → clash_among a.atom.args b.atom.args ≡ true → sat (pair_list free given a b) ≡ false
pair-fails free given a b p e = clashing-fails free given a b (pair-lengths a b p) e

-- whether they make a pair or not
pub clashing-apart : (free : ℕ) (given : List Con) (a b : Told) → clash_among a.atom.args b.atom.args ≡ true → all_fail (lists_behind free given a (b ∷ [])) ≡ true
clashing-apart free given a b e = by (is_pair a b) refl
  where
    by : (w : Bool) → is_pair a b ≡ w → all_fail (lists_behind free given a (b ∷ [])) ≡ true
    by true p = ap (λ w. all_fail (map (pair_list free given a) (if w then b ∷ [] else []))) p ∙ ap (λ w. not w && true) (pair-fails free given a b p e)
    by false p = ap (λ w. all_fail (map (pair_list free given a) (if w then b ∷ [] else []))) p

-- ---- different marks

marks-differ : (t u : Tm) (m n : ℕ) → term_mark t ≡ Some m → term_mark u ≡ Some n → nat_eq n m ≡ false → clash t u ≡ true
marks-differ (var x) u m n e f d = cc
marks-differ (num q) (var y) m n e f d = cc
marks-differ (num q) (num r) m n e f d = by (same_number q r) refl
  where
    k : unsigned_abs q.num ≡ m
    k = cc

    l : unsigned_abs r.num ≡ n
    l = cc

    by : (w : Bool) → same_number q r ≡ w → not (same_number q r) ≡ true
    by true s =
        let h = and_parts (int_eq q.num r.num) (int_eq q.den r.den) s in
        let same : q.num ≡ r.num = (Decides-int_eq q.num r.num).0 h.0 in
        absurd (false≢true (sym d ∙ (Decides-eqb n m).1 (sym l ∙ ap unsigned_abs (sym same) ∙ k)))
    by false s = ap not s
marks-differ (num q) (app g us) m n e f d = refl
marks-differ (app f ts) (var y) m n e g d = cc
marks-differ (app f ts) (num r) m n e g d = refl
marks-differ (app f ts) (app g us) m n e h d =
    let k : f ≡ m = cc in
    let l : g ≡ n = cc in
    let other : nat_eq f g ≡ false = by (nat_eq f g) refl k l in
    ap (λ w. not w || clash_among ts us) other
  where
    by : (w : Bool) → nat_eq f g ≡ w → f ≡ m → g ≡ n → nat_eq f g ≡ false
    by true s k l = absurd (false≢true (sym d ∙ (Decides-eqb n m).1 (sym l ∙ sym ((Decides-eqb f g).0 s) ∙ k)))
    by false s k l = s

pub marks-clash : (ts us : Tms) (m n : ℕ) → mark ts ≡ Some m → mark us ≡ Some n → nat_eq n m ≡ false → clash_among ts us ≡ true
marks-clash nil nil m n e f d =
    let k : 0 ≡ m = cc in
    let l : 0 ≡ n = cc in
    absurd (false≢true (sym d ∙ (Decides-eqb n m).1 (sym l ∙ k)))
marks-clash nil (cons u us) m n e f d = refl
marks-clash (cons t ts) nil m n e f d = refl
marks-clash (cons t ts) (cons u us) m n e f d = ap (λ w. w || clash_among ts us) (marks-differ t u m n e f d)
