-- Lists that fail by one or two of their constraints fail, whatever the others say.
use Rattle.std.proofs.Common.{◌≡◌, ◌==◌, ℕ, Bool, true, false, ◌&&◌, ◌||◌, not, List, [], ◌∷◌, ◌++◌, MatchOption, Option, None, Some, length, slice_get, zero, suc, ◌+ℤ◌, ◌*ℤ◌, pos, refl, sym, ap, subst, arith, ◌∙◌}
use Rattle.std.specs.List.{list_all, list_any}
use Rattle.std.specs.Prelude.{⊤}
use Rattle.std.proofs.lemmas.Bool.{and_parts, eqb-true, true≢false}
use Rattle.std.proofs.lemmas.Int.{ints}
use Rattle.scasp_bound.specs.Bounds.{as_variable}
use Rattle.scasp_hint.specs.AskedRows.{RowsNormal}
use Rattle.scasp_hint.specs.ExactRows.{differing, exact_rows}
use Rattle.scasp_hint.specs.Satisfying.{is_apart, sat}
use Rattle.scasp_hint.proofs.SatisfyingLemmas.{sat-point}
use Rattle.scasp_law_parts.specs.Bound.{Triangular, equations}
use Rattle.scasp_law_parts.proofs.BoundLemmas.{absorbed}
use Rattle.scasp_law_parts.proofs.ReadLemmas.{con-read}
use Rattle.scasp_law_parts.proofs.TriangularLemmas.{solved-self}
use Rattle.scasp_list.specs.Each.{Each}
use Rattle.scasp_list.proofs.EachLemmas.{Each-at, Each-left, Each-right}
use Rattle.scasp_num.specs.Linear.{Compares, Linear, compares}
use Rattle.scasp_num.specs.Number.{Number}
use Rattle.scasp_num.specs.Values.{numerator_under, row_sum}
use Rattle.scasp_num.specs.declared.linear.Coeff.{Coeff}
use Rattle.scasp_num.proofs.Comparing.{compares-true}
use Rattle.scasp_rows.specs.PlainRows.{is_met}
use Rattle.scasp_search_rules.specs.Successors.Reading.{con_under, constant_holds, holds_always}
use Rattle.scasp_syntax.specs.Constraints.{holds, is_number}
use Rattle.scasp_syntax.specs.RowTruth.{number_of, point, row_holds}
use Rattle.scasp_syntax.specs.Tm.{Tm, var, num, app}
use Rattle.scasp_syntax.specs.Values.{Sub, under}
use Rattle.scasp_syntax.specs.View.{tm_of}
use Rattle.scasp_syntax.specs.declared.con.Con.{Con}
use Rattle.scasp_syntax.specs.declared.con.Con.TheVariants as con
use Rattle.scasp_syntax.specs.declared.term.Term.{Term}
use Rattle.scasp_syntax.proofs.SameLemmas.{tm_decided}
use Rattle.scasp_syntax.proofs.ValueLemmas.{under-under}
use Rattle.scasp_unify.specs.Numbers.{is_num_of, is_number_term, number_var}
use Rattle.scasp_unify.specs.PointMeets.{PointMeets}
use Rattle.scasp_unify.specs.Points.{read_as, through}
use Rattle.scasp_unify.specs.Resolver.{resolver, unifies}
use Rattle.scasp_unify.specs.Solving.{sub_of}
use Rattle.scasp_unify.specs.TermFailures.{is_compound, is_refuted}
use Rattle.scasp_unify.specs.Unification.{then_by}
use Rattle.scasp_unify.specs.declared.bindings.Binding.{Binding}
use Rattle.scasp_store.specs.Inside.Asking.{is_readable}
use Rattle.scasp_store.specs.Inside.Failing.{AreContrary, Denies, HasFalse, IsFalse, Tells, has_numbers, is_constant}
use Rattle.scasp_store.proofs.AskLemmas.{any-left, any-right, read-con}
use Rattle.scasp_store.proofs.SolvedLemmas.{goes-on, resolved-behind}

-- ---- what is said of a variable

only-variable : (t : Tm) (x : ℕ) → Some x ≡ as_variable t → t ≡ var x
only-variable (var y) x e = let p : x ≡ y = cc in ap var (sym p)
only-variable (num q) x e = absurd (cc e)
only-variable (app f ts) x e = absurd (cc e)

pub denies_at : (s : Sub) (cs : List Con) (i : ℕ) (t : Term) (o : Option ℕ) → o ≡ as_variable (under s (tm_of t)) → Some (con.NotNum t) ≡ slice_get cs i → MatchOption o ⊤ (λ x. Denies s x cs)
denies_at s cs i t None e g = tt
denies_at s cs i t (Some x) e g = record { at = i; term = t; there = g; reads = only-variable (under s (tm_of t)) x e }

pub contrary : (s : Sub) (cs more : List Con) (x : ℕ) → Denies s x more → Tells s x cs → AreContrary s cs more
contrary s cs more x d t = record { x = x; tells = t; denies = d }

pub tells_at : (s : Sub) (cs : List Con) (i : ℕ) (t : Term) (x : ℕ) → Some x ≡ as_variable (under s (tm_of t)) → Some (con.Num t) ≡ slice_get cs i → Tells s x cs
tells_at s cs i t x e g = record { at = i; term = t; there = g; reads = only-variable (under s (tm_of t)) x e }

-- ---- a number test and its denial

pub any-at : (q : Con → Bool) (cs : List Con) (i : ℕ) (c : Con) → Some c ≡ slice_get cs i → q c ≡ true → list_any q cs ≡ true
any-at q [] i c g e = absurd (cc g)
any-at q (d ∷ cs) zero c g e =
    let p : c ≡ d = cc in
    ap (λ b. b || list_any q cs) (sym (ap q p) ∙ e)
any-at q (d ∷ cs) (suc i) c g e = by (q d) (any-at q cs i c g e)
  where
    by : (b : Bool) → list_any q cs ≡ true → (b || list_any q cs) ≡ true
    by true k = refl
    by false k = k

refuted-fails : (cs : List Con) → list_any (is_refuted cs) cs ≡ true → sat cs ≡ false
refuted-fails cs e = by (unifies cs) (list_any (is_refuted cs) cs) (is_met (exact_rows cs) && list_all (is_apart (exact_rows cs)) (differing cs)) e
  where
    by : (a b m : Bool) → b ≡ true → (not (not a || b) && m) ≡ false
    by true true m k = refl
    by false true m k = refl
    by true false m k = absurd (true≢false (sym k))
    by false false m k = absurd (true≢false (sym k))

pub contrary_fails : (bs : List Binding) (cs more : List Con) → Triangular bs → AreContrary (sub_of bs) cs more → sat (equations bs ++ (cs ++ more)) ≡ false
contrary_fails bs cs more h f = refuted-fails all (by (r x) refl)
  where
    all : List Con
    all = equations bs ++ (cs ++ more)

    x : ℕ
    x = f.x

    r : Sub
    r = (goes-on (sub_of bs) (cs ++ more)).0

    same : resolver all ≡ then_by (sub_of bs) r
    same = resolved-behind bs (cs ++ more) h ∙ (goes-on (sub_of bs) (cs ++ more)).1

    reads : (t : Term) → under (sub_of bs) (tm_of t) ≡ var x → under (resolver all) (tm_of t) ≡ r x
    reads t e = ap (λ (v : Sub). under v (tm_of t)) same ∙ sym (under-under r (sub_of bs) (tm_of t)) ∙ ap (under r) e

    told : (q : Con → Bool) → q (con.Num f.tells.term) ≡ true → list_any q all ≡ true
    told q e = any-right q (equations bs) (cs ++ more) (any-left q cs more (any-at q cs f.tells.at (con.Num f.tells.term) f.tells.there e))

    denied : (q : Con → Bool) → q (con.NotNum f.denies.term) ≡ true → list_any q all ≡ true
    denied q e = any-right q (equations bs) (cs ++ more) (any-right q cs more (any-at q more f.denies.at (con.NotNum f.denies.term) f.denies.there e))

    numbered : (y : ℕ) → r x ≡ var y → number_var all y ≡ true
    numbered y e = told (is_num_of (resolver all) (var y)) ((tm_decided (under (resolver all) (tm_of f.tells.term)) (var y)).1 (reads f.tells.term f.tells.reads ∙ e))

    by : (u : Tm) → r x ≡ u → list_any (is_refuted all) all ≡ true
    by (var y) e = denied (is_refuted all) (ap (is_number_term all) (reads f.denies.term f.denies.reads ∙ e) ∙ numbered y e)
    by (num q) e = denied (is_refuted all) (ap (is_number_term all) (reads f.denies.term f.denies.reads ∙ e))
    by (app g us) e = told (is_refuted all) (ap is_compound (reads f.tells.term f.tells.reads ∙ e))

-- ---- a row that is false

row-never : (r : Linear) (ks : List Coeff) → r.coeffs ≡ ks → (length ks == 0) ≡ true → constant_holds ks r ≡ false → (v : Sub) → row_holds v r ≡ false
row-never r [] h k e v =
    let sum : numerator_under (point v) r ≡ pos 0 +ℤ r.constant *ℤ pos 1 = ap (λ (ks : List Coeff). (row_sum (point v) ks).0 +ℤ r.constant *ℤ (row_sum (point v) ks).1) h in
    let plain : pos 0 +ℤ r.constant *ℤ pos 1 ≡ r.constant = omega (arith, ints) in
    ap (compares r.op) (sum ∙ plain) ∙ e
row-never r (k ∷ ks) h n e v = let z : suc (length ks) ≡ zero = eqb-true (suc (length ks)) zero n in absurd (omega (arith, z))

never : (c : Con) → is_constant c ≡ true → holds_always c ≡ false → (v : Sub) → holds v c ≡ false
never (con.Row r) n e v = row-never r r.coeffs refl n e v
never (con.Eq t u) n e v = absurd (true≢false (sym n))
never (con.Neq t u) n e v = absurd (true≢false (sym n))
never (con.NotShape x f k) n e v = absurd (true≢false (sym n))
never (con.Num t) n e v = absurd (true≢false (sym n))
never (con.NotNum t) n e v = absurd (true≢false (sym n))

pub false_read : (bs : List Binding) (c : Con) → Triangular bs → RowsNormal (c ∷ []) → has_numbers (sub_of bs) c ≡ true → is_readable (sub_of bs) c ≡ true → is_constant (con_under (sub_of bs) c) ≡ true → holds_always (con_under (sub_of bs) c) ≡ false → IsFalse (sub_of bs) c
false_read bs c h n k r d e = record {
  numbers = k;
  never = λ v. sym (con-read (sub_of bs) v c (absorbed (sub_of bs) bs (solved-self bs h)) (read-con (sub_of bs) c n r)) ∙ never (con_under (sub_of bs) c) d e v;
}

pub false_at : (s : Sub) (cs : List Con) (i : ℕ) (c : Con) → Some c ≡ slice_get cs i → IsFalse s c → HasFalse s cs
false_at s cs i c g f = record { at = i; con = c; there = g; fails = f }

sums-agree : (f g : ℕ → Number) (ks : List Coeff) → Each (λ k. f k.x ≡ g k.x) ks → row_sum f ks ≡ row_sum g ks
sums-agree f g [] e = refl
sums-agree f g (k ∷ ks) e =
    let one = e.0 in
    let rest = sums-agree f g ks e.1 in
    λ i. (k.c *ℤ (one i).num *ℤ (rest i).1 +ℤ (rest i).0 *ℤ (one i).den, (one i).den *ℤ (rest i).1)

-- a point of the whole list gives the row's variables the numbers that the bindings make them
row-fails : (all : List Con) (s r : Sub) (p : ℕ → Number) (l : Linear) → resolver all ≡ then_by s r → list_all (λ k. is_number (s k.x)) l.coeffs ≡ true → row_holds (then_by s var) l ≡ false → Compares l.op (numerator_under (through (resolver all) p) l) → ⊥
row-fails all s r p l same n e m =
    let sum = sums-agree (through (resolver all) p) (point (then_by s var)) l.coeffs (each l.coeffs n) in
    let met = subst (λ z. Compares l.op (z.0 +ℤ l.constant *ℤ z.1)) sum m in
    true≢false (sym (compares-true l.op (numerator_under (point (then_by s var)) l) met) ∙ e)
  where
    number : (t : Tm) (x : ℕ) → is_number t ≡ true → read_as p x (under r t) ≡ number_of (under var t)
    number (var y) x k = absurd (true≢false (sym k))
    number (num q) x k = refl
    number (app f ts) x k = absurd (true≢false (sym k))

    each : (ks : List Coeff) → list_all (λ k. is_number (s k.x)) ks ≡ true → Each (λ k. through (resolver all) p k.x ≡ point (then_by s var) k.x) ks
    each [] k = tt
    each (j ∷ ks) k =
        let q = and_parts (is_number (s j.x)) (list_all (λ k. is_number (s k.x)) ks) k in
        (ap (λ (v : Sub). read_as p j.x (v j.x)) same ∙ number (s j.x) j.x q.0, each ks q.1)

con-fails : (all : List Con) (s r : Sub) (p : ℕ → Number) (c : Con) → resolver all ≡ then_by s r → IsFalse s c → PointMeets all p c → ⊥
con-fails all s r p (con.Row l) same f m = row-fails all s r p l same f.numbers (f.never var) m
con-fails all s r p (con.Eq t u) same f m = true≢false (sym f.numbers)
con-fails all s r p (con.Neq t u) same f m = true≢false (sym f.numbers)
con-fails all s r p (con.NotShape x g n) same f m = true≢false (sym f.numbers)
con-fails all s r p (con.Num t) same f m = true≢false (sym f.numbers)
con-fails all s r p (con.NotNum t) same f m = true≢false (sym f.numbers)

pub false_fails : (bs : List Binding) (cs more : List Con) → Triangular bs → HasFalse (sub_of bs) cs → sat (equations bs ++ (cs ++ more)) ≡ false
false_fails bs cs more h f = by (sat all) refl
  where
    all : List Con
    all = equations bs ++ (cs ++ more)

    by : (b : Bool) → sat all ≡ b → b ≡ false
    by false e = refl
    by true e =
        let k = goes-on (sub_of bs) (cs ++ more) in
        let same = resolved-behind bs (cs ++ more) h ∙ k.1 in
        let q = ((sat-point all).0 e).1 in
        let given = Each-left (PointMeets all q.0) cs more (Each-right (PointMeets all q.0) (equations bs) (cs ++ more) q.1) in
        absurd (con-fails all (sub_of bs) k.0 q.0 f.con same f.fails (Each-at (PointMeets all q.0) cs f.at f.con given f.there))
