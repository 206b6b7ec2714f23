-- The exact rows and the disequations of a list are met by a point exactly where it meets what the list says of numbers.
use Rattle.std.proofs.Common.{◌≡◌, ◌≢◌, ◌↔◌, ◌⊎◌, inl, inr, ℕ, Bool, true, false, ◌&&◌, ℤ, pos, negsuc, ◌+ℤ◌, ◌*ℤ◌, neg_ℤ, List, [], ◌∷◌, ◌++◌, Option, Some, None, refl, sym, ap, subst, ◌∙◌, arith}
use Rattle.std.specs.Prelude.{if◌then◌else◌}
use Rattle.std.proofs.lemmas.Bool.{and_parts, true≢false}
use Rattle.std.proofs.lemmas.Int.{ints}
use Rattle.std.proofs.Math.IntN.{*ℤ_comm}
use Rattle.scasp_num.specs.declared.linear.Coeff.{Coeff}
use Rattle.scasp_num.specs.declared.linear.Op.{Op}
use Rattle.scasp_num.specs.declared.linear.Op.TheVariants as op
use Rattle.scasp_num.specs.Number.{Number}
use Rattle.scasp_num.specs.Linear.{Linear, is_zero}
use Rattle.scasp_list.specs.Each.{Each}
use Rattle.scasp_num.specs.Values.{row_sum, Holds}
use Rattle.scasp_num.proofs.Comparing.{ne_zero}
use Rattle.scasp_num.proofs.Integers.{neg-*ℤ}
use Rattle.scasp_num.proofs.NormalForms.{zero_is}
use Rattle.scasp_num.proofs.Numbers.{ne_from-pos}
use Rattle.scasp_num.proofs.SameNumber.{same_number}
use Rattle.scasp_rows.specs.Points.{MeetsAll, NoDisequation}
use Rattle.scasp_rows.specs.Samples.{MeetsSome, OnlyDisequations}
use Rattle.scasp_list.proofs.EachLemmas.{Each-left, Each-right, Each-append}
use Rattle.scasp_syntax.specs.Tm.{Tm, var, num, app}
use Rattle.scasp_syntax.specs.Values.{Sub, under}
use Rattle.scasp_syntax.specs.View.{tm_of}
use Rattle.scasp_unify.specs.Parts.{Part, parts}
use Rattle.scasp_unify.specs.Resolver.{unifies, resolver}
use Rattle.scasp_unify.specs.Unification.{Absorbs}
use Rattle.scasp_unify.specs.Numbers.{number_var, is_number_term, is_num_of, is_among_numbers}
use Rattle.scasp_unify.specs.Points.{read_as, through}
use Rattle.scasp_unify.specs.PointMeets.{PointMeets, PartsDiffer}
use Rattle.scasp_syntax.specs.declared.con.Con.{Con}
use Rattle.scasp_syntax.specs.declared.con.Con.TheVariants as con
use Rattle.scasp_syntax.proofs.SameLemmas.{tm_decided}
use Rattle.scasp_unify.proofs.UnificationLemmas.{resolved-twice}
use Rattle.scasp_unify.proofs.ResolverLemmas.{idempotent}
use Rattle.scasp_unify.proofs.PointLemmas.{holds-same}
use Rattle.scasp_hint.specs.ExactRows.{difference, row_by, bindings, con_rows, rows_under, differences, if_among, disequation_by, con_differs, differing_in}
use Rattle.std.specs.List.{Contains}
use Rattle.scasp_list.proofs.MemberLemmas.{list_any-member}

-- ---- a variable compared with what it stands for

-- what the row compares with 0
abbrev sum_at : (ℕ → Number) → Linear → ℤ
sum_at p r = (row_sum p r.coeffs).0 +ℤ r.constant *ℤ (row_sum p r.coeffs).1

pub two-sum : (a b c d : ℤ) → ((pos 1 *ℤ a) *ℤ (b *ℤ pos 1) +ℤ (((negsuc 0 *ℤ c) *ℤ pos 1) +ℤ pos 0 *ℤ b) *ℤ d) +ℤ pos 0 *ℤ (d *ℤ (b *ℤ pos 1)) ≡ a *ℤ b +ℤ neg_ℤ (c *ℤ d)
two-sum a b c d =
    let e1 : pos 1 *ℤ a ≡ a = omega (arith, ints) in
    let e2 : b *ℤ pos 1 ≡ b = omega (arith, ints) in
    let e3 : ((negsuc 0 *ℤ c) *ℤ pos 1) +ℤ pos 0 *ℤ b ≡ neg_ℤ c = omega (arith, ints) in
    let f1 : (pos 1 *ℤ a) *ℤ (b *ℤ pos 1) ≡ a *ℤ b = λ i. e1 i *ℤ e2 i in
    let f2 : (((negsuc 0 *ℤ c) *ℤ pos 1) +ℤ pos 0 *ℤ b) *ℤ d ≡ neg_ℤ (c *ℤ d) = ap (λ z. z *ℤ d) e3 ∙ neg-*ℤ c d in
    omega (arith, ints, f1, f2)

pub one-sum : (a d m n : ℤ) → ((m *ℤ a) *ℤ pos 1 +ℤ pos 0 *ℤ d) +ℤ neg_ℤ n *ℤ (d *ℤ pos 1) ≡ m *ℤ a +ℤ neg_ℤ (n *ℤ d)
one-sum a d m n =
    let e2 : d *ℤ pos 1 ≡ d = omega (arith, ints) in
    let f2 : neg_ℤ n *ℤ (d *ℤ pos 1) ≡ neg_ℤ (n *ℤ d) = ap (λ z. neg_ℤ n *ℤ z) e2 ∙ neg-*ℤ n d in
    omega (arith, ints, f2)

equal-numbers : (q r : Number) → q.num *ℤ r.den ≡ r.num *ℤ q.den → q ≡ r
equal-numbers q r e = same_number q r r.num r.den (ne_from-pos r.den r.reduced.positive) e refl

pub difference-holds : (p : ℕ → Number) (x : ℕ) (t : Tm) → Holds p (difference x t op.Eq) ↔ (p x ≡ read_as p x t)
difference-holds p x (var y) =
    let e = two-sum (p x).num (p y).den (p y).num (p x).den in (
      (λ h. equal-numbers (p x) (p y) (omega (arith, ints, h, e))),
      (λ h. let same : (p x).num *ℤ (p y).den ≡ (p y).num *ℤ (p x).den = λ i. (h i).num *ℤ (sym h i).den in omega (arith, ints, same, e)),
    )
difference-holds p x (num q) =
    let e = one-sum (p x).num (p x).den q.den q.num in
    let c = *ℤ_comm (p x).num q.den in (
      (λ h. equal-numbers (p x) q (omega (arith, ints, h, e, c))),
      (λ h. let same : (p x).num *ℤ q.den ≡ q.num *ℤ (p x).den = λ i. (h i).num *ℤ (sym h i).den in omega (arith, ints, same, e, c)),
    )
difference-holds p x (app f ts) = ((λ h. refl), (λ h. omega (arith, ints)))

-- ---- a point read through the resolver

pub unbound : (cs : List Con) → unifies cs ≡ true → (y : ℕ) → number_var cs y ≡ true → resolver cs y ≡ var y
unbound cs u y e = by d.0 d.2
  where
    d : (c : Con) × Contains cs c × (is_num_of (resolver cs) (var y) c ≡ true)
    d = list_any-member (is_num_of (resolver cs) (var y)) cs e

    by : (c : Con) → is_num_of (resolver cs) (var y) c ≡ true → resolver cs y ≡ var y
    by (con.Num t) f =
        let same = (tm_decided (under (resolver cs) (tm_of t)) (var y)).0 f in
        ap (under (resolver cs)) (sym same) ∙ resolved-twice (resolver cs) (resolver cs) (tm_of t) (idempotent cs u) ∙ same
    by (con.Eq t u) f = cc
    by (con.Neq t u) f = cc
    by (con.NotShape x f n) g = cc
    by (con.NotNum t) f = cc
    by (con.Row r) f = cc

pub read-unbound : (s : Sub) (p : ℕ → Number) (y : ℕ) → s y ≡ var y → through s p y ≡ p y
read-unbound s p y e = ap (read_as p y) e

pub read-twice : (s : Sub) (p : ℕ → Number) (x : ℕ) → Absorbs s s → through s p x ≡ read_as (through s p) x (s x)
read-twice s p x a = by (s x) refl
  where
    by : (t : Tm) → s x ≡ t → read_as p x (s x) ≡ read_as (through s p) x (s x)
    by (var y) e =
        let fixed : s y ≡ var y = ap (under s) (sym e) ∙ a x ∙ e in
        ap (read_as p x) e ∙ sym (read-unbound s p y fixed) ∙ sym (ap (read_as (through s p) x) e)
    by (num q) e = ap (read_as p x) e ∙ sym (ap (read_as (through s p) x) e)
    by (app f us) e = sym (ap (read_as (through s p) x) e)

-- ---- what meets the exact rows and disequations meets the list's

bound-values : (s : Sub) (v : ℕ → Number) (ks : List Coeff) → MeetsAll v (bindings s ks) → Each (λ k. v k.x ≡ through s v k.x) ks
bound-values s v [] h = tt
bound-values s v (k ∷ ks) h = ((difference-holds v k.x (s k.x)).0 h.0, bound-values s v ks h.1)

parts-apart : (v : ℕ → Number) (ps : List Part) → MeetsSome v (differences ps) → Each (λ (q : Part). v q.at ≡ read_as v q.at q.term) ps → ⊥
parts-apart v [] h e = h
parts-apart v (q ∷ qs) (inl h) e = apart q.at q.term h e.0
  where
    apart : (x : ℕ) (t : Tm) → Holds v (difference x t op.Ne) → v x ≡ read_as v x t → ⊥
    apart x (var y) h e = h ((difference-holds v x (var y)).1 e)
    apart x (num q) h e = h ((difference-holds v x (num q)).1 e)
    apart x (app f ts) h e = h ((difference-holds v x (app f ts)).1 e)
parts-apart v (q ∷ qs) (inr h) e = parts-apart v qs h e.1

con-from : (cs : List Con) (v : ℕ → Number) (c : Con) → MeetsAll v (con_rows (resolver cs) c) → Each (MeetsSome v) (con_differs cs c) → PointMeets cs v c
con-from cs v (con.Row r) h d =
    let values = bound-values (resolver cs) v r.coeffs (Each-right (Holds v) (row_by r.op r) (bindings (resolver cs) r.coeffs) h) in
    holds-same v (through (resolver cs) v) r values (by r.op (Each-left (Holds v) (row_by r.op r) (bindings (resolver cs) r.coeffs) h) d)
  where
    by : (o : Op) → MeetsAll v (row_by o r) → Each (MeetsSome v) (disequation_by o r) → Holds v r
    by op.Eq h d = h.0
    by op.Lt h d = h.0
    by op.Le h d = h.0
    by op.Ne h ((inl d), e) = d
    by op.Ne h ((inr d), e) = absurd d
con-from cs v (con.Neq t u) h d = by (parts (under (resolver cs) (tm_of t)) (under (resolver cs) (tm_of u))) d
  where
    by : (o : Option (List Part)) → Each (MeetsSome v) (if_among cs o) → PartsDiffer cs v o
    by None d = tt
    by (Some ps) d = λ e. parts-apart v ps (subst (λ (b : Bool). Each (MeetsSome v) (if b then differences ps ∷ [] else [])) e d).0
con-from cs v (con.Eq t u) h d = tt
con-from cs v (con.NotShape x f n) h d = tt
con-from cs v (con.Num t) h d = tt
con-from cs v (con.NotNum t) h d = tt

pub list-from : (cs ds : List Con) (v : ℕ → Number) → MeetsAll v (rows_under (resolver cs) ds) → Each (MeetsSome v) (differing_in cs ds) → Each (PointMeets cs v) ds
list-from cs [] v h d = tt
list-from cs (c ∷ ds) v h d = (
  con-from cs v c (Each-left (Holds v) (con_rows (resolver cs) c) (rows_under (resolver cs) ds) h) (Each-left (MeetsSome v) (con_differs cs c) (differing_in cs ds) d),
  list-from cs ds v (Each-right (Holds v) (con_rows (resolver cs) c) (rows_under (resolver cs) ds) h) (Each-right (MeetsSome v) (con_differs cs c) (differing_in cs ds) d),
)

-- ---- and the other way

pub values-bound : (s : Sub) (p : ℕ → Number) (ks : List Coeff) → Absorbs s s → MeetsAll (through s p) (bindings s ks)
values-bound s p [] a = tt
values-bound s p (k ∷ ks) a = ((difference-holds (through s p) k.x (s k.x)).1 (read-twice s p k.x a), values-bound s p ks a)

-- a part differs, or is equal
one-differs : (v : ℕ → Number) (x : ℕ) (t : Tm) → Holds v (difference x t op.Ne) ⊎ (v x ≡ read_as v x t)
one-differs v x (var y) = by (is_zero (sum_at v (difference x (var y) op.Eq))) refl
  where
    by : (b : Bool) → is_zero (sum_at v (difference x (var y) op.Eq)) ≡ b → Holds v (difference x (var y) op.Ne) ⊎ (v x ≡ v y)
    by true e = inr ((difference-holds v x (var y)).0 (zero_is (sum_at v (difference x (var y) op.Eq)) e))
    by false e = inl (ne_zero (sum_at v (difference x (var y) op.Eq)) e)
one-differs v x (num q) = by (is_zero (sum_at v (difference x (num q) op.Eq))) refl
  where
    by : (b : Bool) → is_zero (sum_at v (difference x (num q) op.Eq)) ≡ b → Holds v (difference x (num q) op.Ne) ⊎ (v x ≡ q)
    by true e = inr ((difference-holds v x (num q)).0 (zero_is (sum_at v (difference x (num q) op.Eq)) e))
    by false e = inl (ne_zero (sum_at v (difference x (num q) op.Eq)) e)
one-differs v x (app f ts) = inr refl

pub some-differs : (v : ℕ → Number) (ps : List Part) → (Each (λ (q : Part). v q.at ≡ read_as v q.at q.term) ps → ⊥) → MeetsSome v (differences ps)
some-differs v [] h = h tt
some-differs v (q ∷ qs) h = by (one-differs v q.at q.term) (λ e. some-differs v qs (λ f. h (e, f)))
  where
    by : Holds v (difference q.at q.term op.Ne) ⊎ (v q.at ≡ read_as v q.at q.term) → (v q.at ≡ read_as v q.at q.term → MeetsSome v (differences qs)) → MeetsSome v (differences (q ∷ qs))
    by (inl d) rest = inl d
    by (inr e) rest = inr (rest e)

-- parts among numbers that are equal for the point read through the resolver are equal for the point
pub part-read : (cs : List Con) (p : ℕ → Number) → unifies cs ≡ true → (x : ℕ) (t : Tm) → (number_var cs x && is_number_term cs t) ≡ true → through (resolver cs) p x ≡ read_as (through (resolver cs) p) x t → p x ≡ read_as p x t
part-read cs p u x (var y) e h =
    let a = and_parts (number_var cs x) (number_var cs y) e in
    sym (read-unbound (resolver cs) p x (unbound cs u x a.0)) ∙ h ∙ read-unbound (resolver cs) p y (unbound cs u y a.1)
part-read cs p u x (num q) e h = sym (read-unbound (resolver cs) p x (unbound cs u x (and_parts (number_var cs x) true e).0)) ∙ h
part-read cs p u x (app f ts) e h = absurd (true≢false (sym (and_parts (number_var cs x) false e).1))

pub parts-read : (cs : List Con) (p : ℕ → Number) → unifies cs ≡ true → (ps : List Part) → is_among_numbers cs ps ≡ true → Each (λ (q : Part). through (resolver cs) p q.at ≡ read_as (through (resolver cs) p) q.at q.term) ps → Each (λ (q : Part). p q.at ≡ read_as p q.at q.term) ps
parts-read cs p u [] e h = tt
parts-read cs p u (q ∷ qs) e h =
    let a = and_parts (number_var cs q.at && is_number_term cs q.term) (is_among_numbers cs qs) e in
    (part-read cs p u q.at q.term a.0 h.0, parts-read cs p u qs a.1 h.1)

con-to : (cs : List Con) (p : ℕ → Number) (c : Con) → unifies cs ≡ true → PointMeets cs p c → MeetsAll (through (resolver cs) p) (con_rows (resolver cs) c) × Each (MeetsSome (through (resolver cs) p)) (con_differs cs c)
con-to cs p (con.Row r) u m = (
  Each-append (Holds (through (resolver cs) p)) (row_by r.op r) (bindings (resolver cs) r.coeffs) (rows r.op) (values-bound (resolver cs) p r.coeffs (idempotent cs u)),
  differ r.op,
)
  where
    rows : (o : Op) → MeetsAll (through (resolver cs) p) (row_by o r)
    rows op.Eq = (m, tt)
    rows op.Lt = (m, tt)
    rows op.Le = (m, tt)
    rows op.Ne = tt

    differ : (o : Op) → Each (MeetsSome (through (resolver cs) p)) (disequation_by o r)
    differ op.Eq = tt
    differ op.Lt = tt
    differ op.Le = tt
    differ op.Ne = (inl m, tt)
con-to cs p (con.Neq t w) u m = (tt, by (parts (under (resolver cs) (tm_of t)) (under (resolver cs) (tm_of w))) m)
  where
    by : (o : Option (List Part)) → PartsDiffer cs p o → Each (MeetsSome (through (resolver cs) p)) (if_among cs o)
    by None m = tt
    by (Some ps) m = test (is_among_numbers cs ps) refl
      where
        test : (b : Bool) → is_among_numbers cs ps ≡ b → Each (MeetsSome (through (resolver cs) p)) (if b then differences ps ∷ [] else [])
        test true e = (some-differs (through (resolver cs) p) ps (λ h. m e (parts-read cs p u ps e h)), tt)
        test false e = tt
con-to cs p (con.Eq t w) u m = (tt, tt)
con-to cs p (con.NotShape x f n) u m = (tt, tt)
con-to cs p (con.Num t) u m = (tt, tt)
con-to cs p (con.NotNum t) u m = (tt, tt)

pub list-to : (cs ds : List Con) (p : ℕ → Number) → unifies cs ≡ true → Each (PointMeets cs p) ds → MeetsAll (through (resolver cs) p) (rows_under (resolver cs) ds) × Each (MeetsSome (through (resolver cs) p)) (differing_in cs ds)
list-to cs [] p u h = (tt, tt)
list-to cs (c ∷ ds) p u h =
    let one = con-to cs p c u h.0 in
    let rest = list-to cs ds p u h.1 in (
      Each-append (Holds (through (resolver cs) p)) (con_rows (resolver cs) c) (rows_under (resolver cs) ds) one.0 rest.0,
      Each-append (MeetsSome (through (resolver cs) p)) (con_differs cs c) (differing_in cs ds) one.1 rest.1,
    )

-- ---- the rows are no disequations, and the disequations are

difference-op : (x : ℕ) (t : Tm) (o : Op) → (difference x t o).op ≡ o
difference-op x (var y) o = refl
difference-op x (num q) o = refl
difference-op x (app f ts) o = refl

equation-compares : op.Eq ≢ op.Ne
equation-compares e = cc

pub row-plain : (r : Linear) → NoDisequation (row_by r.op r)
row-plain r = by r.op refl
  where
    by : (o : Op) → r.op ≡ o → NoDisequation (row_by o r)
    by op.Eq e = ((λ f. let g : op.Eq ≡ op.Ne = sym e ∙ f in cc), tt)
    by op.Lt e = ((λ f. let g : op.Lt ≡ op.Ne = sym e ∙ f in cc), tt)
    by op.Le e = ((λ f. let g : op.Le ≡ op.Ne = sym e ∙ f in cc), tt)
    by op.Ne e = tt

bindings-plain : (s : Sub) (ks : List Coeff) → NoDisequation (bindings s ks)
bindings-plain s [] = tt
bindings-plain s (k ∷ ks) = ((λ f. equation-compares (sym (difference-op k.x (s k.x) op.Eq) ∙ f)), bindings-plain s ks)

pub rows-plain : (s : Sub) (ds : List Con) → NoDisequation (rows_under s ds)
rows-plain s [] = tt
rows-plain s (con.Row r ∷ ds) = Each-append (λ (r : Linear). r.op ≢ op.Ne) (row_by r.op r ++ bindings s r.coeffs) (rows_under s ds) (Each-append (λ (r : Linear). r.op ≢ op.Ne) (row_by r.op r) (bindings s r.coeffs) (row-plain r) (bindings-plain s r.coeffs)) (rows-plain s ds)
rows-plain s (con.Eq t u ∷ ds) = rows-plain s ds
rows-plain s (con.Neq t u ∷ ds) = rows-plain s ds
rows-plain s (con.NotShape x f n ∷ ds) = rows-plain s ds
rows-plain s (con.Num t ∷ ds) = rows-plain s ds
rows-plain s (con.NotNum t ∷ ds) = rows-plain s ds

differences-only : (ps : List Part) → OnlyDisequations (differences ps)
differences-only [] = tt
differences-only (q ∷ qs) = (difference-op q.at q.term op.Ne, differences-only qs)

con-only : (cs : List Con) (c : Con) → Each OnlyDisequations (con_differs cs c)
con-only cs (con.Row r) = by r.op refl
  where
    by : (o : Op) → r.op ≡ o → Each OnlyDisequations (disequation_by o r)
    by op.Eq e = tt
    by op.Lt e = tt
    by op.Le e = tt
    by op.Ne e = ((e, tt), tt)
con-only cs (con.Neq t u) = by (parts (under (resolver cs) (tm_of t)) (under (resolver cs) (tm_of u)))
  where
    test : (ps : List Part) (b : Bool) → Each OnlyDisequations (if b then differences ps ∷ [] else [])
    test ps true = (differences-only ps, tt)
    test ps false = tt

    by : (o : Option (List Part)) → Each OnlyDisequations (if_among cs o)
    by None = tt
    by (Some ps) = test ps (is_among_numbers cs ps)
con-only cs (con.Eq t u) = tt
con-only cs (con.NotShape x f n) = tt
con-only cs (con.Num t) = tt
con-only cs (con.NotNum t) = tt

pub differing-only : (cs ds : List Con) → Each OnlyDisequations (differing_in cs ds)
differing-only cs [] = tt
differing-only cs (c ∷ ds) = Each-append OnlyDisequations (con_differs cs c) (differing_in cs ds) (con-only cs c) (differing-only cs ds)
