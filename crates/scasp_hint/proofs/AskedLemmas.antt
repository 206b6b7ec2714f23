-- The rows that are asked are met by a point exactly where it meets the given rows, read through the resolver.
use Rattle.std.proofs.Common.{◌≡◌, ◌≢◌, ◌↔◌, ◌⊎◌, inl, inr, ℕ, Bool, true, false, List, [], ◌∷◌, Option, Some, None, refl, sym, ap, subst, ◌∙◌}
use Rattle.std.specs.Prelude.{⊤, if◌then◌else◌, nat_eq, pos}
use Rattle.std.specs.List.{list_any}
use Rattle.std.proofs.lemmas.Bool.{or_cases, true≢false}
use Rattle.scasp_num.specs.declared.linear.Coeff.{Coeff}
use Rattle.scasp_num.specs.declared.linear.Op.{Op}
use Rattle.scasp_num.specs.declared.linear.Op.TheVariants as op
use Rattle.scasp_num.specs.Number.{Number}
use Rattle.scasp_num.specs.Arithmetic.{◌>>=◌}
use Rattle.scasp_num.specs.Linear.{Linear, IsNormal, negation, normal_form, coefficient, others_times, put_constant, put_of, merged, join_of}
use Rattle.scasp_list.specs.Each.{Each}
use Rattle.scasp_num.specs.SameRow.{same_row}
use Rattle.scasp_num.specs.Values.{Holds}
use Rattle.scasp_num.proofs.Exact.{bind-some}
use Rattle.scasp_num.proofs.SameRows.{row-same}
use Rattle.scasp_num.proofs.Valuations.{negation-holds}
use Rattle.scasp_rows.specs.Points.{MeetsAll, NoDisequation, is_false}
use Rattle.scasp_list.proofs.EachLemmas.{Each-append}
use Rattle.scasp_rows.proofs.Reaching.{false-holds}
use Rattle.scasp_syntax.specs.Tm.{Tm, var, num, app}
use Rattle.scasp_syntax.specs.Values.{Sub}
use Rattle.scasp_unify.specs.Resolver.{unifies, resolver}
use Rattle.scasp_unify.specs.Unification.{Absorbs}
use Rattle.scasp_unify.specs.TermFailures.{fails_by_terms, is_refuted}
use Rattle.scasp_unify.specs.Points.{through}
use Rattle.scasp_unify.specs.PointMeets.{PointMeets}
use Rattle.scasp_unify.specs.ResolvedRows.{replaced_by, replaced_each, resolved_row}
use Rattle.scasp_syntax.specs.declared.con.Con.{Con}
use Rattle.scasp_syntax.specs.declared.con.Con.TheVariants as con
use Rattle.scasp_unify.proofs.ResolverLemmas.{idempotent}
use Rattle.scasp_unify.proofs.Members.{not-false}
use Rattle.scasp_unify.proofs.ResolvedRowLemmas.{resolved}
use Rattle.scasp_hint.specs.ExactRows.{row_by}
use Rattle.scasp_hint.specs.Satisfying.{HasPoint}
use Rattle.scasp_hint.specs.AskedRows.{given_rows, RowsNormal, inequalities, resolved_each, with_row, row_seen, rows_seen, are_opposite, asked_of, asked_by, asked}
use Rattle.scasp_hint.proofs.ExactLemmas.{row-plain}
use Rattle.scasp_hint.specs.declared.asked.RowsView.{RowsView}
use Rattle.scasp_hint.specs.declared.asked.RowsView.TheVariants.{FalseRow, LargeRow, AllRows}
use Rattle.scasp_hint.specs.declared.asked.Asked.{Asked}
use Rattle.scasp_hint.specs.declared.asked.Asked.TheVariants.{ByTerms, Overflows, Asks}

-- ---- a resolved row compares as the given one

normal_form-op : (r : Linear) → (normal_form r).op ≡ r.op
unfolding normal_form
normal_form-op r = refl

put-op : (r row : Linear) (x : ℕ) (q : Number) → Some row ≡ put_of r x q → row.op ≡ r.op
unfolding put_of
put-op r row x q e =
    let a = bind-some (others_times q.den x r.coeffs) (λ others. put_constant r x q >>= (λ c. Some (normal_form (record { coeffs = others; constant = c; op = r.op })))) row e in
    let b = bind-some (put_constant r x q) (λ c. Some (normal_form (record { coeffs = a.0; constant = c; op = r.op }))) row a.2 in
    let made : row ≡ normal_form (record { coeffs = a.0; constant = b.0; op = r.op }) = cc in
    ap (λ (r : Linear). r.op) made ∙ normal_form-op (record { coeffs = a.0; constant = b.0; op = r.op })

join-op : (r row : Linear) (x y : ℕ) → Some row ≡ join_of r x y → row.op ≡ r.op
unfolding join_of
join-op r row x y e =
    let a = bind-some (others_times (pos 1) x r.coeffs) (λ others. merged y (coefficient x r.coeffs) others >>= (λ coeffs. Some (normal_form (record { coeffs = coeffs; constant = r.constant; op = r.op })))) row e in
    let b = bind-some (merged y (coefficient x r.coeffs) a.0) (λ coeffs. Some (normal_form (record { coeffs = coeffs; constant = r.constant; op = r.op }))) row a.2 in
    let made : row ≡ normal_form (record { coeffs = b.0; constant = r.constant; op = r.op }) = cc in
    ap (λ (r : Linear). r.op) made ∙ normal_form-op (record { coeffs = b.0; constant = r.constant; op = r.op })

one-op : (t : Tm) (x : ℕ) (r row : Linear) → Some row ≡ replaced_by t x r → row.op ≡ r.op
one-op (num q) x r row e = put-op r row x q e
one-op (var y) x r row e = by (nat_eq y x) e
  where
    by : (b : Bool) → Some row ≡ (if b then Some r else join_of r x y) → row.op ≡ r.op
    by true g = let same : row ≡ r = cc in ap (λ (r : Linear). r.op) same
    by false g = join-op r row x y g
one-op (app f ts) x r row e = let same : row ≡ r = cc in ap (λ (r : Linear). r.op) same

each-op : (s : Sub) (ks : List Coeff) (r row : Linear) → Some row ≡ replaced_each s ks r → row.op ≡ r.op
each-op s [] r row e = let same : row ≡ r = cc in ap (λ (r : Linear). r.op) same
each-op s (k ∷ ks) r row e =
    let a = bind-some (replaced_by (s k.x) k.x r) (replaced_each s ks) row e in
    each-op s ks a.0 row a.2 ∙ one-op (s k.x) k.x r a.0 a.1

pub resolved-op : (s : Sub) (r row : Linear) → Some row ≡ resolved_row s r → row.op ≡ r.op
resolved-op s r row e = each-op s r.coeffs r row e

-- ---- lists of rows

pub record AllResolved (s : Sub) (rs qs : List Linear) : Type 0 where
  pub normal : Each IsNormal qs
  pub plain : NoDisequation rs → NoDisequation qs
  pub met : (p : ℕ → Number) → MeetsAll p qs ↔ MeetsAll (through s p) rs

pub all-resolved : (s : Sub) (rs qs : List Linear) → Absorbs s s → Each IsNormal rs → Some qs ≡ resolved_each s rs → AllResolved s rs qs
all-resolved s [] qs a n e = subst (AllResolved s []) (let same : [] ≡ qs = cc in same) (record { normal = tt; plain = λ h. h; met = λ p. ((λ h. h), (λ h. h)) })
all-resolved s (r ∷ rs) qs a n e =
    let f = bind-some (resolved_row s r) (λ q. resolved_each s rs >>= (λ qs. Some (q ∷ qs))) qs e in
    let g = bind-some (resolved_each s rs) (λ qs. Some (f.0 ∷ qs)) qs f.2 in
    let one = resolved s r f.0 a n.0 f.1 in
    let rest = all-resolved s rs g.0 a n.1 g.1 in
    subst (AllResolved s (r ∷ rs)) (let same : f.0 ∷ g.0 ≡ qs = cc in same) (record {
      normal = (one.0, rest.normal);
      plain = λ h. ((λ k. h.0 (sym (resolved-op s r f.0 f.1) ∙ k)), rest.plain h.1);
      met = λ p. ((λ h. ((one.1 p).0 h.0, (rest.met p).0 h.1)), (λ h. ((one.1 p).1 h.0, (rest.met p).1 h.1)));
    })

pub inequalities-plain : (rs : List Linear) → NoDisequation (inequalities rs)
inequalities-plain [] = tt
inequalities-plain (r ∷ rs) = Each-append (λ (r : Linear). r.op ≢ op.Ne) (row_by r.op r) (inequalities rs) (row-plain r) (inequalities-plain rs)

-- what holds of all rows holds of those that are no disequations
pub inequalities-each : (P : Linear → Type 0) (rs : List Linear) → Each P rs → Each P (inequalities rs)
inequalities-each P [] h = tt
inequalities-each P (r ∷ rs) h = Each-append P (row_by r.op r) (inequalities rs) (by r.op) (inequalities-each P rs h.1)
  where
    by : (o : Op) → Each P (row_by o r)
    by op.Eq = (h.0, tt)
    by op.Lt = (h.0, tt)
    by op.Le = (h.0, tt)
    by op.Ne = tt

-- ---- what is seen of the rows

-- the row is resolved to one that is not false
abbrev pub Standing : Sub → Linear → Type 0
Standing s r = (q : Linear) × (Some q ≡ resolved_row s r) × (is_false q ≡ false)

abbrev pub Seen : Sub → List Linear → RowsView → Type 0
Seen s rs FalseRow = (p : ℕ → Number) → MeetsAll (through s p) rs → ⊥
Seen s rs LargeRow = ⊤
Seen s rs (AllRows qs) = Each (Standing s) rs × ((p : ℕ → Number) → MeetsAll (through s p) rs → MeetsAll p qs)

pub rows-are-seen : (s : Sub) (rs : List Linear) → Absorbs s s → Each IsNormal rs → Seen s rs (rows_seen s rs)
rows-are-seen s [] a n = (tt, λ p h. tt)
rows-are-seen s (r ∷ rs) a n = by (resolved_row s r) refl (rows_seen s rs) (rows-are-seen s rs a n.1)
  where
    more : (q : Linear) → Some q ≡ resolved_row s r → is_false q ≡ false → (v : RowsView) → Seen s rs v → Seen s (r ∷ rs) (with_row q v)
    more q e f FalseRow h = λ p m. h p m.1
    more q e f LargeRow h = tt
    more q e f (AllRows qs) h = (((q, e, f), h.0), λ p m. (((resolved s r q a n.0 e).1 p).1 m.0, h.1 p m.1))

    test : (q : Linear) → Some q ≡ resolved_row s r → (b : Bool) → is_false q ≡ b → (v : RowsView) → Seen s rs v → Seen s (r ∷ rs) (if b then FalseRow else with_row q v)
    test q e true f v h = λ p m. false-holds p q f (((resolved s r q a n.0 e).1 p).1 m.0)
    test q e false f v h = more q e f v h

    by : (o : Option Linear) → o ≡ resolved_row s r → (v : RowsView) → Seen s rs v → Seen s (r ∷ rs) (row_seen o v)
    by None e v h = tt
    by (Some q) e v h = test q e (is_false q) refl v h

any-same : (q : Linear) (rows : List Linear) (p : ℕ → Number) → list_any (same_row (negation q)) rows ≡ true → MeetsAll p rows → Holds p (negation q)
any-same q [] p e m = cc
any-same q (r ∷ rs) p e m = by (or_cases (same_row (negation q) r) (list_any (same_row (negation q)) rs) e) (λ f. any-same q rs p f m.1)
  where
    by : (same_row (negation q) r ≡ true) ⊎ (list_any (same_row (negation q)) rs ≡ true) → (list_any (same_row (negation q)) rs ≡ true → Holds p (negation q)) → Holds p (negation q)
    by (inl f) rest = subst (Holds p) (sym (row-same (negation q) r f)) m.0
    by (inr f) rest = rest f

opposite-unmet : (rows qs : List Linear) (p : ℕ → Number) → are_opposite rows qs ≡ true → MeetsAll p rows → MeetsAll p qs → ⊥
opposite-unmet rows [] p e m h = cc
opposite-unmet rows (q ∷ qs) p e m h = by (or_cases (list_any (same_row (negation q)) rows) (are_opposite rows qs) e) (λ f. opposite-unmet rows qs p f m h.1)
  where
    by : (list_any (same_row (negation q)) rows ≡ true) ⊎ (are_opposite rows qs ≡ true) → (are_opposite rows qs ≡ true → ⊥) → ⊥
    by (inl f) rest = (negation-holds q (negation q) refl p).0 (any-same q rows p f m) h.0
    by (inr f) rest = rest f

-- ---- what is asked

given-met : (cs ds : List Con) (p : ℕ → Number) → Each (PointMeets cs p) ds → MeetsAll (through (resolver cs) p) (given_rows ds)
given-met cs [] p h = tt
given-met cs (con.Row r ∷ ds) p h = (h.0, given-met cs ds p h.1)
given-met cs (con.Eq t u ∷ ds) p h = given-met cs ds p h.1
given-met cs (con.Neq t u ∷ ds) p h = given-met cs ds p h.1
given-met cs (con.NotShape x f n ∷ ds) p h = given-met cs ds p h.1
given-met cs (con.Num t ∷ ds) p h = given-met cs ds p h.1
given-met cs (con.NotNum t ∷ ds) p h = given-met cs ds p h.1

pub unified : (cs : List Con) → fails_by_terms cs ≡ false → unifies cs ≡ true
unified cs e = (not-false (unifies cs) (list_any (is_refuted cs) cs) e).0

pub absorbs : (cs : List Con) → fails_by_terms cs ≡ false → Absorbs (resolver cs) (resolver cs)
absorbs cs e = idempotent cs (unified cs e)

abbrev pub Says : List Con → Asked → Type 0
Says cs ByTerms = HasPoint cs → ⊥
Says cs Overflows = ⊤
Says cs (Asks all) = (fails_by_terms cs ≡ false) × Each (Standing (resolver cs)) (given_rows cs) × (Some all ≡ resolved_each (resolver cs) (inequalities (given_rows cs)))

pub asked-says : (cs : List Con) → RowsNormal cs → Says cs (asked cs)
asked-says cs n = by (fails_by_terms cs) refl
  where
    last : fails_by_terms cs ≡ false → Each (Standing (resolver cs)) (given_rows cs) → (o : Option (List Linear)) → o ≡ resolved_each (resolver cs) (inequalities (given_rows cs)) → Says cs (asked_of o)
    last f h None e = tt
    last f h (Some all) e = (f, h, e)

    opposite : fails_by_terms cs ≡ false → (qs : List Linear) → Seen (resolver cs) (given_rows cs) (AllRows qs) → (b : Bool) → are_opposite qs qs ≡ b → Says cs (if b then ByTerms else asked_of (resolved_each (resolver cs) (inequalities (given_rows cs))))
    opposite f qs h true e = λ k. let m = h.1 k.1.0 (given-met cs cs k.1.0 k.1.1) in opposite-unmet qs qs k.1.0 e m m
    opposite f qs h false e = last f h.0 (resolved_each (resolver cs) (inequalities (given_rows cs))) refl

    view : fails_by_terms cs ≡ false → (v : RowsView) → Seen (resolver cs) (given_rows cs) v → Says cs (asked_by cs v)
    view f FalseRow h = λ k. h k.1.0 (given-met cs cs k.1.0 k.1.1)
    view f LargeRow h = tt
    view f (AllRows qs) h = opposite f qs h (are_opposite qs qs) refl

    by : (b : Bool) → fails_by_terms cs ≡ b → Says cs (if b then ByTerms else asked_by cs (rows_seen (resolver cs) (given_rows cs)))
    by true e = λ k. true≢false (sym e ∙ k.0)
    by false e = view e (rows_seen (resolver cs) (given_rows cs)) (rows-are-seen (resolver cs) (given_rows cs) (absorbs cs e) n)

-- a point that meets the list meets its inequalities, as they are resolved
pub inequalities-met : (cs : List Con) (all : List Linear) → RowsNormal cs → fails_by_terms cs ≡ false → Some all ≡ resolved_each (resolver cs) (inequalities (given_rows cs)) → (p : ℕ → Number) → Each (PointMeets cs p) cs → MeetsAll p all
inequalities-met cs all n f e p m =
    let r = all-resolved (resolver cs) (inequalities (given_rows cs)) all (absorbs cs f) (inequalities-each IsNormal (given_rows cs) n) e in
    (r.met p).1 (inequalities-each (Holds (through (resolver cs) p)) (given_rows cs) (given-met cs cs p m))
