-- A disequation between numbers is met by a point exactly where the point meets one of its sides.
use Rattle.std.proofs.Common.{◌≡◌, ◌↔◌, ◌⊎◌, inl, inr, ℕ, Bool, true, false, ℤ, pos, negsuc, ◌+ℤ◌, ◌*ℤ◌, neg_ℤ, ◌<ℤ◌, List, [], ◌∷◌, ◌++◌, Option, Some, None, refl, sym, ap, subst, ◌∙◌, arith}
use Rattle.std.specs.Prelude.{⊤, if◌then◌else◌}
use Rattle.std.proofs.lemmas.Int.{ints}
use Rattle.std.proofs.Math.IntN.{neg_ℤ-neg_ℤ, *ℤ_comm}
use Rattle.scasp_num.specs.declared.linear.Coeff.{Coeff}
use Rattle.scasp_num.specs.declared.linear.RatPair.{RatPair}
use Rattle.scasp_num.specs.declared.linear.Op.{Op}
use Rattle.scasp_num.specs.declared.linear.Op.TheVariants as op
use Rattle.scasp_num.specs.Number.{Number, IsFraction}
use Rattle.scasp_num.specs.Arithmetic.{◌>>=◌, negation_of}
use Rattle.scasp_num.specs.Linear.{Linear, IsNormal, Compares, weighted}
use Rattle.scasp_list.specs.Each.{Each}
use Rattle.scasp_num.specs.Sums.{normal_of, IsTimes, AreTimes}
use Rattle.scasp_num.specs.Values.{Holds}
use Rattle.scasp_num.proofs.Exact.{bind-some}
use Rattle.scasp_num.proofs.Valuations.{Holds-Meets, denominator-exists}
use Rattle.scasp_num.proofs.Wholes.{normal_of-meets}
use Rattle.scasp_rows.specs.Points.{RationalPoint}
use Rattle.scasp_rows.specs.Samples.{MeetsSome}
use Rattle.scasp_list.proofs.EachLemmas.{Each-left, Each-right, Each-append}
use Rattle.scasp_syntax.specs.Tm.{Tm, var, num, app}
use Rattle.scasp_syntax.specs.Values.{under}
use Rattle.scasp_syntax.specs.View.{tm_of}
use Rattle.scasp_unify.specs.Parts.{Part, parts}
use Rattle.scasp_unify.specs.Resolver.{resolver}
use Rattle.scasp_unify.specs.Unification.{Absorbs}
use Rattle.scasp_unify.specs.Numbers.{is_among_numbers}
use Rattle.scasp_num.specs.Number.{zero_number}
use Rattle.scasp_unify.specs.PointMeets.{PointMeets, PartsDiffer}
use Rattle.scasp_unify.specs.ResolvedRows.{resolved_row}
use Rattle.scasp_syntax.specs.declared.con.Con.{Con}
use Rattle.scasp_syntax.specs.declared.con.Con.TheVariants as con
use Rattle.scasp_unify.proofs.ResolvedRowLemmas.{resolved}
use Rattle.scasp_hint.specs.ExactRows.{difference, differences}
use Rattle.scasp_hint.specs.Sides.{below, above, one, minus_one, less, more, two_sides, parts_sides, sides_or_large, parted, compared, row_sides, con_sides, differs_in}
use Rattle.scasp_hint.specs.AskedRows.{given_rows}
use Rattle.scasp_hint.proofs.ExactLemmas.{some-differs}
use Rattle.scasp_hint.proofs.SatisfyingLemmas.{on-a-side, below-differs, above-differs}
use Rattle.scasp_hint.proofs.AskedLemmas.{resolved-op}
use Rattle.scasp_hint.specs.declared.sides.Sides.{Sides}
use Rattle.scasp_hint.specs.declared.sides.Sides.TheVariants.{Mixed, Large, Listed}

-- a row that is the normal form of pairs says what any multiple of the pairs says
normal-holds : (pairs : List RatPair) (q : Number) (o : Op) (row : Linear) → Some row ≡ normal_of pairs q o → (l : ℤ) (r : Linear) → pos 0 <ℤ l → AreTimes l pairs r.coeffs → IsTimes l q r.constant → r.op ≡ o → (v : RationalPoint) → Holds v row ↔ Holds v r
normal-holds pairs q o row e l r above times last same v =
    let c = denominator-exists v (row.coeffs ++ r.coeffs) in
    let m = c.0 in
    let d = c.1 in
    let P = λ (k : Coeff). IsFraction (v k.x) (m k.x) d in
    let of_row = Holds-Meets v m d row c.2 (Each-left P row.coeffs r.coeffs c.3) in
    let of_r = Holds-Meets v m d r c.2 (Each-right P row.coeffs r.coeffs c.3) in
    let n = normal_of-meets pairs q o row e m d l r.coeffs r.constant above times last in
    let z = weighted m r.coeffs +ℤ r.constant *ℤ d in (
      (λ h. of_r.1 (subst (λ (o : Op). Compares o z) (sym same) (n.0 (of_row.0 h)))),
      (λ h. of_row.1 (n.1 (subst (λ (o : Op). Compares o z) same (of_r.0 h)))),
    )

-- ---- the sides of one part

pub less-holds : (x : ℕ) (t : Tm) (row : Linear) → Some row ≡ less x t → (v : RationalPoint) → Holds v row ↔ Holds v (below (difference x t op.Ne))
less-holds x (var y) row e v = normal-holds (record { x = x; value = one } ∷ record { x = y; value = minus_one } ∷ []) zero_number op.Lt row e (pos 1) (below (difference x (var y) op.Ne)) (omega (arith, ints)) (refl, refl, (refl, refl, tt)) refl refl v
less-holds x (num q) row e v = normal-holds (record { x = x; value = one } ∷ []) (negation_of q) op.Lt row e q.den (below (difference x (num q) op.Ne)) q.reduced.positive (refl, *ℤ_comm q.den (pos 1), tt) refl refl v
less-holds x (app f ts) row e v = cc

pub more-holds : (x : ℕ) (t : Tm) (row : Linear) → Some row ≡ more x t → (v : RationalPoint) → Holds v row ↔ Holds v (above (difference x t op.Ne))
more-holds x (var y) row e v = normal-holds (record { x = x; value = minus_one } ∷ record { x = y; value = one } ∷ []) zero_number op.Lt row e (pos 1) (above (difference x (var y) op.Ne)) (omega (arith, ints)) (refl, refl, (refl, refl, tt)) refl refl v
more-holds x (num q) row e v = normal-holds (record { x = x; value = minus_one } ∷ []) q op.Lt row e q.den (above (difference x (num q) op.Ne)) q.reduced.positive (refl, turned q.den, tt) (ap (λ z. z *ℤ q.den) (neg_ℤ-neg_ℤ q.num)) refl v
  where
    turned : (d : ℤ) → neg_ℤ d *ℤ pos 1 ≡ negsuc 0 *ℤ d
    turned d = omega (arith, ints)
more-holds x (app f ts) row e v = cc

difference-op : (x : ℕ) (t : Tm) (o : Op) → (difference x t o).op ≡ o
difference-op x (var y) o = refl
difference-op x (num q) o = refl
difference-op x (app f ts) o = refl

-- ---- the sides of all parts

-- the rows that two sides are made of
pub record Two (a b : Option Linear) (rest : Option (List Linear)) (all : List Linear) : Type 0 where
  pub first : Linear
  pub second : Linear
  pub more : List Linear
  pub first_is : Some first ≡ a
  pub second_is : Some second ≡ b
  pub more_is : Some more ≡ rest
  pub all_is : all ≡ first ∷ second ∷ more

pub two-made : (a b : Option Linear) (rest : Option (List Linear)) (all : List Linear) → Some all ≡ two_sides a b rest → Two a b rest all
two-made a b rest all e =
    let f = bind-some a (λ a. b >>= (λ b. rest >>= (λ rs. Some (a ∷ b ∷ rs)))) all e in
    let g = bind-some b (λ b. rest >>= (λ rs. Some (f.0 ∷ b ∷ rs))) all f.2 in
    let h = bind-some rest (λ rs. Some (f.0 ∷ g.0 ∷ rs)) all g.2 in
    record { first = f.0; second = g.0; more = h.0; first_is = f.1; second_is = g.1; more_is = h.1; all_is = cc }

pub sides-hold : (ps : List Part) (all : List Linear) → Some all ≡ parts_sides ps → (v : RationalPoint) → MeetsSome v (differences ps) ↔ MeetsSome v all
sides-hold [] all e v = let same : [] ≡ all = cc in subst (λ (rs : List Linear). MeetsSome v [] ↔ MeetsSome v rs) same ((λ h. h), (λ h. h))
sides-hold (p ∷ ps) all e v = by p.turned refl e (λ rest f. sides-hold ps rest f v)
  where
    r : Linear
    r = difference p.at p.term op.Ne

    is : r.op ≡ op.Ne
    is = difference-op p.at p.term op.Ne

    there : (a b : Linear) (rest : List Linear) → (Holds v (below r) → Holds v a ⊎ Holds v b) → (Holds v (above r) → Holds v a ⊎ Holds v b) → (MeetsSome v (differences ps) → MeetsSome v rest) → MeetsSome v (r ∷ differences ps) → MeetsSome v (a ∷ b ∷ rest)
    there a b rest f g h (inl k) = side (on-a-side v r is k)
      where
        place : Holds v a ⊎ Holds v b → MeetsSome v (a ∷ b ∷ rest)
        place (inl h) = inl h
        place (inr h) = inr (inl h)

        side : Holds v (below r) ⊎ Holds v (above r) → MeetsSome v (a ∷ b ∷ rest)
        side (inl k) = place (f k)
        side (inr k) = place (g k)
    there a b rest f g h (inr k) = inr (inr (h k))

    back : (a b : Linear) (rest : List Linear) → (Holds v a → Holds v r) → (Holds v b → Holds v r) → (MeetsSome v rest → MeetsSome v (differences ps)) → MeetsSome v (a ∷ b ∷ rest) → MeetsSome v (r ∷ differences ps)
    back a b rest f g h (inl k) = inl (f k)
    back a b rest f g h (inr (inl k)) = inl (g k)
    back a b rest f g h (inr (inr k)) = inr (h k)

    by : (t : Bool) → p.turned ≡ t → Some all ≡ (if t then two_sides (more p.at p.term) (less p.at p.term) (parts_sides ps) else two_sides (less p.at p.term) (more p.at p.term) (parts_sides ps)) → ((rest : List Linear) → Some rest ≡ parts_sides ps → MeetsSome v (differences ps) ↔ MeetsSome v rest) → MeetsSome v (r ∷ differences ps) ↔ MeetsSome v all
    by true t e rest =
        let w = two-made (more p.at p.term) (less p.at p.term) (parts_sides ps) all e in
        let m = more-holds p.at p.term w.first w.first_is v in
        let l = less-holds p.at p.term w.second w.second_is v in
        let k = rest w.more w.more_is in
        subst (λ (rs : List Linear). MeetsSome v (r ∷ differences ps) ↔ MeetsSome v rs) (sym w.all_is) (
          there w.first w.second w.more (λ h. inr (l.1 h)) (λ h. inl (m.1 h)) k.0,
          back w.first w.second w.more (λ h. above-differs v r is (m.0 h)) (λ h. below-differs v r is (l.0 h)) k.1,
        )
    by false t e rest =
        let w = two-made (less p.at p.term) (more p.at p.term) (parts_sides ps) all e in
        let l = less-holds p.at p.term w.first w.first_is v in
        let m = more-holds p.at p.term w.second w.second_is v in
        let k = rest w.more w.more_is in
        subst (λ (rs : List Linear). MeetsSome v (r ∷ differences ps) ↔ MeetsSome v rs) (sym w.all_is) (
          there w.first w.second w.more (λ h. inl (l.1 h)) (λ h. inr (m.1 h)) k.0,
          back w.first w.second w.more (λ h. below-differs v r is (l.0 h)) (λ h. above-differs v r is (m.0 h)) k.1,
        )

-- ---- a point that meets the list meets a side of each disequation

abbrev pub SideMet : RationalPoint → Sides → Type 0
SideMet p Mixed = ⊤
SideMet p Large = ⊤
SideMet p (Listed ss) = MeetsSome p ss

con-sides-met : (cs : List Con) (p : RationalPoint) (c : Con) → Absorbs (resolver cs) (resolver cs) → Each IsNormal (given_rows (c ∷ [])) → PointMeets cs p c → Each (SideMet p) (con_sides cs c)
con-sides-met cs p (con.Row r) a n m = by r.op refl
  where
    compare : r.op ≡ op.Ne → (o : Option Linear) → o ≡ resolved_row (resolver cs) r → SideMet p (compared o)
    compare e None f = tt
    compare e (Some q) f = side (on-a-side p q (resolved-op (resolver cs) r q f ∙ e) (((resolved (resolver cs) r q a n.0 f).1 p).1 m))
      where
        side : Holds p (below q) ⊎ Holds p (above q) → MeetsSome p (below q ∷ above q ∷ [])
        side (inl h) = inl h
        side (inr h) = inr (inl h)

    by : (o : Op) → r.op ≡ o → Each (SideMet p) (row_sides o (resolved_row (resolver cs) r))
    by op.Eq e = tt
    by op.Lt e = tt
    by op.Le e = tt
    by op.Ne e = (compare e (resolved_row (resolver cs) r) refl, tt)
con-sides-met cs p (con.Neq t u) a n m = by (parts (under (resolver cs) (tm_of t)) (under (resolver cs) (tm_of u))) m
  where
    made : (ps : List Part) → MeetsSome p (differences ps) → (o : Option (List Linear)) → o ≡ parts_sides ps → SideMet p (sides_or_large o)
    made ps h None e = tt
    made ps h (Some all) e = (sides-hold ps all e p).0 h

    test : (ps : List Part) → PartsDiffer cs p (Some ps) → (b : Bool) → is_among_numbers cs ps ≡ b → SideMet p (if b then sides_or_large (parts_sides ps) else Mixed)
    test ps m true e = made ps (some-differs p ps (m e)) (parts_sides ps) refl
    test ps m false e = tt

    by : (o : Option (List Part)) → PartsDiffer cs p o → Each (SideMet p) (parted cs o)
    by None m = tt
    by (Some ps) m = (test ps m (is_among_numbers cs ps) refl, tt)
con-sides-met cs p (con.Eq t u) a n m = tt
con-sides-met cs p (con.NotShape x f k) a n m = tt
con-sides-met cs p (con.Num t) a n m = tt
con-sides-met cs p (con.NotNum t) a n m = tt

-- the rows of the first constraint, and of the others
pub normal-parts : (c : Con) (ds : List Con) → Each IsNormal (given_rows (c ∷ ds)) → Each IsNormal (given_rows (c ∷ [])) × Each IsNormal (given_rows ds)
normal-parts (con.Row r) ds n = ((n.0, tt), n.1)
normal-parts (con.Eq t u) ds n = (tt, n)
normal-parts (con.Neq t u) ds n = (tt, n)
normal-parts (con.NotShape x f k) ds n = (tt, n)
normal-parts (con.Num t) ds n = (tt, n)
normal-parts (con.NotNum t) ds n = (tt, n)

pub sides-met : (cs ds : List Con) (p : RationalPoint) → Absorbs (resolver cs) (resolver cs) → Each IsNormal (given_rows ds) → Each (PointMeets cs p) ds → Each (SideMet p) (differs_in cs ds)
sides-met cs [] p a n m = tt
sides-met cs (c ∷ ds) p a n m =
    let k = normal-parts c ds n in
    Each-append (SideMet p) (con_sides cs c) (differs_in cs ds) (con-sides-met cs p c a k.0 m.0) (sides-met cs ds p a k.1 m.1)
