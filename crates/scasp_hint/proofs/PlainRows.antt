-- None of the rows that are asked is a disequation.
use Rattle.std.proofs.Common.{◌≡◌, ◌≢◌, Bool, true, false, List, [], ◌∷◌, Option, Some, None, refl, sym, subst, ◌∙◌}
use Rattle.std.specs.Prelude.{if◌then◌else◌}
use Rattle.scasp_list.specs.Each.{Each}
use Rattle.scasp_list.proofs.EachLemmas.{Each-append}
use Rattle.scasp_num.specs.declared.linear.Op.{Op}
use Rattle.scasp_num.specs.declared.linear.Op.TheVariants as op
use Rattle.scasp_num.specs.Arithmetic.{◌>>=◌}
use Rattle.scasp_num.specs.Linear.{Linear}
use Rattle.scasp_num.proofs.Exact.{bind-some}
use Rattle.scasp_rows.specs.Points.{NoDisequation}
use Rattle.scasp_syntax.specs.Values.{Sub, under}
use Rattle.scasp_syntax.specs.View.{tm_of}
use Rattle.scasp_syntax.specs.declared.con.Con.{Con}
use Rattle.scasp_syntax.specs.declared.con.Con.TheVariants as con
use Rattle.scasp_unify.specs.Numbers.{is_among_numbers}
use Rattle.scasp_unify.specs.Parts.{Part, parts}
use Rattle.scasp_unify.specs.ResolvedRows.{resolved_row}
use Rattle.scasp_unify.specs.Resolver.{resolver}
use Rattle.scasp_unify.specs.TermFailures.{fails_by_terms}
use Rattle.scasp_hint.specs.AskedRows.{given_rows, inequalities, resolved_each, rows_seen, are_opposite, asked_of, asked_by, asked}
use Rattle.scasp_hint.specs.Sides.{less, more, two_sides, parts_sides, sides_or_large, parted, compared, row_sides, con_sides, differs_in}
use Rattle.scasp_hint.specs.Verdicts.{ArePlain}
use Rattle.scasp_hint.specs.declared.asked.Asked.TheVariants.{ByTerms, Asks}
use Rattle.scasp_hint.specs.declared.asked.RowsView.{RowsView}
use Rattle.scasp_hint.specs.declared.asked.RowsView.TheVariants.{FalseRow, LargeRow, AllRows}
use Rattle.scasp_hint.specs.declared.sides.Sides.TheVariants.{Mixed}
use Rattle.scasp_hint.proofs.AskedLemmas.{resolved-op, inequalities-plain}
use Rattle.scasp_hint.proofs.ForcedLemmas.{less-strict, more-strict}
use Rattle.scasp_hint.proofs.SidesLemmas.{two-made}

resolved-plain : (s : Sub) (rs qs : List Linear) → Some qs ≡ resolved_each s rs → NoDisequation rs → NoDisequation qs
resolved-plain s [] qs e h = subst NoDisequation (let same : [] ≡ qs = cc in same) tt
resolved-plain s (r ∷ rs) qs e h =
    let f = bind-some (resolved_row s r) (λ q. resolved_each s rs >>= (λ qs. Some (q ∷ qs))) qs e in
    let g = bind-some (resolved_each s rs) (λ qs. Some (f.0 ∷ qs)) qs f.2 in
    subst NoDisequation (let same : f.0 ∷ g.0 ≡ qs = cc in same) ((λ k. h.0 (sym (resolved-op s r f.0 f.1) ∙ k)), resolved-plain s rs g.0 g.1 h.1)

pub asks-plain : (cs : List Con) (all : List Linear) → asked cs ≡ Asks all → NoDisequation all
asks-plain cs all e = terms (fails_by_terms cs) e
  where
    rs : List Linear
    rs = inequalities (given_rows cs)

    each : (o : Option (List Linear)) → o ≡ resolved_each (resolver cs) rs → asked_of o ≡ Asks all → NoDisequation all
    each None f e = cc
    each (Some qs) f e = let same : qs ≡ all = cc in subst NoDisequation same (resolved-plain (resolver cs) rs qs f (inequalities-plain (given_rows cs)))

    opposite : (b : Bool) → (if b then ByTerms else asked_of (resolved_each (resolver cs) rs)) ≡ Asks all → NoDisequation all
    opposite true e = cc
    opposite false e = each (resolved_each (resolver cs) rs) refl e

    seen : (v : RowsView) → asked_by cs v ≡ Asks all → NoDisequation all
    seen FalseRow e = cc
    seen LargeRow e = cc
    seen (AllRows qs) e = opposite (are_opposite qs qs) e

    terms : (b : Bool) → (if b then ByTerms else asked_by cs (rows_seen (resolver cs) (given_rows cs))) ≡ Asks all → NoDisequation all
    terms true e = cc
    terms false e = seen (rows_seen (resolver cs) (given_rows cs)) e

below-plain : (a : Linear) → a.op ≡ op.Lt → a.op ≢ op.Ne
below-plain a e f = let wrong : op.Lt ≡ op.Ne = sym e ∙ f in cc

parts-plain : (ps : List Part) (all : List Linear) → Some all ≡ parts_sides ps → NoDisequation all
parts-plain [] all e = subst NoDisequation (let same : [] ≡ all = cc in same) tt
parts-plain (p ∷ ps) all e = by p.turned e (parts-plain ps)
  where
    by : (t : Bool) → Some all ≡ (if t then two_sides (more p.at p.term) (less p.at p.term) (parts_sides ps) else two_sides (less p.at p.term) (more p.at p.term) (parts_sides ps)) → ((rest : List Linear) → Some rest ≡ parts_sides ps → NoDisequation rest) → NoDisequation all
    by true e rest =
        let w = two-made (more p.at p.term) (less p.at p.term) (parts_sides ps) all e in
        subst NoDisequation (sym w.all_is) (below-plain w.first (more-strict p.at p.term w.first w.first_is).1, (below-plain w.second (less-strict p.at p.term w.second w.second_is).1, rest w.more w.more_is))
    by false e rest =
        let w = two-made (less p.at p.term) (more p.at p.term) (parts_sides ps) all e in
        subst NoDisequation (sym w.all_is) (below-plain w.first (less-strict p.at p.term w.first w.first_is).1, (below-plain w.second (more-strict p.at p.term w.second w.second_is).1, rest w.more w.more_is))

con-plain : (cs : List Con) (c : Con) → Each ArePlain (con_sides cs c)
con-plain cs (con.Row r) = by r.op
  where
    compare : (o : Option Linear) → ArePlain (compared o)
    compare None = tt
    compare (Some q) = ((λ e. cc), ((λ e. cc), tt))

    by : (o : Op) → Each ArePlain (row_sides o (resolved_row (resolver cs) r))
    by op.Eq = tt
    by op.Lt = tt
    by op.Le = tt
    by op.Ne = (compare (resolved_row (resolver cs) r), tt)
con-plain cs (con.Neq t u) = by (parts (under (resolver cs) (tm_of t)) (under (resolver cs) (tm_of u)))
  where
    made : (ps : List Part) (o : Option (List Linear)) → o ≡ parts_sides ps → ArePlain (sides_or_large o)
    made ps None e = tt
    made ps (Some all) e = parts-plain ps all e

    test : (ps : List Part) (b : Bool) → Each ArePlain ((if b then sides_or_large (parts_sides ps) else Mixed) ∷ [])
    test ps true = (made ps (parts_sides ps) refl, tt)
    test ps false = (tt, tt)

    by : (o : Option (List Part)) → Each ArePlain (parted cs o)
    by None = tt
    by (Some ps) = test ps (is_among_numbers cs ps)
con-plain cs (con.Eq t u) = tt
con-plain cs (con.NotShape x f n) = tt
con-plain cs (con.Num t) = tt
con-plain cs (con.NotNum t) = tt

pub sides-plain : (cs ds : List Con) → Each ArePlain (differs_in cs ds)
sides-plain cs [] = tt
sides-plain cs (d ∷ ds) = Each-append ArePlain (con_sides cs d) (differs_in cs ds) (con-plain cs d) (sides-plain cs ds)
