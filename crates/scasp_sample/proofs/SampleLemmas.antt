-- The rows of a sample, and the point that is chosen for them.
use Rattle.std.specs.Prelude.{◌≡◌, ◌≢◌, ℕ, Bool, true, false, if◌then◌else◌, List, [], ◌∷◌, ◌++◌, Option, None, Some, Result, Ok, Err, refl}
use Rattle.std.proofs.Common.{sym, subst, ◌∙◌}
use Rattle.scasp_hint.proofs.AskedLemmas.{resolved-op}
use Rattle.scasp_hint.specs.Sides.{minus_one, one}
use Rattle.scasp_list.proofs.EachLemmas.{Each-append}
use Rattle.scasp_list.specs.Each.{Each}
use Rattle.scasp_num.proofs.Exact.{bind-some}
use Rattle.scasp_num.proofs.Kept.{normal_of-op}
use Rattle.scasp_num.specs.Arithmetic.{◌>>=◌, negation_of}
use Rattle.scasp_num.specs.Linear.{Linear}
use Rattle.scasp_num.specs.Number.{zero_number}
use Rattle.scasp_num.specs.declared.linear.Op.{Op}
use Rattle.scasp_num.specs.declared.linear.Op.TheVariants as op
use Rattle.scasp_num.specs.declared.linear.RatPair.{RatPair}
use Rattle.scasp_rows.specs.Inside.Sampled.{answer_by}
use Rattle.scasp_rows.specs.Points.{NoDisequation}
use Rattle.scasp_rows.specs.Samples.{OnlyDisequations}
use Rattle.scasp_rows.specs.declared.state.Halt.{Halt}
use Rattle.scasp_rows.specs.declared.state.Halt.TheVariants as halt
use Rattle.scasp_rows.specs.declared.verdict.LinErr.TheVariants as err
use Rattle.scasp_syntax.specs.Tm.{Tm, var, num, app}
use Rattle.scasp_syntax.specs.Values.{Sub, under}
use Rattle.scasp_syntax.specs.View.{tm_of}
use Rattle.scasp_syntax.specs.declared.con.Con.{Con}
use Rattle.scasp_syntax.specs.declared.con.Con.TheVariants as con
use Rattle.scasp_unify.specs.Numbers.{is_among_numbers}
use Rattle.scasp_unify.specs.Parts.{Part, parts}
use Rattle.scasp_unify.specs.ResolvedRows.{resolved_row}
use Rattle.scasp_unify.specs.Resolver.{resolver}
use Rattle.scasp_sample.specs.Sampling.{all_differ, all_plain, con_differ, con_plain, part_apart, parts_apart, point_by, row_differ, row_plain, single, term_apart, term_differ, variable_apart}

-- ---- rows that are no disequations

none-plain : (rs : List Linear) → Some rs ≡ Some [] → NoDisequation rs
none-plain rs e = let same : [] ≡ rs = cc in subst NoDisequation same tt

con-plain : (s : Sub) (c : Con) (rs : List Linear) → Some rs ≡ con_plain s c → NoDisequation rs
con-plain s (con.Row r) rs e = by r.op refl e
  where
    one_row : (o : Op) → r.op ≡ o → o ≢ op.Ne → Some rs ≡ single (resolved_row s r) → NoDisequation rs
    one_row o f other e =
        let b = bind-some (resolved_row s r) (λ q. Some (q ∷ [])) rs e in
        let same : b.0 ∷ [] ≡ rs = cc in
        subst NoDisequation same ((λ k. other (sym f ∙ sym (resolved-op s r b.0 b.1) ∙ k)), tt)

    by : (o : Op) → r.op ≡ o → Some rs ≡ row_plain o (resolved_row s r) → NoDisequation rs
    by op.Eq f e = one_row op.Eq f (λ k. cc) e
    by op.Lt f e = one_row op.Lt f (λ k. cc) e
    by op.Le f e = one_row op.Le f (λ k. cc) e
    by op.Ne f e = none-plain rs e
con-plain s (con.Eq t u) rs e = none-plain rs e
con-plain s (con.Neq t u) rs e = none-plain rs e
con-plain s (con.NotShape x f n) rs e = none-plain rs e
con-plain s (con.Num t) rs e = none-plain rs e
con-plain s (con.NotNum t) rs e = none-plain rs e

pub rows-plain : (s : Sub) (cs : List Con) (rows : List Linear) → Some rows ≡ all_plain s cs → NoDisequation rows
rows-plain s [] rows e = none-plain rows e
rows-plain s (c ∷ cs) rows e =
    let a = bind-some (con_plain s c) (λ rs. all_plain s cs >>= (λ more. Some (rs ++ more))) rows e in
    let b = bind-some (all_plain s cs) (λ more. Some (a.0 ++ more)) rows a.2 in
    let same : a.0 ++ b.0 ≡ rows = cc in
    subst NoDisequation same (Each-append (λ (r : Linear). r.op ≢ op.Ne) a.0 b.0 (con-plain s c a.0 a.1) (rows-plain s cs b.0 b.1))

-- ---- disequations

variable-differs : (x : ℕ) (t : Tm) (row : Linear) → Some row ≡ variable_apart x t → row.op ≡ op.Ne
variable-differs x (var y) row e = normal_of-op (record { x = x; value = one } ∷ record { x = y; value = minus_one } ∷ []) zero_number op.Ne row e
variable-differs x (num q) row e = normal_of-op (record { x = x; value = one } ∷ []) (negation_of q) op.Ne row e
variable-differs x (app f ts) row e = cc

term-differs : (x : ℕ) (t : Tm) (row : Linear) → Some row ≡ term_apart x t → row.op ≡ op.Ne
term-differs x (var y) row e = normal_of-op (record { x = x; value = minus_one } ∷ record { x = y; value = one } ∷ []) zero_number op.Ne row e
term-differs x (num q) row e = normal_of-op (record { x = x; value = minus_one } ∷ []) q op.Ne row e
term-differs x (app f ts) row e = cc

part-differs : (p : Part) (row : Linear) → Some row ≡ part_apart p → row.op ≡ op.Ne
part-differs p row e = by p.turned e
  where
    by : (b : Bool) → Some row ≡ (if b then term_apart p.at p.term else variable_apart p.at p.term) → row.op ≡ op.Ne
    by true e = term-differs p.at p.term row e
    by false e = variable-differs p.at p.term row e

parts-differ : (ps : List Part) (rows : List Linear) → Some rows ≡ parts_apart ps → OnlyDisequations rows
parts-differ [] rows e = let same : [] ≡ rows = cc in subst OnlyDisequations same tt
parts-differ (p ∷ ps) rows e =
    let a = bind-some (part_apart p) (λ r. parts_apart ps >>= (λ rs. Some (r ∷ rs))) rows e in
    let b = bind-some (parts_apart ps) (λ rs. Some (a.0 ∷ rs)) rows a.2 in
    let same : a.0 ∷ b.0 ≡ rows = cc in
    subst OnlyDisequations same (part-differs p a.0 a.1, parts-differ ps b.0 b.1)

none-differ : (lists : List (List Linear)) → Some lists ≡ Some [] → Each OnlyDisequations lists
none-differ lists e = let same : [] ≡ lists = cc in subst (λ ls. Each OnlyDisequations ls) same tt

con-differs : (cs : List Con) (c : Con) (lists : List (List Linear)) → Some lists ≡ con_differ cs c → Each OnlyDisequations lists
con-differs cs (con.Row r) lists e = by r.op refl e
  where
    by : (o : Op) → r.op ≡ o → Some lists ≡ row_differ o (resolved_row (resolver cs) r) → Each OnlyDisequations lists
    by op.Eq f e = none-differ lists e
    by op.Lt f e = none-differ lists e
    by op.Le f e = none-differ lists e
    by op.Ne f e =
        let a = bind-some (single (resolved_row (resolver cs) r)) (λ rs. Some (rs ∷ [])) lists e in
        let b = bind-some (resolved_row (resolver cs) r) (λ q. Some (q ∷ [])) a.0 a.1 in
        let same : (b.0 ∷ []) ∷ [] ≡ lists = cc in
        subst (λ ls. Each OnlyDisequations ls) same ((resolved-op (resolver cs) r b.0 b.1 ∙ f, tt), tt)
con-differs cs (con.Neq t u) lists e = by (parts (under (resolver cs) (tm_of t)) (under (resolver cs) (tm_of u))) e
  where
    test : (ps : List Part) (b : Bool) → Some lists ≡ (if b then single (parts_apart ps) else Some []) → Each OnlyDisequations lists
    test ps true e =
        let b = bind-some (parts_apart ps) (λ rs. Some (rs ∷ [])) lists e in
        let same : b.0 ∷ [] ≡ lists = cc in
        subst (λ ls. Each OnlyDisequations ls) same (parts-differ ps b.0 b.1, tt)
    test ps false e = none-differ lists e

    by : (o : Option (List Part)) → Some lists ≡ term_differ cs o → Each OnlyDisequations lists
    by None e = none-differ lists e
    by (Some ps) e = test ps (is_among_numbers cs ps) e
con-differs cs (con.Eq t u) lists e = none-differ lists e
con-differs cs (con.NotShape x f n) lists e = none-differ lists e
con-differs cs (con.Num t) lists e = none-differ lists e
con-differs cs (con.NotNum t) lists e = none-differ lists e

pub lists-differ : (cs ds : List Con) (lists : List (List Linear)) → Some lists ≡ all_differ cs ds → Each OnlyDisequations lists
lists-differ cs [] lists e = none-differ lists e
lists-differ cs (d ∷ ds) lists e =
    let a = bind-some (con_differ cs d) (λ rs. all_differ cs ds >>= (λ more. Some (rs ++ more))) lists e in
    let b = bind-some (all_differ cs ds) (λ more. Some (a.0 ++ more)) lists a.2 in
    let same : a.0 ++ b.0 ≡ lists = cc in
    subst (λ ls. Each OnlyDisequations ls) same (Each-append OnlyDisequations a.0 b.0 (con-differs cs d a.0 a.1) (lists-differ cs ds b.0 b.1))

-- ---- the point

pub point-some : (r : Result (Option (List RatPair)) Halt) (point : List RatPair) → answer_by r ≡ Ok (Some point) → Some point ≡ point_by r
point-some (Ok None) point e = cc
point-some (Ok (Some other)) point e = cc
point-some (Err (halt.Unsat steps)) point e = cc
point-some (Err halt.Overflow) point e = cc
point-some (Err halt.Memory) point e = cc

pub point-none : (r : Result (Option (List RatPair)) Halt) → answer_by r ≡ Ok None → Some [] ≡ point_by r
point-none (Ok None) e = refl
point-none (Ok (Some other)) e = cc
point-none (Err (halt.Unsat steps)) e = refl
point-none (Err halt.Overflow) e = cc
point-none (Err halt.Memory) e = cc

pub point-overflow : (r : Result (Option (List RatPair)) Halt) → answer_by r ≡ Err err.Overflow → None ≡ point_by r
point-overflow (Ok None) e = cc
point-overflow (Ok (Some other)) e = cc
point-overflow (Err (halt.Unsat steps)) e = cc
point-overflow (Err halt.Overflow) e = refl
point-overflow (Err halt.Memory) e = cc
