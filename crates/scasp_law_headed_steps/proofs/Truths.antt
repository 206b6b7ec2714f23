-- A constraint as it reads, in simple form, holds where the constraint does.
use Rattle.std.specs.Prelude.{Bool, List, None, Option, Some, [], false, not, true, ℕ, ⊤, ◌∷◌, ◌≡◌}
use Rattle.std.proofs.Common.{ap, arith, is_none, pos, refl, sym, ◌*ℤ◌, ◌+ℤ◌, ◌∙◌}
use Rattle.std.proofs.lemmas.Bool.{true≢false}
use Rattle.std.proofs.lemmas.Int.{ints}
use Rattle.scasp_law_parts.proofs.BoundLemmas.{absorbed}
use Rattle.scasp_law_parts.proofs.ReadLemmas.{con-read}
use Rattle.scasp_law_parts.proofs.TriangularLemmas.{solved-self}
use Rattle.scasp_law_parts.specs.Bound.{Triangular}
use Rattle.scasp_law_parts.specs.Questions.{IsReadable}
use Rattle.scasp_law_sorted.proofs.Numbers.{number-stays}
use Rattle.scasp_list.proofs.EachLemmas.{Each-map}
use Rattle.scasp_list.specs.Each.{Each}
use Rattle.scasp_num.specs.Linear.{IsNormal, Linear, compares}
use Rattle.scasp_num.specs.Values.{numerator_under, row_sum}
use Rattle.scasp_num.specs.declared.linear.Coeff.{Coeff}
use Rattle.scasp_search_rules.specs.Successors.Reading.{con_under, constant_holds, holds_always, row_or, row_under}
use Rattle.scasp_syntax.proofs.SameLemmas.{tm_decided}
use Rattle.scasp_syntax.specs.Constraints.{holds, is_number}
use Rattle.scasp_syntax.specs.RowTruth.{point, row_holds}
use Rattle.scasp_syntax.specs.Same.{same_tm}
use Rattle.scasp_syntax.specs.Tm.{Tm, app, num, var}
use Rattle.scasp_syntax.specs.Values.{Sub, under}
use Rattle.scasp_syntax.specs.View.{tm_of}
use Rattle.scasp_syntax.specs.declared.con.Con.{Con}
use Rattle.scasp_syntax.specs.declared.con.Con.TheVariants as con
use Rattle.scasp_unify.proofs.SimpleLemmas.{simple-holds}
use Rattle.scasp_unify.proofs.UnificationLemmas.{Says, parts-say}
use Rattle.scasp_unify.specs.Parts.{Part, parts}
use Rattle.scasp_unify.specs.ResolvedRows.{resolved_row}
use Rattle.scasp_unify.specs.SimpleForm.{simple}
use Rattle.scasp_unify.specs.Solving.{sub_of}
use Rattle.scasp_unify.specs.TermFailures.{is_compound}
use Rattle.scasp_unify.specs.Unification.{Absorbs, then_by}
use Rattle.scasp_unify.specs.declared.bindings.Binding.{Binding}

-- ---- what holds always

differ-always : (t u : Tm) (v : Sub) → is_none (parts t u) ≡ true → not (same_tm (under v t) (under v u)) ≡ true
differ-always t u v e = by (parts t u) (parts-say v t u) e (same_tm (under v t) (under v u)) refl
  where
    by : (o : Option (List Part)) → Says v o (under v t ≡ under v u) → is_none o ≡ true → (b : Bool) → same_tm (under v t) (under v u) ≡ b → not b ≡ true
    by (Some ps) says f b k = absurd (true≢false (sym f))
    by None says f true k = absurd (says ((tm_decided (under v t) (under v u)).0 k))
    by None says f false k = refl

compound-always : (t : Tm) (v : Sub) → is_compound t ≡ true → not (is_number (under v t)) ≡ true
compound-always (var x) v e = absurd (true≢false (sym e))
compound-always (num q) v e = absurd (true≢false (sym e))
compound-always (app f ts) v e = refl

row-always : (r : Linear) (ks : List Coeff) → r.coeffs ≡ ks → constant_holds ks r ≡ true → (v : Sub) → row_holds v r ≡ true
row-always r [] h e v =
    let sum : numerator_under (point v) r ≡ pos 0 +ℤ r.constant *ℤ pos 1 = ap (λ (ks : List Coeff). (row_sum (point v) ks).0 +ℤ r.constant *ℤ (row_sum (point v) ks).1) h in
    let plain : pos 0 +ℤ r.constant *ℤ pos 1 ≡ r.constant = omega (arith, ints) in
    ap (compares r.op) (sum ∙ plain) ∙ e
row-always r (k ∷ ks) h e v = absurd (true≢false (sym e))

-- what holds as it stands holds under each substitution
pub always : (c : Con) → holds_always c ≡ true → (v : Sub) → holds v c ≡ true
always (con.Eq t u) e v = (tm_decided (under v (tm_of t)) (under v (tm_of u))).1 (ap (under v) ((tm_decided (tm_of t) (tm_of u)).0 e))
always (con.Neq t u) e v = differ-always (tm_of t) (tm_of u) v e
always (con.NotShape x f n) e v = absurd (true≢false (sym e))
always (con.Num t) e v = number-stays v (tm_of t) e
always (con.NotNum t) e v = compound-always (tm_of t) v e
always (con.Row r) e v = row-always r r.coeffs refl e v

-- ---- what reads

-- the row is in normal form, and its variables are numbers
abbrev pub RowReads : Sub → Con → Type 0
RowReads v (con.Row r) = IsNormal r × Each (λ k. is_number (v k.x) ≡ true) r.coeffs
RowReads v (con.Eq t u) = ⊤
RowReads v (con.Neq t u) = ⊤
RowReads v (con.NotShape x f n) = ⊤
RowReads v (con.Num t) = ⊤
RowReads v (con.NotNum t) = ⊤

module _ (bs : List Binding) (h : Triangular bs) (v : Sub) (absorbs : Absorbs v (sub_of bs)) where
  itself : then_by (sub_of bs) v ≡ v
  itself = λ i x. absorbs x i

  twice : Absorbs (sub_of bs) (sub_of bs)
  twice = absorbed (sub_of bs) bs (solved-self bs h)

  no-compound : (x : ℕ) → is_number (v x) ≡ true → is_compound (sub_of bs x) ≡ false
  no-compound x e = by (sub_of bs x) (absorbs x)
    where
      by : (t : Tm) → under v t ≡ v x → is_compound t ≡ false
      by (var y) f = refl
      by (num q) f = refl
      by (app g ts) f = absurd (true≢false (sym e ∙ sym (ap is_number f)))

  readable-same : (c : Con) → IsReadable (sub_of bs) c → holds v (con_under (sub_of bs) c) ≡ holds v c
  readable-same c r = con-read (sub_of bs) v c twice r ∙ ap (λ (w : Sub). holds w c) itself

  row-same : (r : Linear) → IsNormal r → Each (λ k. is_number (v k.x) ≡ true) r.coeffs → holds v (con.Row (row_under (sub_of bs) r)) ≡ holds v (con.Row r)
  row-same r n k = by (resolved_row (sub_of bs) r) refl
    where
      by : (o : Option Linear) → resolved_row (sub_of bs) r ≡ o → holds v (con.Row (row_or r o)) ≡ holds v (con.Row r)
      by None e = refl
      by (Some row) e =
          ap (λ (o : Option Linear). holds v (con.Row (row_or r o))) (sym e)
          ∙ readable-same (con.Row r)
          record {
            normal = n;
            row = row;
            read = sym e;
            flat = Each-map (λ (j : Coeff). is_number (v j.x) ≡ true) (λ j. is_compound (sub_of bs j.x) ≡ false) (λ j f. no-compound j.x f) r.coeffs k;
          }

  plain-same : (c : Con) → RowReads v c → holds v (con_under (sub_of bs) c) ≡ holds v c
  plain-same (con.Row r) k = row-same r k.0 k.1
  plain-same (con.Eq t u) k = readable-same (con.Eq t u) tt
  plain-same (con.Neq t u) k = readable-same (con.Neq t u) tt
  plain-same (con.NotShape x f n) k = readable-same (con.NotShape x f n) tt
  plain-same (con.Num t) k = readable-same (con.Num t) tt
  plain-same (con.NotNum t) k = readable-same (con.NotNum t) tt

  pub read-holds : (c : Con) → RowReads v c → holds v c ≡ true → holds v (simple (con_under (sub_of bs) c)) ≡ true
  read-holds c k e = (simple-holds v (con_under (sub_of bs) c)).1 (plain-same c k ∙ e)

  pub holds-read : (c : Con) → RowReads v c → holds v (simple (con_under (sub_of bs) c)) ≡ true → holds v c ≡ true
  holds-read c k e = sym (plain-same c k) ∙ (simple-holds v (con_under (sub_of bs) c)).0 e

  -- without the simple form
  pub under-holds : (c : Con) → RowReads v c → holds v c ≡ true → holds v (con_under (sub_of bs) c) ≡ true
  under-holds c k e = plain-same c k ∙ e
