-- Rows under valuations and under rational points.
use Rattle.std.proofs.Common.{◌≡◌, ◌↔◌, ◌⊎◌, inl, inr, ℕ, Bool, true, false, not, IsTrue, ◌+ℤ◌, ◌*ℤ◌, List, [], ◌∷◌, refl, sym, ap, subst, ◌∙◌}
use Rattle.std.specs.List.{list_any, Contains}
use Rattle.std.proofs.lemmas.Bool.{or_cases, true≢false}
use Rattle.scasp_num.specs.declared.linear.Coeff.{Coeff}
use Rattle.scasp_num.specs.Number.{Number}
use Rattle.scasp_num.specs.Linear.{Linear, Compares, negation}
use Rattle.scasp_list.specs.Each.{Each}
use Rattle.scasp_num.proofs.Valuations.{negation-holds}
use Rattle.scasp_num.specs.Values.{row_sum, Holds}
use Rattle.scasp_num.proofs.Comparing.{holds-decided}
use Rattle.scasp_syntax.specs.Tm.{Tm, var, num, app}
use Rattle.scasp_syntax.specs.Values.{Sub, under}
use Rattle.scasp_syntax.specs.View.{tm_of}
use Rattle.scasp_syntax.specs.Constraints.{is_number}
use Rattle.scasp_syntax.specs.RowTruth.{row_holds}
use Rattle.scasp_unify.specs.Unification.{then_by}
use Rattle.scasp_unify.specs.Resolver.{unifies, resolver}
use Rattle.scasp_unify.specs.Numbers.{counts, is_num_of, number_var}
use Rattle.scasp_unify.specs.TermFailures.{is_refuted, fails_by_terms, is_compound}
use Rattle.scasp_syntax.specs.RowTruth.{number_of, point}
use Rattle.scasp_unify.specs.Points.{read_as, through}
use Rattle.scasp_syntax.specs.declared.con.Con.{Con}
use Rattle.scasp_syntax.specs.declared.con.Con.TheVariants as con
use Rattle.scasp_syntax.proofs.SameLemmas.{tm_decided}
use Rattle.scasp_unify.proofs.Members.{not-false}
use Rattle.scasp_list.proofs.MemberLemmas.{list_any-none_member, list_any-member}

-- ---- a row's truth under a valuation is that at its point

pub bridge : (v : Sub) (r : Linear) → IsTrue (row_holds v r) ↔ Holds (point v) r
bridge v r = holds-decided (point v) r

-- ---- a row's truth depends on its variables alone

pub sums-same : (p q : ℕ → Number) (ks : List Coeff) → Each (λ k. p k.x ≡ q k.x) ks → row_sum p ks ≡ row_sum q ks
sums-same p q [] h = refl
sums-same p q (k ∷ ks) h = λ i. (k.c *ℤ (h.0 i).num *ℤ (sums-same p q ks h.1 i).1 +ℤ (sums-same p q ks h.1 i).0 *ℤ (h.0 i).den, (h.0 i).den *ℤ (sums-same p q ks h.1 i).1)

pub holds-same : (p q : ℕ → Number) (r : Linear) → Each (λ k. p k.x ≡ q k.x) r.coeffs → Holds p r → Holds q r
holds-same p q r h = subst (λ s. Compares r.op (s.0 +ℤ r.constant *ℤ s.1)) (sums-same p q r.coeffs h)

-- ---- a row all of whose variables count

-- no constraint says that a compound term is a number
no-compound : (cs : List Con) (z : Tm) (c : Con) → Contains cs c → list_any (is_refuted cs) cs ≡ false → is_compound z ≡ true → is_num_of (resolver cs) z c ≡ true → ⊥
no-compound cs z (con.Num t) i e h g =
    let same = (tm_decided (under (resolver cs) (tm_of t)) z).0 g in
    true≢false (sym h ∙ ap is_compound (sym same) ∙ list_any-none_member (is_refuted cs) cs (con.Num t) e i)
no-compound cs z (con.Eq t u) i e h g = cc
no-compound cs z (con.Neq t u) i e h g = cc
no-compound cs z (con.NotShape x f n) i e h g = cc
no-compound cs z (con.NotNum t) i e h g = cc
no-compound cs z (con.Row r) i e h g = cc

value-counts : (cs : List Con) (w : Sub) (p : ℕ → Number) → fails_by_terms cs ≡ false → ((y : ℕ) → number_var cs y ≡ true → number_of (w y) ≡ p y) → (x : ℕ) → counts cs x ≡ true → through (resolver cs) p x ≡ point (then_by (resolver cs) w) x
value-counts cs w p e h x c = by (resolver cs x) refl (or_cases (is_number (resolver cs x)) (list_any (is_num_of (resolver cs) (resolver cs x)) cs) c)
  where
    plain : list_any (is_refuted cs) cs ≡ false
    plain = (not-false (unifies cs) (list_any (is_refuted cs) cs) e).1

    by : (z : Tm) → resolver cs x ≡ z → (is_number (resolver cs x) ≡ true) ⊎ (list_any (is_num_of (resolver cs) (resolver cs x)) cs ≡ true) → read_as p x (resolver cs x) ≡ number_of (under w (resolver cs x))
    by (var y) same (inl f) = absurd (true≢false (sym f ∙ ap is_number same))
    by (var y) same (inr f) =
        let named : number_var cs y ≡ true = subst (λ (z : Tm). list_any (is_num_of (resolver cs) z) cs ≡ true) same f in
        ap (read_as p x) same ∙ sym (h y named) ∙ sym (ap (λ z. number_of (under w z)) same)
    by (num q) same f = ap (read_as p x) same ∙ sym (ap (λ z. number_of (under w z)) same)
    by (app g us) same (inl f) = absurd (true≢false (sym f ∙ ap is_number same))
    by (app g us) same (inr f) =
        let d = list_any-member (is_num_of (resolver cs) (resolver cs x)) cs f in
        absurd (no-compound cs (resolver cs x) d.0 d.1 plain (ap is_compound same) d.2)

-- it is met by the valuation where it is met by the point, read through the resolver
pub complete-row : (cs : List Con) (w : Sub) (p : ℕ → Number) → fails_by_terms cs ≡ false → ((y : ℕ) → number_var cs y ≡ true → number_of (w y) ≡ p y) → (r : Linear) → Each (λ k. counts cs k.x ≡ true) r.coeffs → Holds (through (resolver cs) p) r → IsTrue (row_holds (then_by (resolver cs) w) r)
complete-row cs w p e h r c met = (bridge (then_by (resolver cs) w) r).1 (holds-same (through (resolver cs) p) (point (then_by (resolver cs) w)) r (values r.coeffs c) met)
  where
    values : (ks : List Coeff) → Each (λ k. counts cs k.x ≡ true) ks → Each (λ k. through (resolver cs) p k.x ≡ point (then_by (resolver cs) w) k.x) ks
    values [] c = tt
    values (k ∷ ks) c = (value-counts cs w p e h k.x c.0, values ks c.1)

-- the point of a valuation that absorbs s is itself, read through s
pub point-through : (v s : Sub) → ((y : ℕ) → under v (s y) ≡ v y) → (x : ℕ) → through s (point v) x ≡ point v x
point-through v s a x = by (s x) refl
  where
    by : (z : Tm) → s x ≡ z → read_as (point v) x (s x) ≡ number_of (v x)
    by (var y) same = ap (read_as (point v) x) same ∙ ap number_of (sym (ap (under v) same) ∙ a x)
    by (num q) same = ap (read_as (point v) x) same ∙ ap number_of (sym (ap (under v) same) ∙ a x)
    by (app f us) same = ap (read_as (point v) x) same

pub negation-is : (v : Sub) (r : Linear) → row_holds v (negation r) ≡ not (row_holds v r)
negation-is v r = by (row_holds v (negation r)) refl (row_holds v r) refl
  where
    by : (a : Bool) → row_holds v (negation r) ≡ a → (b : Bool) → row_holds v r ≡ b → a ≡ not b
    by true e true f = absurd ((negation-holds r (negation r) refl (point v)).0 ((bridge v (negation r)).0 e) ((bridge v r).0 f))
    by true e false f = refl
    by false e true f = refl
    by false e false f = absurd (true≢false (sym ((bridge v (negation r)).1 ((negation-holds r (negation r) refl (point v)).1 (λ h. true≢false (sym ((bridge v r).1 h) ∙ f)))) ∙ e))
