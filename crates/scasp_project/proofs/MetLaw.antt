-- A valuation that can be extended to meet a list meets one of the lists to which that projects.
use Rattle.std.proofs.Common.{◌≡◌, ℕ, Bool, true, false, Some, Option, List, [], ◌∷◌, refl, sym, ap, subst, ◌∙◌}
use Rattle.std.specs.Prelude.{if◌then◌else◌}
use Rattle.std.proofs.lemmas.Bool.{true≢false}
use Rattle.scasp_num.specs.Arithmetic.{◌>>=◌}
use Rattle.scasp_num.proofs.Exact.{bind-some}
use Rattle.scasp_list.specs.Each.{Each}
use Rattle.scasp_syntax.specs.Constraints.{Meets, holds, is_number}
use Rattle.scasp_syntax.specs.RowTruth.{number_of, point}
use Rattle.scasp_syntax.specs.Tm.{Tm, var, num, app}
use Rattle.scasp_syntax.specs.Values.{Sub, Valuation, under}
use Rattle.scasp_syntax.specs.View.{tm_of}
use Rattle.scasp_syntax.specs.declared.con.Con.{Con}
use Rattle.scasp_syntax.specs.declared.con.Con.TheVariants as con
use Rattle.scasp_syntax.specs.declared.term.Term.{Term}
use Rattle.scasp_syntax.proofs.SameLemmas.{tm_decided}
use Rattle.scasp_unify.specs.Numbers.{is_num_of, number_var}
use Rattle.scasp_unify.specs.Resolver.{Equal, resolver, resolver_after}
use Rattle.scasp_unify.specs.Unification.{Absorbs}
use Rattle.scasp_unify.proofs.UnificationLemmas.{resolved-twice}
use Rattle.scasp_hint.specs.AskedRows.{RowsNormal}
use Rattle.scasp_project.specs.Choices.{are_too_many, choices}
use Rattle.scasp_project.specs.Dropped.{Reading, reading_of}
use Rattle.scasp_project.specs.Meaning.{Extends, IsNoEquation, MeetsOne}
use Rattle.scasp_project.specs.Projection.{all_kept, alternatives, projection}
use Rattle.scasp_project.specs.declared.projecting.Projected.{Projected}
use Rattle.scasp_project.specs.declared.projecting.Projected.TheVariants as projected
use Rattle.scasp_project.proofs.ForwardLemmas.{Counts, chosen-met}
use Rattle.scasp_project.proofs.KeptLemmas.{all-kept-met, chosen-normal, normal-cons}
use Rattle.scasp_project.proofs.OpenParts.{under-var}
use Rattle.std.specs.List.{Contains}
use Rattle.scasp_list.proofs.MemberLemmas.{list_all-member, list_any-member}

-- without equations each variable stands for itself
resolved-after : (s : Sub) (cs : List Con) → Each IsNoEquation cs → resolver_after s cs ≡ s
resolved-after s [] h = refl
resolved-after s (con.Eq t u ∷ cs) h = absurd h.0
resolved-after s (con.Neq t u ∷ cs) h = resolved-after s cs h.1
resolved-after s (con.NotShape x f n ∷ cs) h = resolved-after s cs h.1
resolved-after s (con.Num t ∷ cs) h = resolved-after s cs h.1
resolved-after s (con.NotNum t ∷ cs) h = resolved-after s cs h.1
resolved-after s (con.Row r ∷ cs) h = resolved-after s cs h.1

pub resolved-var : (cs : List Con) → Each IsNoEquation cs → resolver cs ≡ var
resolved-var cs h = resolved-after var cs h

pub absorbs-any : (cs : List Con) → Each IsNoEquation cs → (v : Sub) → Absorbs v (resolver cs)
absorbs-any cs h v = subst (λ (s : Sub). Absorbs v s) (sym (resolved-var cs h)) (λ y. refl)

pub no-equations : (cs : List Con) (r : Sub) → Each IsNoEquation cs → Each (Equal r) cs
no-equations [] r h = tt
no-equations (con.Eq t u ∷ cs) r h = absurd h.0
no-equations (con.Neq t u ∷ cs) r h = (tt, no-equations cs r h.1)
no-equations (con.NotShape x f n ∷ cs) r h = (tt, no-equations cs r h.1)
no-equations (con.Num t ∷ cs) r h = (tt, no-equations cs r h.1)
no-equations (con.NotNum t ∷ cs) r h = (tt, no-equations cs r h.1)
no-equations (con.Row r ∷ cs) q h = (tt, no-equations cs q h.1)

-- a variable that counts as a number has a num
pub number-con : (cs : List Con) → Each IsNoEquation cs → (y : ℕ) → number_var cs y ≡ true → (t : Term) × Contains cs (con.Num t) × (tm_of t ≡ var y)
number-con cs plain y e = let c = list_any-member (is_num_of (resolver cs) (var y)) cs e in by c.0 c.1 c.2
  where
    is : (t : Term) → is_num_of (resolver cs) (var y) (con.Num t) ≡ true → tm_of t ≡ var y
    is t e = sym (under-var (tm_of t)) ∙ ap (λ (r : Sub). under r (tm_of t)) (sym (resolved-var cs plain)) ∙ (tm_decided (under (resolver cs) (tm_of t)) (var y)).0 e

    by : (c : Con) → Contains cs c → is_num_of (resolver cs) (var y) c ≡ true → (t : Term) × Contains cs (con.Num t) × (tm_of t ≡ var y)
    by (con.Num t) i e = (t, i, is t e)
    by (con.Eq t u) i e = absurd (true≢false (sym e))
    by (con.Neq t u) i e = absurd (true≢false (sym e))
    by (con.NotShape z f n) i e = absurd (true≢false (sym e))
    by (con.NotNum t) i e = absurd (true≢false (sym e))
    by (con.Row r) i e = absurd (true≢false (sym e))

num-value : (t : Tm) → is_number t ≡ true → t ≡ num (number_of t)
num-value (var x) e = absurd (true≢false (sym e))
num-value (num q) e = refl
num-value (app f ts) e = absurd (true≢false (sym e))

num-held : (s w : Sub) (y : ℕ) (c : Con) → Absorbs w s → is_num_of s (var y) c ≡ true → holds w c ≡ true → w y ≡ num (point w y)
num-held s w y (con.Num t) a e h =
    let is = (tm_decided (under s (tm_of t)) (var y)).0 e in
    let same : under w (tm_of t) ≡ w y = sym (resolved-twice w s (tm_of t) a) ∙ ap (under w) is in
    num-value (w y) (sym (ap is_number same) ∙ h)
num-held s w y (con.Eq t u) a e h = absurd (true≢false (sym e))
num-held s w y (con.Neq t u) a e h = absurd (true≢false (sym e))
num-held s w y (con.NotShape x f n) a e h = absurd (true≢false (sym e))
num-held s w y (con.NotNum t) a e h = absurd (true≢false (sym e))
num-held s w y (con.Row r) a e h = absurd (true≢false (sym e))

pub counts-met : (cs : List Con) (w : Sub) → Absorbs w (resolver cs) → Meets w cs → Counts w (number_var cs)
counts-met cs w a m y e = let c = list_any-member (is_num_of (resolver cs) (var y)) cs e in num-held (resolver cs) w y c.0 a c.2 (list_all-member (holds w) cs c.0 m c.1)

-- how the alternatives come about
pub record Projects (cs : List Con) (keep : List ℕ) (lists : List (List Con)) : Type 0 where
  pub few : are_too_many (reading_of cs keep) cs ≡ false
  pub chosen : List (List Con)
  pub chosen_is : Some chosen ≡ choices (reading_of cs keep) cs
  pub lists_is : Some lists ≡ all_kept (reading_of cs keep) chosen

pub projects : (cs : List Con) (keep : List ℕ) (lists : List (List Con)) → projection cs keep ≡ Some (projected.Alternatives lists) → Projects cs keep lists
projects cs keep lists e = by (are_too_many s cs) refl e
  where
    s : Reading
    s = reading_of cs keep

    by : (b : Bool) → are_too_many s cs ≡ b → ◌≡◌ {A = Option Projected} (if b then Some projected.TooMany else (alternatives s cs >>= (λ lists. Some (projected.Alternatives lists)))) (Some (projected.Alternatives lists)) → Projects cs keep lists
    by true few e = cc
    by false few e =
        let f = bind-some (alternatives s cs) (λ (lists : List (List Con)). Some (projected.Alternatives lists)) (projected.Alternatives lists) (sym e) in
        let same : lists ≡ f.0 = cc in
        let g = bind-some (choices s cs) (all_kept s) f.0 f.1 in
        record { few = few; chosen = g.0; chosen_is = g.1; lists_is = ap Some same ∙ g.2 }

pub met : (cs : List Con) (keep : List ℕ) (lists : List (List Con)) → RowsNormal cs → Each IsNoEquation cs → projection cs keep ≡ Some (projected.Alternatives lists) → (v : Valuation) → Extends keep v cs → MeetsOne v.of lists
met cs keep lists n h e v x =
    let s = reading_of cs keep in
    let p = projects cs keep lists e in
    let w = x.0 in
    let a = absorbs-any cs h w.of in
    let normal = normal-cons cs n in
    all-kept-met s v w x.1 a (absorbs-any cs h v.of) p.chosen lists (chosen-normal s ([] ∷ []) cs p.chosen (sym p.chosen_is) (tt, tt) normal) (sym p.lists_is)
    (chosen-met s w.of a (counts-met cs w.of a x.2) ([] ∷ []) cs p.chosen (sym p.chosen_is) refl x.2)
