-- What is within a table has integers of arithmetic in range, so it fits if its places do.
use Rattle.std.specs.Prelude.{◌≡◌, ℕ, ◌^◌, nat_lt, true, ◌&&◌, List, [], ◌∷◌}
use Rattle.std.specs.List.{list_all}
use Rattle.std.proofs.Common.{refl}
use Rattle.std.proofs.lemmas.Bool.{and_from, and_parts}
use Rattle.scasp_answers_terms.specs.Tokens.Bounds.{con_fits, hint_fits, is_count, is_place, row_fits, step_fits, term_fits, terms_fit}
use Rattle.scasp_hint.specs.Showing.{HintInRange}
use Rattle.scasp_list.specs.Each.{Each}
use Rattle.scasp_num.specs.Arithmetic.{in_range}
use Rattle.scasp_num.specs.Linear.{IsNormal, Linear}
use Rattle.scasp_num.specs.Number.{InRange}
use Rattle.scasp_num.specs.declared.hints.Step.{Step}
use Rattle.scasp_num.specs.declared.linear.Coeff.{Coeff}
use Rattle.scasp_num.proofs.Numbers.{lt_ltb}
use Rattle.scasp_rows.specs.Steps.{StepInRange}
use Rattle.scasp_syntax.specs.Tm.{Tm, Tms, var, num, app, nil, cons}
use Rattle.scasp_syntax.specs.View.{tm_of}
use Rattle.scasp_syntax.specs.WellFormed.{are_below, is_below}
use Rattle.scasp_syntax.specs.declared.con.Con.{Con}
use Rattle.scasp_syntax.specs.declared.con.Con.TheVariants as con
use Rattle.scasp_syntax.specs.declared.hint.Hint.{Hint}
use Rattle.scasp_syntax.specs.declared.hint.Hint.TheVariants as hint
use Rattle.scasp_unify.specs.Negations.{is_con_below}
use Rattle.scasp_law_printable.specs.Places.{has_counts, has_rows}
use Rattle.scasp_law_printable.specs.Within.{AllWithin, ConWithin, Within}

module _ (count : ℕ) where
  mutual
    term-fits : (t : Tm) → Within count t → is_below (2 ^ 63) t ≡ true → term_fits t ≡ true
    term-fits (var x) h e = e
    term-fits (num q) h e = h
    term-fits (app f ts) h e = terms-fit ts h.2 e

    pub terms-fit : (ts : Tms) → AllWithin count ts → are_below (2 ^ 63) ts ≡ true → terms_fit ts ≡ true
    terms-fit nil h e = refl
    terms-fit (cons t ts) h e =
        let k = and_parts (is_below (2 ^ 63) t) (are_below (2 ^ 63) ts) e in and_from (term_fits t) (terms_fit ts) (term-fits t h.0 k.0) (terms-fit ts h.1 k.1)

  both-fit : (t u : Tm) → Within count t → Within count u → (is_below (2 ^ 63) t && is_below (2 ^ 63) u) ≡ true → (term_fits t && term_fits u) ≡ true
  both-fit t u h k e = let p = and_parts (is_below (2 ^ 63) t) (is_below (2 ^ 63) u) e in and_from (term_fits t) (term_fits u) (term-fits t h p.0) (term-fits u k p.1)

  coeffs-fit : (ks : List Coeff) → Each (λ (k : Coeff). InRange k.c) ks → list_all (λ (k : Coeff). nat_lt k.x (2 ^ 63)) ks ≡ true → list_all (λ (k : Coeff). is_place k.x && in_range k.c) ks ≡ true
  coeffs-fit [] h e = refl
  coeffs-fit (k ∷ ks) h e =
      let p = and_parts (nat_lt k.x (2 ^ 63)) (list_all (λ (k : Coeff). nat_lt k.x (2 ^ 63)) ks) e in
      and_from (is_place k.x && in_range k.c) (list_all (λ (k : Coeff). is_place k.x && in_range k.c) ks) (and_from (is_place k.x) (in_range k.c) p.0 (lt_ltb h.0)) (coeffs-fit ks h.1 p.1)

  row-fits : (r : Linear) → IsNormal r → list_all (λ (k : Coeff). nat_lt k.x (2 ^ 63)) r.coeffs ≡ true → row_fits r ≡ true
  row-fits r n e = and_from (list_all (λ (k : Coeff). is_place k.x && in_range k.c) r.coeffs) (in_range r.constant) (coeffs-fit r.coeffs n.range e) (lt_ltb n.constant_range)

  pub con-fits : (c : Con) → ConWithin count c → is_con_below (2 ^ 63) c ≡ true → con_fits c ≡ true
  con-fits (con.Eq t u) h e = both-fit (tm_of t) (tm_of u) h.0 h.1 e
  con-fits (con.Neq t u) h e = both-fit (tm_of t) (tm_of u) h.0 h.1 e
  con-fits (con.NotShape x f n) h e = and_from (is_place x) (is_count n) e (lt_ltb h.1)
  con-fits (con.Num t) h e = term-fits (tm_of t) h e
  con-fits (con.NotNum t) h e = term-fits (tm_of t) h e
  con-fits (con.Row r) h e = row-fits r h e

-- ---- hints

step-fits : (s : Step) → StepInRange s → has_rows s ≡ true → step_fits s ≡ true
step-fits s h e =
    let k = and_parts (is_count s.p) (is_count s.q) e in
    and_from (in_range s.a && is_count s.p && in_range s.b) (is_count s.q)
    (and_from (in_range s.a && is_count s.p) (in_range s.b) (and_from (in_range s.a) (is_count s.p) (lt_ltb h.0) k.0) (lt_ltb h.1)) k.1

steps-fit : (ss : List Step) → Each StepInRange ss → list_all has_rows ss ≡ true → list_all step_fits ss ≡ true
steps-fit [] h e = refl
steps-fit (s ∷ ss) h e =
    let k = and_parts (has_rows s) (list_all has_rows ss) e in and_from (step_fits s) (list_all step_fits ss) (step-fits s h.0 k.0) (steps-fit ss h.1 k.1)

lists-fit : (lists : List (List Step)) → Each (Each StepInRange) lists → list_all (list_all has_rows) lists ≡ true → list_all (list_all step_fits) lists ≡ true
lists-fit [] h e = refl
lists-fit (l ∷ lists) h e =
    let k = and_parts (list_all has_rows l) (list_all (list_all has_rows) lists) e in
    and_from (list_all step_fits l) (list_all (list_all step_fits) lists) (steps-fit l h.0 k.0) (lists-fit lists h.1 k.1)

pub hint-fits : (h : Hint) → HintInRange h → has_counts h ≡ true → hint_fits h ≡ true
hint-fits hint.Terms h e = refl
hint-fits (hint.Rows steps) h e = steps-fit steps h e
hint-fits (hint.Same n lists) h e =
    let k = and_parts (is_count n) (list_all (list_all has_rows) lists) e in and_from (is_count n) (list_all (list_all step_fits) lists) k.0 (lists-fit lists h k.1)
