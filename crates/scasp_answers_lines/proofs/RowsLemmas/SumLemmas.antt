-- A summand more.
use Rattle.std.proofs.Common.{◌≡◌, ◌∙◌, ℕ, ◌<◌, Bool, true, nat_lt, drop, List, [], ◌∷◌, ◌++◌, None, Some, Result, refl, sym, ap, subst, append_assoc}
use Rattle.scasp_num.specs.declared.linear.Coeff.{Coeff}
use Rattle.scasp_answers_terms.specs.Tokens.Readers.{Parsed, made}
use Rattle.scasp_answers_terms.specs.Tokens.Rows.{Sum, with_summand, summand, more_at, more_signed}
use Rattle.std.specs.Prelude.{if◌then◌else◌}
use Rattle.scasp_num.specs.Arithmetic.{signed}
use Rattle.scasp_num.proofs.Numbers.{lt_ltb}
use Rattle.scasp_answers_terms.specs.Tokens.View.{first_token}
use Rattle.scasp_answers_terms.specs.Tokens.Tokens.{Token, variable, digits, star}
use Rattle.scasp_answers_terms.specs.declared.tokens.stop.Stop.{Stop}
use Rattle.scasp_answers_lines.specs.declared.rows.sums.Then.{Then}
use Rattle.scasp_answers_lines.specs.Rows.Inside.{with_summands, Goes}

pub made-summand : (before : List Coeff) (k : Coeff) (read : Parsed Sum) → made (with_summands before) (made (with_summand k) read) ≡ made (with_summands (before ++ k ∷ [])) read
made-summand before k None = refl
made-summand before k (Some r) = ap (λ ks. Some ((ks, r.0.1), r.1)) (sym (append_assoc before (k ∷ []) r.0.0))

-- the part of a sum that is read does the same where the sum is told otherwise
pub Goes-same : (before : List Coeff) (read other : Parsed Sum) (r : Result Then Stop) (ks : List Coeff) (ts : List Token) → other ≡ read → Goes before read r ks ts → Goes before other r ks ts
Goes-same before read other r ks ts e h = subst (λ m. Goes before m r ks ts) (sym e) h

pub made-none : (read : Parsed Sum) → made (with_summands []) read ≡ read
made-none None = refl
made-none (Some r) = refl

first-is : (ts : List Token) (u : Token) → first_token ts ≡ Some u → ts ≡ u ∷ drop 1 ts
first-is [] u e = cc
first-is (t ∷ ts) u e = let same : t ≡ u = cc in ap (λ x. x ∷ ts) same

pub part-variable : (s : Bool) (x : ℕ) (ts rest : List Token) → first_token ts ≡ Some (variable x) → rest ≡ drop 1 ts → more_signed s ts ≡ made (with_summand (summand x (signed s 1))) (more_at rest)
part-variable s x ts rest e r =
    ap (more_signed s) (first-is ts (variable x) e) ∙ ap (λ l. made (with_summand (summand x (signed s 1))) (more_at l)) (sym r)

pub part-star : (s : Bool) (n : ℕ) (ts rest : List Token) → first_token ts ≡ Some star → rest ≡ drop 1 ts → more_signed s (digits n ∷ ts) ≡ more_signed s (digits n ∷ star ∷ rest)
part-star s n ts rest e r = ap (λ l. more_signed s (digits n ∷ l)) (first-is ts star e ∙ ap (λ l. star ∷ l) (sym r))

pub part-multiple : (s : Bool) (n x : ℕ) (ts rest : List Token) → first_token ts ≡ Some (variable x) → 1 < n → rest ≡ drop 1 ts
    → more_signed s (digits n ∷ star ∷ ts) ≡ made (with_summand (summand x (signed s n))) (more_at rest)
part-multiple s n x ts rest e h r =
    let t : nat_lt 1 n ≡ true = lt_ltb h in
    ap (λ l. more_signed s (digits n ∷ star ∷ l)) (first-is ts (variable x) e)
    ∙ ap (λ (b : Bool). if b then made (with_summand (summand x (signed s n))) (more_at (drop 1 ts)) else None) t
    ∙ ap (λ l. made (with_summand (summand x (signed s n))) (more_at l)) (sym r)
