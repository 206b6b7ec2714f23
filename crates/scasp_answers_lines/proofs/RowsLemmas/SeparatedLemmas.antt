-- One thing more of those that stand with a token between them.
use Rattle.std.proofs.Common.{◌≡◌, ℕ, zero, suc, ◌<◌, ◌≤◌, List, [], ◌∷◌, ◌++◌, length, Option, None, Some, refl, sym, ap, ◌∙◌, append_assoc, arith}
use Rattle.scasp_num.specs.Arithmetic.{◌>>=◌}
use Rattle.scasp_answers_terms.specs.Tokens.Tokens.{Token}
use Rattle.scasp_answers_terms.specs.Tokens.Readers.{Parsed, made, past, separated_within}
use Rattle.scasp_answers_lines.specs.Rows.Inside.{Remains}

behind-more : {A : Type 0} (before : List A) (x : A) (read : Parsed (List A)) → made (λ l. (before ++ x ∷ []) ++ l) read ≡ made (λ l. before ++ l) (made (λ l. x ∷ l) read)
behind-more before x None = refl
behind-more before x (Some r) = ap (λ l. Some (l, r.1)) (append_assoc before (x ∷ []) r.0)

module _ {A : Type 0} (separator : Token) (reads : List Token → Parsed A) where
  -- what is read behind the first thing, where the separator stands so
  abbrev by_past : A → List Token → (List Token → Parsed (List A)) → Option (List Token) → Parsed (List A)
  by_past x behind more p = elim p [ None ↦ Some (x ∷ [], behind) | Some rest ↦ made (λ l. x ∷ l) (more rest) ]

  step-past : (n : ℕ) (ts : List Token) (x : A) (behind : List Token) (p : Option (List Token)) → reads ts ≡ Some (x, behind) → past (separator ∷ []) behind ≡ p
      → separated_within (suc n) separator reads ts ≡ by_past x behind (separated_within n separator reads) p
  step-past n ts x behind p e f =
      ap (λ (o : Parsed A). o >>= (λ r. by_past r.0 r.1 (separated_within n separator reads) (past (separator ∷ []) r.1))) e
      ∙ ap (by_past x behind (separated_within n separator reads)) f

module _ {A : Type 0} (separator : Token) (reads : List Token → Parsed A) (before : List A) (whole : Parsed (List A)) (ts : List Token) where
  pub remains-more : (x : A) (behind rest : List Token) → Remains separator reads before whole ts → reads ts ≡ Some (x, behind) → length behind < length ts → past (separator ∷ []) behind ≡ Some rest → length rest ≤ length behind
      → Remains separator reads (before ++ x ∷ []) whole rest
  remains-more x behind rest r e h p l = by r.0 r.1 r.2
    where
      by : (n : ℕ) → length ts ≤ n → made (λ l. before ++ l) (separated_within n separator reads ts) ≡ whole → Remains separator reads (before ++ x ∷ []) whole rest
      by zero k w = absurd (omega arith)
      by (suc n) k w =
          let step : separated_within (suc n) separator reads ts ≡ made (λ l. x ∷ l) (separated_within n separator reads rest) = step-past separator reads n ts x behind (Some rest) e p in
          (n, omega arith, behind-more before x (separated_within n separator reads rest) ∙ ap (made (λ l. before ++ l)) (sym step) ∙ w)

  pub remains-last : (x : A) (behind : List Token) → Remains separator reads before whole ts → reads ts ≡ Some (x, behind) → length behind < length ts → past (separator ∷ []) behind ≡ None
      → whole ≡ Some (before ++ x ∷ [], behind)
  remains-last x behind r e h p = by r.0 r.1 r.2
    where
      by : (n : ℕ) → length ts ≤ n → made (λ l. before ++ l) (separated_within n separator reads ts) ≡ whole → whole ≡ Some (before ++ x ∷ [], behind)
      by zero k w = absurd (omega arith)
      by (suc n) k w =
          let step : separated_within (suc n) separator reads ts ≡ Some (x ∷ [], behind) = step-past separator reads n ts x behind None e p in
          sym w ∙ ap (made (λ l. before ++ l)) step

  pub remains-none : Remains separator reads before whole ts → reads ts ≡ None → whole ≡ None
  remains-none r e = by r.0 r.2
    where
      by : (n : ℕ) → made (λ l. before ++ l) (separated_within n separator reads ts) ≡ whole → whole ≡ None
      by zero w = sym w
      by (suc n) w =
          let step : separated_within (suc n) separator reads ts ≡ None = rw e refl in
          sym w ∙ ap (made (λ l. before ++ l)) step
