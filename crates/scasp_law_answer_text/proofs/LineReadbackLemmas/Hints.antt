-- Hints are read back.
use Rattle.std.proofs.Common.{◌≡◌, ℕ, zero, suc, ◌+◌, ◌<◌, ◌≤◌, Bool, true, false, ◌&&◌, ◌==◌, List, [], ◌∷◌, ◌++◌, length, codes, decimal, ℤ, pos, negsuc, Option, None, Some, refl, sym, ap, ◌∙◌, arith, append_assoc}
use Rattle.std.specs.Prelude.{if◌then◌else◌, option_map}
use Rattle.std.specs.Fmt.{signed_decimal}
use Rattle.std.specs.List.{list_all}
use Rattle.std.proofs.lemmas.Bool.{and_parts, false≢true}
use Rattle.std.proofs.lemmas.Bool.Decides.{nat_tests}
use Rattle.scasp_num.specs.Arithmetic.{◌>>=◌, in_range}
use Rattle.scasp_num.specs.declared.hints.Step.{Step}
use Rattle.scasp_syntax.specs.declared.hint.Hint.{Hint}
use Rattle.scasp_syntax.specs.declared.hint.Hint.TheVariants as hint
use Rattle.scasp_cert.specs.Text.Hints.{step_text, steps_text, step_lists_text, hint_text}
use Rattle.scasp_law_program_text.specs.Readback.Endings.{ends_name}
use Rattle.scasp_answers_terms.specs.Tokens.Tokens.{Token, word, digits, minus, plus, star, comma, bracket, unbracket, sign, tokens_in}
use Rattle.scasp_answers_terms.specs.Tokens.Readers.{Parsed, made, both, past, past_text, until, separated_within, number_at}
use Rattle.scasp_answers_terms.specs.Tokens.Bounds.{is_count, bounded_integer, step_fits, hint_fits}
use Rattle.scasp_answers_terms.specs.Tokens.Hints.{unfit_step, integer_at, multiple_at, step_of, same_of, step_at, steps_at, step_lists_at, rows_at, same_at, hint_at}
use Rattle.scasp_law_answer_text.specs.LineReadback.Endings.{ends_part}
use Rattle.scasp_law_answer_text.specs.LineReadback.Writable.{is_some, is_hint}
use Rattle.scasp_law_answer_text.proofs.LineReadbackLemmas.Fronts.{EndsDigits, ends-digits, minus-read, plus-read, star-read, comma-read, unbracket-read}
use Rattle.scasp_law_answer_text.proofs.LineReadbackLemmas.Words.{word-read}
use Rattle.scasp_law_answer_text.proofs.LineReadbackLemmas.Numerals.{digits-read}
use Rattle.scasp_law_answer_text.proofs.LineReadbackLemmas.Leaves.{integer-below, count-below}
use Rattle.scasp_law_answer_text.proofs.LineReadbackLemmas.Rows.{bounded-same}
use Rattle.scasp_law_answer_text.proofs.LineReadbackLemmas.Readings.{both-reads}

-- ---- the tokens of steps, and those behind them

abbrev integer_and : ℤ → List Token → List Token
integer_and (pos n) ts = digits n ∷ ts
integer_and (negsuc n) ts = minus ∷ digits (suc n) ∷ ts

abbrev multiple_and : ℤ → ℕ → List Token → List Token
multiple_and z p ts = integer_and z (star ∷ digits p ∷ ts)

abbrev step_and : Step → List Token → List Token
step_and s ts = multiple_and s.a s.p (plus ∷ multiple_and s.b s.q ts)

-- behind a step
abbrev more_and : List Step → List Token → List Token
more_and [] ts = ts
more_and (s ∷ ss) ts = comma ∷ step_and s (more_and ss ts)

abbrev steps_and : List Step → List Token → List Token
steps_and [] ts = ts
steps_and (s ∷ ss) ts = step_and s (more_and ss ts)

-- behind a list of steps
abbrev lists_and : List (List Step) → List Token → List Token
lists_and [] ts = ts
lists_and (l ∷ ls) ts = sign 59 ∷ steps_and l (lists_and ls ts)

integer-tokens : (z : ℤ) (rest : List ℕ) → in_range z ≡ true → ends_part rest ≡ true → tokens_in (signed_decimal z ++ rest) ≡ integer_and z (tokens_in rest)
integer-tokens (pos n) rest h end = digits-read n rest (integer-below n h) (ends-digits rest end)
integer-tokens (negsuc n) rest h end =
    minus-read (decimal (suc n) ++ rest) ∙ ap (λ ts. minus ∷ ts) (digits-read (suc n) rest (integer-below (suc n) h) (ends-digits rest end))

multiple-tokens : (z : ℤ) (p : ℕ) (rest : List ℕ) → in_range z ≡ true → is_count p ≡ true → ends_part rest ≡ true
    → tokens_in (signed_decimal z ++ (42 ∷ (decimal p ++ rest))) ≡ multiple_and z p (tokens_in rest)
multiple-tokens z p rest hz hp end =
    integer-tokens z (42 ∷ (decimal p ++ rest)) hz refl
    ∙ ap (integer_and z) (star-read (decimal p ++ rest) ∙ ap (λ ts. star ∷ ts) (digits-read p rest (count-below p hp) (ends-digits rest end)))

step-parts : (s : Step) → step_fits s ≡ true → (in_range s.a ≡ true) × (is_count s.p ≡ true) × (in_range s.b ≡ true) × (is_count s.q ≡ true)
step-parts s e =
    let p1 = and_parts (in_range s.a && is_count s.p && in_range s.b) (is_count s.q) e in
    let p2 = and_parts (in_range s.a && is_count s.p) (in_range s.b) p1.0 in
    let p3 = and_parts (in_range s.a) (is_count s.p) p2.0 in (p3.0, p3.1, p2.1, p1.1)

step-grouped : (a x p y b q rest : List ℕ) → ((((((a ++ x) ++ p) ++ y) ++ b) ++ x) ++ q) ++ rest ≡ a ++ (x ++ (p ++ (y ++ (b ++ (x ++ (q ++ rest))))))
step-grouped a x p y b q rest = simp append_assoc

step-tokens : (s : Step) (rest : List ℕ) → step_fits s ≡ true → ends_part rest ≡ true → tokens_in (step_text s ++ rest) ≡ step_and s (tokens_in rest)
unfolding step_text
step-tokens s rest f end =
    let h = step-parts s f in
    let second = signed_decimal s.b ++ (42 ∷ (decimal s.q ++ rest)) in
    ap tokens_in (step-grouped (signed_decimal s.a) (codes "*") (decimal s.p) (codes "+") (signed_decimal s.b) (decimal s.q) rest)
    ∙ multiple-tokens s.a s.p (43 ∷ second) h.0 h.1 refl
    ∙ ap (multiple_and s.a s.p) (plus-read second ∙ ap (λ ts. plus ∷ ts) (multiple-tokens s.b s.q rest h.2 h.3 end))

more-ends : (ss : List Step) (rest : List ℕ) → ends_part rest ≡ true → ends_part (steps_text false ss ++ rest) ≡ true
more-ends [] rest end = end
more-ends (s ∷ ss) rest end = refl

more-tokens : (ss : List Step) (rest : List ℕ) → list_all step_fits ss ≡ true → ends_part rest ≡ true → tokens_in (steps_text false ss ++ rest) ≡ more_and ss (tokens_in rest)
more-tokens [] rest f end = refl
more-tokens (s ∷ ss) rest f end =
    let fs = and_parts (step_fits s) (list_all step_fits ss) f in
    ap (λ bytes. tokens_in (44 ∷ bytes)) (append_assoc (step_text s) (steps_text false ss) rest)
    ∙ comma-read (step_text s ++ (steps_text false ss ++ rest))
    ∙ ap (λ ts. comma ∷ ts) (step-tokens s (steps_text false ss ++ rest) fs.0 (more-ends ss rest end) ∙ ap (step_and s) (more-tokens ss rest fs.1 end))

steps-tokens : (ss : List Step) (rest : List ℕ) → list_all step_fits ss ≡ true → ends_part rest ≡ true → tokens_in (steps_text true ss ++ rest) ≡ steps_and ss (tokens_in rest)
steps-tokens [] rest f end = refl
steps-tokens (s ∷ ss) rest f end =
    let fs = and_parts (step_fits s) (list_all step_fits ss) f in
    ap tokens_in (append_assoc (step_text s) (steps_text false ss) rest)
    ∙ step-tokens s (steps_text false ss ++ rest) fs.0 (more-ends ss rest end) ∙ ap (step_and s) (more-tokens ss rest fs.1 end)

semicolon-read : (rest : List ℕ) → tokens_in (59 ∷ rest) ≡ sign 59 ∷ tokens_in rest
unfolding tokens_in
semicolon-read rest = refl

lists-ends : (ls : List (List Step)) (rest : List ℕ) → ends_part rest ≡ true → ends_part (step_lists_text false ls ++ rest) ≡ true
lists-ends [] rest end = end
lists-ends (l ∷ ls) rest end = refl

more_lists-tokens : (ls : List (List Step)) (rest : List ℕ) → list_all (list_all step_fits) ls ≡ true → ends_part rest ≡ true → tokens_in (step_lists_text false ls ++ rest) ≡ lists_and ls (tokens_in rest)
more_lists-tokens [] rest f end = refl
more_lists-tokens (l ∷ ls) rest f end =
    let fs = and_parts (list_all step_fits l) (list_all (list_all step_fits) ls) f in
    ap (λ bytes. tokens_in (59 ∷ bytes)) (append_assoc (steps_text true l) (step_lists_text false ls) rest)
    ∙ semicolon-read (steps_text true l ++ (step_lists_text false ls ++ rest))
    ∙ ap (λ ts. sign 59 ∷ ts) (steps-tokens l (step_lists_text false ls ++ rest) fs.0 (lists-ends ls rest end) ∙ ap (steps_and l) (more_lists-tokens ls rest fs.1 end))

-- ---- what is read of them

not-zero : (n : ℕ) → (suc n == 0) ≡ false
not-zero n = grind (arith, nat_tests)

integer-value : (z : ℤ) (ts : List Token) → in_range z ≡ true → integer_at (integer_and z ts) ≡ Some (z, ts)
integer-value (pos n) ts h = ap (λ z. Some (z, ts)) (bounded-same (pos n) h)
integer-value (negsuc n) ts h = ap (λ b. if b then None else Some (bounded_integer (negsuc n), ts)) (not-zero n) ∙ ap (λ z. Some (z, ts)) (bounded-same (negsuc n) h)

past-star : (ts : List Token) → past_text (codes "*") (star ∷ ts) ≡ Some ts
unfolding past_text tokens_in
past-star ts = refl

past-plus : (ts : List Token) → past_text (codes "+") (plus ∷ ts) ≡ Some ts
unfolding past_text tokens_in
past-plus ts = refl

multiple-value : (z : ℤ) (p : ℕ) (ts : List Token) → in_range z ≡ true → multiple_at (multiple_and z p ts) ≡ Some ((z, p), ts)
multiple-value z p ts h =
    both-reads integer_at (codes "*") number_at (multiple_and z p ts) (star ∷ digits p ∷ ts) (digits p ∷ ts) ts z p (integer-value z (star ∷ digits p ∷ ts) h) (past-star (digits p ∷ ts)) refl

step-value : (s : Step) (ts : List Token) → step_fits s ≡ true → step_at (step_and s ts) ≡ Some (s, ts)
step-value s ts f =
    let h = step-parts s f in
    let second = multiple_and s.b s.q ts in
    ap (made step_of)
    (both-reads multiple_at (codes "+") multiple_at (step_and s ts) (plus ∷ second) second ts (s.a, s.p) (s.b, s.q) (multiple-value s.a s.p (plus ∷ second) h.0) (past-plus second)
    (multiple-value s.b s.q ts h.2))
    ∙ counted s h.1 h.3
  where
    counted : (s : Step) → is_count s.p ≡ true → is_count s.q ≡ true → ◌≡◌ {A = Parsed Step} (Some (step_of ((s.a, s.p), (s.b, s.q)), ts)) (Some (s, ts))
    counted s p q = rw (p, q) refl

-- one thing more takes a token at least
longer : (s : Step) (ts : List Token) → length ts < length (step_and s ts)
longer s ts = by s.a s.b
  where
    by : (a b : ℤ) → length ts < length (multiple_and a s.p (plus ∷ multiple_and b s.q ts))
    by (pos m) (pos n) = omega arith
    by (pos m) (negsuc n) = omega arith
    by (negsuc m) (pos n) = omega arith
    by (negsuc m) (negsuc n) = omega arith

more-longer : (ss : List Step) (ts : List Token) → length ss + length ts ≤ length (more_and ss ts)
more-longer [] ts = omega arith
more-longer (s ∷ ss) ts = omega (arith, longer s (more_and ss ts), more-longer ss ts)

abbrev behind_one : {A : Type 0} → ℕ → Token → (List Token → Parsed A) → A × List Token → Parsed (List A)
behind_one n separator reads r =
    elim (past (separator ∷ []) r.1) [
      | None ↦ Some (r.0 ∷ [], r.1)
      | Some rest ↦ made (λ more. r.0 ∷ more) (separated_within n separator reads rest)
    ]

-- the tokens behind steps: no comma
steps-value : (k : ℕ) (s : Step) (ss : List Step) (ts : List Token) → length ss < k → step_fits s ≡ true → list_all step_fits ss ≡ true → past (comma ∷ []) ts ≡ None
    → separated_within k comma step_at (step_and s (more_and ss ts)) ≡ Some (s ∷ ss, ts)
steps-value zero s ss ts n f fs e = absurd (omega (arith, n))
steps-value (suc k) s [] ts n f fs e =
    ap (λ o. o >>= behind_one k comma step_at) (step-value s ts f)
    ∙ ap (λ o. elim o [ None ↦ Some (s ∷ [], ts) | Some rest ↦ made (λ more. s ∷ more) (separated_within k comma step_at rest) ]) e
steps-value (suc k) s (u ∷ us) ts n f fs e =
    let parts = and_parts (step_fits u) (list_all step_fits us) fs in
    ap (λ o. o >>= behind_one k comma step_at) (step-value s (comma ∷ step_and u (more_and us ts)) f)
    ∙ ap (made (λ more. s ∷ more)) (steps-value k u us ts (omega (arith, n)) parts.0 parts.1 e)

steps_at-value : (l : List Step) (ts : List Token) → is_some l ≡ true → list_all step_fits l ≡ true → past (comma ∷ []) ts ≡ None → steps_at (steps_and l ts) ≡ Some (l, ts)
steps_at-value [] ts some f e = absurd (false≢true some)
steps_at-value (s ∷ ss) ts some f e =
    let parts = and_parts (step_fits s) (list_all step_fits ss) f in
    let enough : length ss < length (step_and s (more_and ss ts)) = omega (arith, longer s (more_and ss ts), more-longer ss ts) in
    steps-value (length (step_and s (more_and ss ts))) s ss ts enough parts.0 parts.1 e

-- ---- lists of steps

steps-longer : (l : List Step) (ts : List Token) → length ts ≤ length (steps_and l ts)
steps-longer [] ts = omega arith
steps-longer (s ∷ ss) ts = omega (arith, longer s (more_and ss ts), more-longer ss ts)

some-longer : (l : List Step) (ts : List Token) → is_some l ≡ true → length ts < length (steps_and l ts)
some-longer [] ts some = absurd (false≢true some)
some-longer (s ∷ ss) ts some = omega (arith, longer s (more_and ss ts), more-longer ss ts)

lists-longer : (ls : List (List Step)) (ts : List Token) → length ls + length ts ≤ length (lists_and ls ts)
lists-longer [] ts = omega arith
lists-longer (l ∷ ls) ts = omega (arith, steps-longer l (lists_and ls ts), lists-longer ls ts)

no-comma : (ls : List (List Step)) (ts : List Token) → past (comma ∷ []) (lists_and ls (unbracket ∷ ts)) ≡ None
no-comma [] ts = refl
no-comma (l ∷ ls) ts = refl

lists-value : (k : ℕ) (l : List Step) (ls : List (List Step)) (ts : List Token) → length ls < k → is_some l ≡ true → list_all is_some ls ≡ true → list_all step_fits l ≡ true → list_all (list_all step_fits) ls ≡ true
    → separated_within k (sign 59) steps_at (steps_and l (lists_and ls (unbracket ∷ ts))) ≡ Some (l ∷ ls, unbracket ∷ ts)
lists-value zero l ls ts n some somes f fs = absurd (omega (arith, n))
lists-value (suc k) l [] ts n some somes f fs = ap (λ o. o >>= behind_one k (sign 59) steps_at) (steps_at-value l (unbracket ∷ ts) some f refl)
lists-value (suc k) l (m ∷ ms) ts n some somes f fs =
    let ss = and_parts (is_some m) (list_all is_some ms) somes in
    let parts = and_parts (list_all step_fits m) (list_all (list_all step_fits) ms) fs in
    ap (λ o. o >>= behind_one k (sign 59) steps_at) (steps_at-value l (lists_and (m ∷ ms) (unbracket ∷ ts)) some f refl)
    ∙ ap (made (λ more. l ∷ more)) (lists-value k m ms ts (omega (arith, n)) ss.0 ss.1 parts.0 parts.1)

step_lists_at-value : (ls : List (List Step)) (rest : List ℕ) → is_some ls ≡ true → list_all is_some ls ≡ true → list_all (list_all step_fits) ls ≡ true
    → step_lists_at (tokens_in (step_lists_text true ls ++ (93 ∷ rest))) ≡ Some (ls, unbracket ∷ tokens_in rest)
step_lists_at-value [] rest some somes fs = absurd (false≢true some)
step_lists_at-value (l ∷ ls) rest some somes fs =
    let ss = and_parts (is_some l) (list_all is_some ls) somes in
    let parts = and_parts (list_all step_fits l) (list_all (list_all step_fits) ls) fs in
    let behind = lists_and ls (unbracket ∷ tokens_in rest) in
    let enough : length ls < length (steps_and l behind) = omega (arith, some-longer l behind ss.0, lists-longer ls (unbracket ∷ tokens_in rest)) in
    ap step_lists_at
    (ap tokens_in (append_assoc (steps_text true l) (step_lists_text false ls) (93 ∷ rest))
    ∙ steps-tokens l (step_lists_text false ls ++ (93 ∷ rest)) parts.0 (lists-ends ls (93 ∷ rest) refl)
    ∙ ap (steps_and l) (more_lists-tokens ls (93 ∷ rest) parts.1 refl ∙ ap (lists_and ls) (unbracket-read rest)))
    ∙ lists-value (length (steps_and l behind)) l ls (tokens_in rest) enough ss.0 ss.1 parts.0 parts.1

-- ---- hints

past-unbracket : (ts : List Token) → past_text (codes "]") (unbracket ∷ ts) ≡ Some ts
unfolding past_text tokens_in
past-unbracket ts = refl

terms-front : (ts : List Token) → hint_at (word (codes "terms") ∷ ts) ≡ Some (hint.Terms, ts)
terms-front ts = refl

rows-front : (bytes : List ℕ) → hint_at (tokens_in (codes "rows [" ++ bytes)) ≡ made hint.Rows (until (codes "]") steps_at (tokens_in bytes))
unfolding past_text tokens_in
rows-front bytes = refl

same-front : (bytes : List ℕ) → hint_at (tokens_in (codes "same " ++ bytes)) ≡ made same_of (both number_at (codes " ") (λ ts. past_text (codes "[") ts >>= until (codes "]") step_lists_at) (tokens_in bytes))
unfolding past_text tokens_in
same-front bytes = refl

same-blank : (bytes : List ℕ) → past_text (codes " ") (tokens_in (codes " [" ++ bytes)) ≡ Some (bracket ∷ tokens_in bytes)
unfolding past_text tokens_in
same-blank bytes = refl

same-bracket : (ts : List Token) → past_text (codes "[") (bracket ∷ ts) ≡ Some ts
unfolding past_text tokens_in
same-bracket ts = refl

grouped : (a b rest : List ℕ) → (a ++ b) ++ rest ≡ a ++ (b ++ rest)
grouped a b rest = append_assoc a b rest

same-grouped : (n b l c rest : List ℕ) → (((n ++ b) ++ l) ++ c) ++ rest ≡ n ++ (b ++ (l ++ (c ++ rest)))
same-grouped n b l c rest = simp append_assoc

pub hint-read : (h : Hint) (rest : List ℕ) → is_hint h ≡ true → hint_fits h ≡ true → ends_name rest ≡ true → hint_at (tokens_in (hint_text h ++ rest)) ≡ Some (h, tokens_in rest)
hint-read hint.Terms rest i f end = ap hint_at (word-read (codes "terms") rest refl end) ∙ terms-front (tokens_in rest)
hint-read (hint.Rows steps) rest i f end =
    let text = steps_text true steps in
    ap (λ bytes. hint_at (tokens_in (codes "rows [" ++ bytes))) (grouped text (codes "]") rest)
    ∙ rows-front (text ++ (93 ∷ rest))
    ∙ ap (λ ts. made hint.Rows (until (codes "]") steps_at ts)) (steps-tokens steps (93 ∷ rest) f refl ∙ ap (steps_and steps) (unbracket-read rest))
    ∙ ap (λ o. made hint.Rows (o >>= (λ r. option_map (λ rest. (r.0, rest)) (past_text (codes "]") r.1)))) (steps_at-value steps (unbracket ∷ tokens_in rest) i f refl)
    ∙ ap (λ o. made hint.Rows (option_map (λ rest. (steps, rest)) o)) (past-unbracket (tokens_in rest))
hint-read (hint.Same n lists) rest i f end =
    let is = and_parts (is_some lists) (list_all is_some lists) i in
    let fs = and_parts (is_count n) (list_all (list_all step_fits) lists) f in
    let text = step_lists_text true lists in
    let behind = text ++ (93 ∷ rest) in
    ap (λ bytes. hint_at (tokens_in (codes "same " ++ bytes))) (same-grouped (decimal n) (codes " [") text (codes "]") rest)
    ∙ same-front (decimal n ++ (codes " [" ++ behind))
    ∙ ap (made same_of)
    (both-reads number_at (codes " ") (λ ts. past_text (codes "[") ts >>= until (codes "]") step_lists_at) (tokens_in (decimal n ++ (codes " [" ++ behind))) (tokens_in (codes " [" ++ behind)) (bracket ∷ tokens_in behind) (tokens_in rest) n lists
    (ap number_at (digits-read n (codes " [" ++ behind) (count-below n fs.0) (ends-digits (codes " [" ++ behind) refl)))
    (same-blank behind)
    (ap (λ o. o >>= until (codes "]") step_lists_at) (same-bracket (tokens_in behind))
    ∙ ap (λ o. o >>= (λ r. option_map (λ rest. (r.0, rest)) (past_text (codes "]") r.1))) (step_lists_at-value lists rest is.0 is.1 fs.1)
    ∙ ap (option_map (λ rest. (lists, rest))) (past-unbracket (tokens_in rest))))
    ∙ ap (λ b. Some ((if b then hint.Same n lists else hint.Rows (unfit_step ∷ [])), tokens_in rest)) fs.0
