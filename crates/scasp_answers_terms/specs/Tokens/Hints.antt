-- Reading hints.
use Rattle.std.specs.Prelude.{ℕ, ◌==◌, ℤ, pos, neg_ℤ, List, [], ◌∷◌, length, codes, if◌then◌else◌, ◌&&◌, ◌^◌, None, Some}
use Rattle.scasp_num.specs.declared.hints.Step.{Step}
use Rattle.scasp_syntax.specs.declared.hint.Hint.{Hint}
use Rattle.scasp_syntax.specs.declared.hint.Hint.TheVariants as hint
use Rattle.scasp_answers_terms.specs.Tokens.Bounds.{is_count, bounded_integer}
use Rattle.scasp_answers_terms.specs.Tokens.Tokens.{Token, digits, minus, comma, sign}
use Rattle.scasp_answers_terms.specs.Tokens.Readers.{Parsed, made, keyed, both, between, separated_within, number_at, Form, form, by_form, nothing_more}

-- `7`, `-7`
abbrev pub integer_at : List Token → Parsed ℤ
integer_at (digits n ∷ ts) = Some (bounded_integer (pos n), ts)
integer_at (minus ∷ digits n ∷ ts) = if n == 0 then None else Some (bounded_integer (neg_ℤ (pos n)), ts)
integer_at _ = None

-- `a*p`
abbrev pub multiple_at : List Token → Parsed (ℤ × ℕ)
multiple_at = both integer_at (codes "*") number_at

-- stands for each step with a number that is too large
abbrev pub unfit_step : Step
unfit_step = record { a = bounded_integer (pos (2 ^ 127)); p = 0; b = pos 0; q = 0 }

abbrev pub step_of : (ℤ × ℕ) × (ℤ × ℕ) → Step
step_of s =
    if is_count s.0.1 && is_count s.1.1
    then record { a = s.0.0; p = s.0.1; b = s.1.0; q = s.1.1 }
    else unfit_step

abbrev pub same_of : ℕ × List (List Step) → Hint
same_of s = if is_count s.0 then hint.Same s.0 s.1 else hint.Rows (unfit_step ∷ [])

-- `a*p+b*q`
abbrev pub step_at : List Token → Parsed Step
step_at ts = made step_of (both multiple_at (codes "+") multiple_at ts)

abbrev pub steps_at : List Token → Parsed (List Step)
steps_at ts = separated_within (length ts) comma step_at ts

-- lists of steps with `;` between them
abbrev pub step_lists_at : List Token → Parsed (List (List Step))
step_lists_at ts = separated_within (length ts) (sign 59) steps_at ts

-- what stands behind `rows`
abbrev pub rows_at : List Token → Parsed Hint
rows_at ts = made hint.Rows (between (codes " [") steps_at (codes "]") ts)

-- what stands behind `same`
abbrev pub same_at : List Token → Parsed Hint
same_at = keyed (codes " ") (both number_at (codes " ") (between (codes "[") step_lists_at (codes "]"))) same_of

abbrev pub hint_forms : List (Form Hint)
hint_forms =
    form (codes "terms") (nothing_more hint.Terms)
    ∷ form (codes "rows") rows_at
    ∷ form (codes "same") same_at
    ∷ []

abbrev pub hint_at : List Token → Parsed Hint
hint_at = by_form hint_forms
