-- Sums as the code has them, and how reading one goes on behind a part.
use Rattle.std.specs.Prelude.{◌≡◌, ℕ, ◌+◌, ◌≤◌, List, [], ◌++◌, length, None, Some, Result, Ok, Err}
use Rattle.scasp_num.specs.Linear.{Linear}
use Rattle.scasp_num.specs.declared.linear.Coeff.{Coeff}
use Rattle.scasp_num.specs.declared.linear.Op.{Op}
use Rattle.scasp_answers_terms.specs.declared.tokens.stop.Stop.{Stop}
use Rattle.scasp_answers_terms.specs.declared.tokens.stop.Stop.TheVariants.{NoForm, Memory}
use Rattle.scasp_answers_terms.specs.Tokens.Tokens.{Token}
use Rattle.scasp_answers_terms.specs.Tokens.Readers.{Parsed, made, separated_within}
use Rattle.scasp_answers_terms.specs.Tokens.Rows as spec
use Rattle.scasp_answers_lines.specs.declared.rows.sums.Sum.{Sum}
use Rattle.scasp_answers_lines.specs.declared.rows.sums.Then.{Then}
use Rattle.scasp_answers_lines.specs.declared.rows.sums.Then.TheVariants.{More, Ended}

abbrev pub sum_of : Sum → spec.Sum
sum_of s = (s.coeffs.items, s.constant)

-- the row of the sum, in normal form or not
abbrev pub linear_of : Sum → Op → Linear
linear_of s o = spec.row_of (sum_of s) o

-- a sum, behind summands
abbrev pub with_summands : List Coeff → spec.Sum → spec.Sum
with_summands ks s = (ks ++ s.0, s.1)

-- what is read from here on
abbrev pub goes : Then → List Token → Parsed spec.Sum
goes (More negative) ts = spec.more_signed negative ts
goes (Ended constant) ts = Some (([], constant), ts)

-- Behind `before` the sum that is told is read; the code has read a part of it, has these summands and goes on so, or finds that it is none.
abbrev pub Goes : List Coeff → Parsed spec.Sum → Result Then Stop → List Coeff → List Token → Type 0
Goes before read (Ok then) ks ts = made (with_summands before) read ≡ made (with_summands ks) (goes then ts)
Goes before read (Err NoForm) ks ts = made (with_summands before) read ≡ None
Goes before read (Err Memory) ks ts = Unit {0}

-- the sum goes on, and behind what is left so many tokens at most
abbrev pub left : Then → List Token → ℕ
left (More negative) ts = length ts + 1
left (Ended constant) ts = 0

-- Behind these things, so many at most are left in the tokens, with what all are together.
abbrev pub Remains : {A : Type 0} → Token → (List Token → Parsed A) → List A → Parsed (List A) → List Token → Type 0
Remains separator reads before whole ts = (n : ℕ) × (length ts ≤ n) × (made (λ l. before ++ l) (separated_within n separator reads ts) ≡ whole)
