-- The levels of open brackets that the code has, as values, and how reading goes on from them.
use Rattle.std.specs.Prelude.{◌≡◌, ℕ, ◌+◌, Bool, true, false, List, [], ◌∷◌, length, map, reverse, None, Some, Result, Ok, Err}
use Rattle.scasp_syntax.specs.Tm.{Tm}
use Rattle.scasp_syntax.specs.View.{tm_of}
use Rattle.scasp_answers_terms.specs.declared.tokens.stop.Stop.{Stop}
use Rattle.scasp_answers_terms.specs.declared.tokens.stop.Stop.TheVariants.{NoForm, Memory}
use Rattle.scasp_answers_terms.specs.Tokens.Tokens.{Token, paren}
use Rattle.scasp_answers_terms.specs.Tokens.Readers.{Parsed}
use Rattle.scasp_answers_terms.specs.Tokens.Terms.{Bracket, call, elements, tail, called, wants, ends}
use Rattle.scasp_answers_terms.specs.declared.terms.levels.Bracket.{Bracket as ThisBracket}
use Rattle.scasp_answers_terms.specs.declared.terms.levels.Bracket.TheVariants as this
use Rattle.scasp_answers_terms.specs.declared.terms.levels.Levels.{Levels}
use Rattle.scasp_answers_terms.specs.declared.terms.levels.Next.{Next}
use Rattle.scasp_answers_terms.specs.declared.terms.levels.Next.TheVariants as next

abbrev pub bracket_of : ThisBracket → Bracket
bracket_of (this.Call f around) = call f (map tm_of around.items)
bracket_of (this.Elements around) = elements (map tm_of around.items)
bracket_of (this.Tail es around) = tail (map tm_of es.items) (map tm_of around.items)

-- the open brackets, innermost first
abbrev pub opens_of : Levels → List Bracket
opens_of l = reverse (map bracket_of l.opens.items)

-- the terms before on the innermost level
abbrev pub before_of : Levels → List Tm
before_of l = map tm_of l.before.items

-- what is read from here on
abbrev pub goes : (List ℕ → ℕ) → Next → List Bracket → List Tm → List Token → Parsed (List Tm)
goes place next.Wanted opens before ts = wants place opens before ts
goes place (next.Ended t) opens before ts = ends place opens before (Some (tm_of t)) ts
goes place next.Done opens before ts = Some (before, ts)

-- The code goes on from these levels and tokens as the reading told goes on, or that has no form. Want of memory is free.
abbrev pub Goes : (List ℕ → ℕ) → Parsed (List Tm) → Result Next Stop → Levels → List Token → Type 0
Goes place read (Ok n) levels ts = read ≡ goes place n (opens_of levels) (before_of levels) ts
Goes place read (Err NoForm) levels ts = read ≡ None
Goes place read (Err Memory) levels ts = Unit {0}

-- a name, with what stands behind it
abbrev pub named : (List ℕ → ℕ) → List Bracket → List Tm → ℕ → List Token → Parsed (List Tm)
named place opens before f (paren ∷ ts) = wants place (call f before ∷ opens) [] ts
named place opens before f ts = ends place opens before (called f []) ts

abbrev pub is_done : Next → Bool
is_done next.Wanted = false
is_done (next.Ended t) = false
is_done next.Done = true

-- how far it is at most to the end, in steps
abbrev pub left : Next → List Token → ℕ
left next.Wanted ts = length ts + 1
left (next.Ended t) ts = length ts + 1
left next.Done ts = 0
