-- A term that is read of a text, and styles for what is then known; one that is none.
use Rattle.std.specs.Prelude.{◌≡◌, ℕ, zero, suc, Bool, true, false, List, [], ◌∷◌, length, codes, unwrap_or, slice_get, Option, None, Some, Result, Ok, Err}
use Rattle.std.proofs.Common.{refl, ap, true≢false, ◌∙◌}
use Rattle.std.proofs.Math.Nat.{le_refl}
use Rattle.scasp_reader_tokens.specs.declared.token.Token.TheVariants as token
use Rattle.scasp_reader_tokens.specs.Tokens.{placed, tokens_of}
use Rattle.scasp_name.specs.Texts.{list_names}
use Rattle.scasp_syntax.specs.Tm.{Tm, var, app, nil, cons}
use Rattle.scasp_reader_terms.specs.declared.fault.Count.TheVariants as count
use Rattle.scasp_reader_terms.specs.declared.fault.Fault.{Fault}
use Rattle.scasp_reader_terms.specs.declared.fault.Kind.TheVariants as kind
use Rattle.scasp_reader_terms.specs.Faults.{fault_at}
use Rattle.scasp_reader_terms.specs.Steps.{State, start}
use Rattle.scasp_reader_terms.specs.Terms.{term}
use Rattle.scasp_print_program.specs.Terms.{Style, variable_text, term_text}
use Rattle.scasp_law_program_text.specs.CompoundReadback.Styles.{is_anonymous}
use Rattle.scasp_law_program_text.specs.CompoundReadback.Fitting.{fits}
use Rattle.scasp_law_program_text.specs.CompoundReadback.Counting.{count as counted}
use Rattle.scasp_law_program_text.specs.TermFitting.Readers.{known, Covers}

-- f([X,_|Y],X), with the numbers of its variables
abbrev a_term : Tm
a_term = app 2 (cons (app 1 (cons (var 0) (cons (app 1 (cons (var 1) (cons (var 2) nil))) nil))) (cons (var 0) nil))

-- the reader behind it
abbrev reader : State
reader = record {
  tokens = placed 12 token.End ∷ [];
  is_behind_operand = true;
  is_in_list = false;
  names = codes "[]" ∷ codes "[|]" ∷ codes "f" ∷ [];
  variables = codes "X" ∷ codes "_" ∷ codes "Y" ∷ [];
  fault = None;
}

is_read : term 2 (start (tokens_of (codes "f([X,_|Y],X)")) list_names) ≡ Ok (a_term, reader)
unfolding term tokens_of
is_read = refl

-- in its own style
covers_itself : (k : Style) → Covers k k
covers_itself k = record { names = λ i text e. e; number = le_refl (length k.variables); named = λ x text e a. ap (λ o. is_anonymous (unwrap_or o [])) e ∙ a }

its_text : fits (known reader) 2 a_term ≡ true × (counted (known reader) 0 a_term ≡ Some 3) × (term_text (known reader) 2 a_term ≡ codes "f([X,_|Y],X)")
its_text = (refl, refl, refl)

-- as the term of a clause
abbrev numbered : Style
numbered = record { names = reader.names; variables = codes "V0" ∷ codes "V1" ∷ codes "V2" ∷ [] }

covers_numbered : Covers numbered (known reader)
covers_numbered = record { names = λ i text e. e; number = le_refl 3; named = named }
  where
    named : (x : ℕ) (text : List ℕ) → slice_get (known reader).variables x ≡ Some text → is_anonymous text ≡ false → is_anonymous (variable_text numbered x) ≡ false
    named zero text e a = refl
    named (suc zero) text e a = refl
    named (suc (suc zero)) text e a = refl
    named (suc (suc (suc x))) text e a = refl

its_numbered_text : counted numbered 0 a_term ≡ Some 3 × (term_text numbered 2 a_term ≡ codes "f([V0,V1|V2],V0)")
its_numbered_text = (refl, refl)

-- where X is `_` the second X would be another variable
abbrev unnamed : Style
unnamed = record { names = reader.names; variables = codes "_" ∷ codes "_" ∷ codes "Y" ∷ [] }

no_style : Covers unnamed (known reader) → ⊥
no_style c = true≢false (c.named 0 (codes "X") refl refl)

it_is_not_counted : counted unnamed 0 a_term ≡ None
it_is_not_counted = refl

-- ---- a fault that was noted

-- one argument too many
abbrev too_many : Result (Tm × State) Fault
too_many = term 1 (start (tokens_of (codes "f(a,a,a,a,a,a,a,a,a,a,a,a,a,a,a,a,a,a,a,a,a,a,a,a,a,a,a,a,a,a,a,a,a)")) list_names)

abbrev fault_of : Result (Tm × State) Fault → Option Fault
fault_of (Ok x) = x.1.fault
fault_of (Err f) = None

-- it fits as the limits tell, where it was read
abbrev is_fit : Result (Tm × State) Fault → Bool
is_fit (Ok x) = fits (known x.1) 1 x.0
is_fit (Err f) = false

it_is_noted : fault_of too_many ≡ Some (fault_at 66 (kind.Limit count.Arity)) × (is_fit too_many ≡ false)
unfolding term tokens_of
it_is_noted = (refl, refl)
