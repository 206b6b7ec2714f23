-- Small steps of a reader, computed.
use Rattle.std.specs.Prelude.{◌≡◌, ℕ, List, [], ◌∷◌, replicate, codes, Option, None, Some, Result, Ok, Err, pos, option_map}
use Rattle.std.proofs.Common.{refl}
use Rattle.scasp_num.specs.Gcd.{gcd, gcd_within}
use Rattle.scasp_num.specs.Arithmetic.{number, lowest, quotient_of, product_of}
use Rattle.scasp_syntax.specs.Tm.{Tm, var, num, app, nil, cons}
use Rattle.scasp_reader_tokens.specs.Numbers.{literal_value}
use Rattle.scasp_reader_tokens.specs.Tokens.{tokens_of}
use Rattle.scasp_reader_terms.specs.declared.fault.Fault.{Fault}
use Rattle.scasp_reader_terms.specs.declared.fault.Count.TheVariants as count
use Rattle.scasp_reader_terms.specs.declared.fault.Kind.TheVariants as kind
use Rattle.scasp_reader_terms.specs.Faults.{fault_at}
use Rattle.scasp_reader_terms.specs.Steps.{State, start}
use Rattle.scasp_reader_terms.specs.Names.{variable_at}
use Rattle.scasp_reader_terms.specs.Constants.{constant}
use Rattle.scasp_reader_terms.specs.Terms.{term}

abbrev reader_of : List ℕ → State
reader_of text = start (tokens_of text) []

abbrev value_of : {A : Type 0} → Result (A × State) Fault → Option A
value_of (Ok x) = Some x.0
value_of (Err f) = None

-- the fault that was noted, or that stopped the reader
abbrev fault_of : {A : Type 0} → Result (A × State) Fault → Option Fault
fault_of (Ok x) = x.1.fault
fault_of (Err f) = Some f

a_fraction : value_of (constant (reader_of (codes "6/8."))) ≡ option_map num (number (pos 3) (pos 4))
unfolding tokens_of literal_value lowest gcd gcd_within quotient_of product_of
a_fraction = refl

a_zero_divisor : fault_of (constant (reader_of (codes "2/0 = X"))) ≡ Some (fault_at 2 kind.Expected)
unfolding tokens_of literal_value lowest gcd gcd_within
a_zero_divisor = refl

a_large_number : fault_of (constant (reader_of (codes "170141183460469231731687303715884105728"))) ≡ Some (fault_at 0 kind.NumberTooLarge)
unfolding tokens_of literal_value
a_large_number = refl

a_name : fault_of (constant (reader_of (codes "- a"))) ≡ Some (fault_at 2 kind.Expected)
unfolding tokens_of
a_name = refl

a_sign_of_prolog : fault_of (constant (reader_of (codes "->"))) ≡ Some (fault_at 0 kind.Unsupported)
unfolding tokens_of
a_sign_of_prolog = refl

a_bar_outside_of_lists : fault_of (constant (reader_of (codes "|"))) ≡ Some (fault_at 0 kind.Unsupported)
unfolding tokens_of
a_bar_outside_of_lists = refl

abbrev clause_with : List (List ℕ) → State
clause_with variables = record (start [] []) { variables = variables }

a_known_variable : value_of (variable_at 7 (codes "Y") (clause_with (codes "X" ∷ codes "Y" ∷ []))) ≡ Some 1
a_known_variable = refl

an_anonymous_variable : value_of (variable_at 7 (codes "_") (clause_with (codes "_" ∷ codes "Y" ∷ []))) ≡ Some 2
an_anonymous_variable = refl

abbrev so_many : ℕ → State
so_many n = clause_with (replicate n (codes "_"))

the_last_variable_within_the_limit : fault_of (variable_at 7 (codes "X") (so_many 63)) ≡ None
the_last_variable_within_the_limit = refl

a_variable_too_many : fault_of (variable_at 7 (codes "X") (so_many 64)) ≡ Some (fault_at 7 (kind.Limit count.Variables))
a_variable_too_many = refl

a_variable_past_the_limit_has_its_number : value_of (variable_at 7 (codes "X") (so_many 127)) ≡ Some 127
a_variable_past_the_limit_has_its_number = refl

variables_past_all_numbers_share_the_last : value_of (variable_at 7 (codes "X") (so_many 128)) ≡ Some 127
variables_past_all_numbers_share_the_last = refl

-- ---- terms

abbrev a_term : ℕ → List ℕ → Result (Tm × State) Fault
a_term room text = term room (reader_of text)

a_list : value_of (a_term 2 (codes "f([X,Y|Z],X).")) ≡ Some (app 0 (cons (app 1 (cons (var 0) (cons (app 1 (cons (var 1) (cons (var 2) nil))) nil))) (cons (var 0) nil)))
unfolding tokens_of term
a_list = refl

a_bracket_too_many : fault_of (a_term 2 (codes "f(g(h(a)))")) ≡ Some (fault_at 5 (kind.Limit count.Depth))
unfolding tokens_of term
a_bracket_too_many = refl

no_argument : fault_of (a_term 2 (codes "f()")) ≡ Some (fault_at 2 kind.Expected)
unfolding tokens_of term
no_argument = refl

two_bars : fault_of (a_term 2 (codes "[a|b|c]")) ≡ Some (fault_at 4 kind.Expected)
unfolding tokens_of term
two_bars = refl

a_bar_in_a_bracket : fault_of (a_term 2 (codes "[f(a|b)]")) ≡ Some (fault_at 4 kind.Unsupported)
unfolding tokens_of term
a_bar_in_a_bracket = refl
