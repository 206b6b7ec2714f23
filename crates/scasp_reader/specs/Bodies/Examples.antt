-- Bodies, computed.
use Rattle.std.specs.Prelude.{◌≡◌, ℕ, true, false, List, [], ◌∷◌, codes, Option, None, Some, Result, Ok, Err, pos, negsuc}
use Rattle.std.proofs.Common.{refl}
use Rattle.scasp_num.specs.declared.linear.Op.TheVariants as op
use Rattle.scasp_num.specs.Gcd.{gcd, gcd_within}
use Rattle.scasp_num.specs.Arithmetic.{lowest, sum_of, difference_of}
use Rattle.scasp_num.specs.Linear.{normal_form}
use Rattle.scasp_num.specs.Sums.{normal_of}
use Rattle.scasp_syntax.specs.Tm.{var, cons, nil}
use Rattle.scasp_syntax.specs.declared.clause.Item.{Item}
use Rattle.scasp_syntax.specs.declared.clause.Item.TheVariants.{Call, Equal, Differ, Linear}
use Rattle.scasp_syntax.specs.declared.term.Term.TheVariants.{Var, App}
use Rattle.scasp_reader_tokens.specs.Numbers.{literal_value}
use Rattle.scasp_reader_tokens.specs.Tokens.{tokens_of}
use Rattle.scasp_reader_terms.specs.declared.fault.Fault.{Fault}
use Rattle.scasp_reader_terms.specs.declared.fault.Kind.{Kind}
use Rattle.scasp_reader_terms.specs.declared.fault.Kind.TheVariants as kind
use Rattle.scasp_reader_terms.specs.Faults.{fault_at}
use Rattle.scasp_reader_terms.specs.Steps.{State, start}
use Rattle.scasp_reader_terms.specs.Terms.{term}
use Rattle.scasp_reader_expressions.specs.Expressions.{expression}
use Rattle.scasp_reader.specs.Bodies.Items.{item}
use Rattle.scasp_reader.specs.Bodies.Bodies.{body}

abbrev read : List ℕ → Result (List Item × State) Fault
read text = body (start (tokens_of text) [])

-- the fault that was noted, or that stopped the reader
abbrev fault_of : Result (List Item × State) Fault → Option Fault
fault_of (Ok x) = x.1.fault
fault_of (Err f) = Some f

abbrev items_of : Result (List Item × State) Fault → Option (List Item)
items_of (Ok x) = Some x.0
items_of (Err f) = None

abbrev Refused : List ℕ → ℕ → Kind → Type 0
Refused text at k = fault_of (read text) ≡ Some (fault_at at k)

calls : items_of (read (codes "-p(X), not q."))
    ≡ Some (Call (record { positive = true; atom = record { minus = true; name = 0; args = cons (var 0) nil } })
    ∷ Call (record { positive = false; atom = record { minus = false; name = 1; args = nil } }) ∷ [])
unfolding body item tokens_of term
calls = refl

equations : items_of (read (codes "X \\= f(X), a = Y.")) ≡ Some (Differ (Var 0) (App 0 (cons (var 0) nil)) ∷ Equal (App 1 nil) (Var 1) ∷ [])
unfolding body item tokens_of term
equations = refl

a_turned_relation : items_of (read (codes "X #> Y."))
    ≡ Some (Linear (record { vars = 0 ∷ 1 ∷ []; row = record { coeffs = record { x = 0; c = negsuc 0 } ∷ record { x = 1; c = pos 1 } ∷ []; constant = pos 0; op = op.Lt } }) ∷ [])
unfolding body item tokens_of term expression lowest gcd gcd_within sum_of difference_of normal_of normal_form
a_turned_relation = refl

a_name_as_operand : Refused (codes "p, a #> 3.") 3 kind.NotLinear
unfolding body item tokens_of term literal_value
a_name_as_operand = refl

a_list_as_operand : Refused (codes "[a] #> 3.") 0 kind.NotLinear
unfolding body item tokens_of term literal_value
a_list_as_operand = refl

a_sum_in_an_equation : Refused (codes "X+1 = Y.") 4 kind.Expected
unfolding body item tokens_of term expression literal_value lowest gcd gcd_within sum_of
a_sum_in_an_equation = refl

a_reserved_atom : Refused (codes "p, assert(X) $.") 3 kind.Unsupported
unfolding body item tokens_of term
a_reserved_atom = refl

less_than : Refused (codes "X < 3.") 2 kind.Unsupported
unfolding body item tokens_of term expression literal_value lowest gcd gcd_within
less_than = refl

is_behind_a_variable : Refused (codes "X is 3.") 2 kind.Unsupported
unfolding body item tokens_of term expression literal_value lowest gcd gcd_within
is_behind_a_variable = refl
