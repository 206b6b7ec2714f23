-- Trees that mean something, with the texts that they spell, and trees that mean nothing.
use Rattle.std.specs.Prelude.{◌≡◌, ℕ, zero, suc, Bool, true, false, List, [], ◌∷◌, ◌++◌, codes, Option, None, Some, option_map, is_some, is_none, pos, negsuc}
use Rattle.std.proofs.Common.{refl}
use Rattle.scasp_num.specs.Gcd.{gcd, gcd_within}
use Rattle.scasp_num.specs.Arithmetic.{number, lowest, sum_of, difference_of, product_of, quotient_of}
use Rattle.scasp_num.specs.Linear.{normal_form}
use Rattle.scasp_num.specs.Number.{Number}
use Rattle.scasp_num.specs.Sums.{normal_of}
use Rattle.scasp_num.specs.declared.linear.Op.TheVariants as op
use Rattle.scasp_name.specs.Texts.{list_names}
use Rattle.scasp_syntax.specs.Tm.{var, num, app, nil, cons}
use Rattle.scasp_syntax.specs.declared.clause.Item.TheVariants as form
use Rattle.scasp_syntax.specs.declared.term.Term.TheVariants.{Var, App}
use Rattle.scasp_reader_tokens.specs.Numbers.{literal_value}
use Rattle.scasp_reader_tokens.specs.Tokens.{tokens_of}
use Rattle.scasp_reader_tokens.specs.declared.token.Token.TheVariants as token
use Rattle.scasp_reader.specs.declared.texts.texts.Reading.{Reading}
use Rattle.scasp_reader.specs.Texts.Abducibles.{positive_pred}
use Rattle.scasp_law_program_text.specs.Grammar.Known.{Known}
use Rattle.scasp_law_program_text.specs.Grammar.Trees.{Term, a_variable, a_fraction, a_name, a_list_with, Terms, one_term, more_terms, no_arguments, some_arguments, Expression, an_expression, no_products, minus, Product, a_product, no_factors, times, over, a_number_factor, a_variable_factor, Atom, Item, a_call, an_equation, a_comparison, Body, one_item, more_items, Clause, a_fact, a_rule, a_denial, a_query, an_abducible, a_directive}
use Rattle.scasp_law_program_text.specs.Grammar.Spelling.{tokens_in, program_tokens}
use Rattle.scasp_law_program_text.specs.Grammar.Bodies.{body_meaning}
use Rattle.scasp_law_program_text.specs.Grammar.Programs.{meaning}

abbrev whole : ℕ → Option Number
whole n = lowest (pos n) (pos 1)

abbrev constant : List ℕ → Term
constant text = a_name text no_arguments

abbrev atom : Bool → List ℕ → Terms → Atom
atom is_negated text ts = record { is_negated = is_negated; name = text; arguments = some_arguments ts }

-- ---- a rule with a list and a fraction, a directive, a query, and a predicate that may be assumed

abbrev text : List ℕ
text = codes "% a list" ++ 10 ∷ codes "p([a|X], 6/8) :- X = b. #show p/2. /* and */ ?- -p(_, X). #abducible b(Y, _)."

abbrev trees : List Clause
trees =
    a_rule (atom false (codes "p") (more_terms (a_list_with (one_term (constant (codes "a"))) (a_variable (codes "X"))) (one_term (a_fraction false (whole 6) (whole 8)))))
    (one_item (an_equation (a_variable (codes "X")) (constant (codes "b"))))
    ∷ a_directive ∷ a_query (one_item (a_call (atom true (codes "p") (more_terms (a_variable (codes "_")) (one_term (a_variable (codes "X")))))))
    ∷ an_abducible (codes "b") (codes "Y" ∷ codes "_" ∷ []) ∷ []

-- the program, with this number in the place of the fraction
abbrev program_with : Number → Reading
program_with q = record {
  clauses =
      record {
        head = Some (record { minus = false; name = 2; args = cons (app 1 (cons (app 3 nil) (cons (var 0) nil))) (cons (num q) nil) });
        body = form.Equal (Var 0) (App 4 nil) ∷ [];
        vars = 1;
      } ∷ [];
  queries = record { body = form.Call (record { positive = true; atom = record { minus = true; name = 2; args = cons (var 0) (cons (var 1) nil) } }) ∷ []; names = None ∷ Some 5 ∷ [] } ∷ [];
  abducibles = positive_pred 4 2 ∷ [];
  names = codes "[]" ∷ codes "[|]" ∷ codes "p" ∷ codes "a" ∷ codes "b" ∷ codes "X" ∷ [];
}

its_tokens : tokens_in text ≡ program_tokens trees ++ token.End ∷ []
unfolding tokens_of literal_value lowest gcd gcd_within
its_tokens = refl

its_meaning : meaning list_names trees ≡ option_map program_with (number (pos 3) (pos 4))
unfolding meaning lowest gcd gcd_within quotient_of product_of
its_meaning = refl

-- ---- X - X #< Y

abbrev variable : List ℕ → Product
variable x = a_product (a_variable_factor x) no_factors

abbrev alone : Product → Expression
alone p = an_expression false p no_products

abbrev a_cancelled_variable : Item
a_cancelled_variable = a_comparison (an_expression false (variable (codes "X")) (minus (variable (codes "X")) no_products)) op.Lt false (alone (variable (codes "Y")))

cancelled_tokens : tokens_in (codes ":- X-X .<. Y.") ≡ program_tokens (a_denial (one_item a_cancelled_variable) ∷ []) ++ token.End ∷ []
unfolding tokens_of
cancelled_tokens = refl

-- X is kept in the item
cancelled_meaning : meaning list_names (a_denial (one_item a_cancelled_variable) ∷ [])
    ≡ Some (record {
      clauses =
          record {
            head = None;
            body = form.Linear (record { vars = 0 ∷ 1 ∷ []; row = record { coeffs = record { x = 1; c = negsuc 0 } ∷ []; constant = pos 0; op = op.Lt } }) ∷ [];
            vars = 2;
          } ∷ [];
      queries = [];
      abducibles = [];
      names = list_names;
    })
unfolding meaning lowest gcd gcd_within sum_of difference_of normal_of normal_form
cancelled_meaning = refl

-- ---- trees that mean nothing

abbrev compared : Product → Item
compared p = a_comparison (alone p) op.Eq false (alone (variable (codes "Z")))

a_product_of_variables : meaning list_names (a_denial (one_item (compared (a_product (a_variable_factor (codes "X")) (times (a_variable_factor (codes "Y")) no_factors)))) ∷ []) ≡ None
unfolding meaning lowest gcd gcd_within
a_product_of_variables = refl

a_zero_divisor : meaning list_names (a_denial (one_item (compared (a_product (a_variable_factor (codes "X")) (over (a_number_factor (whole 0)) no_factors)))) ∷ []) ≡ None
unfolding meaning lowest gcd gcd_within
a_zero_divisor = refl

a_zero_under_a_fraction : meaning list_names (a_denial (one_item (an_equation (a_variable (codes "X")) (a_fraction false (whole 1) (whole 0)))) ∷ []) ≡ None
unfolding meaning lowest gcd gcd_within
a_zero_under_a_fraction = refl

a_number_too_large : meaning list_names (a_denial (one_item (compared (a_product (a_number_factor None) no_factors))) ∷ []) ≡ None
unfolding meaning
a_number_too_large = refl

a_reserved_atom : meaning list_names (a_fact (atom false (codes "assert") (one_term (a_variable (codes "X")))) ∷ []) ≡ None
unfolding meaning
a_reserved_atom = refl

a_variable_again : meaning list_names (an_abducible (codes "p") (codes "X" ∷ codes "_" ∷ codes "X" ∷ []) ∷ []) ≡ None
unfolding meaning
a_variable_again = refl

-- so many items and one more
abbrev items : ℕ → Body
items zero = one_item (a_call (atom false (codes "p") (one_term (a_variable (codes "X")))))
items (suc n) = more_items (a_call (atom false (codes "p") (one_term (a_variable (codes "X"))))) (items n)

abbrev nothing_known : Known
nothing_known = record { names = []; variables = [] }

the_65th_item : is_some (body_meaning (items 63) nothing_known) ≡ true × (is_none (body_meaning (items 64) nothing_known) ≡ true)
the_65th_item = (refl, refl)
