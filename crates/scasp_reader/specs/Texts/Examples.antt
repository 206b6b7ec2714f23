-- Whole texts, computed: those that are refused, by place and kind, and one that is read.
use Rattle.std.specs.Prelude.{◌≡◌, ℕ, true, false, List, [], ◌∷◌, codes, None, Some, Ok, Err}
use Rattle.std.proofs.Common.{refl}
use Rattle.scasp_num.specs.Gcd.{gcd, gcd_within}
use Rattle.scasp_num.specs.Arithmetic.{lowest}
use Rattle.scasp_name.specs.Texts.{list_names}
use Rattle.scasp_syntax.specs.Tm.{var, cons, nil}
use Rattle.scasp_syntax.specs.declared.atom.Pred.{Pred}
use Rattle.scasp_syntax.specs.declared.clause.Item.TheVariants.{Call}
use Rattle.scasp_reader_tokens.specs.Numbers.{literal_value}
use Rattle.scasp_reader_tokens.specs.Tokens.{tokens_of}
use Rattle.scasp_reader_terms.specs.declared.fault.Kind.{Kind}
use Rattle.scasp_reader_terms.specs.declared.fault.Kind.TheVariants as kind
use Rattle.scasp_reader_terms.specs.Faults.{fault_at}
use Rattle.scasp_reader_terms.specs.Terms.{term}
use Rattle.scasp_reader_expressions.specs.Expressions.{expression}
use Rattle.scasp_reader.specs.Bodies.Items.{item}
use Rattle.scasp_reader.specs.Bodies.Bodies.{body}
use Rattle.scasp_reader.specs.Texts.Clauses.{clause}
use Rattle.scasp_reader.specs.Texts.Texts.{next_part, parts, read}

abbrev Refused : List ℕ → ℕ → Kind → Type 0
Refused text at k = read list_names text ≡ Err (fault_at at k)

a_quote_without_end : Refused (codes "p('ab") 2 kind.Unclosed
unfolding read parts next_part clause tokens_of term
a_quote_without_end = refl

two_names : Refused (codes "p q.") 2 kind.Expected
unfolding read parts next_part clause tokens_of term
two_names = refl

a_missing_stop : Refused (codes "p :- q") 6 kind.Expected
unfolding read parts next_part clause body item tokens_of term
a_missing_stop = refl

a_sign_of_prolog : Refused (codes "a ; b.") 2 kind.Unsupported
unfolding read parts next_part clause tokens_of term
a_sign_of_prolog = refl

a_product : Refused (codes "p. p :- X*Y #= 1.") 9 kind.NotLinear
unfolding read parts next_part clause body item tokens_of term expression literal_value lowest gcd gcd_within
a_product = refl

a_variable_again : Refused (codes "#abducible p(X,X).") 15 kind.Expected
unfolding read parts next_part clause tokens_of
a_variable_again = refl

an_abducible_number : Refused (codes "#abducible p(1).") 13 kind.Expected
unfolding read parts next_part clause tokens_of
an_abducible_number = refl

an_abducible_negation : Refused (codes "#abducible -p.") 11 kind.Expected
unfolding read parts next_part clause tokens_of
an_abducible_negation = refl

another_directive : Refused (codes "p. #table q/1.") 3 kind.Unsupported
unfolding read parts next_part clause tokens_of term
another_directive = refl

a_directive_in_a_clause : Refused (codes "p :- #show q. q.") 5 kind.Expected
unfolding read parts next_part clause body item tokens_of term
a_directive_in_a_clause = refl

-- a fault that is noted is told although a lexical one stands behind it
the_least_place : Refused (codes "p :- assert(X) $.") 5 kind.Unsupported
unfolding read parts next_part clause body item tokens_of term
the_least_place = refl

a_program : read list_names (codes "#show q/0. q(X). ?- -q(Y), not q(_).")
    ≡ Ok (record {
      clauses = record { head = Some (record { minus = false; name = 2; args = cons (var 0) nil }); body = []; vars = 1 } ∷ [];
      queries =
          record {
            body =
                Call (record { positive = true; atom = record { minus = true; name = 2; args = cons (var 0) nil } })
                ∷ Call (record { positive = false; atom = record { minus = false; name = 2; args = cons (var 1) nil } }) ∷ [];
            names = Some 3 ∷ None ∷ [];
          } ∷ [];
      abducibles = [];
      names = codes "[]" ∷ codes "[|]" ∷ codes "q" ∷ codes "Y" ∷ [];
    })
unfolding read parts next_part clause body item tokens_of term
a_program = refl

abbrev pred : ℕ → ℕ → Pred
pred name arity = record { minus = false; name = name; arity = arity }

-- each predicate once, by its number of arguments too
abducible_predicates : read list_names (codes "#abducible p(X,_,_). q. #abducible p. #abducible p(A,B,C).")
    ≡ Ok (record {
      clauses = record { head = Some (record { minus = false; name = 3; args = nil }); body = []; vars = 0 } ∷ [];
      queries = [];
      abducibles = pred 2 3 ∷ pred 2 0 ∷ [];
      names = codes "[]" ∷ codes "[|]" ∷ codes "p" ∷ codes "q" ∷ [];
    })
unfolding read parts next_part clause tokens_of term
abducible_predicates = refl
