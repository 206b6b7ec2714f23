-- The grammar of program texts: a tree for each way in which a text can be built.
use Rattle.std.specs.Prelude.{ℕ, Bool, List, Option}
use Rattle.scasp_num.specs.Number.{Number}
use Rattle.scasp_num.specs.declared.linear.Op.{Op}

--     term := variable | ["-"] number ["/" number] | name ["(" terms ")"] | "[" "]" | "[" terms ["|" term] "]"
--     terms := term {"," term}
-- A number is missing where it is too large.
mutual
  pub data Term : Type 0 where
    a_variable : List ℕ → Term
    a_number : Bool → Option Number → Term
    a_fraction : Bool → Option Number → Option Number → Term
    a_name : List ℕ → Arguments → Term
    an_empty_list : Term
    a_list : Terms → Term
    a_list_with : Terms → Term → Term

  pub data Terms : Type 0 where
    one_term : Term → Terms
    more_terms : Term → Terms → Terms

  pub data Arguments : Type 0 where
    no_arguments : Arguments
    some_arguments : Terms → Arguments

--     expression := ["-"] product {("+" | "-") product}
--     product := factor {("*" | "/") factor}
--     factor := number | variable | "(" expression ")"
mutual
  pub data Expression : Type 0 where
    an_expression : Bool → Product → Products → Expression

  pub data Products : Type 0 where
    no_products : Products
    plus : Product → Products → Products
    minus : Product → Products → Products

  pub data Product : Type 0 where
    a_product : Factor → Factors → Product

  pub data Factors : Type 0 where
    no_factors : Factors
    times : Factor → Factors → Factors
    over : Factor → Factors → Factors

  pub data Factor : Type 0 where
    a_number_factor : Option Number → Factor
    a_variable_factor : List ℕ → Factor
    a_bracket : Expression → Factor

--     atom := ["-"] name ["(" terms ")"]
pub record Atom : Type 0 where
  pub is_negated : Bool
  pub name : List ℕ
  pub arguments : Arguments

--     item := ["not"] atom | term ("=" | "\=") term | expression relation expression
-- A relation is an operation, and whether it stands the other way round: `>` is `<` so.
pub data Item : Type 0 where
  a_call : Atom → Item
  a_negative_call : Atom → Item
  an_equation : Term → Term → Item
  a_disequation : Term → Term → Item
  a_comparison : Expression → Op → Bool → Expression → Item

--     body := item {"," item}
pub data Body : Type 0 where
  one_item : Item → Body
  more_items : Item → Body → Body

--     clause := atom [":-" body] "." | ":-" body "." | "?-" body "." | "#abducible" name ["(" variables ")"] "."
--     variables := variable {"," variable}
-- Directives that are skipped stand where clauses do.
pub data Clause : Type 0 where
  a_fact : Atom → Clause
  a_rule : Atom → Body → Clause
  a_denial : Body → Clause
  a_query : Body → Clause
  an_abducible : List ℕ → List (List ℕ) → Clause
  a_directive : Clause
