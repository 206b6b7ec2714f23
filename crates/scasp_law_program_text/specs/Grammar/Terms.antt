-- What the tree of a term means.
use Rattle.std.specs.Prelude.{ℕ, zero, suc, Bool, nat_lt, List, [], ◌∷◌, length, if◌then◌else◌}
use Rattle.scasp_num.specs.Number.{Number}
use Rattle.scasp_num.specs.Arithmetic.{quotient_of, negation_of}
use Rattle.scasp_num.specs.Linear.{is_zero}
use Rattle.scasp_syntax.specs.Tm.{Tm, var, num, app, nil, listed}
use Rattle.scasp_reader_terms.specs.declared.terms.TheConstants.{ARITY_LIMIT}
use Rattle.scasp_reader_terms.specs.Terms.{list_of}
use Rattle.scasp_law_program_text.specs.Grammar.Known.{Make, ◌>>=◌, means, nothing, only, named, numbered}
use Rattle.scasp_law_program_text.specs.Grammar.Trees.{Term, a_variable, a_number, a_fraction, a_name, an_empty_list, a_list, a_list_with, Terms, one_term, more_terms, Arguments, no_arguments, some_arguments}

abbrev pub number_meaning : Bool → Number → Make Tm
number_meaning is_negated q = means (num (if is_negated then negation_of q else q))

-- nothing is divided by 0
abbrev pub fraction_meaning : Bool → Number → Number → Make Tm
fraction_meaning is_negated p q = if is_zero q.num then nothing else (only (quotient_of p q) >>= (λ r. number_meaning is_negated r))

-- arguments, of which there may be only so many
abbrev pub limited_arguments : List Tm → Make (List Tm)
limited_arguments ts = if nat_lt ARITY_LIMIT (length ts) then nothing else means ts

-- where so many brackets may be opened inside one another
abbrev mutual
  pub term_meaning : ℕ → Term → Make Tm
  term_meaning room (a_variable text) = numbered text >>= (λ x. means (var x))
  term_meaning room (a_number is_negated p) = only p >>= (λ q. number_meaning is_negated q)
  term_meaning room (a_fraction is_negated p q) = only p >>= (λ a. only q >>= (λ b. fraction_meaning is_negated a b))
  term_meaning room (a_name text arguments) = named text >>= (λ f. arguments_meaning room arguments >>= (λ ts. means (app f (listed ts))))
  term_meaning zero an_empty_list = nothing
  term_meaning (suc room) an_empty_list = means (app 0 nil)
  term_meaning zero (a_list ts) = nothing
  term_meaning (suc room) (a_list ts) = terms_meaning room ts >>= (λ us. means (list_of us (app 0 nil)))
  term_meaning zero (a_list_with ts tail) = nothing
  term_meaning (suc room) (a_list_with ts tail) = terms_meaning room ts >>= (λ us. term_meaning room tail >>= (λ u. means (list_of us u)))

  pub terms_meaning : ℕ → Terms → Make (List Tm)
  terms_meaning room (one_term t) = term_meaning room t >>= (λ u. means (u ∷ []))
  terms_meaning room (more_terms t ts) = term_meaning room t >>= (λ u. terms_meaning room ts >>= (λ us. means (u ∷ us)))

  pub arguments_meaning : ℕ → Arguments → Make (List Tm)
  arguments_meaning room no_arguments = means []
  arguments_meaning zero (some_arguments ts) = nothing
  arguments_meaning (suc room) (some_arguments ts) = terms_meaning room ts >>= (λ us. limited_arguments us)
