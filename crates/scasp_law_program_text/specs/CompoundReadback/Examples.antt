-- A worked term with its style meets the premises of the law; terms whose text is read as another term, or is refused.
use Rattle.std.specs.Prelude.{◌≡◌, true, false, [], ◌∷◌, codes, None, Some}
use Rattle.std.proofs.Common.{refl}
use Rattle.std.specs.Char.{encode_utf8}
use Rattle.std.specs.Str.{is_utf8, chars}
use Rattle.std.proofs.lemmas.Str.{IsUtf8-from_is_utf8}
use Rattle.scasp_num.specs.Number.{zero_number}
use Rattle.scasp_syntax.specs.Tm.{Tm, var, num, app, nil, cons}
use Rattle.scasp_print_program.specs.Terms.{Style, term_text}
use Rattle.scasp_law_program_text.specs.CompoundReadback.Styles.{are_variables, IsStyle}
use Rattle.scasp_law_program_text.specs.CompoundReadback.Fitting.{fits}
use Rattle.scasp_law_program_text.specs.CompoundReadback.Counting.{count}

-- the names and variables of a query that begins with these
abbrev style : Style
style = record {
  names = codes "[]" ∷ codes "[|]" ∷ codes "f" ∷ codes "it's" ∷ [];
  variables = codes "X" ∷ codes "_" ∷ codes "Y" ∷ codes "_" ∷ [];
}

is_style : IsStyle style
unfolding is_utf8 chars encode_utf8
is_style = record {
  table = record {
    utf8 = (IsUtf8-from_is_utf8 (codes "[]") refl, (IsUtf8-from_is_utf8 (codes "[|]") refl, (IsUtf8-from_is_utf8 (codes "f") refl, (IsUtf8-from_is_utf8 (codes "it's") refl, tt))));
    distinct = (refl, (refl, (refl, (refl, tt))));
    lists = record { nil = refl; pair = refl };
  };
  variables = refl;
}

abbrev pair : Tm → Tm → Tm
pair t rest = app 1 (cons t (cons rest nil))

-- f([X,T|_],it's(X),[])
abbrev a_term : Tm → Tm
a_term t = app 2 (cons (pair (var 0) (pair t (var 1))) (cons (app 3 (cons (var 0) nil)) (cons (app 0 nil) nil)))

is_met : fits style 2 (a_term (num zero_number)) ≡ true × (count style 0 (a_term (num zero_number)) ≡ Some 2)
is_met = (refl, refl)

its_text : term_text style 2 (a_term (app 2 nil)) ≡ codes "f([X,f|_],'it\\'s'(X),[])"
its_text = refl

-- ---- terms that are not read back

a_bracket_too_many : fits style 1 (a_term (num zero_number)) ≡ false
a_bracket_too_many = refl

no_name : fits style 2 (app 4 nil) ≡ false
no_name = refl

-- the first variable that is read is V0, and `_` is always a new one
another_order : count style 0 (var 1) ≡ None × (count style 2 (var 1) ≡ None) × (count style 3 (var 2) ≡ Some 3)
another_order = (refl, refl, refl)

-- a text that stands twice is read as one variable
one_text_twice : are_variables (codes "X" ∷ codes "X" ∷ []) ≡ false
one_text_twice = refl
