-- A text that meets the premises of the law of programs, computed: what is read of it, and the text that is written of that.
use Rattle.std.specs.Prelude.{◌≡◌, true, false, [], ◌∷◌, codes, length, nat_le, None, Some, Ok, pos, negsuc}
use Rattle.std.proofs.Common.{refl}
use Rattle.std.specs.Char.{encode_utf8}
use Rattle.std.specs.Fmt.{digits}
use Rattle.std.specs.Str.{is_utf8, chars}
use Rattle.std.proofs.lemmas.Str.{IsUtf8-from_is_utf8}
use Rattle.scasp_num.specs.declared.linear.Op.TheVariants as op
use Rattle.scasp_num.specs.Gcd.{gcd, gcd_within}
use Rattle.scasp_num.specs.Arithmetic.{lowest, sum_of, product_of, difference_of}
use Rattle.scasp_num.specs.Linear.{normal_form}
use Rattle.scasp_num.specs.Sums.{normal_of}
use Rattle.scasp_name.specs.Texts.{list_names}
use Rattle.scasp_syntax.specs.Denials.{denial_of}
use Rattle.scasp_syntax.specs.Tm.{var, app, nil, cons}
use Rattle.scasp_syntax.specs.declared.clause.Clause.{Clause}
use Rattle.scasp_syntax.specs.declared.clause.Item.TheVariants as form
use Rattle.scasp_syntax.specs.declared.clause.Query.{Query}
use Rattle.scasp_syntax.specs.declared.term.Term.TheVariants.{Var, App}
use Rattle.scasp_reader_tokens.specs.Numbers.{literal_value}
use Rattle.scasp_reader_tokens.specs.Tokens.{tokens_of}
use Rattle.scasp_reader_terms.specs.Terms.{term}
use Rattle.scasp_reader_expressions.specs.Expressions.{expression}
use Rattle.scasp_reader.specs.Bodies.Atoms.{atom_of}
use Rattle.scasp_reader.specs.Bodies.Items.{call_of, item}
use Rattle.scasp_reader.specs.Bodies.Bodies.{body}
use Rattle.scasp_reader.specs.declared.texts.texts.Reading.{Reading}
use Rattle.scasp_reader.specs.declared.texts.texts.TheConstants.{BYTE_LIMIT}
use Rattle.scasp_reader.specs.Texts.Abducibles.{positive_pred}
use Rattle.scasp_reader.specs.Texts.Clauses.{clause}
use Rattle.scasp_reader.specs.Texts.Texts.{next_part, parts, read}
use Rattle.scasp_reader.specs.Programs.Programs.{program_in}
use Rattle.scasp_print_program.specs.Terms.{atom_text, lit_text}
use Rattle.scasp_print_program.specs.Items.{linear_text}
use Rattle.scasp_print_program.specs.Abducibles.{abducible_text}
use Rattle.scasp_print_program.specs.Programs.{clause_text, query_text, program_text}
use Rattle.scasp_law_program_text.specs.CompoundReadback.Styles.{IsTable}

-- the table at the start
is_table : IsTable list_names
unfolding is_utf8 chars encode_utf8
is_table = record {
  utf8 = (IsUtf8-from_is_utf8 (codes "[]") refl, (IsUtf8-from_is_utf8 (codes "[|]") refl, tt));
  distinct = (refl, (refl, tt));
  lists = record { nil = refl; pair = refl };
}

-- X; `_`; Y, which cancels; the rest of a list; and Z
abbrev rule : Clause
rule = record {
  head = Some (atom_of false 2 (cons (var 0) nil));
  body =
      call_of true (atom_of false 3 (cons (var 0) (cons (var 1) nil)))
      ∷ form.Linear (record { vars = 0 ∷ 2 ∷ []; row = record { coeffs = record { x = 0; c = pos 2 } ∷ []; constant = negsuc 0; op = op.Lt } })
      ∷ form.Equal (App 1 (cons (var 0) (cons (var 3) nil))) (Var 4) ∷ call_of false (atom_of true 2 (cons (var 4) nil)) ∷ [];
  vars = 5;
}

abbrev query : Query
query = record { body = call_of true (atom_of false 2 (cons (var 0) nil)) ∷ call_of false (atom_of false 3 (cons (var 1) (cons (app 4 nil) nil))) ∷ []; names = Some 5 ∷ None ∷ [] }

abbrev reading : Reading
reading = record {
  clauses = rule ∷ denial_of (record { minus = true; name = 2; arity = 1 }) ∷ [];
  queries = query ∷ [];
  abducibles = positive_pred 3 2 ∷ [];
  names = codes "[]" ∷ codes "[|]" ∷ codes "p" ∷ codes "q" ∷ codes "a" ∷ codes "A" ∷ [];
}

is_read : program_in list_names (codes "p(X) :- q(X, _), X + 2*Y #< 0.5 + Y*2, [X|_] = Z, not -p(Z). ?- p(A), not q(_, a). #abducible q(X, _). #abducible q(_, _).") ≡ Ok reading
unfolding read parts next_part clause body item tokens_of term expression literal_value lowest gcd gcd_within sum_of product_of difference_of normal_of normal_form
is_read = refl

its_text : program_text reading.names reading.abducibles reading.clauses reading.queries ≡ codes "#abducible q(V0,V1).\np(V0) :- q(V0,V1), 2*V0+0*V2-1 #< 0, [V0|V3] = V4, not -p(V4).\n?- p(A), not q(_,a).\n"
unfolding program_text abducible_text clause_text query_text atom_text lit_text linear_text digits
its_text = refl

is_within : nat_le (length (program_text reading.names reading.abducibles reading.clauses reading.queries)) BYTE_LIMIT ≡ true
unfolding program_text abducible_text clause_text query_text atom_text lit_text linear_text digits
is_within = refl

-- ---- a print that is longer than its text

abbrev short : Reading
short = record {
  clauses =
      record {
        head = Some (atom_of false 2 nil);
        body = form.Linear (record { vars = 0 ∷ []; row = record { coeffs = record { x = 0; c = negsuc 0 } ∷ []; constant = pos 1; op = op.Lt } }) ∷ [];
        vars = 1;
      } ∷ [];
  queries = [];
  abducibles = [];
  names = codes "[]" ∷ codes "[|]" ∷ codes "p" ∷ [];
}

it_is_read : program_in list_names (codes "p:-1-X#<0.") ≡ Ok short
unfolding read parts next_part clause body item tokens_of term expression literal_value lowest gcd gcd_within sum_of product_of difference_of normal_of normal_form
it_is_read = refl

it_is_longer : program_text short.names short.abducibles short.clauses short.queries ≡ codes "p :- -V0+1 #< 0.\n"
unfolding program_text abducible_text clause_text query_text atom_text lit_text linear_text digits
it_is_longer = refl
