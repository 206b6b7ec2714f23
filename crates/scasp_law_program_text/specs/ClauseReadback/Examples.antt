-- A worked program meets the premises of the laws; parts that do not.
use Rattle.std.specs.Prelude.{◌≡◌, ℕ, true, false, List, [], ◌∷◌, codes, None, Some, ℤ, pos, negsuc}
use Rattle.std.proofs.Common.{refl}
use Rattle.std.specs.Char.{encode_utf8}
use Rattle.std.specs.Str.{is_utf8, chars}
use Rattle.std.proofs.lemmas.Str.{IsUtf8-from_is_utf8}
use Rattle.scasp_num.specs.declared.linear.Op.TheVariants as op
use Rattle.scasp_num.specs.Gcd.{gcd, gcd_within}
use Rattle.scasp_num.specs.Number.{zero_number}
use Rattle.scasp_syntax.specs.Tm.{var, app, nil, cons}
use Rattle.scasp_syntax.specs.declared.clause.Clause.{Clause}
use Rattle.scasp_syntax.specs.declared.clause.Item.{Item}
use Rattle.scasp_syntax.specs.declared.clause.Item.TheVariants as form
use Rattle.scasp_syntax.specs.declared.clause.Query.{Query}
use Rattle.scasp_syntax.specs.declared.term.Term.TheVariants.{Var, Num, App}
use Rattle.scasp_reader.specs.Bodies.Atoms.{atom_of}
use Rattle.scasp_reader.specs.Bodies.Items.{call_of}
use Rattle.scasp_reader.specs.Texts.Abducibles.{positive_pred}
use Rattle.scasp_law_program_text.specs.CompoundReadback.Styles.{IsTable}
use Rattle.scasp_law_program_text.specs.ClauseReadback.Parts.{clause_fits, query_fits}
use Rattle.scasp_law_program_text.specs.ClauseReadback.Texts.{text_fits}

abbrev names : List (List ℕ)
names = codes "[]" ∷ codes "[|]" ∷ codes "p" ∷ codes "q" ∷ codes "X" ∷ codes "assert" ∷ []

is_table : IsTable names
unfolding is_utf8 chars encode_utf8
is_table = record {
  utf8 = (
    IsUtf8-from_is_utf8 (codes "[]") refl,
    (IsUtf8-from_is_utf8 (codes "[|]") refl, (IsUtf8-from_is_utf8 (codes "p") refl, (IsUtf8-from_is_utf8 (codes "q") refl, (IsUtf8-from_is_utf8 (codes "X") refl, (IsUtf8-from_is_utf8 (codes "assert") refl, tt))))),
  );
  distinct = (refl, (refl, (refl, (refl, (refl, (refl, tt))))));
  lists = record { nil = refl; pair = refl };
}

-- c*V0+0*V1-2 #< 0
abbrev linear_item : ℤ → Item
linear_item c = form.Linear (record { vars = 0 ∷ 1 ∷ []; row = record { coeffs = record { x = 0; c = c } ∷ []; constant = negsuc 1; op = op.Lt } })

-- p(V0) :- q(V0,V1), not -p(V1), V1 \= 0, V0+0*V1-2 #< 0.
abbrev rule : Clause
rule = record {
  head = Some (atom_of false 2 (cons (var 0) nil));
  body =
      call_of true (atom_of false 3 (cons (var 0) (cons (var 1) nil))) ∷ call_of false (atom_of true 2 (cons (var 1) nil))
      ∷ form.Differ (Var 1) (Num zero_number) ∷ linear_item (pos 1) ∷ [];
  vars = 2;
}

-- ?- p(X), [_|X] = [p].
abbrev query : Query
query = record {
  body =
      call_of true (atom_of false 2 (cons (var 0) nil))
      ∷ form.Equal (App 1 (cons (var 1) (cons (var 0) nil))) (App 1 (cons (app 2 nil) (cons (app 0 nil) nil))) ∷ [];
  names = Some 4 ∷ None ∷ [];
}

is_met : text_fits names (positive_pred 3 2 ∷ positive_pred 3 0 ∷ []) (rule ∷ []) (query ∷ []) ≡ true
unfolding gcd gcd_within
is_met = refl

-- ---- parts that are not read back

a_reserved_head : clause_fits names (record rule { head = Some (atom_of false 5 (cons (var 0) nil)) }) ≡ false
a_reserved_head = refl

a_variable_more : clause_fits names (record rule { vars = 3 }) ≡ false
unfolding gcd gcd_within
a_variable_more = refl

-- 2*V0+0*V1-2 #< 0 would be read as V0+0*V1-1 #< 0
a_common_divisor : clause_fits names (record rule { head = None; body = linear_item (pos 2) ∷ [] }) ≡ false
unfolding gcd gcd_within
a_common_divisor = refl

-- nothing is written of a denial without a body
an_empty_denial : clause_fits names (record { head = None; body = []; vars = 0 }) ≡ false
an_empty_denial = refl

-- a predicate that stands twice is read as one
one_predicate_twice : text_fits names (positive_pred 3 2 ∷ positive_pred 3 2 ∷ []) [] [] ≡ false
one_predicate_twice = refl

-- both variables have the name X
one_name_twice : query_fits names (record query { names = Some 4 ∷ Some 4 ∷ [] }) ≡ false
one_name_twice = refl
