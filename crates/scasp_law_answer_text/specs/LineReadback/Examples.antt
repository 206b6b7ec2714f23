-- A worked answer with its table meets the premises of the laws; lines whose text is read as another line, or is none.
use Rattle.std.specs.Prelude.{◌≡◌, ℕ, true, false, List, [], ◌∷◌, codes, pos, negsuc, length}
use Rattle.std.proofs.Common.{refl}
use Rattle.std.specs.Char.{encode_utf8}
use Rattle.std.specs.Str.{is_utf8, chars}
use Rattle.std.proofs.lemmas.Str.{IsUtf8-from_is_utf8}
use Rattle.scasp_num.specs.Gcd.{gcd, gcd_within}
use Rattle.scasp_num.specs.Linear.{Linear}
use Rattle.scasp_num.specs.declared.linear.Op.TheVariants as op
use Rattle.scasp_num.specs.declared.hints.Step.{Step}
use Rattle.scasp_syntax.specs.Tm.{var, app, nil, cons}
use Rattle.scasp_syntax.specs.declared.term.Term.TheVariants.{Var, App}
use Rattle.scasp_syntax.specs.declared.con.Con.TheVariants as con
use Rattle.scasp_syntax.specs.declared.hint.Hint.TheVariants as hint
use Rattle.scasp_cert.specs.Certificate.{Certificate}
use Rattle.scasp_cert.specs.Trees.{pos_tree, neg_tree, loop_tree, test_tree, no_tree, tree, split, void, leaf, no_branch, branch}
use Rattle.scasp_answers_terms.specs.Tokens.Terms.{atom_of, lit_of}
use Rattle.scasp_answers_terms.specs.Tokens.Bounds.{line_fits}
use Rattle.scasp_answers_terms.specs.Tokens.Lines.{header_line, ended, given_line, split_line, void_line}
use Rattle.scasp_law_answer_text.specs.LineReadback.Writable.{IsTable, is_written}
use Rattle.scasp_law_answer_text.specs.LineReadback.Texts.{remark, answer, ending, is_printable}

abbrev names : List (List ℕ)
names = codes "[]" ∷ codes "[|]" ∷ codes "p" ∷ codes "not" ∷ codes "it's" ∷ []

is_table : IsTable names
unfolding is_utf8 chars encode_utf8
is_table = record {
  utf8 = (
    IsUtf8-from_is_utf8 (codes "[]") refl,
    (IsUtf8-from_is_utf8 (codes "[|]") refl, (IsUtf8-from_is_utf8 (codes "p") refl, (IsUtf8-from_is_utf8 (codes "not") refl, (IsUtf8-from_is_utf8 (codes "it's") refl, tt)))),
  );
  distinct = (refl, (refl, (refl, (refl, (refl, tt)))));
}

-- 2*V0-3 #=< 0
abbrev at_most : Linear
at_most = record { coeffs = record { x = 0; c = pos 2 } ∷ []; constant = negsuc 2; op = op.Le }

abbrev step : Step
step = record { a = pos 1; p = 0; b = negsuc 0; q = 1 }

-- answer 1.1 [V0,[p|V1],'not'(-7)], with a constraint, a negated literal in two cases, a loop and a clash
abbrev worked : Certificate
worked = record {
  query = 1;
  terms = cons (var 0) (cons (app 1 (cons (app 2 nil) (cons (var 1) nil))) nil);
  given = con.Row at_most ∷ con.NotShape 1 2 0 ∷ [];
  sample = cons (app 4 nil) (cons (app 3 (cons (app 0 nil) nil)) nil);
  trees =
      pos_tree (atom_of false 2 (cons (var 0) nil)) 1 (cons (var 0) nil) (tree (loop_tree (lit_of false (atom_of true 4 nil)) 1) no_tree)
      ∷ neg_tree (atom_of false 2 nil)
      (branch 2 (split (con.Neq (Var 0) (App 4 (cons (var 1) nil))) (void (hint.Rows (step ∷ []))) (leaf 1 (tree (test_tree (con.Num (Var 0)) hint.Terms) no_tree))) no_branch)
      ∷ [];
  checks = [];
  clashes = record { first = 1; second = 2; hint = hint.Same 0 ((step ∷ []) ∷ []) } ∷ [];
  map = record { pred = record { minus = false; name = 2; arity = 1 }; level = 0; plus = true } ∷ [];
}

is_met : is_printable (length names) (answer 1 worked) ≡ true × (is_printable (length names) (remark (codes " domain any")) ≡ true) × (is_printable (length names) (ending ended 1) ≡ true)
unfolding is_written line_fits gcd gcd_within
is_met = (refl, refl, refl)

-- ---- lines without a text of their own

-- the disequation of a variable and a constant is written as a shape
as_a_shape : is_written 3 (split_line (con.Neq (Var 0) (App 2 nil))) ≡ false × (is_written 3 (split_line (con.NotShape 0 2 0)) ≡ true)
unfolding is_written
as_a_shape = (refl, refl)

no_normal_row : is_written 3 (given_line (con.Row (record at_most { constant = negsuc 3 }))) ≡ false
unfolding is_written gcd gcd_within
no_normal_row = refl

no_steps : is_written 3 (void_line (hint.Rows [])) ≡ false × (is_written 3 (void_line (hint.Same 0 ([] ∷ []))) ≡ false)
unfolding is_written
no_steps = (refl, refl)

no_name : is_written 3 (given_line (con.Num (App 3 nil))) ≡ false
unfolding is_written
no_name = refl

other_version : is_written 3 (header_line 2) ≡ false
unfolding is_written
other_version = refl
