-- Blocks and parts of blocks, written out.
use Rattle.std.proofs.Common.{lit<}
use Rattle.std.specs.Prelude.{◌≡◌, ℕ, true, false, List, [], ◌∷◌, pos, negsuc, codes, decimal, refl}
use Rattle.std.proofs.lemmas.Fmt.{decimal_digit}
use Rattle.scasp_num.specs.declared.linear.Op.TheVariants as op
use Rattle.scasp_syntax.specs.Tm.{var, app, nil, cons}
use Rattle.scasp_syntax.specs.declared.con.Con.TheVariants as con
use Rattle.scasp_syntax.specs.declared.term.Term.TheVariants as term
use Rattle.scasp_syntax.specs.declared.hint.Hint.TheVariants as hint
use Rattle.scasp_cert.specs.Trees.{pos_tree, neg_tree, loop_tree, test_tree, no_tree, tree, split, leaf, no_branch, branch}
use Rattle.scasp_cert.specs.Text.Terms.{list_text, atom_text, lit_text}
use Rattle.scasp_cert.specs.Text.Hints.{step_text}
use Rattle.scasp_cert.specs.Text.Trees.{line_text}
use Rattle.scasp_cert.specs.Text.Constraints.{con_text}
use Rattle.scasp_cert.specs.Text.Block.{block_text, answer_line, check_text, given_line, map_line, pred_text}

-- digits
d0 : decimal 0 ≡ 48 ∷ []
d0 = decimal_digit 0 (lit< tt)

d1 : decimal 1 ≡ 49 ∷ []
d1 = decimal_digit 1 (lit< tt)

d2 : decimal 2 ≡ 50 ∷ []
d2 = decimal_digit 2 (lit< tt)

d3 : decimal 3 ≡ 51 ∷ []
d3 = decimal_digit 3 (lit< tt)

d4 : decimal 4 ≡ 52 ∷ []
d4 = decimal_digit 4 (lit< tt)

d5 : decimal 5 ≡ 53 ∷ []
d5 = decimal_digit 5 (lit< tt)

-- `[]`, `[|]`, p, q, not, ok and a text that needs quotes
abbrev texts : List (List ℕ)
texts = codes "[]" ∷ codes "[|]" ∷ codes "p" ∷ codes "q" ∷ codes "not" ∷ codes "ok" ∷ codes "it's\\\n\t" ∷ []

-- a fact that answers its own query
fact_block : block_text texts (record {
  query = 1;
  terms = nil;
  given = [];
  sample = nil;
  trees = pos_tree (record { minus = false; name = 2; args = nil }) 1 nil no_tree ∷ [];
  checks = [];
  clashes = [];
  map = record { pred = record { minus = false; name = 2; arity = 0 }; level = 0; plus = true } ∷ [];
}) 1 ≡ codes "answer 1.1 []\nsample []\ntree\n pos p rule 1 []\nmap p/0 0 +\nend\n"
unfolding answer_line list_text map_line pred_text line_text atom_text
fact_block = simp (d0, d1) refl

-- two atoms, each true where the other is not
even_loop_block : block_text texts (record {
  query = 1;
  terms = nil;
  given = [];
  sample = nil;
  trees = pos_tree (record { minus = false; name = 2; args = nil }) 1 nil
      (tree (neg_tree (record { minus = false; name = 3; args = nil })
      (branch 2 (leaf 1 (tree (loop_tree (record { positive = true; atom = record { minus = false; name = 2; args = nil } }) 1) no_tree)) no_branch)) no_tree) ∷ [];
  checks = [];
  clashes = [];
  map = record { pred = record { minus = false; name = 2; arity = 0 }; level = 0; plus = true }
      ∷ record { pred = record { minus = true; name = 3; arity = 2 }; level = 2; plus = false } ∷ [];
}) 3 ≡ codes "answer 1.3 []\nsample []\ntree\n pos p rule 1 []\n  neg q\n   rule 2\n    leaf 1\n     loop p at 1\nmap p/0 0 +\nmap -q/2 2 -\nend\n"
unfolding answer_line list_text map_line pred_text line_text atom_text lit_text
even_loop_block = simp (d0, d1, d2, d3) refl

-- a variable between 3 and 5
interval_lines : given_line texts (con.Row (record { coeffs = record { x = 0; c = negsuc 0 } ∷ []; constant = pos 3; op = op.Lt })) ≡ codes "given -V0+3 #< 0\n"
unfolding given_line
interval_lines = simp (d0, d3) refl

upper_line : given_line texts (con.Row (record { coeffs = record { x = 0; c = pos 1 } ∷ []; constant = negsuc 4; op = op.Lt })) ≡ codes "given V0-5 #< 0\n"
unfolding given_line
upper_line = simp (d0, d5) refl

-- a denial whose two rows never hold together
denial_check : check_text texts (
  2,
  split (con.NotNum (term.Var 0))
      (leaf 1 (tree (test_tree (con.NotNum (term.Var 0)) hint.Terms) no_tree))
      (leaf 3 (tree (test_tree (con.Row (record { coeffs = record { x = 0; c = negsuc 1 } ∷ []; constant = pos 3; op = op.Le }))
      (hint.Rows (record { a = pos 1; p = 1; b = pos 1; q = 2 } ∷ []))) no_tree)),
)
    ≡ codes "check 2\n split not num(V0)\n  leaf 1\n   test not num(V0) terms\n  leaf 3\n   test -2*V0+3 #=< 0 rows [1*1+1*2]\n"
unfolding check_text line_text step_text
denial_check = simp (d0, d1, d2, d3) refl

-- a constant 0 behind variables is left out, and alone it is written
zero_behind : con_text texts (con.Row (record { coeffs = record { x = 0; c = pos 2 } ∷ record { x = 1; c = negsuc 0 } ∷ []; constant = pos 0; op = op.Ne })) ≡ codes "2*V0-V1 #<> 0"
zero_behind = simp (d0, d1, d2) refl

zero_alone : con_text texts (con.Row (record { coeffs = []; constant = pos 0; op = op.Eq })) ≡ codes "0 #= 0"
zero_alone = simp (d0) refl

-- lists, and names that need quotes
listed_terms : list_text texts
    (cons (app 1 (cons (app 2 nil) (cons (app 1 (cons (app 3 nil) (cons (var 1) nil))) nil)))
    (cons (app 1 (cons (app 2 nil) (cons (app 0 nil) nil)))
    (cons (app 0 (cons (var 0) nil)) (cons (app 4 nil) (cons (app 6 nil) (cons (app 9 nil) nil))))))
    ≡ codes "[[p,q|V1],[p],'[]'(V0),'not','it\\'s\\\\\\n\\t','']"
unfolding list_text
listed_terms = simp (d0, d1) refl

-- excluded shapes
shapes : con_text texts (con.NotShape 0 5 2) ≡ codes "V0 \\= ok/2"
shapes = simp (d0, d2) refl

empty_shape : con_text texts (con.NotShape 0 0 0) ≡ codes "V0 \\= []"
empty_shape = simp (d0) refl

pair_shape : con_text texts (con.NotShape 0 1 2) ≡ codes "V0 \\= '[|]'/2"
pair_shape = simp (d0, d2) refl
