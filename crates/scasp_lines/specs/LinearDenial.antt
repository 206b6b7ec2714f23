-- A worked case: a denial with two rows, checked beside the query. q. :- 2*X #> 3, 2*X #< 3. ?- q.
use Rattle.std.specs.Prelude.{◌≡◌, pos, negsuc, List, [], ◌∷◌, None, Some}
use Rattle.std.proofs.Common.{refl}
use Rattle.scasp_num.specs.Gcd.{gcd, gcd_within}
use Rattle.scasp_num.specs.Linear.{Linear, normal_form, join_of}
use Rattle.scasp_num.specs.declared.linear.Op.TheVariants as op
use Rattle.scasp_syntax.specs.Tm.{nil}
use Rattle.scasp_syntax.specs.declared.atom.Atom.{Atom}
use Rattle.scasp_syntax.specs.declared.clause.Item.TheVariants.{Call, Linear as LinearItem}
use Rattle.scasp_syntax.specs.declared.con.Con.{Con}
use Rattle.scasp_syntax.specs.declared.con.Con.TheVariants as con
use Rattle.scasp_syntax.specs.declared.hint.Hint.TheVariants as hint
use Rattle.scasp_syntax.specs.declared.term.Term.TheVariants.{Var}
use Rattle.scasp_cert.specs.Trees.{Tree, test_tree, split, leaf, listed}
use Rattle.scasp_lines.specs.Dues.{goal, fact, nothing}
use Rattle.scasp_lines.specs.Lines.{certificate_walk}
use Rattle.scasp_lines.specs.Samples.{atom, is_true, rule, ask, answer, by_fact, numbers, contexts, dues}
use Rattle.scasp_lines.specs.Walk.{Line}

abbrev q : Atom
q = atom 2 nil

abbrev no_number : Con
no_number = con.NotNum (Var 0)

abbrev a_number : Con
a_number = con.Num (Var 0)

-- 2*X - 3 #< 0 and -2*X + 3 #< 0, and the same with #=<
abbrev below : Linear
below = record { coeffs = record { x = 0; c = pos 2 } ∷ []; constant = negsuc 2; op = op.Lt }

abbrev above : Linear
above = record { coeffs = record { x = 0; c = negsuc 1 } ∷ []; constant = pos 3; op = op.Lt }

abbrev at_most : Linear
at_most = record { coeffs = record { x = 0; c = pos 2 } ∷ []; constant = negsuc 2; op = op.Le }

abbrev at_least : Linear
at_least = record { coeffs = record { x = 0; c = negsuc 1 } ∷ []; constant = pos 3; op = op.Le }

abbrev test : Con → Tree
test c = test_tree c hint.Terms

abbrev all : List Line
all =
    (certificate_walk
    (rule 0 q []
    ∷ record {
      head = None;
      body = LinearItem (record { vars = 0 ∷ []; row = above }) ∷ LinearItem (record { vars = 0 ∷ []; row = below }) ∷ [];
      vars = 1;
    } ∷ [])
    (ask (Call (is_true q)) ∷ [])
    (answer (by_fact q 1 ∷ [])
    ((
      2,
      split no_number (leaf 1 (listed (test no_number ∷ [])))
          (split (con.Row at_most) (leaf 2 (listed (test a_number ∷ test (con.Row at_most) ∷ [])))
          (leaf 3 (listed (test a_number ∷ test (con.Row above) ∷ test (con.Row at_least) ∷ [])))),
    ) ∷ []))).lines

thirteen_lines : numbers all ≡ 1 ∷ 2 ∷ 3 ∷ 4 ∷ 5 ∷ 6 ∷ 7 ∷ 8 ∷ 9 ∷ 10 ∷ 11 ∷ 12 ∷ 13 ∷ []
thirteen_lines = refl

their_contexts :
    contexts all
    ≡ [] ∷ [] ∷ [] ∷ (no_number ∷ []) ∷ (no_number ∷ [])
    ∷ (a_number ∷ []) ∷ (a_number ∷ con.Row at_most ∷ []) ∷ (a_number ∷ con.Row at_most ∷ []) ∷ (a_number ∷ con.Row at_most ∷ [])
    ∷ (a_number ∷ con.Row above ∷ []) ∷ (a_number ∷ con.Row above ∷ []) ∷ (a_number ∷ con.Row above ∷ [])
    ∷ (a_number ∷ con.Row above ∷ []) ∷ []
their_contexts = refl

their_dues :
    dues all
    ≡ goal (is_true q) ∷ nothing ∷ nothing ∷ nothing ∷ fact (Some no_number)
    ∷ nothing ∷ nothing ∷ fact (Some a_number) ∷ fact (Some (con.Row at_most))
    ∷ nothing ∷ fact (Some a_number) ∷ fact (Some (con.Row above)) ∷ fact (Some (con.Row at_least)) ∷ []
unfolding join_of normal_form gcd gcd_within
their_dues = refl
