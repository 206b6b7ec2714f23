-- A test of equality of constraints.
use Rattle.std.specs.Prelude.{Bool, false, ◌&&◌, nat_eq}
use Rattle.scasp_num.specs.SameRow.{same_row}
use Rattle.scasp_syntax.specs.Same.{same_tm}
use Rattle.scasp_syntax.specs.View.{tm_of}
use Rattle.scasp_syntax.specs.declared.con.Con.{Con}
use Rattle.scasp_syntax.specs.declared.con.Con.TheVariants as con
use Rattle.scasp_syntax.specs.declared.term.Term.{Term}

abbrev pub same_term : Term → Term → Bool
same_term t u = same_tm (tm_of t) (tm_of u)

abbrev pub same_con : Con → Con → Bool
same_con (con.Eq t u) (con.Eq a b) = same_term t a && same_term u b
same_con (con.Neq t u) (con.Neq a b) = same_term t a && same_term u b
same_con (con.NotShape x f n) (con.NotShape y g m) = nat_eq x y && nat_eq f g && nat_eq n m
same_con (con.Num t) (con.Num a) = same_term t a
same_con (con.NotNum t) (con.NotNum a) = same_term t a
same_con (con.Row r) (con.Row q) = same_row r q
same_con c d = false
