-- Whether two rows are equal.
use Rattle.std.specs.Prelude.{Bool, true, false, ◌&&◌, ◌==◌, List, [], ◌∷◌}
use Rattle.std.specs.Ordering.{int_eq}
use Rattle.scasp_num.specs.declared.linear.Coeff.{Coeff}
use Rattle.scasp_num.specs.declared.linear.Op.{Op}
use Rattle.scasp_num.specs.declared.linear.Op.TheVariants as op
use Rattle.scasp_num.specs.Linear.{Linear}

abbrev pub same_op : Op → Op → Bool
same_op op.Eq op.Eq = true
same_op op.Lt op.Lt = true
same_op op.Le op.Le = true
same_op op.Ne op.Ne = true
same_op o u = false

abbrev pub same_terms : List Coeff → List Coeff → Bool
same_terms [] [] = true
same_terms [] (j ∷ js) = false
same_terms (k ∷ ks) [] = false
same_terms (k ∷ ks) (j ∷ js) = k.x == j.x && int_eq k.c j.c && same_terms ks js

abbrev pub same_row : Linear → Linear → Bool
same_row p q = same_op p.op q.op && int_eq p.constant q.constant && same_terms p.coeffs q.coeffs
