use Rattle.std.proofs.Common.{◌≡◌, ◌≢◌, Bool, true, false, List, [], ◌∷◌, length, suc, refl, ap}
use Rattle.std.specs.Prelude.{◌&&◌, ◌==◌}
use Rattle.std.specs.Ordering.{int_eq}
use Rattle.scasp_num.specs.declared.linear.Coeff.{Coeff}
use Rattle.scasp_num.specs.SameRow.{same_terms}
use Rattle.scasp_answers_lines.proofs.rows.rows.same_terms.Goals as goal

and-false : (a b : Bool) → false ≡ b → false ≡ (a && b)
and-false true b e = e
and-false false b e = refl

lengths-differ : (p q : List Coeff) → length p ≢ length q → false ≡ same_terms p q
lengths-differ [] [] h = absurd (h refl)
lengths-differ [] (j ∷ js) h = refl
lengths-differ (k ∷ ks) [] h = refl
lengths-differ (k ∷ ks) (j ∷ js) h = and-false (k.x == j.x && int_eq k.c j.c) (same_terms ks js) (lengths-differ ks js (λ e. h (ap suc e)))

pub returns-then-p-q : goal.returns-then-p-q
returns-then-p-q c = lengths-differ c.args.p.now c.args.q.now c.if-p-q.true
