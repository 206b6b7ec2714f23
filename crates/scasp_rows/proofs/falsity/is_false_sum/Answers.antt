use Rattle.std.proofs.Common.{◌+ℤ◌, ◌*ℤ◌, FitsSigned, sym, subst, ◌∙◌}
use Rattle.std.specs.Int.{w128}
use Rattle.std.proofs.lemmas.Int.{to_z-of_z}
use Rattle.scasp_rows.specs.declared.falsity.Factors.{Factors}
use Rattle.scasp_rows.specs.Elimination.{factor}
use Rattle.scasp_rows.proofs.Keeping.{factor-fits, size-fits, kept-open}
use Rattle.scasp_rows.proofs.falsity.is_false_sum.Goals as goal

pub returns-then-is_not_zero : goal.returns-then-is_not_zero
returns-then-is_not_zero c =
    let x = c.args.x in
    let y = c.args.y in
    let l = c.args.l.now in
    let u = c.args.u.now in
    let n = c.are_normal.ensures in
    let lo = c.requires.lower in
    let up = c.requires.upper in
    let f1 : FitsSigned w128 c.args.theirs.size = subst (λ (f : Factors). FitsSigned w128 f.size) (sym up) (size-fits x u n.1) in
    let f2 : FitsSigned w128 c.args.own.other = subst (λ (f : Factors). FitsSigned w128 f.other) (sym lo) (factor-fits y l n.0) in
    let f3 : FitsSigned w128 c.args.own.size = subst (λ (f : Factors). FitsSigned w128 f.size) (sym lo) (size-fits x l n.0) in
    let f4 : FitsSigned w128 c.args.theirs.other = subst (λ (f : Factors). FitsSigned w128 f.other) (sym up) (factor-fits y u n.1) in
    let kept = (simp to_z-of_z at c.is_not_zero.ensures) c.if-is_not_zero.true in
    kept-open x y l u n.0 n.1 (λ e. kept ((λ i. (up i).size *ℤ (lo i).other +ℤ (lo i).size *ℤ (up i).other) ∙ e))

pub returns-then-has_variable : goal.returns-then-has_variable
returns-then-has_variable c =
    let x = c.args.x in
    let l = c.args.l.now in
    let u = c.args.u.now in
    let n = c.are_normal.ensures in
    let lo = c.requires.lower in
    let up = c.requires.upper in
    let f1 : FitsSigned w128 c.args.theirs.size = subst (λ (f : Factors). FitsSigned w128 f.size) (sym up) (size-fits x u n.1) in
    let f3 : FitsSigned w128 c.args.own.size = subst (λ (f : Factors). FitsSigned w128 f.size) (sym lo) (size-fits x l n.0) in
    let left = (simp to_z-of_z at c.has_variable.ensures.left) c.if-has_variable.true in
    kept-open x left.0 l u n.0 n.1 (λ e. left.1 ((λ i. (up i).size *ℤ factor left.0 l +ℤ (lo i).size *ℤ factor left.0 u) ∙ e))
