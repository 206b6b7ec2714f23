-- Tests of equality.
use Rattle.std.specs.Prelude.{Bool, true, false, ◌&&◌, not, nat_eq}
use Rattle.std.specs.Ordering.{int_eq}
use Rattle.scasp_num.specs.Number.{Number}
use Rattle.scasp_syntax.specs.Tm.{Tm, Tms, var, num, app, nil, cons}
use Rattle.scasp_syntax.specs.declared.atom.Atom.{Atom}
use Rattle.scasp_syntax.specs.declared.atom.Lit.{Lit}
use Rattle.scasp_syntax.specs.declared.atom.Pred.{Pred}

abbrev pub same_bool : Bool → Bool → Bool
same_bool true b = b
same_bool false b = not b

abbrev pub same_number : Number → Number → Bool
same_number q r = int_eq q.num r.num && int_eq q.den r.den

abbrev mutual
  pub same_tm : Tm → Tm → Bool
  same_tm (var x) (var y) = nat_eq x y
  same_tm (var x) (num r) = false
  same_tm (var x) (app g us) = false
  same_tm (num q) (var y) = false
  same_tm (num q) (num r) = same_number q r
  same_tm (num q) (app g us) = false
  same_tm (app f ts) (var y) = false
  same_tm (app f ts) (num r) = false
  same_tm (app f ts) (app g us) = nat_eq f g && same_tms ts us

  pub same_tms : Tms → Tms → Bool
  same_tms nil nil = true
  same_tms nil (cons u us) = false
  same_tms (cons t ts) nil = false
  same_tms (cons t ts) (cons u us) = same_tm t u && same_tms ts us

-- the same variable, the same number, or the same name with any arguments
abbrev pub same_head : Tm → Tm → Bool
same_head (var x) (var y) = nat_eq x y
same_head (var x) (num r) = false
same_head (var x) (app g us) = false
same_head (num q) (var y) = false
same_head (num q) (num r) = same_number q r
same_head (num q) (app g us) = false
same_head (app f ts) (var y) = false
same_head (app f ts) (num r) = false
same_head (app f ts) (app g us) = nat_eq f g

abbrev pub same_pred : Pred → Pred → Bool
same_pred p q = same_bool p.minus q.minus && nat_eq p.name q.name && nat_eq p.arity q.arity

abbrev pub same_atom : Atom → Atom → Bool
same_atom a b = same_bool a.minus b.minus && nat_eq a.name b.name && same_tms a.args b.args

abbrev pub same_lit : Lit → Lit → Bool
same_lit l k = same_bool l.positive k.positive && same_atom l.atom k.atom
