-- Terms that differ by a name or a number, whatever their variables stand for.
use Rattle.std.specs.Prelude.{Bool, true, false, ◌||◌, not, nat_eq}
use Rattle.scasp_syntax.specs.Same.{same_number}
use Rattle.scasp_syntax.specs.Tm.{Tm, Tms, var, num, app, nil, cons}

abbrev mutual
  pub clash : Tm → Tm → Bool
  clash (var x) u = false
  clash (num q) (var y) = false
  clash (num q) (num r) = not (same_number q r)
  clash (num q) (app g us) = true
  clash (app f ts) (var y) = false
  clash (app f ts) (num r) = true
  clash (app f ts) (app g us) = not (nat_eq f g) || clash_among ts us

  pub clash_among : Tms → Tms → Bool
  clash_among nil nil = false
  clash_among nil (cons u us) = true
  clash_among (cons t ts) nil = true
  clash_among (cons t ts) (cons u us) = clash t u || clash_among ts us
