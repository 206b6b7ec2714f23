-- Terms that bindings resolve, by how they begin.
use Rattle.scasp_syntax.specs.Tm.{Tm, app, num, var}
use Rattle.scasp_syntax.specs.Values.{all_under}
use Rattle.scasp_unify.specs.Solving.{sub_of}
use Rattle.scasp_unify.specs.declared.bindings.Head.{Head}
use Rattle.scasp_unify.specs.declared.bindings.Head.TheVariants as head

-- the term that begins so
abbrev pub head_resolved : Head → Tm
head_resolved (head.Var x) = var x
head_resolved (head.Num q) = num q
head_resolved (head.Name f args bindings) = app f (all_under (sub_of bindings.now) args.now)
