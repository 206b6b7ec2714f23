use Rattle.std.proofs.Common.{◌≡◌, ◌++◌, map, take}
use Rattle.scasp_syntax.specs.View.{tm_of}
use Rattle.scasp_bind.specs.Inside.Heads.{terms_of}
use Rattle.scasp_bind.proofs.walks.push_all.Given as goal

abbrev pub invariant-loop-term : goal.invariant-loop-term
invariant-loop-term l = terms_of l.unseen.items ≡ terms_of l.initial.unseen.items ++ map tm_of (take l.term-index l.term-items)
