use Rattle.std.proofs.Common.{◌≡◌, drop, ◌++◌, filter, nat_lt}
use Rattle.scasp_reader_expressions.specs.Values.{inserted}
use Rattle.scasp_reader_expressions.proofs.values.inserted.Given as goal

abbrev pub invariant-lesser : goal.invariant-lesser
invariant-lesser l = l.all ++ filter (λ y. nat_lt y l.x) (drop l.y-index l.numbers) ≡ filter (λ y. nat_lt y l.x) l.numbers

abbrev pub invariant-greater : goal.invariant-greater
invariant-greater l = l.all ++ filter (λ y. nat_lt l.x y) (drop l.y-index l.numbers) ≡ inserted l.x l.numbers
