use Rattle.std.proofs.Common.{◌≡◌, drop}
use Rattle.std.specs.List.{list_all}
use Rattle.scasp_num.specs.Arithmetic.{in_range}
use Rattle.scasp_rows.specs.Steps.{products}
use Rattle.scasp_rows.proofs.range.products_fit.Given as goal

abbrev pub invariant-loop-k : goal.invariant-loop-k
invariant-loop-k l = list_all in_range (products l.a (drop l.k-index l.terms)) ≡ list_all in_range (products l.a l.terms)
