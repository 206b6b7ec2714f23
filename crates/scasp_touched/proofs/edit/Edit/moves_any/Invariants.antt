use Rattle.std.proofs.Common.{◌≡◌, drop}
use Rattle.std.specs.List.{list_any}
use Rattle.scasp_touched.specs.Touched.{rules_differ}
use Rattle.scasp_touched.proofs.edit.Edit.moves_any.Given as goal

abbrev pub invariant-loop-pred : goal.invariant-loop-pred
invariant-loop-pred l = list_any (rules_differ l.self.old.now l.self.new.now) (drop l.pred-index l.pred-items) ≡ list_any (rules_differ l.self.old.now l.self.new.now) l.pred-items
