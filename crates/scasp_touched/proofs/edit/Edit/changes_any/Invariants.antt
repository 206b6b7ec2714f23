use Rattle.std.proofs.Common.{◌≡◌, drop}
use Rattle.std.specs.List.{list_any}
use Rattle.scasp_touched.specs.Touched.{clause_differs}
use Rattle.scasp_touched.proofs.edit.Edit.changes_any.Given as goal

abbrev pub invariant-loop-clause : goal.invariant-loop-clause
invariant-loop-clause l = list_any (clause_differs l.self.old.now l.self.new.now) (drop l.clause-index l.clause-items) ≡ list_any (clause_differs l.self.old.now l.self.new.now) l.clause-items
