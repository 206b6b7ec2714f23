use Rattle.std.proofs.Common.{◌≡◌, drop}
use Rattle.std.specs.List.{list_any}
use Rattle.scasp_touched.specs.Touched.{is_in_one}
use Rattle.scasp_touched.proofs.edit.Edit.has_in_one.Given as goal

abbrev pub invariant-loop-entry : goal.invariant-loop-entry
invariant-loop-entry l = list_any (is_in_one l.self.old.now l.self.new.now) (drop l.entry-index l.entry-items) ≡ list_any (is_in_one l.self.old.now l.self.new.now) l.entry-items
