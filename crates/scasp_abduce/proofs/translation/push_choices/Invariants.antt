use Rattle.std.proofs.Common.{◌≡◌, ◌++◌, drop}
use Rattle.std.specs.List.{flat_map}
use Rattle.scasp_abduce.specs.Translation.{choice_rules, opposed}
use Rattle.scasp_abduce.proofs.translation.push_choices.Given as goal

abbrev pub invariant-loop-pred : goal.invariant-loop-pred
invariant-loop-pred l = record {
  clauses : l.clauses ++ flat_map choice_rules (opposed l.taken l.names (drop l.pred-index l.preds)).choices ≡ l.fn.clauses ++ flat_map choice_rules (opposed l.fn.taken l.fn.names l.preds).choices;
  names : (opposed l.taken l.names (drop l.pred-index l.preds)).names ≡ (opposed l.fn.taken l.fn.names l.preds).names;
}
