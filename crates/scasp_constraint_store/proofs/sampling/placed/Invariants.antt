use Rattle.std.proofs.Common.{◌≡◌, ◌++◌, drop}
use Rattle.scasp_unify.specs.Solving.{sub_of}
use Rattle.scasp_constraint_store.specs.Sampled.{placed}
use Rattle.scasp_constraint_store.proofs.sampling.placed.Given as goal

abbrev pub invariant-loop-constraint : goal.invariant-loop-constraint
invariant-loop-constraint l =
    l.made ++ placed (sub_of l.bindings) l.by.all.now (drop l.constraint-index l.list) ≡ placed (sub_of l.bindings) l.by.all.now l.list
