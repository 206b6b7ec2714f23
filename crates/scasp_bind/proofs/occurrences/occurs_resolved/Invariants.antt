use Rattle.std.proofs.Common.{length, nat_eq}
use Rattle.std.specs.HashMap.{get}
use Rattle.scasp_syntax.specs.Values.{under}
use Rattle.scasp_syntax.specs.View.{tm_of}
use Rattle.scasp_unify.specs.Parts.{occurs}
use Rattle.scasp_bind.specs.Inside.Jobs.{jobs_of, load}
use Rattle.scasp_bind.specs.Inside.Notes.{AreWithout}
use Rattle.scasp_bind.specs.Inside.Soundness.{resolver}
use Rattle.scasp_bind.proofs.JobLemmas.{IsKept}
use Rattle.scasp_bind.proofs.occurrences.occurs_resolved.Given as goal

abbrev pub invariant-loop-task : goal.invariant-loop-task
invariant-loop-task l = record {
  kept : IsKept (length l.store.variables) l.x (resolver l.store) (occurs l.x (under (resolver l.store) (tm_of l.term))) (jobs_of l.tasks.items);
  without : AreWithout l.x (resolver l.store) (get nat_eq l.without);
}

abbrev pub decreases-loop-task : goal.decreases-loop-task
decreases-loop-task l = load (resolver l.store) (jobs_of l.tasks.items)
