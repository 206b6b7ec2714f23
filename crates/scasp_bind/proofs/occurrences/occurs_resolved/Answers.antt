use Rattle.std.proofs.Common.{◌≡◌, ◌∷◌, [], ◌++◌, length, nat_eq, ap, ◌∙◌}
use Rattle.std.specs.HashMap.{get}
use Rattle.scasp_syntax.specs.Values.{under}
use Rattle.scasp_syntax.specs.View.{tm_of}
use Rattle.scasp_unify.specs.Parts.{occurs}
use Rattle.scasp_bind.specs.Inside.Jobs.{job_of, jobs_of, leave, search}
use Rattle.scasp_bind.specs.Inside.Soundness.{resolver}
use Rattle.scasp_bind.proofs.JobLemmas.{jobs_of-push, left, left_without, searched}
use Rattle.scasp_bind.proofs.NoteLemmas.{without_more}
use Rattle.scasp_bind.proofs.occurrences.occurs_resolved.Goals as goal

pub loop-task-preserved-else-branch : goal.loop-task-preserved-else-branch
loop-task-preserved-else-branch c =
    let store = c.args.store.now in
    let s = resolver store in
    let before = jobs_of c.pop.new.self.items in
    let t = tm_of c.in-Search.next.now in
    let last : jobs_of c.loop-task.tasks.items ≡ before ++ search t ∷ [] =
    ap jobs_of c.in-Some.ensures.items ∙ jobs_of-push c.pop.new.self.items c.in-Some.task ∙ ap (λ k. before ++ job_of k ∷ []) c.in-Search.is in
    record {
      kept = searched (length store.variables) c.args.x s (occurs c.args.x (under s (tm_of c.args.term.now))) t before (jobs_of c.loop-task.tasks.items) (jobs_of c.search.new.tasks.items)
          last (c.in_ok-search-in-Search.ensures.spreads c.if-branch.false) c.loop-task.invariant.kept;
      without = c.loop-task.invariant.without;
    }

pub loop-task-preserved : goal.loop-task-preserved
loop-task-preserved c =
    let store = c.args.store.now in
    let s = resolver store in
    let z = occurs c.args.x (under s (tm_of c.args.term.now)) in
    let before = jobs_of c.pop.new.self.items in
    let t = c.in-Leave.next.now in
    let now = jobs_of c.loop-task.tasks.items in
    let last : now ≡ before ++ leave (tm_of t) ∷ [] =
    ap jobs_of c.in-Some.ensures.items ∙ jobs_of-push c.pop.new.self.items c.in-Some.task ∙ ap (λ k. before ++ job_of k ∷ []) c.in-Leave.is in
    record {
      kept = left (length store.variables) c.args.x s z (tm_of t) before now last c.loop-task.invariant.kept;
      without = without_more c.args.x store (tm_of t) t (get nat_eq c.loop-task.without) (get nat_eq c.note_way.new.notes) c.loop-task.invariant.without
          (left_without (length store.variables) c.args.x s z (tm_of t) before now last c.loop-task.invariant.kept) c.in_ok-note_way-in-Leave.ensures;
    }
