use Rattle.std.proofs.Common.{◌∙◌, sym, ap, map}
use Rattle.scasp_lines.specs.Contexts.{context}
use Rattle.scasp_lines_places.specs.Dues.Seen.{seen}
use Rattle.scasp_lines_places.proofs.DuesLemmas.ContextLemmas.{context_step}
use Rattle.scasp_lines_places.proofs.dues.contexts.context.Goals as goal

pub loop-entry-preserved : goal.loop-entry-preserved
loop-entry-preserved c =
    sym (context_step c.loop-entry.list c.push_constraint.new.list c.pop.new.self.items c.in-Some.entry c.in_ok-push_constraint.ensures)
    ∙ ap (λ xs. context c.loop-entry.list (map seen xs)) (sym c.in-Some.ensures.items)
    ∙ c.loop-entry.invariant
