use Rattle.std.proofs.Common.{take, vec_capacity, vec_len, ◌∙◌, ap}
use Rattle.scasp_trail.specs.Past.{is_marked}
use Rattle.scasp_trail.proofs.UndoLemmas.{marks_are_changes}
use Rattle.scasp_trail.proofs.trailed.Trailed.is_marked.Goals as goal

pub returns : goal.returns
returns g c =
    let inside = c.self.inside in
    marks_are_changes (vec_capacity inside.items) inside.kept (vec_len inside.changes) c.is_empty.result inside.changes.items (take inside.kept inside.items.items) c.is_empty.ensures inside.changes.ok.0 c.self.invariant.can
    ∙ ap (λ p. is_marked p.before) c.self.view_is
