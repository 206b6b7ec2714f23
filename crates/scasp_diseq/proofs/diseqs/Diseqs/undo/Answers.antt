use Rattle.std.proofs.Common.{sym, ap, ◌∙◌, take}
use Rattle.std.proofs.lemmas.List.{take-map}
use Rattle.scasp_diseq.specs.Inside.Indexed.{cons_of}
use Rattle.scasp_diseq.specs.declared.posted.Posted.{Posted}
use Rattle.scasp_diseq.proofs.diseqs.Diseqs.undo.Goals as goal

pub returns-then-mark-len : goal.returns-then-mark-len
returns-then-mark-len c =
    ap cons_of c.rewind.ensures.items
    ∙ sym (take-map (λ (p : Posted). p.con) c.mark.inside.posted c.self.inside.posted.items)
    ∙ ap (take c.mark.inside.posted) c.self.view_is ∙ ap (λ n. take n c.args.self.now) c.mark.view_is
