use Rattle.std.proofs.Common.{sym, ◌∙◌}
use Rattle.scasp_loops.proofs.ApartLemmas.{unseen_clash}
use Rattle.scasp_loops.proofs.asking.is_seen.Goals as goal

pub returns-then-starts_apart : goal.returns-then-starts_apart
returns-then-starts_apart c =
    let call = c.args.call.now in
    unseen_clash call.bound.now.now c.args.cases.now call.lit.now call.first c.args.entry.now c.args.marks c.requires (sym c.starts_apart.ensures ∙ c.if-starts_apart.true)
