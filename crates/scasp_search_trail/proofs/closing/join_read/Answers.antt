use Rattle.std.proofs.Common.{arith, ap, map, reverse, ◌∙◌}
use Rattle.std.proofs.lemmas.Bool.{ltb-true}
use Rattle.scasp_readings.specs.Readings.{reading}
use Rattle.scasp_search_rules.specs.Successors.Cases.{line_under}
use Rattle.scasp_search_trail.proofs.LineLemmas.{joined_first, joined_others, last_first}
use Rattle.scasp_search_trail.specs.States.{first}
use Rattle.scasp_search_trail.proofs.closing.join_read.Goals as goal

pub returns-clause-first : goal.returns-clause-first
returns-clause-first c =
    let ps = c.args.told.now.now in
    let f = line_under (reading c.args.bound.now.now) in
    joined_first ps c.read_last.new.told.now c.join.new.self.now (map f (first (reverse ps))) (omega (arith, ltb-true 1 c.count.result c.in_ok-require.ensures, c.count.ensures.count))
    (c.in_ok-read_last.ensures.last ∙ ap (map f) (last_first ps)) c.in_ok-read_last.ensures.others c.in_ok-join.ensures.now

pub returns-clause-others : goal.returns-clause-others
returns-clause-others c =
    joined_others c.args.told.now.now c.read_last.new.told.now c.join.new.self.now (omega (arith, ltb-true 1 c.count.result c.in_ok-require.ensures, c.count.ensures.count)) c.in_ok-read_last.ensures.others c.in_ok-join.ensures.now
