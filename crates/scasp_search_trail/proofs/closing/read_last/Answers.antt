use Rattle.std.proofs.Common.{◌+◌, List, arith, ap, length, refl, reverse, slice_get, slice_set, sym, ◌∙◌}
use Rattle.scasp_readings.specs.Readings.{reading}
use Rattle.scasp_search_rules.specs.Successors.Cases.{line_under}
use Rattle.scasp_search_rules.specs.declared.states.lines.Line.{Line}
use Rattle.scasp_search_trail.proofs.CopyLemmas.{read_length, read_more, set_of_last, set_others}
use Rattle.scasp_search_trail.specs.States.{others}
use Rattle.scasp_told.specs.Pieces.{last_of}
use Rattle.scasp_search_trail.proofs.closing.read_last.Goals as goal

pub lines-smaller : goal.lines-smaller
lines-smaller c =
    let n = read_length (line_under (reading c.args.bound.now.now)) c.lines.at (last_of c.args.told.now.now) in
    omega (arith, c.lines-test.true, ap length c.last.ensures, ap length c.lines.invariant.last, n)

pub lines-preserved : goal.lines-preserved
lines-preserved c =
    let f = line_under (reading c.args.bound.now.now) in
    let ls = last_of c.args.told.now.now in
    let was = c.lines.invariant.last in
    let found = ap (λ (xs : List Line). slice_get xs c.lines.at) (sym was) ∙ c.line_at.ensures in
    record {
      last =
          ap last_of c.in_ok-set.ensures.now ∙ set_of_last c.lines.at c.in_ok-line.line c.lines.told.now
          ∙ (λ i. slice_set (was i) c.lines.at (c.in_ok-line.ensures i))
          ∙ read_more f c.lines.at (c.lines.at + 1) ls c.line_at.result.now refl found;
      others = ap (λ (ps : List (List Line)). others (reverse ps)) c.in_ok-set.ensures.now ∙ set_others c.lines.at c.in_ok-line.line c.lines.told.now ∙ c.lines.invariant.others;
      before = c.in_ok-set.ensures.before ∙ c.lines.invariant.before;
    }
