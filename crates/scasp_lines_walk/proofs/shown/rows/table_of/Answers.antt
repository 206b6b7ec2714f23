use Rattle.std.proofs.Common.{◌∙◌, ap, arith, map, reverse}
use Rattle.std.proofs.lemmas.List.{nil_from_length}
use Rattle.scasp_cert.specs.Certificate.{certificate_of}
use Rattle.scasp_lines.specs.Lines.{lines}
use Rattle.scasp_lines_walk.specs.Shown.TableView.{standing_of}
use Rattle.scasp_lines_walk.proofs.ShownLemmas.EndLemmas.{lines-right}
use Rattle.scasp_lines_walk.proofs.ShownLemmas.RowLemmas.{tabled-all, tabled-more, tabled-none}
use Rattle.scasp_lines_walk.proofs.shown.rows.table_of.Goals as goal

pub loop-line-init : goal.loop-line-init
loop-line-init c =
    tabled-none (lines c.args.program.now (certificate_of c.args.cert.now)) c.in_ok-lines.lines.items c.new-rows.result.items c.new-ended.result.items c.in_ok-lines.ensures
    c.new-rows.ensures.items c.new-ended.ensures.items

pub loop-line-preserved : goal.loop-line-preserved
loop-line-preserved c =
    let p = c.args.program.now in
    let cert = certificate_of c.args.cert.now in
    let old = c.loop-line in
    tabled-more (lines p cert) old.lines.items c.pop.new.self.items c.in-Some.line (map standing_of old.rows.items) (map standing_of c.take_line.new.rows.items)
    (reverse old.ended.items) (reverse c.take_line.new.ended.items) c.in-Some.ensures.items c.in_ok-take_line.ensures.rows c.in_ok-take_line.ensures.ended
    (lines-right p cert) old.invariant

pub returns : goal.returns
returns c =
    let e = c.in_default.ensures.cases.0 in
    let k = c.loop-line.lines.ok.0 in
    let none = nil_from_length c.loop-line.lines.items (omega (arith, e, k)) in
    ap (map standing_of) c.reverse.ensures.items
    ∙ tabled-all (lines c.args.program.now (certificate_of c.args.cert.now)) c.loop-line.lines.items c.loop-line.rows.items (reverse c.loop-line.ended.items) none c.loop-line.invariant
