use Rattle.std.proofs.Common.{◌≡◌, ◌∙◌, ◌+◌, ◌<◌, [], length, take, drop, Some, sym, arith}
use Rattle.std.proofs.lemmas.Grind.{common_steps}
use Rattle.std.proofs.lemmas.List.{take_rest}
use Rattle.std.proofs.lemmas.Result.{err_from_is_err_and}
use Rattle.scasp_reader_terms.specs.Names.{place_in}
use Rattle.scasp_syntax.specs.Tm.{items}
use Rattle.scasp_domain_text.specs.Domains.{joined, term_in}
use Rattle.scasp_domain_text.proofs.LineLemmas.{ends_there, read_on, reads_on, told_stop}
use Rattle.scasp_domain_text.proofs.read.read_members.Goals as goal

pub returns-in_err-join_line : goal.returns-in_err-join_line
returns-in_err-join_line c =
    let place = place_in c.args.names.now in
    let e = err_from_is_err_and c.from_residual.result c.from_residual.ensures.1 in
    rw (e.1, e.2)
    (told_stop place (items c.loop-len.domain) c.loop-len.at c.in-Some.len c.loop-len.rest.now (read_on place [] 0 c.args.bytes.now) _ c.join_line.new.domain
    c.in-Some.ensures.within c.in-Some.ensures.splits c.in_err-join_line.ensures c.loop-len.invariant.same)

pub loop-len-preserved : goal.loop-len-preserved
loop-len-preserved c =
    let place = place_in c.args.names.now in
    let rest = c.loop-len.rest.now in
    let len = c.in-Some.len in
    let within : len < length rest = c.in-Some.ensures.within in
    let join : joined (items c.loop-len.domain) (term_in place (take len rest)) ≡ Some (items c.join_line.new.domain) = c.in_ok-join_line.ensures in
    let h : read_on place (items c.loop-len.domain) c.loop-len.at rest ≡ read_on place (items c.join_line.new.domain) (c.loop-len.at + (len + 1)) (drop (len + 1) rest) =
    reads_on place (items c.loop-len.domain) (items c.join_line.new.domain) c.loop-len.at len rest within c.in-Some.ensures.splits join in
    record {
      same = grind (arith, common_steps, h, c.loop-len.invariant.same, take_rest rest (len + 1));
      within = grind (arith, common_steps, within, c.loop-len.invariant.within, take_rest rest (len + 1));
    }

pub returns : goal.returns
returns c =
    rw (sym c.loop-len.invariant.same ∙ ends_there (place_in c.args.names.now) (items c.loop-len.domain) c.loop-len.at c.loop-len.rest.now c.in_default.ensures.splits)
    (c.ended.ensures (place_in c.args.names.now))
