use Rattle.std.proofs.Common.{◌∙◌, length, map}
use Rattle.scasp_answers.specs.Files.View.{entry_of}
use Rattle.scasp_command_recheck.specs.Blocks.{block_certs}
use Rattle.scasp_command_recheck.proofs.CourseLemmas.{text-broken, text-taken}
use Rattle.scasp_command_recheck.proofs.course.Course.begin.Goals as goal

pub returns-clause-accepted : goal.returns-clause-accepted
returns-clause-accepted g c = c.are_accepted.ensures c.args.program.now (map entry_of c.args.entries) c.in_ok-blocks.ensures

pub returns-clause-ok : goal.returns-clause-ok
returns-clause-ok g c =
    let p = c.args.program.now in
    let entries = map entry_of c.args.entries in
    let blocks = c.in_ok-blocks.ensures in
    text-taken (g.K.Sink.taken c.args.out.now) (g.K.Sink.taken c.write_all.new.out) c.as_slice.result.now 1 p entries c.len.result (length (block_certs entries))
    (c.as_slice.ensures.value ∙ c.in_ok-text.ensures p entries blocks) (c.len.ensures p entries blocks) c.in_ok-write_all.ensures.ok

pub returns-in_err-write_all-clause-write : goal.returns-in_err-write_all-clause-write
returns-in_err-write_all-clause-write g c = λ h.
    let p = c.args.program.now in
    let entries = map entry_of c.args.entries in
    let blocks = c.in_ok-blocks.ensures in
    text-broken (g.K.Sink.taken c.args.out.now) (g.K.Sink.taken c.write_all.new.out) c.as_slice.result.now 1 p entries c.len.result (length (block_certs entries))
    (c.as_slice.ensures.value ∙ c.in_ok-text.ensures p entries blocks) (c.len.ensures p entries blocks) c.in_err-write_all.ensures.err
