use Rattle.std.proofs.Common.{◌≡◌, ◌∙◌, ◌+◌, ap, rules}
use Rattle.std.specs.List.{list_all}
use Rattle.scasp_command_check.specs.Texts.{passes}
use Rattle.scasp_touched.specs.Touched.{touched_count}
use Rattle.scasp_command_recheck.specs.Blocks.{block_certs}
use Rattle.scasp_command_recheck.specs.Texts.{program_text}
use Rattle.scasp_command_recheck.proofs.CourseLemmas.{accepted-off, accepted-on, text-broken, text-taken}
use Rattle.scasp_command_recheck.proofs.course.Course.step.Goals as goal
use Rattle.scasp_command_recheck.proofs.course.Course.step.Goals.{then-accepted, else-accepted}

pub returns-clause-accepted : goal.returns-clause-accepted
returns-clause-accepted g c = λ p entries blocks.
    let all = list_all (passes c.args.program.now) entries in
    elim c.if-accepted.branch [
      | then-accepted w ↦
          accepted-on c.args.self.accepted w.are_accepted.result all c.if-accepted.result w.if-accepted.true w.result-is
          (w.are_accepted.ensures c.args.program.now entries (c.in_ok-visited.ensures.blocks p entries blocks))
      | else-accepted w ↦ accepted-off c.args.self.accepted all c.if-accepted.result w.if-accepted.false w.result-is
    ]

pub returns-clause-ok : goal.returns-clause-ok
returns-clause-ok g c = λ p entries blocks.
    let q = c.args.program.now in
    let after = c.in_ok-visited.ensures.blocks p entries blocks in
    let next : c.in_ok-number.number ≡ c.args.self.number + 1 = search rules in
    text-taken (g.K.Sink.taken c.args.out.now) (g.K.Sink.taken c.write_all.new.out) c.as_slice.result.now (c.args.self.number + 1) q entries
    c.in_ok-visited.visited (touched_count p q (block_certs entries))
    (c.as_slice.ensures.value ∙ c.in_ok-text.ensures q entries after ∙ ap (λ n. program_text n q entries c.in_ok-visited.visited) next)
    (c.in_ok-visited.ensures.visited p entries blocks) c.in_ok-write_all.ensures.ok

pub returns-in_err-write_all-clause-write : goal.returns-in_err-write_all-clause-write
returns-in_err-write_all-clause-write g c = λ p entries blocks h.
    let q = c.args.program.now in
    let after = c.in_ok-visited.ensures.blocks p entries blocks in
    let next : c.in_ok-number.number ≡ c.args.self.number + 1 = search rules in
    text-broken (g.K.Sink.taken c.args.out.now) (g.K.Sink.taken c.write_all.new.out) c.as_slice.result.now (c.args.self.number + 1) q entries
    c.in_ok-visited.visited (touched_count p q (block_certs entries))
    (c.as_slice.ensures.value ∙ c.in_ok-text.ensures q entries after ∙ ap (λ n. program_text n q entries c.in_ok-visited.visited) next)
    (c.in_ok-visited.ensures.visited p entries blocks) c.in_err-write_all.ensures.err
