use Rattle.std.proofs.Common.{◌≡◌, ◌∙◌, ◌∷◌, drop, refl}
use Rattle.std.proofs.lemmas.List.{take_rest}
use Rattle.scasp_command_inputs.specs.Inputs.{outside}
use Rattle.scasp_command_inputs.specs.declared.status.Status.TheVariants.{Memory, Write}
use Rattle.scasp_command_recheck.proofs.CourseLemmas.{course-broken, course-cut, course-ends, course-goes, course-of, course-stops, first-file}
use Rattle.scasp_command_recheck.proofs.course.Course.+go_on.Goals as goal

pub returns-in_default : goal.returns-in_default
returns-in_default g t c = λ p entries blocks.
    course-ends entries c.args.self.number p c.args.self.names c.args.self.accepted (g.K.Sink.taken c.args.out.now) (g.K.Sink.taken c.args.out.now) (g.K.Sink.faults c.args.out.now) (g.K.Sink.faults c.args.out.now)
    (outside (g.F.Files.told c.args.disk.now) (g.F.Files.faults c.args.disk.now) (g.F.Files.faults c.args.disk.now)) c.args.files.now
    c.status.result c.in_default.len_below c.status.ensures refl

pub returns-in-Err : goal.returns-in-Err
returns-in-Err g t c = λ p entries blocks.
    let parts : c.as_str.result.now ∷ drop 1 c.args.files.now ≡ c.args.files.now =
    first-file c.args.files.now c.as_str.result.now c.file-item.result c.in-len1-up.len_at_least (c.as_str.ensures ∙ c.file-item.is) in
    course-of (outside (g.F.Files.told c.args.disk.now) (g.F.Files.faults c.args.disk.now) (g.F.Files.faults c.next_program_in_file.new.files)) entries c.args.self.number p c.args.self.names c.args.self.accepted
    (c.as_str.result.now ∷ drop 1 c.args.files.now) c.args.files.now (g.K.Sink.taken c.args.out.now) (g.K.Sink.taken c.tell.new.out) (g.K.Sink.faults c.args.out.now) (g.K.Sink.faults c.tell.new.out) c.tell.result parts
    (course-stops entries c.args.self.number p c.args.self.names c.args.self.accepted (g.K.Sink.taken c.args.out.now) (g.K.Sink.taken c.tell.new.out) (g.K.Sink.faults c.args.out.now) (g.K.Sink.faults c.tell.new.out)
    (outside (g.F.Files.told c.args.disk.now) (g.F.Files.faults c.args.disk.now) (g.F.Files.faults c.next_program_in_file.new.files)) c.as_str.result.now (drop 1 c.args.files.now)
    c.in-Err.halt c.tell.result c.in-Err.ensures.err c.tell.ensures)

pub returns-in-Ok-step : goal.returns-in-Ok-step
returns-in-Ok-step g t c = λ p entries blocks.
    let q = c.in-Ok.read.0 in
    let parts : c.as_str.result.now ∷ drop 1 c.args.files.now ≡ c.args.files.now =
    first-file c.args.files.now c.as_str.result.now c.file-item.result c.in-len1-up.len_at_least (c.as_str.ensures ∙ c.file-item.is) in
    course-of (outside (g.F.Files.told c.args.disk.now) (g.F.Files.faults c.args.disk.now) (g.F.Files.faults c.go_on.new.disk)) entries c.args.self.number p c.args.self.names c.args.self.accepted
    (c.as_str.result.now ∷ drop 1 c.args.files.now) c.args.files.now (g.K.Sink.taken c.args.out.now) (g.K.Sink.taken c.go_on.new.out) (g.K.Sink.faults c.args.out.now) (g.K.Sink.faults c.go_on.new.out) c.go_on.result parts
    (course-goes entries c.args.self.number p c.args.self.names c.args.self.accepted (g.K.Sink.taken c.args.out.now) (g.K.Sink.taken c.step.new.out) (g.K.Sink.faults c.args.out.now) (g.K.Sink.faults c.step.new.out)
    (g.F.Files.told c.args.disk.now) (g.F.Files.told c.next_program_in_file.new.files) (g.F.Files.faults c.args.disk.now) (g.F.Files.faults c.next_program_in_file.new.files) (g.F.Files.faults c.go_on.new.disk)
    c.as_str.result.now (drop 1 c.args.files.now) q c.in-Ok.read.1 c.in-Ok-step.course.number c.in-Ok-step.course.names c.in-Ok-step.course.accepted
    (g.K.Sink.taken c.go_on.new.out) (g.K.Sink.faults c.go_on.new.out) c.go_on.result c.in-Ok.ensures.stays c.in-Ok.ensures.counts c.in-Ok.ensures.ok
    c.in-Ok-step.ensures.number c.in-Ok-step.ensures.names (c.in-Ok-step.ensures.accepted p entries blocks) (c.in-Ok-step.ensures.ok p entries blocks) c.in-Ok-step.ensures.counts
    (rw (take_rest c.args.files.now 1) at (c.go_on.ensures q entries (c.in-Ok-step.ensures.under_program p entries blocks))))

pub returns-in-Err-Write : goal.returns-in-Err-Write
returns-in-Err-Write g t c = λ p entries blocks.
    let parts : c.as_str.result.now ∷ drop 1 c.args.files.now ≡ c.args.files.now =
    first-file c.args.files.now c.as_str.result.now c.file-item.result c.in-len1-up.len_at_least (c.as_str.ensures ∙ c.file-item.is) in
    course-of (outside (g.F.Files.told c.args.disk.now) (g.F.Files.faults c.args.disk.now) (g.F.Files.faults c.next_program_in_file.new.files)) entries c.args.self.number p c.args.self.names c.args.self.accepted
    (c.as_str.result.now ∷ drop 1 c.args.files.now) c.args.files.now (g.K.Sink.taken c.args.out.now) (g.K.Sink.taken c.step.new.out) (g.K.Sink.faults c.args.out.now) (g.K.Sink.faults c.step.new.out) Write parts
    (course-broken entries c.args.self.number p c.args.self.names c.args.self.accepted (g.K.Sink.taken c.args.out.now) (g.K.Sink.taken c.step.new.out) (g.K.Sink.faults c.args.out.now) (g.K.Sink.faults c.step.new.out)
    (outside (g.F.Files.told c.args.disk.now) (g.F.Files.faults c.args.disk.now) (g.F.Files.faults c.next_program_in_file.new.files)) c.as_str.result.now (drop 1 c.args.files.now) c.in-Ok.read.0 c.in-Ok.read.1
    c.in-Ok.ensures.ok (c.in-Err-Write.ensures.write p entries blocks (cc c.in-Err-Write.field-0-is)) (c.in-Err-Write.ensures.cause (cc c.in-Err-Write.field-0-is)))

pub returns : goal.returns
returns g t c = λ p entries blocks.
    let parts : c.as_str.result.now ∷ drop 1 c.args.files.now ≡ c.args.files.now =
    first-file c.args.files.now c.as_str.result.now c.file-item.result c.in-len1-up.len_at_least (c.as_str.ensures ∙ c.file-item.is) in
    course-of (outside (g.F.Files.told c.args.disk.now) (g.F.Files.faults c.args.disk.now) (g.F.Files.faults c.next_program_in_file.new.files)) entries c.args.self.number p c.args.self.names c.args.self.accepted
    (c.as_str.result.now ∷ drop 1 c.args.files.now) c.args.files.now (g.K.Sink.taken c.args.out.now) (g.K.Sink.taken c.step.new.out) (g.K.Sink.faults c.args.out.now) (g.K.Sink.faults c.step.new.out) Memory parts
    (course-cut entries c.args.self.number p c.args.self.names c.args.self.accepted (g.K.Sink.taken c.args.out.now) (g.K.Sink.taken c.step.new.out) (g.K.Sink.faults c.args.out.now) (g.K.Sink.faults c.step.new.out)
    (outside (g.F.Files.told c.args.disk.now) (g.F.Files.faults c.args.disk.now) (g.F.Files.faults c.next_program_in_file.new.files)) c.as_str.result.now (drop 1 c.args.files.now)
    (c.in-Err-Memory.ensures.memory (cc c.in-Err-Memory.field-0-is)))
