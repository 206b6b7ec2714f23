use Rattle.std.proofs.Common.{◌≡◌, ◌∙◌, ◌∷◌, arith, drop, map}
use Rattle.std.proofs.lemmas.List.{take_rest}
use Rattle.scasp_answers.specs.Files.View.{entry_of}
use Rattle.scasp_command_inputs.specs.Inputs.{outside}
use Rattle.scasp_command_inputs.specs.declared.status.Status.TheVariants.{Memory, Write}
use Rattle.scasp_command_recheck.proofs.CourseLemmas.{answers-stop, first-broken, first-cut, first-file, first-goes, first-stops, rechecks-of}
use Rattle.scasp_command_recheck.proofs.course.recheck_files.Goals as goal

pub returns-in-Err : goal.returns-in-Err
returns-in-Err g c =
    let parts : c.as_str.result.now ∷ drop 1 c.args.files.now ≡ c.args.files.now =
    first-file c.args.files.now c.as_str.result.now c.file-item.result c.in-len1-up.len_at_least (c.as_str.ensures ∙ c.file-item.is) in
    rechecks-of (outside (g.F.Files.told c.args.disk.now) (g.F.Files.faults c.args.disk.now) (g.F.Files.faults c.program_in_file.new.files)) c.args.answers.now c.as_str.result.now (drop 1 c.args.files.now) c.args.files.now
    (g.K.Sink.taken c.args.out.now) (g.K.Sink.taken c.tell.new.out) (g.K.Sink.faults c.args.out.now) (g.K.Sink.faults c.tell.new.out) c.tell.result parts
    (first-stops c.args.answers.now c.as_str.result.now (drop 1 c.args.files.now) (g.K.Sink.taken c.args.out.now) (g.K.Sink.taken c.tell.new.out) (g.K.Sink.faults c.args.out.now) (g.K.Sink.faults c.tell.new.out)
    (outside (g.F.Files.told c.args.disk.now) (g.F.Files.faults c.args.disk.now) (g.F.Files.faults c.program_in_file.new.files)) c.in-Err.halt c.tell.result c.in-Err.ensures.err c.tell.ensures)

pub returns-in-Err-answers_in_file : goal.returns-in-Err-answers_in_file
returns-in-Err-answers_in_file g c =
    let parts : c.as_str.result.now ∷ drop 1 c.args.files.now ≡ c.args.files.now =
    first-file c.args.files.now c.as_str.result.now c.file-item.result c.in-len1-up.len_at_least (c.as_str.ensures ∙ c.file-item.is) in
    rechecks-of (outside (g.F.Files.told c.args.disk.now) (g.F.Files.faults c.args.disk.now) (g.F.Files.faults c.answers_in_file.new.files)) c.args.answers.now c.as_str.result.now (drop 1 c.args.files.now) c.args.files.now
    (g.K.Sink.taken c.args.out.now) (g.K.Sink.taken c.tell-in-Err-answers_in_file.new.out) (g.K.Sink.faults c.args.out.now) (g.K.Sink.faults c.tell-in-Err-answers_in_file.new.out) c.tell-in-Err-answers_in_file.result parts
    (answers-stop c.args.answers.now c.as_str.result.now (drop 1 c.args.files.now) (g.K.Sink.taken c.args.out.now) (g.K.Sink.taken c.tell-in-Err-answers_in_file.new.out) (g.K.Sink.faults c.args.out.now) (g.K.Sink.faults c.tell-in-Err-answers_in_file.new.out)
    (g.F.Files.told c.args.disk.now) (g.F.Files.told c.program_in_file.new.files) (g.F.Files.faults c.args.disk.now) (g.F.Files.faults c.program_in_file.new.files) (g.F.Files.faults c.answers_in_file.new.files)
    c.in-Ok.read.0 c.in-Ok.read.1 (c.in-Ok.ensures.stays c.args.answers.now) c.in-Ok.ensures.ok
    c.in-Err-answers_in_file.halt c.tell-in-Err-answers_in_file.result (c.in-Ok.ensures.counts c.args.answers.now) c.in-Err-answers_in_file.ensures.err c.tell-in-Err-answers_in_file.ensures)

pub returns-in-Ok-begin : goal.returns-in-Ok-begin
returns-in-Ok-begin g c =
    let parts : c.as_str.result.now ∷ drop 1 c.args.files.now ≡ c.args.files.now =
    first-file c.args.files.now c.as_str.result.now c.file-item.result c.in-len1-up.len_at_least (c.as_str.ensures ∙ c.file-item.is) in
    rechecks-of (outside (g.F.Files.told c.args.disk.now) (g.F.Files.faults c.args.disk.now) (g.F.Files.faults c.go_on.new.disk)) c.args.answers.now c.as_str.result.now (drop 1 c.args.files.now) c.args.files.now
    (g.K.Sink.taken c.args.out.now) (g.K.Sink.taken c.go_on.new.out) (g.K.Sink.faults c.args.out.now) (g.K.Sink.faults c.go_on.new.out) c.go_on.result parts
    (first-goes c.args.answers.now c.as_str.result.now (drop 1 c.args.files.now) (g.K.Sink.taken c.args.out.now) (g.K.Sink.taken c.begin.new.out) (g.K.Sink.faults c.args.out.now) (g.K.Sink.faults c.begin.new.out)
    (g.F.Files.told c.args.disk.now) (g.F.Files.told c.program_in_file.new.files) (g.F.Files.faults c.args.disk.now) (g.F.Files.faults c.program_in_file.new.files) (g.F.Files.faults c.go_on.new.disk)
    c.in-Ok.read.0 c.in-Ok.read.1 (c.in-Ok.ensures.stays c.args.answers.now) c.in-Ok.ensures.ok
    (map entry_of c.in-Ok-answers_in_file.read.0) c.in-Ok-answers_in_file.read.1 c.in-Ok-answers_in_file.ensures.ok c.see_entries.ensures
    (g.F.Files.told c.answers_in_file.new.files) (g.F.Files.faults c.answers_in_file.new.files) c.in-Ok-begin.course.number c.in-Ok-begin.course.names c.in-Ok-begin.course.accepted
    (g.K.Sink.taken c.go_on.new.out) (g.K.Sink.faults c.go_on.new.out) c.go_on.result
    (λ other. c.in-Ok-answers_in_file.ensures.stays other ∙ c.in-Ok.ensures.stays other)
    (λ other. omega (arith, c.in-Ok.ensures.counts other, c.in-Ok-answers_in_file.ensures.counts other))
    c.in-Ok-begin.ensures.number c.in-Ok-begin.ensures.names c.in-Ok-begin.ensures.accepted c.in-Ok-begin.ensures.ok c.in-Ok-begin.ensures.counts
    (rw (take_rest c.args.files.now 1) at (c.go_on.ensures c.in-Ok.read.0 (map entry_of c.in-Ok-answers_in_file.read.0) c.in-Ok-begin.ensures.under_program)))

pub returns-in-Err-Write : goal.returns-in-Err-Write
returns-in-Err-Write g c =
    let parts : c.as_str.result.now ∷ drop 1 c.args.files.now ≡ c.args.files.now =
    first-file c.args.files.now c.as_str.result.now c.file-item.result c.in-len1-up.len_at_least (c.as_str.ensures ∙ c.file-item.is) in
    rechecks-of (outside (g.F.Files.told c.args.disk.now) (g.F.Files.faults c.args.disk.now) (g.F.Files.faults c.answers_in_file.new.files)) c.args.answers.now c.as_str.result.now (drop 1 c.args.files.now) c.args.files.now
    (g.K.Sink.taken c.args.out.now) (g.K.Sink.taken c.begin.new.out) (g.K.Sink.faults c.args.out.now) (g.K.Sink.faults c.begin.new.out) Write parts
    (first-broken c.args.answers.now c.as_str.result.now (drop 1 c.args.files.now) (g.K.Sink.taken c.args.out.now) (g.K.Sink.taken c.begin.new.out) (g.K.Sink.faults c.args.out.now) (g.K.Sink.faults c.begin.new.out)
    (g.F.Files.told c.args.disk.now) (g.F.Files.told c.program_in_file.new.files) (g.F.Files.faults c.args.disk.now) (g.F.Files.faults c.program_in_file.new.files) (g.F.Files.faults c.answers_in_file.new.files)
    c.in-Ok.read.0 c.in-Ok.read.1 (c.in-Ok.ensures.stays c.args.answers.now) c.in-Ok.ensures.ok
    (map entry_of c.in-Ok-answers_in_file.read.0) c.in-Ok-answers_in_file.read.1 c.in-Ok-answers_in_file.ensures.ok c.see_entries.ensures
    (c.in-Err-Write.ensures.write (cc c.in-Err-Write.field-0-is)) (c.in-Err-Write.ensures.cause (cc c.in-Err-Write.field-0-is)))

pub returns : goal.returns
returns g c =
    let parts : c.as_str.result.now ∷ drop 1 c.args.files.now ≡ c.args.files.now =
    first-file c.args.files.now c.as_str.result.now c.file-item.result c.in-len1-up.len_at_least (c.as_str.ensures ∙ c.file-item.is) in
    rechecks-of (outside (g.F.Files.told c.args.disk.now) (g.F.Files.faults c.args.disk.now) (g.F.Files.faults c.answers_in_file.new.files)) c.args.answers.now c.as_str.result.now (drop 1 c.args.files.now) c.args.files.now
    (g.K.Sink.taken c.args.out.now) (g.K.Sink.taken c.begin.new.out) (g.K.Sink.faults c.args.out.now) (g.K.Sink.faults c.begin.new.out) Memory parts
    (first-cut c.args.answers.now c.as_str.result.now (drop 1 c.args.files.now) (g.K.Sink.taken c.args.out.now) (g.K.Sink.taken c.begin.new.out) (g.K.Sink.faults c.args.out.now) (g.K.Sink.faults c.begin.new.out)
    (g.F.Files.told c.args.disk.now) (g.F.Files.told c.program_in_file.new.files) (g.F.Files.faults c.args.disk.now) (g.F.Files.faults c.program_in_file.new.files) (g.F.Files.faults c.answers_in_file.new.files)
    c.in-Ok.read.0 c.in-Ok.read.1 (c.in-Ok.ensures.stays c.args.answers.now) c.in-Ok.ensures.ok
    (map entry_of c.in-Ok-answers_in_file.read.0) c.in-Ok-answers_in_file.read.1 c.in-Ok-answers_in_file.ensures.ok c.see_entries.ensures
    (c.in-Err-Memory.ensures.memory (cc c.in-Err-Memory.field-0-is)))
