use Rattle.std.proofs.Common.{◌≡◌, ◌∙◌, ap, sym, List, Some, map, string_bytes, Global, ℕ}
use Rattle.scasp_command_words.specs.Commands.{command_of}
use Rattle.scasp_command_words.specs.declared.command.Command.TheVariants.{Run, Check, Trial, Extend, Recheck}
use Rattle.scasp_command_inputs.specs.Inputs.{outside}
use Rattle.scasp_top.proofs.CauseLemmas.{command-completes, command-reports, completes, read-cause, write-cause}
use Rattle.scasp_top.proofs.top.scasp.Goals as goal

pub returns-in-Ok-Run : goal.returns-in-Ok-Run
returns-in-Ok-Run g c =
    let asked = command_of (map (string_bytes {Z = Global}) c.args.words.now.items) in
    let command = Run c.as_str.result.now c.in-Ok-Run.budget c.in-Ok-Run.answers c.in-Ok-Run.format in
    let named : command ≡ Run c.in-Ok-Run.file c.in-Ok-Run.budget c.in-Ok-Run.answers c.in-Ok-Run.format =
    ap (λ (file : List ℕ). Run file c.in-Ok-Run.budget c.in-Ok-Run.answers c.in-Ok-Run.format) c.as_str.ensures in
    let o = outside (g.F.Files.told c.args.files.now) (g.F.Files.faults c.args.files.now) (g.F.Files.faults c.run_file.new.files) in
    let is : asked ≡ Some command = c.in-Ok-Run.ensures.ok ∙ ap Some (c.in-Ok-Run.field-0-is ∙ sym named) in
    let reports =
    command-reports asked command o _ _ _ _ _ is
    (c.run_file.ensures c.in-Ok-Run.budget c.in-Ok-Run.answers c.in-Ok-Run.format c.requested.ensures) in
    record {
      reports = reports;
      read = read-cause asked o _ _ _ _ _ reports;
      write = write-cause asked o _ _ _ _ _ reports;
      complete = completes asked o _ _ _ _ _ reports;
    }

pub returns-in-Ok-Check-clause-complete : goal.returns-in-Ok-Check-clause-complete
returns-in-Ok-Check-clause-complete g c =
    let asked = command_of (map (string_bytes {Z = Global}) c.args.words.now.items) in
    let command = Check c.as_str-in-Ok-Check.result.now c.as_str-in-Ok-Check-2.result.now in
    let named : command ≡ Check c.in-Ok-Check.program c.in-Ok-Check.answers =
    ap (λ (file : List ℕ). Check file c.as_str-in-Ok-Check-2.result.now) c.as_str-in-Ok-Check.ensures
    ∙ ap (λ (file : List ℕ). Check c.in-Ok-Check.program file) c.as_str-in-Ok-Check-2.ensures in
    let is : asked ≡ Some command = c.in-Ok-Check.ensures.ok ∙ ap Some (c.in-Ok-Check.field-0-is ∙ sym named) in
    command-completes asked command (outside (g.F.Files.told c.args.files.now) (g.F.Files.faults c.args.files.now) (g.F.Files.faults c.check_files.new.files)) _ _ _ _ _ is c.check_files.ensures

pub returns-in-Ok-Trial : goal.returns-in-Ok-Trial
returns-in-Ok-Trial g c =
    let asked = command_of (map (string_bytes {Z = Global}) c.args.words.now.items) in
    let o = outside (g.F.Files.told c.args.files.now) (g.F.Files.faults c.args.files.now) (g.F.Files.faults c.args.files.now) in
    let is : asked ≡ Some (Trial c.in-Ok-Trial.n) = c.in-Ok-Trial.ensures.ok ∙ ap Some c.in-Ok-Trial.field-0-is in
    let reports = command-reports asked (Trial c.in-Ok-Trial.n) o _ _ _ _ _ is (c.try_nodes.ensures o) in
    record {
      reports = reports;
      read = read-cause asked o _ _ _ _ _ reports;
      write = write-cause asked o _ _ _ _ _ reports;
      complete = completes asked o _ _ _ _ _ reports;
    }

pub returns-in-Ok-Extend : goal.returns-in-Ok-Extend
returns-in-Ok-Extend g c =
    let asked = command_of (map (string_bytes {Z = Global}) c.args.words.now.items) in
    let program = c.as_str-in-Ok-Extend.result.now in
    let answers = c.as_str-in-Ok-Extend-2.result.now in
    let domain = c.as_str-in-Ok-Extend-3.result.now in
    let command = Extend program answers domain in
    let named : command ≡ Extend c.in-Ok-Extend.program c.in-Ok-Extend.answers c.in-Ok-Extend.domain =
    λ i. Extend (c.as_str-in-Ok-Extend.ensures i) (c.as_str-in-Ok-Extend-2.ensures i) (c.as_str-in-Ok-Extend-3.ensures i) in
    let o = outside (g.F.Files.told c.args.files.now) (g.F.Files.faults c.args.files.now) (g.F.Files.faults c.extend_answers.new.files) in
    let is : asked ≡ Some command = c.in-Ok-Extend.ensures.ok ∙ ap Some (c.in-Ok-Extend.field-0-is ∙ sym named) in
    let reports = command-reports asked command o _ _ _ _ _ is c.extend_answers.ensures in
    record {
      reports = reports;
      read = read-cause asked o _ _ _ _ _ reports;
      write = write-cause asked o _ _ _ _ _ reports;
      complete = completes asked o _ _ _ _ _ reports;
    }

pub returns-in-Ok-Recheck : goal.returns-in-Ok-Recheck
returns-in-Ok-Recheck g c =
    let asked = command_of (map (string_bytes {Z = Global}) c.args.words.now.items) in
    let command = Recheck c.as_str-in-Ok-Recheck.result.now c.as_slice.result.now in
    let named : command ≡ Recheck c.in-Ok-Recheck.answers c.in-Ok-Recheck.programs =
    ap (λ (file : List ℕ). Recheck file c.as_slice.result.now) c.as_str-in-Ok-Recheck.ensures
    ∙ ap (λ (files : List (List ℕ)). Recheck c.in-Ok-Recheck.answers files) c.as_slice.ensures in
    let o = outside (g.F.Files.told c.args.files.now) (g.F.Files.faults c.args.files.now) (g.F.Files.faults c.recheck_programs.new.files) in
    let is : asked ≡ Some command = c.in-Ok-Recheck.ensures.ok ∙ ap Some (c.in-Ok-Recheck.field-0-is ∙ sym named) in
    let reports = command-reports asked command o _ _ _ _ _ is c.recheck_programs.ensures in
    record {
      reports = reports;
      read = read-cause asked o _ _ _ _ _ reports;
      write = write-cause asked o _ _ _ _ _ reports;
      complete = completes asked o _ _ _ _ _ reports;
    }
