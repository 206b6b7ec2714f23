use Rattle.std.proofs.Common.{◌≡◌, ◌∙◌, ap, sym, Global, List, ℕ, Some, map, string_bytes}
use Rattle.scasp_command_inputs.specs.Inputs.{outside}
use Rattle.scasp_view_top.proofs.TopLemmas.ReportLemmas.{line-shown, usage-shown}
use Rattle.scasp_view_top.specs.Words.Asked.{asked_of}
use Rattle.scasp_view_top.specs.declared.words.asked.Asked.TheVariants.{Answers, Place, Program}
use Rattle.scasp_view_top.proofs.top.shown_for.Goals as goal

pub returns-in-Ok-Place : goal.returns-in-Ok-Place
returns-in-Ok-Place g c =
    line-shown (asked_of (map (string_bytes {Z = Global}) c.args.words.now.items))
    (outside (g.F.Files.told c.args.files.now) (g.F.Files.faults c.args.files.now) (g.F.Files.faults c.place_shown.new.files)) c.place_shown.result
    (Place c.in-Ok-Place.place) (c.in-Ok-Place.ensures.ok ∙ ap Some c.in-Ok-Place.field-0-is) c.place_shown.ensures

pub returns-in-Ok-Program : goal.returns-in-Ok-Program
returns-in-Ok-Program g c =
    let named : Program c.as_str.result.now ≡ Program c.in-Ok-Program.file = ap (λ (file : List ℕ). Program file) c.as_str.ensures in
    line-shown (asked_of (map (string_bytes {Z = Global}) c.args.words.now.items))
    (outside (g.F.Files.told c.args.files.now) (g.F.Files.faults c.args.files.now) (g.F.Files.faults c.program_shown.new.files)) c.program_shown.result
    (Program c.as_str.result.now) (c.in-Ok-Program.ensures.ok ∙ ap Some (c.in-Ok-Program.field-0-is ∙ sym named)) c.program_shown.ensures

pub returns-in-Ok-Answers : goal.returns-in-Ok-Answers
returns-in-Ok-Answers g c =
    let named : Answers c.as_str-in-Ok-Answers.result.now c.as_str-in-Ok-Answers-2.result.now c.in-Ok-Answers.options ≡ Answers c.in-Ok-Answers.program c.in-Ok-Answers.answers c.in-Ok-Answers.options =
    ap (λ (file : List ℕ). Answers file c.as_str-in-Ok-Answers-2.result.now c.in-Ok-Answers.options) c.as_str-in-Ok-Answers.ensures
    ∙ ap (λ (file : List ℕ). Answers c.in-Ok-Answers.program file c.in-Ok-Answers.options) c.as_str-in-Ok-Answers-2.ensures
    in
    line-shown (asked_of (map (string_bytes {Z = Global}) c.args.words.now.items))
    (outside (g.F.Files.told c.args.files.now) (g.F.Files.faults c.args.files.now) (g.F.Files.faults c.answers_shown.new.files)) c.answers_shown.result
    (Answers c.as_str-in-Ok-Answers.result.now c.as_str-in-Ok-Answers-2.result.now c.in-Ok-Answers.options)
    (c.in-Ok-Answers.ensures.ok ∙ ap Some (c.in-Ok-Answers.field-0-is ∙ sym named)) c.answers_shown.ensures

pub returns-in-Err-Usage : goal.returns-in-Err-Usage
returns-in-Err-Usage g c =
    usage-shown (asked_of (map (string_bytes {Z = Global}) c.args.words.now.items))
    (outside (g.F.Files.told c.args.files.now) (g.F.Files.faults c.args.files.now) (g.F.Files.faults c.args.files.now)) c.line.result
    (c.in-Err-Usage.ensures.usage (cc c.in-Err-Usage.field-0-is)) c.line.ensures
