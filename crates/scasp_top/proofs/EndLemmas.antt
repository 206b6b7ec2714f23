-- What the sink took of a run and of a check.
use Rattle.std.proofs.Common.{◌≡◌, ℕ, Option, None, Some, List, All, refl, subst}
use Rattle.scasp_syntax.specs.declared.program.Program.{Program}
use Rattle.scasp_answers.specs.Blocks.States.{Entry}
use Rattle.scasp_io.specs.Bytes.{behind, TakesPrefix}
use Rattle.scasp_io.specs.Counts.{Rose}
use Rattle.scasp_io.specs.Taken.{TakesFirst, TakesWhole}
use Rattle.scasp_command_run.specs.Jobs.{job}
use Rattle.scasp_command_run.specs.Runs.{IsRun}
use Rattle.scasp_command_run.specs.declared.ends.RunEnd.{RunEnd}
use Rattle.scasp_command_run.specs.declared.requests.Request.{Request}
use Rattle.scasp_command_check.specs.Outputs.{KeepsWorth, TakesLines}
use Rattle.scasp_command_check.specs.Texts.{block_lines, recheck_text, rechecked_of}
use Rattle.scasp_command_check.specs.declared.checking.Rechecked.{Rechecked}
use Rattle.scasp_top.specs.Ends.{run_status, check_status}
use Rattle.scasp_top.specs.Outputs.{Checks, Runs}
use Rattle.scasp_command_inputs.specs.Reports.{Reports, whole, part}
use Rattle.scasp_command_inputs.specs.declared.status.Status.{Status}
use Rattle.scasp_command_inputs.specs.declared.status.Status.TheVariants.{Memory, Write}

-- a run that ended, or was cut off by want of memory
pub takes-run : (p : Program) (names : List (List ℕ)) (request : Request) (end : Option RunEnd) (status : Status) (before after : Option (List ℕ)) (faults faults' : ℕ)
    → TakesWhole (λ text. IsRun (job p names request) text end) before after → status ≡ run_status end
    → Reports (Runs p names request) before after faults faults' status
takes-run p names request end status before after faults faults' t is =
    whole (record { text = t.text; may = record { end = end; run = t.may; ending = is }; taken = t.taken })

-- a run of which a write failed
pub takes-part : (p : Program) (names : List (List ℕ)) (request : Request) (before after : Option (List ℕ)) (faults faults' : ℕ)
    → TakesFirst (λ text. (end : Option RunEnd) × IsRun (job p names request) text end) before after → Rose faults faults'
    → Reports (Runs p names request) before after faults faults' Write
takes-part p names request before after faults faults' t rose =
    part refl rose (record { text = t.text; may = (run_status t.may.0, record { end = t.may.0; run = t.may.1; ending = refl }); part = t.part })

-- a check that ended
pub takes-check : (p : Program) (entries : List Entry) (end : Rechecked) (status : Status) (before after : Option (List ℕ)) (faults faults' : ℕ)
    → after ≡ behind before (recheck_text p entries) → end ≡ rechecked_of p entries → status ≡ check_status (Some end) → All (KeepsWorth p) entries
    → Reports (Checks p entries) before after faults faults' status
takes-check p entries end status before after faults faults' taken is ending says =
    whole (record { text = recheck_text p entries; may = record { end = Some end; check = (refl, is); ending = ending; says = says }; taken = taken })

-- a check that was cut off by want of memory
pub takes-lines : (p : Program) (entries : List Entry) (before after : Option (List ℕ)) (faults faults' : ℕ)
    → TakesLines before after (block_lines p entries) → All (KeepsWorth p) entries → Reports (Checks p entries) before after faults faults' Memory
takes-lines p entries before after faults faults' t says =
    whole (record { text = _; may = record { end = None; check = (t.count, refl); ending = refl; says = says }; taken = t.taken })

-- a check of which a write failed
pub takes-check_part : (p : Program) (entries : List Entry) (before after : Option (List ℕ)) (faults faults' : ℕ)
    → TakesPrefix before after (recheck_text p entries) → Rose faults faults' → All (KeepsWorth p) entries
    → Reports (Checks p entries) before after faults faults' Write
takes-check_part p entries before after faults faults' t rose says =
    part refl rose (record {
      text = recheck_text p entries;
      may = (check_status (Some (rechecked_of p entries)), record { end = Some (rechecked_of p entries); check = (refl, refl); ending = refl; says = says });
      part = t;
    })
