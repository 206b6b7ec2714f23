-- What the sink took, of what may be printed in one way and in another.
use Rattle.std.proofs.Common.{◌≡◌, ℕ, Option, List, [], sym, subst}
use Rattle.scasp_command_inputs.specs.Halts.{IfLine, Tells}
use Rattle.scasp_command_inputs.specs.Inputs.{Says}
use Rattle.scasp_command_inputs.specs.Reports.{Reports, whole, part}
use Rattle.scasp_command_inputs.specs.declared.halt.Halt.{Halt}
use Rattle.scasp_command_inputs.specs.declared.halt.Halt.TheVariants as halt
use Rattle.scasp_command_inputs.specs.declared.status.Status.{Status}
use Rattle.scasp_command_inputs.specs.declared.status.Status.TheVariants.{Memory}

-- what may be printed in one way may be printed in another
abbrev pub Widens : (List ℕ → Status → Type 0) → (List ℕ → Status → Type 0) → Type 0
Widens may also = (text : List ℕ) (status : Status) → may text status → also text status

pub reports-widen : (may also : List ℕ → Status → Type 0) (before after : Option (List ℕ)) (faults faults' : ℕ) (status : Status)
    → Widens may also → Reports may before after faults faults' status → Reports also before after faults faults' status
reports-widen may also before after faults faults' status more (whole w) =
    whole (record { text = w.text; may = more w.text status w.may; taken = w.taken })
reports-widen may also before after faults faults' status more (part is rose w) =
    part is rose (record { text = w.text; may = (w.may.0, more w.text w.may.0 w.may.1); part = w.part })

-- a line that may be printed is told
pub tells-widen : (may also : List ℕ → Status → Type 0) (h : Halt) → IfLine h may → Widens may also → Widens (Says [] Memory) also → Widens (Tells h) also
tells-widen may also (halt.Line line ending) line_may more none = λ text status says.
    let at : also line.items ending = more line.items ending line_may in
    let P : List ℕ → Type 0 = λ t. also t status in
    let Q : Status → Type 0 = λ s. also line.items s in
    subst P (sym says.line_is) (subst Q (sym says.ending_is) at)
tells-widen may also halt.Memory line_may more none = none
