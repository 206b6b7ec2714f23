-- What the sink took, where a file is not read, and where both are.
use Rattle.std.proofs.Common.{◌≡◌, ◌≤◌, ◌+◌, ◌<◌, ℕ, Option, None, Some, IfSome, List, length, refl, subst, sym, arith, replicate, Result, Ok, Err, IfErr, IfOk, codes}
use Rattle.std.proofs.lemmas.List.{length-replicate}
use Rattle.scasp_command_inputs.proofs.InputLemmas.{Longer, line-widen, longer-told}
use Rattle.scasp_command_inputs.proofs.ReportLemmas.{reports-widen, tells-widen}
use Rattle.scasp_command_inputs.specs.Halts.{IfLine, Tells}
use Rattle.scasp_command_inputs.specs.Inputs.{AreBytes, IsNoProgram, IsProgram, Outside, Says, outside}
use Rattle.scasp_command_inputs.specs.Reports.{Reports}
use Rattle.scasp_command_inputs.specs.Texts.{off_grammar, past_limit, refusal_line}
use Rattle.scasp_command_inputs.specs.declared.halt.Halt.{Halt}
use Rattle.scasp_command_inputs.specs.declared.refusals.Input.TheVariants as input
use Rattle.scasp_command_inputs.specs.declared.status.Status.{Status}
use Rattle.scasp_command_inputs.specs.declared.status.Status.TheVariants.{Limit, Text, Usage}
use Rattle.scasp_io.specs.Counts.{Rose}
use Rattle.scasp_serve_top.specs.Inputs.{AreCommands, HasNoCommands, RefusesLine, refused, too_long, unread}
use Rattle.scasp_serve_top.specs.Outputs.{Asked, Outputs, no_commands, no_program, nothing, serves, usage, usage_line}
use Rattle.scasp_serve_top.specs.Served.{Serves}
use Rattle.scasp_serve_top.specs.declared.inputs.TheConstants.{BYTE_LIMIT}
use Rattle.scasp_serve_words.specs.Reading.{commands_in}
use Rattle.scasp_serve_words.specs.declared.command.Command.{Command}
use Rattle.scasp_syntax.specs.declared.program.Program.{Program}

-- ---- the file of commands

pub line-refused : (bytes : List ℕ) (at : ℕ) (h : Halt) → commands_in bytes ≡ Err at → IfLine h (Says (refusal_line input.Commands at (off_grammar (codes "Line"))) Text)
    → IfLine h (RefusesLine bytes)
line-refused bytes at h is says =
    line-widen h (Says (refusal_line input.Commands at (off_grammar (codes "Line"))) Text) (RefusesLine bytes) says
    (λ text status s. record { at = at; is = is; says = s })

pub long-commands : (told : List ℕ → Option (List ℕ)) (before after : List ℕ → ℕ) (file : List ℕ) (h : Halt) → IfSome (told file) (λ bytes. BYTE_LIMIT < length bytes)
    → IfLine h (Says (refusal_line input.Commands BYTE_LIMIT (past_limit (codes "bytes"))) Limit) → IfLine h (HasNoCommands (outside told before after) file)
long-commands told before after file h longer says =
    let l = longer-told (told file) BYTE_LIMIT longer in
    line-widen h (Says (refusal_line input.Commands BYTE_LIMIT (past_limit (codes "bytes"))) Limit) (HasNoCommands (outside told before after) file) says
    (λ text status s. too_long l.bytes l.are l.longer s)

pub commands-refused : {X : Type 0} (told : List ℕ → Option (List ℕ)) (before after : List ℕ → ℕ) (file items bytes : List ℕ) (r : Result X Halt) → bytes ≡ items
    → AreBytes (told file) items → length items ≤ BYTE_LIMIT → IfErr r (λ halt. IfLine halt (RefusesLine bytes))
    → IfErr r (λ halt. IfLine halt (HasNoCommands (outside told before after) file))
commands-refused told before after file items bytes (Ok x) same are within h = h
commands-refused told before after file items bytes (Err halt) same are within h =
    line-widen halt (RefusesLine bytes) (HasNoCommands (outside told before after) file) h
    (λ text status s. refused bytes (subst (AreBytes (told file)) (sym same) are) (subst (λ (b : List ℕ). length b ≤ BYTE_LIMIT) (sym same) within) s)

rose-earlier : (first before after : ℕ) → first ≤ before → Rose before after → Rose first after
rose-earlier first before after h rose = omega arith

-- what is so where the program has been read is so of the whole call
no-commands-since : (told told' : List ℕ → Option (List ℕ)) (first before after : List ℕ → ℕ) (file text : List ℕ) (status : Status)
    → told' file ≡ told file → first file ≤ before file → HasNoCommands (outside told' before after) file text status
    → HasNoCommands (outside told first after) file text status
no-commands-since told told' first before after file text status stays counts (unread rose says) =
    unread (rose-earlier (first file) (before file) (after file) counts rose) says
no-commands-since told told' first before after file text status stays counts (too_long bytes are longer says) =
    too_long bytes (subst (λ (t : Option (List ℕ)). AreBytes t bytes) stays are) longer says
no-commands-since told told' first before after file text status stays counts (refused bytes are within r) =
    refused bytes (subst (λ (t : Option (List ℕ)). AreBytes t bytes) stays are) within r

-- ---- the call

module _ (a : Asked) (told : List ℕ → Option (List ℕ)) (first : List ℕ → ℕ) (taken taken' : Option (List ℕ)) (faults faults' : ℕ) (status : Status) where
  pub stops-at-program : (after : List ℕ → ℕ) (h : Halt) → IfLine h (IsNoProgram (outside told first after) a.program)
      → Reports (Tells h) taken taken' faults faults' status → Reports (Outputs (Some a) (outside told first after)) taken taken' faults faults' status
  stops-at-program after h line =
      let o = outside told first after in
      reports-widen (Tells h) (Outputs (Some a) o) taken taken' faults faults' status
      (tells-widen (IsNoProgram o a.program) (Outputs (Some a) o) h line (λ text s n. no_program a refl n) (λ text s says. nothing says))

  pub stops-at-commands : (told' : List ℕ → Option (List ℕ)) (before after : List ℕ → ℕ) (p : Program) (names : List (List ℕ)) (h : Halt)
      → told' a.commands ≡ told a.commands → first a.commands ≤ before a.commands → IsProgram (told a.program) p names
      → IfLine h (HasNoCommands (outside told' before after) a.commands) → Reports (Tells h) taken taken' faults faults' status
      → Reports (Outputs (Some a) (outside told first after)) taken taken' faults faults' status
  stops-at-commands told' before after p names h stays counts is line =
      let o = outside told first after in
      reports-widen (Tells h) (Outputs (Some a) o) taken taken' faults faults' status
      (tells-widen (HasNoCommands (outside told' before after) a.commands) (Outputs (Some a) o) h line
      (λ text s n. no_commands a p names refl is (no-commands-since told told' first before after a.commands text s stays counts n))
      (λ text s says. nothing says))

  pub goes-on : (told' : List ℕ → Option (List ℕ)) (after : List ℕ → ℕ) (p : Program) (names : List (List ℕ)) (commands commands' : List Command)
      → told' a.commands ≡ told a.commands → IsProgram (told a.program) p names → AreCommands (told' a.commands) commands → commands' ≡ commands
      → Reports (Serves p names commands') taken taken' faults faults' status
      → Reports (Outputs (Some a) (outside told first after)) taken taken' faults faults' status
  goes-on told' after p names commands commands' stays is are same =
      reports-widen (Serves p names commands') (Outputs (Some a) (outside told first after)) taken taken' faults faults' status
      (λ text s r.
      serves a p names commands refl is (subst (λ (t : Option (List ℕ)). AreCommands t commands) stays are)
      (subst (λ (cs : List Command). Serves p names cs text s) same r))

-- ---- the words

module _ (asked : Option Asked) (o : Outside) (taken taken' : Option (List ℕ)) (faults faults' : ℕ) (status : Status) where
  -- they name these files
  pub words-report : (a : Asked) → asked ≡ Some a → Reports (Outputs (Some a) o) taken taken' faults faults' status → Reports (Outputs asked o) taken taken' faults faults' status
  words-report a is reports =
      let P : Option Asked → Type 0 = λ x. Reports (Outputs x o) taken taken' faults faults' status in
      subst P (sym is) reports

  -- they are not two
  pub usage-report : asked ≡ None → Reports (Says usage_line Usage) taken taken' faults faults' status → Reports (Outputs asked o) taken taken' faults faults' status
  usage-report is = reports-widen (Says usage_line Usage) (Outputs asked o) taken taken' faults faults' status (λ text s says. usage is says)
