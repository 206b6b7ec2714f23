-- The states of the code as values, and what reading a line makes of them.
use Rattle.std.specs.Prelude.{◌≡◌, map, Option, None, Some, Result, Ok, Err}
use Rattle.scasp_list.specs.declared.memory.Memory.{Memory}
use Rattle.scasp_cert.specs.Certificate.{certificate_of}
use Rattle.scasp_answers_lines.specs.Forms.View.{end_of}
use Rattle.scasp_answers.specs.Blocks.States as states
use Rattle.scasp_answers.specs.Opens.View.{opens_of}
use Rattle.scasp_answers.specs.declared.opens.placing.Placing.{Placing}
use Rattle.scasp_answers.specs.declared.opens.placing.Placing.TheVariants as placing
use Rattle.scasp_answers.specs.declared.states.state.Entry.{Entry}
use Rattle.scasp_answers.specs.declared.states.state.Entry.TheVariants as entry
use Rattle.scasp_answers.specs.declared.states.state.Phase.{Phase}
use Rattle.scasp_answers.specs.declared.states.state.Phase.TheVariants as phase
use Rattle.scasp_answers.specs.declared.states.state.State.{State}

abbrev pub entry_of : Entry → states.Entry
entry_of (entry.Block b) = states.block b.answer (certificate_of b.cert)
entry_of (entry.Ended e query) = states.ended_entry (end_of e) query
entry_of (entry.Rejected query answer at reason) = states.rejected_entry query answer at reason.now

abbrev pub phase_of : Phase → states.Phase
phase_of phase.AtStart = states.at_start
phase_of phase.Between = states.between
phase_of phase.InGiven = states.in_given
phase_of phase.InSample = states.in_sample
phase_of phase.InTree = states.in_tree
phase_of phase.InClashes = states.in_clashes
phase_of phase.InMap = states.in_map

abbrev pub state_of : State → states.State
state_of s = record {
  phase = phase_of s.phase;
  number = s.block.answer;
  cert = certificate_of s.block.cert;
  opens = opens_of s.opens;
  entries = map entry_of s.entries;
}

-- The code has the state that follows, or finds that none does. Want of memory is free.
abbrev pub Follows : Option states.State → Result Placing Memory → State → Type 0
Follows next (Ok placing.Stands) s = next ≡ Some (state_of s)
Follows next (Ok placing.OutOfOrder) s = next ≡ None
Follows next (Err m) s = Unit {0}
