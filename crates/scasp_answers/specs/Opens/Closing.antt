-- What closing lines answers.
use Rattle.std.specs.Prelude.{◌≡◌, ℕ, List, Option, None, Some, Result, Ok, Err}
use Rattle.scasp_list.specs.declared.memory.Memory.{Memory}
use Rattle.scasp_cert.specs.Certificate.{Certificate}
use Rattle.scasp_answers.specs.Blocks.Open.{Open, Closed, closed_to}
use Rattle.scasp_answers.specs.declared.opens.placing.Placing.{Placing}
use Rattle.scasp_answers.specs.declared.opens.placing.Placing.TheVariants as placing

-- The code has these open lines and this block, or finds that lines can't be closed. Want of memory is free.
abbrev pub Closes : Option Closed → Result Placing Memory → List Open → Certificate → Type 0
Closes closed (Ok placing.Stands) opens c = closed ≡ Some (record { opens = opens; block = c })
Closes closed (Ok placing.OutOfOrder) opens c = closed ≡ None
Closes closed (Err m) opens c = Unit {0}

-- The same where lines are still to be closed down to the depth from what the code has.
abbrev pub Leads : ℕ → Option Closed → Result Placing Memory → List Open → Certificate → Type 0
Leads depth closed (Ok placing.Stands) opens c = closed ≡ closed_to depth opens c
Leads depth closed (Ok placing.OutOfOrder) opens c = closed ≡ None
Leads depth closed (Err m) opens c = Unit {0}
