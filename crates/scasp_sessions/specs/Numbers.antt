-- Numbers and refusals, which follow from the calls, and from which of them want of memory refuses.
use Rattle.std.specs.Prelude.{ℕ, ◌+◌, ◌==◌, nat_lt, if◌then◌else◌, Bool, true, false, ◌||◌, List, [], ◌∷◌, ◌++◌, length, Option, None, Some, Ok, Err}
use Rattle.scasp_sessions.specs.Alone.{Exchange, advancing, closing, opening}
use Rattle.scasp_sessions.specs.declared.errors.OpenErr.TheVariants as refusal
use Rattle.scasp_syntax.specs.Programs.{numbered}
use Rattle.scasp_syntax.specs.declared.clause.Query.{Query}
use Rattle.scasp_syntax.specs.declared.program.Program.{Program}

-- a call; of one that opens, also whether want of memory refuses it where nothing else does
pub data Asked : Type 0 where
  opens : Program → ℕ → Bool → Asked
  advances : ℕ → Asked
  closes : ℕ → Asked

-- a reply, but for what comes of a slice
pub data Said : Type 0 where
  opened : ℕ → Said
  no_query : Said
  full : Said
  no_memory : Said
  comes : Said
  no_session : Said
  closed : Said

abbrev pub asked_in : Exchange → Asked
asked_in (opening program query budget fresh (Err refusal.Memory)) = opens program query true
asked_in (opening program query budget fresh (Err refusal.NoQuery)) = opens program query false
asked_in (opening program query budget fresh (Err refusal.Full)) = opens program query false
asked_in (opening program query budget fresh (Ok number)) = opens program query false
asked_in (advancing id calls reply) = advances id
asked_in (closing id reply) = closes id

abbrev pub said_in : Exchange → Said
said_in (opening program query budget fresh (Ok number)) = opened number
said_in (opening program query budget fresh (Err refusal.NoQuery)) = no_query
said_in (opening program query budget fresh (Err refusal.Full)) = full
said_in (opening program query budget fresh (Err refusal.Memory)) = no_memory
said_in (advancing id calls (Ok advance)) = comes
said_in (advancing id calls (Err refused)) = no_session
said_in (closing id (Ok done)) = closed
said_in (closing id (Err refused)) = no_session

-- the numbers of the open sessions, in the order of opening, and the next one
pub record Numbers : Type 0 where
  pub taken : List ℕ
  pub next : ℕ

abbrev pub no_numbers : Numbers
no_numbers = record { taken = []; next = 1 }

abbrev pub is_taken : ℕ → List ℕ → Bool
is_taken id [] = false
is_taken id (n ∷ ns) = n == id || is_taken id ns

abbrev pub without_number : ℕ → List ℕ → List ℕ
without_number id [] = []
without_number id (n ∷ ns) = if n == id then ns else n ∷ without_number id ns

-- what is said to a call that opens, by its query, whether there is room, and whether want of memory refuses it
abbrev pub due_to_opening : Option Query → Bool → Bool → Numbers → Said × Numbers
due_to_opening None room refused ns = (no_query, ns)
due_to_opening (Some q) false refused ns = (full, ns)
due_to_opening (Some q) true true ns = (no_memory, ns)
due_to_opening (Some q) true false ns = (opened ns.next, record { taken = ns.taken ++ ns.next ∷ []; next = ns.next + 1 })

-- what is said to a call, and the numbers behind it
abbrev pub due_to : Numbers → Asked → Said × Numbers
due_to ns (opens program query refused) = due_to_opening (numbered program.queries query) (nat_lt (length ns.taken) 64) refused ns
due_to ns (advances id) = if is_taken id ns.taken then (comes, ns) else (no_session, ns)
due_to ns (closes id) = if is_taken id ns.taken then (closed, record ns { taken = without_number id ns.taken }) else (no_session, ns)

abbrev pub due_to_all : Numbers → List Asked → List Said
due_to_all ns [] = []
due_to_all ns (a ∷ more) = (due_to ns a).0 ∷ due_to_all (due_to ns a).1 more

-- the numbers that calls have given, in order
abbrev pub numbers_in : List Exchange → List ℕ
numbers_in [] = []
numbers_in (opening program query budget fresh (Ok number) ∷ es) = number ∷ numbers_in es
numbers_in (opening program query budget fresh (Err refused) ∷ es) = numbers_in es
numbers_in (advancing id calls reply ∷ es) = numbers_in es
numbers_in (closing id reply ∷ es) = numbers_in es
