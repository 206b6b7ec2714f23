-- Which state follows once lines have been closed, and which behind a line below the innermost open one.
use Rattle.std.proofs.Common.{◌≡◌, ℕ, true, false, List, ◌∷◌, length, Option, None, Some, refl}
use Rattle.scasp_cert.specs.Certificate.{Certificate}
use Rattle.scasp_answers_terms.specs.Tokens.Lines.{Line}
use Rattle.scasp_answers.specs.Blocks.Blocks.{at}
use Rattle.scasp_answers.specs.Blocks.Open.{Open, Closed, closed_to, room_below, may_stand}
use Rattle.scasp_answers.specs.Blocks.States.{State, opened, with_opens, at_level, next_state}

-- the state behind the line, where lines have been closed so
abbrev behind : State → Line → Option Closed → Option State
behind s l None = None
behind s l (Some c) = at_level (with_opens s c.opens c.block) c.opens l

behind-next : (s : State) (depth : ℕ) (l : Line) (closed : Option Closed) → closed_to depth s.opens s.cert ≡ closed → next_state s (at depth l) ≡ behind s l closed
unfolding next_state
behind-next s depth l None e = rw (e, next_state) refl
behind-next s depth l (Some c) e = rw (e, next_state) refl

pub next_none : (s : State) (depth : ℕ) (l : Line) → closed_to depth s.opens s.cert ≡ None → next_state s (at depth l) ≡ None
next_none s depth l e = behind-next s depth l None e

pub next_closed : (s : State) (depth : ℕ) (l : Line) (opens : List Open) (c : Certificate) → closed_to depth s.opens s.cert ≡ Some (record { opens = opens; block = c })
    → next_state s (at depth l) ≡ at_level (with_opens s opens c) opens l
next_closed s depth l opens c e = behind-next s depth l (Some (record { opens = opens; block = c })) e

pub stands_below : (s : State) (top : Open) (opens around : List Open) (l : Line) → opens ≡ top ∷ around → may_stand (room_below top.line) (length top.parts) l ≡ true
    → at_level s opens l ≡ Some (with_opens s (opened l ∷ opens) s.cert)
stands_below s top opens around l e m = rw (e, m) refl

pub stands_nowhere : (s : State) (top : Open) (opens around : List Open) (l : Line) → opens ≡ top ∷ around → may_stand (room_below top.line) (length top.parts) l ≡ false
    → at_level s opens l ≡ None
stands_nowhere s top opens around l e m = rw (e, m) refl
