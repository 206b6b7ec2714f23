-- Reading a file line by line: what has been read, and what may come next.
use Rattle.std.specs.Prelude.{ℕ, if◌then◌else◌, List, [], ◌∷◌, ◌++◌, length, Option, None, Some}
use Rattle.scasp_syntax.specs.Tm.{Tms, nil}
use Rattle.scasp_syntax.specs.declared.con.Con.{Con}
use Rattle.scasp_syntax.specs.declared.predicate_map.PredMap.{PredMap}
use Rattle.scasp_cert.specs.declared.certificate.Clash.{Clash}
use Rattle.scasp_cert.specs.Certificate.{Certificate}
use Rattle.scasp_answers_terms.specs.Tokens.Lines.{End, Line, header_line, ending_line, rejected_line, answer_line, given_line, sample_line, tree_line, check_line, clash_line, map_line, end_line}
use Rattle.scasp_answers.specs.Blocks.Blocks.{Placed}
use Rattle.scasp_answers.specs.Blocks.Open.{room_below, may_stand, Open, closed_to}

-- what stands in a file behind its header
pub data Entry : Type 0 where
  block : ℕ → Certificate → Entry  -- the answer's number, and its certificate
  ended_entry : End → ℕ → Entry
  rejected_entry : ℕ → ℕ → ℕ → List ℕ → Entry

-- the last line at the left edge: none, one between entries, or the kind within a block
pub data Phase : Type 0 where
  at_start : Phase
  between : Phase
  in_given : Phase
  in_sample : Phase
  in_tree : Phase
  in_clashes : Phase
  in_map : Phase

-- The number and the certificate are those of the block that is read. `opens` has the innermost open line first.
pub record State : Type 0 where
  pub phase : Phase
  pub number : ℕ
  pub cert : Certificate
  pub opens : List Open
  pub entries : List Entry

abbrev pub started : ℕ → Tms → Certificate
started q ts = record { query = q; terms = ts; given = []; sample = nil; trees = []; checks = []; clashes = []; map = [] }

abbrev pub first_state : State
first_state = record { phase = at_start; number = 0; cert = started 0 nil; opens = []; entries = [] }

-- ---- lines at the left edge

abbrev pub moves : State → Phase → Certificate → List Open → Option State
moves s phase cert opens = Some (record s { phase = phase; cert = cert; opens = opens })

abbrev pub opened : Line → Open
opened l = record { line = l; parts = [] }

abbrev pub with_entry : State → Entry → State
with_entry s e = record s { phase = between; entries = s.entries ++ e ∷ [] }

-- the block is put behind the other entries
abbrev pub ends_block : State → State
ends_block s = record s { phase = between; number = 0; cert = started 0 nil; entries = s.entries ++ block s.number s.cert ∷ [] }

abbrev pub begins_block : State → ℕ → Certificate → State
begins_block s n c = record s { phase = in_given; number = n; cert = c }

abbrev pub with_given : Certificate → Con → Certificate
with_given c g = record c { given = c.given ++ g ∷ [] }

abbrev pub with_sample : Certificate → Tms → Certificate
with_sample c ts = record c { sample = ts }

abbrev pub with_clash : Certificate → Clash → Certificate
with_clash c k = record c { clashes = c.clashes ++ k ∷ [] }

abbrev pub with_map : Certificate → PredMap → Certificate
with_map c m = record c { map = c.map ++ m ∷ [] }

-- All lines that may stand at the left edge. Behind `tree` and `check` their parts have been closed.
abbrev pub at_edge : State → Phase → Line → Option State
at_edge s at_start (header_line v) = moves s between s.cert []
at_edge s between (ending_line e q) = Some (with_entry s (ended_entry e q))
at_edge s between (rejected_line q n at reason) = Some (with_entry s (rejected_entry q n at reason))
at_edge s between (answer_line q n ts) = Some (begins_block s n (started q ts))
at_edge s in_given (given_line c) = moves s in_given (with_given s.cert c) []
at_edge s in_given (sample_line ts) = moves s in_sample (with_sample s.cert ts) []
at_edge s in_sample tree_line = moves s in_tree s.cert (opened tree_line ∷ [])
at_edge s in_tree (check_line k) = moves s in_tree s.cert (opened (check_line k) ∷ [])
at_edge s in_tree (clash_line k) = moves s in_clashes (with_clash s.cert k) []
at_edge s in_clashes (clash_line k) = moves s in_clashes (with_clash s.cert k) []
at_edge s in_tree (map_line m) = moves s in_map (with_map s.cert m) []
at_edge s in_clashes (map_line m) = moves s in_map (with_map s.cert m) []
at_edge s in_map (map_line m) = moves s in_map (with_map s.cert m) []
at_edge s in_tree end_line = Some (ends_block s)
at_edge s in_clashes end_line = Some (ends_block s)
at_edge s in_map end_line = Some (ends_block s)
at_edge s _ _ = None

-- ---- any line

abbrev pub with_opens : State → List Open → Certificate → State
with_opens s opens c = record s { opens = opens; cert = c }

-- the line opens below the innermost open one, where it may stand there
abbrev pub below : State → Open → List Open → Line → Option State
below s top opens l =
    if may_stand (room_below top.line) (length top.parts) l then Some (with_opens s (opened l ∷ top ∷ opens) s.cert) else None

abbrev pub at_level : State → List Open → Line → Option State
at_level s [] l = at_edge s s.phase l
at_level s (top ∷ opens) l = below s top opens l

-- the state behind the line, where the line may stand there
unfoldable pub next_state : State → Placed → Option State
next_state s p =
    elim (closed_to p.depth s.opens s.cert) [
      | None ↦ None
      | Some c ↦ at_level (with_opens s c.opens c.block) c.opens p.line
    ]
