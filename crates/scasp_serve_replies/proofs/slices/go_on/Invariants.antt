use Rattle.std.proofs.Common.{ℕ, Option}
use Rattle.scasp_serve_replies.specs.Inside.{Found}
use Rattle.scasp_serve_replies.specs.declared.coming.Coming.{Coming}
use Rattle.scasp_sessions.specs.Tables.{Table}
use Rattle.scasp_serve_replies.proofs.slices.go_on.Given as goal

abbrev pub invariant-loop-tree : goal.invariant-loop-tree
invariant-loop-tree l =
    (found : Option Coming) (new : Table) → Found l.program l.sessions l.id l.left found new → Found l.program l.fn.sessions l.id l.fn.calls found new
