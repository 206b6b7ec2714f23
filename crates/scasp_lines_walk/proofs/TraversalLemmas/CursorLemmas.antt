-- The lines that are left before and behind a step of the cursor.
use Rattle.std.proofs.Common.{◌≡◌, ◌∙◌, ℕ, suc, ◌+◌, List, [], ◌∷◌, ◌++◌, None, Some, ap, sym}
use Rattle.std.proofs.lemmas.List.{append-nil}
use Rattle.scasp_cert.specs.Certificate.{Certificate}
use Rattle.scasp_cert.specs.Lines.{lines_below}
use Rattle.scasp_cert.specs.Trees.{listed}
use Rattle.scasp_lines.specs.Dues.{query_dues}
use Rattle.scasp_lines.specs.Lines.{lines, query_walk, setting}
use Rattle.scasp_lines.specs.Places.{start}
use Rattle.scasp_lines.specs.Walk.{Line, Walked, checks_walk, line}
use Rattle.scasp_lines_places.specs.declared.places.sides.Bounds.{Bounds}
use Rattle.scasp_syntax.specs.Programs.{numbered}
use Rattle.scasp_syntax.specs.declared.program.Program.{Program}
use Rattle.scasp_lines_walk.specs.Traversal.Pending.{Begun, Pending, all_walk, begun, below, checks, nodes}
use Rattle.scasp_lines_walk.specs.Traversal.View.{kept_with, lines_left, parts_of, pending_of, setting_of, stack_of}
use Rattle.scasp_lines_walk.specs.declared.traversal.cursor.Lines.{Lines}
use Rattle.scasp_lines_walk.specs.declared.traversal.waiting.Stacked.{Stacked}
use Rattle.scasp_lines_walk.proofs.TraversalLemmas.PendingLemmas.{begun-none, begun-some}
use Rattle.scasp_lines_walk.proofs.TraversalLemmas.StackLemmas.{parts_kept, stack_push}

-- the lines of what waits
abbrev left_of : Program → Bounds → ℕ → ℕ → List Pending → List Line
left_of p bounds at next ps = (all_walk (setting_of p bounds) at next ps).lines

pub none-left : (l : Lines) → l.waiting.items ≡ [] → lines_left l ≡ []
unfolding lines_left
none-left l e = ap (λ ws. left_of l.program.now l.bounds l.at l.next (parts_of (stack_of ws))) e

-- what the last of the stack begins with is told to be nothing
pub passed-over : (l m : Lines) (w : Stacked) → l.waiting.items ≡ m.waiting.items ++ w ∷ [] → m.program.now ≡ l.program.now → m.bounds ≡ l.bounds
    → m.at ≡ l.at → m.next ≡ l.next → begun (pending_of w.parts) ≡ None → lines_left l ≡ lines_left m
unfolding lines_left
passed-over l m w e p b a n none =
    ap (λ ws. left_of l.program.now l.bounds l.at l.next (parts_of ws)) (ap stack_of e ∙ stack_push m.waiting.items w)
    ∙ ap (λ (x : Walked). x.lines) (begun-none (setting_of l.program.now l.bounds) l.at l.next (pending_of w.parts) (parts_of (stack_of m.waiting.items)) none)
    ∙ sym (λ i. left_of (p i) (b i) (a i) (n i) (parts_of (stack_of m.waiting.items)))

-- a line comes, and what stands below it and behind it waits
pub line-comes : (l m : Lines) (front : List Stacked) (w : Stacked) (b : Begun) (size : ℕ) → l.waiting.items ≡ front ++ w ∷ [] → begun (pending_of w.parts) ≡ Some b
    → m.program.now ≡ l.program.now → m.bounds ≡ l.bounds → m.at ≡ suc l.at
    → m.next ≡ (below (setting_of l.program.now l.bounds) l.at l.next b.here b.part).next
    → stack_of m.waiting.items ≡ kept_with size (below (setting_of l.program.now l.bounds) l.at l.next b.here b.part).waiting ++ (kept_with w.kept b.rest ++ stack_of front)
    → lines_left l ≡ line l.at l.next b.here b.part ∷ lines_left m
unfolding lines_left
line-comes l m front w b size e some p c a n s =
    let under = (below (setting_of l.program.now l.bounds) l.at l.next b.here b.part).waiting in
    let parts : parts_of (stack_of m.waiting.items) ≡ under ++ (b.rest ++ parts_of (stack_of front)) =
    ap parts_of s ∙ parts_kept size under (kept_with w.kept b.rest ++ stack_of front) ∙ ap (λ ps. under ++ ps) (parts_kept w.kept b.rest (stack_of front)) in
    ap (λ ws. left_of l.program.now l.bounds l.at l.next (parts_of ws)) (ap stack_of e ∙ stack_push front w)
    ∙ begun-some (setting_of l.program.now l.bounds) l.at l.next (pending_of w.parts) (parts_of (stack_of front)) b some
    ∙ sym (λ i. line l.at l.next b.here b.part ∷ left_of (p i) (c i) (a i) (n i) (parts i))

-- at first all lines are left
pub all-left : (l : Lines) (p : Program) (c : Certificate) → l.program.now ≡ p → setting_of p l.bounds ≡ setting p.clauses c → l.at ≡ 1 → l.next ≡ (setting p.clauses c).free
    → stack_of l.waiting.items
    ≡ (0, nodes (start (setting p.clauses c).top) (query_dues (numbered p.queries c.query) c.terms) (listed c.trees)) ∷ (0, checks (start (setting p.clauses c).top) c.checks) ∷ []
    → lines_left l ≡ lines p c
unfolding lines_left
all-left l p c is s a n w =
    let first = query_walk p.clauses p.queries c in
    let behind = checks_walk (setting p.clauses c) (start (setting p.clauses c).top) (1 + lines_below (listed c.trees)) first.next c.checks in
    (λ i. left_of (is i) l.bounds (a i) (n i) (parts_of (w i)))
    ∙ ap (λ z. (all_walk z 1 (setting p.clauses c).free (nodes (start (setting p.clauses c).top) (query_dues (numbered p.queries c.query) c.terms) (listed c.trees) ∷ checks (start (setting p.clauses c).top) c.checks ∷ [])).lines) s
    ∙ ap (λ (ls : List Line). first.lines ++ ls) (append-nil behind.lines)
