use Rattle.std.proofs.Common.{◌≡◌, ◌∷◌, [], true, false, Option, Some, subst}
use Rattle.std.specs.Prelude.{MatchOption}
use Rattle.std.proofs.lemmas.Result.{err_from_is_err_and}
use Rattle.scasp_extend_instances.specs.Values.{valued}
use Rattle.scasp_lines_walk.specs.Traversal.View.{line_of, lines_left}
use Rattle.scasp_lines_walk.specs.declared.traversal.cursor.Lines.{Lines}
use Rattle.scasp_lines_walk.specs.declared.traversal.parts.Line.{Line}
use Rattle.scasp_syntax.specs.Tm.{items}
use Rattle.scasp_extend_parts.proofs.SaidLemmas.{lines-on, lines-stop, told-on}
use Rattle.scasp_extend_parts.proofs.said.said_over.Goals as goal

-- the line that is found is the first of those that were left
comes : (found : Option Line) (l : Line) (old new : Lines) → found ≡ Some l
    → MatchOption found (lines_left old ≡ []) (λ line. lines_left old ≡ line_of line ∷ lines_left new) → lines_left old ≡ line_of l ∷ lines_left new
comes found l old new e h = subst (λ (o : Option Line). MatchOption o (lines_left old ≡ []) (λ line. lines_left old ≡ line_of line ∷ lines_left new)) e h

pub loop-lines-preserved : goal.loop-lines-preserved
loop-lines-preserved c =
    let v = valued (items c.args.values.now) in
    let d = items c.args.domain.now in
    let next = comes c.in_ok-line.field-0 c.in-Some.line c.loop-lines.lines c.next.new.self c.in-Some.is c.in_ok-line.ensures.lines in
    record {
      obstacle = lines-on v d (line_of c.in-Some.line) (lines_left c.next.new.self) (lines_left c.loop-lines.lines) next _ c.in_ok-take_line.ensures.causes c.loop-lines.invariant.obstacle;
      trues = told-on v d (line_of c.in-Some.line) (lines_left c.next.new.self) (lines_left c.loop-lines.lines) next true _ _ _ c.in_ok-take_line.ensures.trues c.loop-lines.invariant.trues;
      falses = told-on v d (line_of c.in-Some.line) (lines_left c.next.new.self) (lines_left c.loop-lines.lines) next false _ _ _ c.in_ok-take_line.ensures.falses c.loop-lines.invariant.falses;
    }

pub returns-in_err-take_line-clause-causes : goal.returns-in_err-take_line-clause-causes
returns-in_err-take_line-clause-causes c =
    let v = valued (items c.args.values.now) in
    let d = items c.args.domain.now in
    let next = comes c.in_ok-line.field-0 c.in-Some.line c.loop-lines.lines c.next.new.self c.in-Some.is c.in_ok-line.ensures.lines in
    let e = err_from_is_err_and c.from_residual-in_err-take_line.result c.from_residual-in_err-take_line.ensures.1 in
    rw (e.1, e.2)
    (lines-stop v d (line_of c.in-Some.line) (lines_left c.next.new.self) (lines_left c.loop-lines.lines) next _ _ c.loop-lines.invariant.obstacle c.in_err-take_line.ensures.causes)
