use Rattle.std.proofs.Common.{◌≡◌, [], ◌∷◌, true, Option, Some, subst}
use Rattle.std.specs.Prelude.{MatchOption}
use Rattle.std.proofs.lemmas.Result.{err_from_is_err_and}
use Rattle.scasp_cert.specs.Certificate.{certificate_of}
use Rattle.scasp_lines.proofs.WalkLemmas.{certificate-runs}
use Rattle.scasp_checker_rules.specs.Wholes.{whole_of}
use Rattle.scasp_lines_walk.specs.Traversal.View.{line_of, lines_left}
use Rattle.scasp_lines_walk.specs.declared.traversal.cursor.Lines.{Lines}
use Rattle.scasp_lines_walk.specs.declared.traversal.parts.Line.{Line}
use Rattle.scasp_checker.proofs.WalkLemmas.ContextLemmas.{goes-on-from, kept-on}
use Rattle.scasp_checker.proofs.WalkLemmas.WalkLemmas.{going-below, going-on, going-refused}
use Rattle.scasp_checker.proofs.walk.walk.accept_lines.Goals as goal

-- the line that is found is the first of those that were left
comes : (found : Option Line) (l : Line) (old new : Lines) → found ≡ Some l
    → MatchOption found (lines_left old ≡ []) (λ line. lines_left old ≡ line_of line ∷ lines_left new) → lines_left old ≡ line_of l ∷ lines_left new
comes found l old new e h = subst (λ (o : Option Line). MatchOption o (lines_left old ≡ []) (λ line. lines_left old ≡ line_of line ∷ lines_left new)) e h

pub accept_next-requires-clause-below : goal.accept_next-requires-clause-below
accept_next-requires-clause-below c =
    let p = c.args.tabled.now.common.program.now in
    let cert = certificate_of c.args.tabled.now.common.cert.now in
    going-below (whole_of true p cert) c.loop-context.before (line_of c.in-Some.line) (lines_left c.next.new.self) (lines_left c.loop-context.lines)
    (certificate-runs p.clauses p.queries cert).counts c.loop-context.invariant.going
    (comes c.in_ok-line.field-0 c.in-Some.line c.loop-context.lines c.next.new.self c.in-Some.is c.in_ok-line.ensures.lines)

pub returns-in_err-before : goal.returns-in_err-before
returns-in_err-before c =
    let p = c.args.tabled.now.common.program.now in
    let cert = certificate_of c.args.tabled.now.common.cert.now in
    let e = err_from_is_err_and c.from_residual-in_err-before.result c.from_residual-in_err-before.ensures.1 in
    rw (e.1, e.2)
    (going-refused (whole_of true p cert) c.loop-context.before (line_of c.in-Some.line) (lines_left c.next.new.self) (lines_left c.loop-context.lines)
    (certificate-runs p.clauses p.queries cert).counts c.loop-context.invariant.going
    (comes c.in_ok-line.field-0 c.in-Some.line c.loop-context.lines c.next.new.self c.in-Some.is c.in_ok-line.ensures.lines) _ c.in_err-before.ensures.faults)

pub accept_next-requires-clause-context : goal.accept_next-requires-clause-context
accept_next-requires-clause-context c =
    goes-on-from c.args.tabled.now.common.cert.now.given c.loop-context.context.items c.loop-context.lines c.next.new.self c.in_ok-line.field-0 c.in-Some.line
    c.loop-context.invariant.kept c.in_ok-line.ensures.ready c.in-Some.is

pub loop-context-preserved : goal.loop-context-preserved
loop-context-preserved c =
    let p = c.args.tabled.now.common.program.now in
    let cert = certificate_of c.args.tabled.now.common.cert.now in
    record {
      going =
          rw c.in_ok-before.ensures.last
          (going-on (whole_of true p cert) c.loop-context.before (line_of c.in-Some.line) (lines_left c.next.new.self) (lines_left c.loop-context.lines)
          (certificate-runs p.clauses p.queries cert).counts c.loop-context.invariant.going
          (comes c.in_ok-line.field-0 c.in-Some.line c.loop-context.lines c.next.new.self c.in-Some.is c.in_ok-line.ensures.lines) c.in_ok-before.ensures.faults);
      kept =
          kept-on cert.given c.loop-context.context.items _ c.loop-context.lines c.next.new.self c.in_ok-line.field-0 c.in-Some.line
          c.loop-context.invariant.kept c.in_ok-line.ensures.ready c.in-Some.is c.in_ok-before.ensures.context;
    }
