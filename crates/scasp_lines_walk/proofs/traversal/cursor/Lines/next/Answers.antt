use Rattle.std.proofs.Common.{◌≡◌, ◌∙◌, ◌∷◌, None, Some, refl, ap, sym, arith}
use Rattle.std.specs.Option.{option_map}
use Rattle.std.proofs.lemmas.List.{nil_from_length}
use Rattle.scasp_lines_walk.specs.Traversal.Pending.{begun}
use Rattle.scasp_lines_walk.specs.Traversal.View.{begun_of, lines_left, pending_of, setting_of}
use Rattle.scasp_lines_walk.proofs.TraversalLemmas.CursorLemmas.{none-left, passed-over, line-comes}
use Rattle.scasp_lines_walk.proofs.TraversalLemmas.GoingLemmas.{goes-on, ready-passed}
use Rattle.scasp_lines_walk.proofs.traversal.cursor.Lines.next.Goals as goal

pub returns-in-Some-2-clause-lines : goal.returns-in-Some-2-clause-lines
returns-in-Some-2-clause-lines c =
    let b = begun_of c.in-Some-2.begun in
    let some : begun (pending_of c.in-Some.field-0.parts) ≡ Some b = sym c.in_ok-begun.ensures ∙ ap (option_map begun_of) c.in-Some-2.is in
    let e = c.in_ok-start.ensures in
    let came = e.line in
    sym c.loop-kept.invariant.lines
    ∙ line-comes c.loop-kept.self c.start.new.self c.pop.new.self.items c.in-Some.field-0 b c.in_ok-start.field-0.size c.in-Some.ensures.items some e.program e.bounds e.at e.next e.waiting
    ∙ (λ i. sym came i ∷ lines_left c.start.new.self)

pub returns-in-Some-2-clause-ready : goal.returns-in-Some-2-clause-ready
returns-in-Some-2-clause-ready c now h =
    let b = begun_of c.in-Some-2.begun in
    let some : begun (pending_of c.in-Some.field-0.parts) ≡ Some b = sym c.in_ok-begun.ensures ∙ ap (option_map begun_of) c.in-Some-2.is in
    let e = c.in_ok-start.ensures in
    let old = c.loop-kept.self in
    goes-on now (setting_of old.program.now old.bounds) old.at old.next old c.start.new.self c.pop.new.self.items c.in-Some.field-0 b c.in_ok-start.field-0
    (c.loop-kept.invariant.ready now h) c.in-Some.ensures.items some e.line e.kept e.size e.waiting

pub loop-kept-preserved : goal.loop-kept-preserved
loop-kept-preserved c =
    let none : begun (pending_of c.in-Some.field-0.parts) ≡ None = sym c.in_ok-begun.ensures ∙ ap (option_map begun_of) c.in_default-2.is in
    let now-left = c.loop-kept.invariant in
    record {
      lines = sym (passed-over c.loop-kept.self _ c.in-Some.field-0 c.in-Some.ensures.items refl refl refl refl none) ∙ now-left.lines;
      ready = λ now h. ready-passed now c.loop-kept.self _ c.in-Some.field-0 c.in-Some.ensures.items (now-left.ready now h);
    }

pub returns-clause-lines : goal.returns-clause-lines
returns-clause-lines c =
    let e = c.in_default.ensures.cases.0 in
    let k = c.loop-kept.self.waiting.ok.0 in
    sym c.loop-kept.invariant.lines ∙ none-left c.loop-kept.self (nil_from_length c.loop-kept.self.waiting.items (omega (arith, e, k)))
