use Rattle.std.proofs.Common.{List, ℕ, ap, arith, refl, ◌∙◌}
use Rattle.scasp_forall.specs.Inside.Kept.{remainder_of}
use Rattle.scasp_search_rules.specs.Successors.Cases.{unbound}
use Rattle.scasp_search_trail.proofs.ClosingLemmas.{cover_gone, remainder_taken}
use Rattle.scasp_search_trail.specs.States.{Lists, lists_of, stands_for}
use Rattle.scasp_syntax.specs.declared.con.Con.{Con}
use Rattle.scasp_trail.specs.Past.{Past}
use Rattle.scasp_search_trail.proofs.closing.close_case.Goals as goal

pub returns-in-Some-clause-now : goal.returns-in-Some-clause-now
returns-in-Some-clause-now c =
    let parts = c.args.parts.now in
    let l : Lists = lists_of parts in
    let m : Lists = record l {
      bound = c.end_case.new.store.bound.now;
      given = c.end_case.new.store.given.now;
      literals = c.end_case.new.loops.now;
      pieces = c.end_case.new.told.now;
    } in
    let n : Lists = record m {
      bound = c.bind_again.new.store.bound.now;
      given = c.bind_again.new.store.given.now;
      covers = c.take_up.new.self.now;
      pieces = c.open.new.self.now;
    } in
    let xs = c.as_slice-xs.result.now in
    let ended = c.in_ok-end_case-in-Some.ensures in
    ap (λ (k : ℕ). stands_for k n) (let e = c.in_ok-parts-in-Some.ensures in omega (arith, e))
    ∙ remainder_taken parts.cases l m n xs (remainder_of c.in-Some.rest.now) (c.as_slice-xs.ensures ∙ c.in_ok-universals.ensures) c.in-Some.ensures
    (record {
      made = refl;
      bound = ended.bound ∙ ap (λ (ys : List ℕ). unbound xs ys l.bound) c.as_slice.ensures;
      given = ap (λ (p : Past Con). p.now) ended.given;
      literals = ended.literals;
      lines = ended.lines;
      others = ended.pieces;
      work = refl;
    })
    (record {
      made = refl;
      bound = c.in_ok-bind_again-in-Some.ensures.bound;
      given = ap (λ (p : Past Con). p.now) c.in_ok-bind_again-in-Some.ensures.given;
      covers = c.in_ok-take_up-in-Some.ensures.now;
      literals = refl;
      pieces = c.in_ok-open-in-Some.ensures.now;
      work = refl;
    })

pub returns-clause-now : goal.returns-clause-now
returns-clause-now c =
    let parts = c.args.parts.now in
    let l : Lists = lists_of parts in
    let m : Lists = record l {
      bound = c.end_case-in-None.new.store.bound.now;
      given = c.end_case-in-None.new.store.given.now;
      covers = c.close.new.self.now;
      literals = c.end_case-in-None.new.loops.now;
      pieces = c.end_case-in-None.new.told.now;
    } in
    let xs = c.as_slice-xs.result.now in
    let ended = c.in_ok-end_case-in-None.ensures in
    cover_gone parts.cases l m xs (omega (arith, c.if-depth-eq0.false, c.depth.ensures.count)) (c.as_slice-xs.ensures ∙ c.in_ok-universals.ensures) c.in-None.ensures
    (record {
      made = refl;
      bound = ended.bound;
      given = ap (λ (p : Past Con). p.now) ended.given;
      literals = ended.literals;
      lines = ended.lines;
      others = ended.pieces;
      work = refl;
    })
    c.in_ok-close-in-None.ensures.now
