use Rattle.std.proofs.Common.{◌≡◌, ◌∙◌, ◌∷◌, ◌++◌, ℕ, ◌+◌, true, false, ◌||◌, is_some, is_none, List, drop, [], ap, sym, subst}
use Rattle.std.proofs.lemmas.Bool.{or_left, or_right}
use Rattle.std.proofs.lemmas.List.{append-nil, drop_all, drop_more}
use Rattle.scasp_syntax.specs.declared.clause.Clause.{Clause}
use Rattle.scasp_nmr.specs.Inside.Beside.{begins_with}
use Rattle.scasp_nmr.specs.Checks.{checks_from, checks_of}
use Rattle.scasp_nmr.specs.declared.items.CheckItem.{CheckItem}
use Rattle.scasp_nmr.proofs.BesideLemmas.{Coming, coming-first, coming-more, none-is, some-is, listed-made, listed-skipped}
use Rattle.scasp_nmr.proofs.CheckLemmas.{checks-cover}
use Rattle.scasp_nmr.proofs.listing.checks.Goals as goal
use Rattle.scasp_nmr.proofs.listing.checks.Goals.{then-is_odd+in_ok-push, then-is_odd-via-then-is_odd, then-is_odd-via-else-is_odd+then-not-head, else-is_odd+else-not-head}

pub loop-place-init : goal.loop-place-init
loop-place-init c =
    record {
      coming = subst (Coming 1) (sym c.as_slice-odd.ensures) (coming-first c.args.program.now c.args.analysis.now c.requires);
      listed =
          ap (λ (z : List CheckItem). z ++ checks_from c.as_slice-odd.result.now 1 c.as_slice-clause-items.result.now) c.new-items.ensures
          ∙ ap (λ (z : List ℕ). checks_from z 1 c.as_slice-clause-items.result.now) c.as_slice-odd.ensures
          ∙ ap (checks_from c.args.analysis.now.odd_rules 1) c.as_slice-clause-items.ensures;
    }

pub loop-place-preserved : goal.loop-place-preserved
loop-place-preserved c =
    let n : ℕ = c.loop-place.place + 1 in
    let odd : List ℕ = c.loop-place.odd.now in
    let rest : List ℕ = c.take_first-is_odd.result.1.now in
    let clauses : List Clause = c.as_slice-clause-items.result.now in
    let clause : Clause = c.clause-item.result in
    let cs : List Clause = drop (c.loop-place.place + 1) clauses in
    let before : List CheckItem = c.loop-place.items in
    let after : List CheckItem = c.if-is_odd.items in
    let all : List CheckItem = checks_of c.args.program.now c.args.analysis.now.odd_rules in
    let step : drop c.loop-place.place clauses ≡ clause ∷ drop (c.loop-place.place + 1) clauses =
    drop_more clauses c.loop-place.place clause c.loop-place-test.true ∙ ap (λ (z : Clause). z ∷ drop (c.loop-place.place + 1) clauses) (sym c.clause-item.is) in
    let listed : before ++ checks_from odd (c.loop-place.place + 1) (clause ∷ cs) ≡ all =
    ap (λ (z : List Clause). before ++ checks_from odd (c.loop-place.place + 1) z) (sym step) ∙ c.loop-place.invariant.listed in
    let first : c.take_first-is_odd.result.0 ≡ begins_with n odd = c.take_first-is_odd.ensures.first in
    let has : c.is_some-head.result ≡ is_some clause.head = c.is_some-head.ensures in
    record {
      coming = subst (Coming (n + 1)) (sym c.take_first-is_odd.ensures.rest) (coming-more n odd c.loop-place.invariant.coming);
      listed =
          elim c.if-is_odd.branch [
            | then-is_odd+in_ok-push w ↦
                (let t : (is_none clause.head || begins_with n odd) ≡ true =
                elim w.then-is_odd.branch [
                  | then-is_odd-via-then-is_odd w' ↦ or_right (is_none clause.head) (begins_with n odd) (sym first ∙ w'.if-is_odd.true)
                  | then-is_odd-via-else-is_odd+then-not-head w' ↦ or_left (is_none clause.head) (begins_with n odd) (none-is clause.head (sym has ∙ w'.if-not-head.true))
                ] in
                listed-made n odd rest clause cs before after all c.is_some-head.result c.loop-place.invariant.coming c.take_first-is_odd.ensures.rest listed has t (w.items-is ∙ w.in_ok-push.ensures.ok))
            | else-is_odd+else-not-head w ↦
                (let t : (is_none clause.head || begins_with n odd) ≡ false =
                ap (λ z. z || begins_with n odd) (some-is clause.head (sym has ∙ w.if-not-head.false)) ∙ sym first ∙ w.if-is_odd.false in
                listed-skipped n odd rest clause cs before after all c.is_some-head.result c.loop-place.invariant.coming c.take_first-is_odd.ensures.rest listed t w.items-is)
          ];
    }

pub returns-clause-items : goal.returns-clause-items
returns-clause-items c =
    let rest : drop c.loop-place.place c.as_slice-clause-items.result.now ≡ [] = drop_all c.loop-place.place c.as_slice-clause-items.result.now c.loop-place-test.false in
    sym (append-nil c.loop-place.items) ∙ ap (λ (z : List Clause). c.loop-place.items ++ checks_from c.loop-place.odd.now (c.loop-place.place + 1) z) (sym rest) ∙ c.loop-place.invariant.listed

pub returns-clause-covers : goal.returns-clause-covers
returns-clause-covers c =
    checks-cover c.args.program.now c.args.analysis.now c.loop-place.items c.requires (returns-clause-items c)
