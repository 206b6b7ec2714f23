-- Runs of one query say the same: its search meets one event first each time.
use Rattle.std.proofs.Common.{◌≡◌, ◌≢◌, ◌∙◌, ℕ, List, [], ◌∷◌, Option, None, Some, refl, ap, sym, subst}
use Rattle.scasp_cert.specs.Certificate.{Certificate}
use Rattle.scasp_cert.specs.Skeleton.{skeleton}
use Rattle.scasp_fill.specs.Finishing.Right.{Completes, HasNoAccepted}
use Rattle.scasp_command_run.specs.Agreeing.{RunsAgree, skeletons}
use Rattle.scasp_command_run.specs.Queries.{Meets, MayOverflow, Printed, Prints, fewer, ends, is_cut, is_spent, overflows, passes, prints, stops}
use Rattle.scasp_print_samples.specs.Samples.{NamesSample}
use Rattle.scasp_command_run.specs.declared.ends.QueryEnd.{QueryEnd}
use Rattle.scasp_command_run.specs.declared.ends.QueryEnd.TheVariants.{Ended, Stopped, Spent, Overflow}
use Rattle.scasp_written.specs.Written.Rests.{Rest, machine}
use Rattle.scasp_search_rules.specs.declared.states.state.State.{State}
use Rattle.scasp_search_rules.proofs.SuccessorsLemmas.Walks.{finds-one}
use Rattle.scasp_search_rules.specs.Successors.Machine.{Found, Outcome, answered, ended, spent}
use Rattle.scasp_syntax.specs.declared.program.Program.{Program}

abbrev found-by : (rest : Rest) (event : Outcome Certificate) (next : Rest) → Meets rest event next → Found State Certificate
found-by rest event next m = record { event = event; calls = m.calls; may = m.tells.0; rest = m.states }

one-found : (rest next after : Rest) (one other : Outcome Certificate) (m : Meets rest one next) (n : Meets rest other after)
    → found-by rest one next m ≡ found-by rest other after n
one-found rest next after one other m n =
    finds-one (machine rest.problem rest.queried) rest.budget rest.calls rest.states (found-by rest one next m) (found-by rest other after n) m.tells.1 n.tells.1

-- one event comes first
same-event : (rest next after : Rest) (one other : Outcome Certificate) → Meets rest one next → Meets rest other after → one ≡ other
same-event rest next after one other m n = ap (λ (f : Found State Certificate). f.event) (one-found rest next after one other m n)

same-tree : (rest next after : Rest) (one other : Certificate) → Meets rest (answered one) next → Meets rest (answered other) after → one ≡ other
same-tree rest next after one other m n =
    let e : answered one ≡ answered other = same-event rest next after (answered one) (answered other) m n in cc

-- and one rest is behind it
same-next : (rest next after : Rest) (one other : Outcome Certificate) → Meets rest one next → Meets rest other after → next ≡ after
same-next rest next after one other m n =
    m.is ∙ ap (λ (f : Found State Certificate). record rest { calls = f.calls; states = f.rest }) (one-found rest next after one other m n) ∙ sym n.is

-- a tree is not both printed and passed over
not-both : (p : Program) (rest next after : Rest) (tree other c : Certificate) → Meets rest (answered tree) next → Meets rest (answered other) after
    → Completes p tree c → HasNoAccepted p other → ⊥
not-both p rest next after tree other c m n completes none =
    none c (completes.same ∙ ap skeleton (same-tree rest next after tree other m n)) (completes.right).accepted

both-heads : (c d : Certificate) (more others : List Certificate) → c ≡ d → more ≡ others → c ∷ more ≡ d ∷ others
both-heads c d more others e f = ap (λ (x : Certificate). x ∷ more) e ∙ ap (λ (xs : List Certificate). d ∷ xs) f

abbrev Agree : List Printed → List Printed → QueryEnd → QueryEnd → Type 0
Agree one other end last = (skeletons one ≡ skeletons other) × (end ≡ last)

both : (c d : Certificate) (more others : List Printed) (end last : QueryEnd) → skeleton c ≡ skeleton d → Agree more others end last
    → (skeleton c ∷ skeletons more ≡ skeleton d ∷ skeletons others) × (end ≡ last)
both c d more others end last e r = (both-heads (skeleton c) (skeleton d) (skeletons more) (skeletons others) e r.0, r.1)

agreeing : (p : Program) (names : List (List ℕ)) {asked : Option ℕ} {rest : Rest} {one other : List Printed} {end last : QueryEnd}
    → Prints p names asked rest one (Some end) → Prints p names asked rest other (Some last) → end ≢ Overflow → last ≢ Overflow → Agree one other end last
agreeing p names {end = e} {last = f} (prints asked rest next tree c more end k m completes named go) (prints a r after other d others last l n fills has on) x y =
    let same : next ≡ after = same-next rest next after (answered tree) (answered other) m n in
    let later : Prints p names (fewer asked) next others (Some f) = subst (λ (z : Rest). Prints p names (fewer asked) z others (Some f)) (sym same) on in
    let heads : skeleton c.certificate ≡ skeleton d.certificate = completes.same ∙ ap skeleton (same-tree rest next after tree other m n) ∙ sym fills.same in
    both c.certificate d.certificate more others e f heads (agreeing p names go later x y)
agreeing p names {end = e} {last = f} (prints asked rest next tree c more end k m completes named go) (passes a r after other others last l n never on) x y = absurd (not-both p rest next after tree other c.certificate m n completes never)
agreeing p names {end = e} {last = f} (prints asked rest next tree c more end k m completes named go) (stops r) x y = absurd (k refl)
agreeing p names {end = e} {last = f} (prints asked rest next tree c more end k m completes named go) (ends a r after l n) x y = let same = same-event rest next after (answered tree) ended m n in absurd (cc same)
agreeing p names {end = e} {last = f} (prints asked rest next tree c more end k m completes named go) (is_spent a r after l n) x y = let same = same-event rest next after (answered tree) spent m n in absurd (cc same)
agreeing p names {end = e} {last = f} (prints asked rest next tree c more end k m completes named go) (overflows a r l could) x y = absurd (y refl)
agreeing p names {end = e} {last = f} (passes asked rest next tree more end k m none go) (prints a r after other d others last l n fills has on) x y = absurd (not-both p rest after next other tree d.certificate n m fills none)
agreeing p names {end = e} {last = f} (passes asked rest next tree more end k m none go) (passes a r after other others last l n never on) x y =
    let same : next ≡ after = same-next rest next after (answered tree) (answered other) m n in
    let later : Prints p names asked next others (Some f) = subst (λ (z : Rest). Prints p names asked z others (Some f)) (sym same) on in
    agreeing p names go later x y
agreeing p names {end = e} {last = f} (passes asked rest next tree more end k m none go) (stops r) x y = absurd (k refl)
agreeing p names {end = e} {last = f} (passes asked rest next tree more end k m none go) (ends a r after l n) x y = let same = same-event rest next after (answered tree) ended m n in absurd (cc same)
agreeing p names {end = e} {last = f} (passes asked rest next tree more end k m none go) (is_spent a r after l n) x y = let same = same-event rest next after (answered tree) spent m n in absurd (cc same)
agreeing p names {end = e} {last = f} (passes asked rest next tree more end k m none go) (overflows a r l could) x y = absurd (y refl)
agreeing p names {end = e} {last = f} (stops rest) (prints a r after other d others last l n fills has on) x y = absurd (l refl)
agreeing p names {end = e} {last = f} (stops rest) (passes a r after other others last l n never on) x y = absurd (l refl)
agreeing p names {end = e} {last = f} (stops rest) (stops r) x y = (refl, refl)
agreeing p names {end = e} {last = f} (stops rest) (ends a r after l n) x y = absurd (l refl)
agreeing p names {end = e} {last = f} (stops rest) (is_spent a r after l n) x y = absurd (l refl)
agreeing p names {end = e} {last = f} (stops rest) (overflows a r l could) x y = absurd (y refl)
agreeing p names {end = e} {last = f} (ends asked rest next k m) (prints a r after other d others last l n fills has on) x y = let same = same-event rest next after ended (answered other) m n in absurd (cc same)
agreeing p names {end = e} {last = f} (ends asked rest next k m) (passes a r after other others last l n never on) x y = let same = same-event rest next after ended (answered other) m n in absurd (cc same)
agreeing p names {end = e} {last = f} (ends asked rest next k m) (stops r) x y = absurd (k refl)
agreeing p names {end = e} {last = f} (ends asked rest next k m) (ends a r after l n) x y = (refl, refl)
agreeing p names {end = e} {last = f} (ends asked rest next k m) (is_spent a r after l n) x y = let same = same-event rest next after ended spent m n in absurd (cc same)
agreeing p names {end = e} {last = f} (ends asked rest next k m) (overflows a r l could) x y = absurd (y refl)
agreeing p names {end = e} {last = f} (is_spent asked rest next k m) (prints a r after other d others last l n fills has on) x y = let same = same-event rest next after spent (answered other) m n in absurd (cc same)
agreeing p names {end = e} {last = f} (is_spent asked rest next k m) (passes a r after other others last l n never on) x y = let same = same-event rest next after spent (answered other) m n in absurd (cc same)
agreeing p names {end = e} {last = f} (is_spent asked rest next k m) (stops r) x y = absurd (k refl)
agreeing p names {end = e} {last = f} (is_spent asked rest next k m) (ends a r after l n) x y = let same = same-event rest next after spent ended m n in absurd (cc same)
agreeing p names {end = e} {last = f} (is_spent asked rest next k m) (is_spent a r after l n) x y = (refl, refl)
agreeing p names {end = e} {last = f} (is_spent asked rest next k m) (overflows a r l could) x y = absurd (y refl)
agreeing p names {end = e} {last = f} (overflows asked rest k may) (prints a r after other d others last l n fills has on) x y = absurd (x refl)
agreeing p names {end = e} {last = f} (overflows asked rest k may) (passes a r after other others last l n never on) x y = absurd (x refl)
agreeing p names {end = e} {last = f} (overflows asked rest k may) (stops r) x y = absurd (x refl)
agreeing p names {end = e} {last = f} (overflows asked rest k may) (ends a r after l n) x y = absurd (x refl)
agreeing p names {end = e} {last = f} (overflows asked rest k may) (is_spent a r after l n) x y = absurd (x refl)
agreeing p names {end = e} {last = f} (overflows asked rest k may) (overflows a r l could) x y = absurd (x refl)

pub agree : RunsAgree
agree p names asked rest one other end last h g x y = agreeing p names h g x y
