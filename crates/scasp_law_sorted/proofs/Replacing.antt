-- Each state that comes of the start by steps at which no row is shown that cannot be replaced has rows whose variables are tested.
use Rattle.std.specs.Prelude.{◌≡◌, ◌↔◌, ℕ, Bool, true, false, List, [], ◌∷◌, length, map}
use Rattle.std.specs.List.{list_any}
use Rattle.std.proofs.Common.{refl, sym, subst}
use Rattle.std.proofs.lemmas.List.{append-nil}
use Rattle.scasp_list.specs.Each.{Each}
use Rattle.scasp_list.proofs.EachLemmas.{Each-map}
use Rattle.scasp_list.proofs.MemberLemmas.{Contains-none}
use Rattle.scasp_nmr.specs.declared.items.CheckItem.{CheckItem}
use Rattle.scasp_search_rules.specs.declared.states.state.State.{State}
use Rattle.scasp_search_rules.specs.declared.states.tasks.Task.{Task}
use Rattle.scasp_search_rules.specs.declared.states.tasks.Task.TheVariants as task
use Rattle.scasp_search_rules.specs.Successors.Answers.{given_lines}
use Rattle.scasp_search_rules.specs.Successors.Problems.{Problem}
use Rattle.scasp_search_rules.specs.Successors.Regions.{asked_with, context}
use Rattle.scasp_search_rules.specs.Successors.Replacing.{is_unreplaced}
use Rattle.scasp_search_rules.specs.Successors.Search.{search_for, start, step}
use Rattle.scasp_search_rules.specs.Successors.Variables.{meaning}
use Rattle.scasp_syntax.specs.Constraints.{Sat}
use Rattle.scasp_syntax.specs.Flat.{flat_body}
use Rattle.scasp_syntax.specs.WellFormed.{is_query_well_formed}
use Rattle.scasp_syntax.specs.declared.clause.Query.{Query}
use Rattle.scasp_syntax.specs.declared.con.Con.{Con}
use Rattle.scasp_syntax.specs.declared.con.Con.TheVariants as con
use Rattle.scasp_syntax.specs.declared.term.Term.TheVariants.{Var}
use Rattle.scasp_unify.specs.Sorted.{Sorted}
use Rattle.scasp_hint.specs.Satisfying.{sat}
use Rattle.scasp_hint.proofs.SatisfyingLemmas.{sat-sorted}
use Rattle.scasp_law_first_event.specs.Events.{IsReachable, itself, after}
use Rattle.scasp_law_first_event.proofs.EachStates.{each-state}
use Rattle.scasp_law_no_circle.proofs.Reaching.{Known, known}
use Rattle.scasp_law_sorted.specs.Asking.{ComesReplaced, starts, moves_on, asked_next, shows_unreplaced}
use Rattle.scasp_law_sorted.proofs.Bodies.{query-orderly}
use Rattle.scasp_law_sorted.proofs.Evenness.{Asks}
use Rattle.scasp_law_sorted.proofs.Expecting.{Works, works-before, works-shows, Quiet}
use Rattle.scasp_law_sorted.proofs.GivenLines.{lines-sorted}
use Rattle.scasp_law_sorted.proofs.Standing.{Lone, given-list, context-list}
use Rattle.scasp_law_sorted.proofs.Stepping.{Whole, step-whole}
use Rattle.scasp_law_sorted.proofs.Tested.{tested-all}

module _ (p : Problem) (q : Query) (fits : is_query_well_formed q ≡ true) (same : p.sat ≡ sat) where
  checks-quiet : (is : List CheckItem) → Each Quiet (map (λ i. task.Check i.clause i.head) is)
  checks-quiet [] = tt
  checks-quiet (i ∷ is) = ((refl, refl), checks-quiet is)

  all-quiet : (ts : List Task) → Each Quiet ts → Works [] [] [] [] ts
  all-quiet [] h = tt
  all-quiet (t ∷ ts) h = subst (Works [] [] [] []) (append-nil (t ∷ ts)) (works-before [] [] [] [] (t ∷ ts) [] h tt)

  begun : Whole (start q p.checks)
  begun = record {
    core = record { once = tt; lone = λ w t. none w (tested-all [] [] (λ z. ⊥) (λ z i. Contains-none (con.Num (Var z)) i) (λ b i y e k. k) w t); plain = tt; rows = tt; covers = tt };
    works = works-shows [] [] [] [] (flat_body q.body) (map (λ i. task.Check i.clause i.head) p.checks) (query-orderly (length q.names) q.body fits) (all-quiet (map (λ i. task.Check i.clause i.head) p.checks) (checks-quiet p.checks));
  }
    where
      none : (w : ℕ) → ⊥ → Lone (start q p.checks).made w
      none w e = absurd e

  step-asks : (s : State) → Known p q fits s → Whole s → Asks (λ r. shows_unreplaced s s.work ≡ false → Whole r) (step p.program p.sat s)
  step-asks s k w =
      subst (λ (test : List Con → Bool). Asks (λ r. shows_unreplaced s s.work ≡ false → Whole r) (step p.program test s)) (sym same)
      (step-whole p.program s k.owning.sound k.neat.orderly.held.solved w.core s.work k.owning.front w.works)

  reachable : (s : State) → ComesReplaced p q s → IsReachable p q s
  reachable _ starts = itself
  reachable _ (moves_on t u c e i) = after t u (reachable t c) i

  pub whole : (s : State) → ComesReplaced p q s → Whole s
  whole _ starts = begun
  whole _ (moves_on t u c e i) =
      each-state (λ r. shows_unreplaced t t.work ≡ false → Whole r) ((search_for p q).next t) u (step-asks t (known p q fits t (reachable t c)) (whole t c)).states i e

  pub contexts-sorted : (s : State) → ComesReplaced p q s → Sorted (asked_with s s.given) × Sorted (asked_with s (context s))
  contexts-sorted s c = let k = (whole s c).core in (given-list s.made s.covers s.bound s.given k, context-list s.made s.covers s.bound s.given k)

  pub all-sorted : (s : State) → ComesReplaced p q s → Each Sorted (asked_next p s)
  all-sorted s c = (step-asks s (known p q fits s (reachable s c)) (whole s c)).asked

  pub all-decided : (s : State) → ComesReplaced p q s → Each (λ cs. p.sat cs ≡ true ↔ Sat cs) (asked_next p s)
  all-decided s c =
      Each-map Sorted (λ cs. p.sat cs ≡ true ↔ Sat cs) (λ cs h. subst (λ (test : List Con → Bool). test cs ≡ true ↔ Sat cs) (sym same) (sat-sorted cs h)) (asked_next p s) (all-sorted s c)

  pub lines-there : (s : State) → ComesReplaced p q s → list_any (is_unreplaced (meaning s)) s.given ≡ false → Sorted (given_lines s)
  lines-there s c e = lines-sorted s (known p q fits s (reachable s c)).neat.orderly.held.solved (whole s c).core e
