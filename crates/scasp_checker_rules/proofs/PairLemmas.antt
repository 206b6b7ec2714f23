-- Two literals have no fault exactly where they are shown apart.
use Rattle.std.proofs.Common.{◌≡◌, inl, inr, is_some, List, [], Option, Some, None, if◌then◌else◌, refl, sym, subst}
use Rattle.scasp_syntax.specs.declared.hint.Hint.TheVariants as hint
use Rattle.scasp_cert.specs.Certificate.{Certificate}
use Rattle.scasp_cert.specs.declared.certificate.Clash.{Clash}
use Rattle.scasp_hint.specs.Showing.{fault_of}
use Rattle.scasp_hint.specs.declared.fault.HintFault.{HintFault}
use Rattle.scasp_lines.specs.Lines.{free_of}
use Rattle.scasp_checker_rules.specs.Accepted.{AreApart, ClashShows, IsOfPair}
use Rattle.scasp_checker_rules.specs.PairLists.{pair_list}
use Rattle.scasp_checker_rules.specs.Pairs.{clash_of, clash_faults, pair_faults, told_on, is_pair, other_clash}
use Rattle.scasp_checker_rules.specs.Refusals.{of_some}
use Rattle.scasp_checker_rules.specs.Told.{Told}
use Rattle.scasp_checker_rules.specs.declared.refusal.Refusal.{Refusal}
use Rattle.scasp_checker_rules.proofs.TestLemmas.{wants-holds, wants-none, fault-none, none-fault, of_some-parts, of_some-from}

module _ (c : Certificate) (ab : Told × Told) where
  clash-shows : (o : Option Clash) → clash_of ab.0.at ab.1.at c.clashes ≡ o → clash_faults (free_of c) c.given ab.0 ab.1 o ≡ [] → ClashShows c ab.0 ab.1
  clash-shows None e f = cc
  clash-shows (Some k) e f = record { clash = k; found = e; shown = fault-none ab.0.at _ f }

  shown-clash : (h : ClashShows c ab.0 ab.1) → clash_faults (free_of c) c.given ab.0 ab.1 (clash_of ab.0.at ab.1.at c.clashes) ≡ []
  shown-clash h =
      subst (λ (o : Option Clash). clash_faults (free_of c) c.given ab.0 ab.1 o ≡ []) (sym h.found) (none-fault ab.0.at _ h.shown)

  abbrev rest : Option HintFault → List Refusal
  rest o = if is_some o then clash_faults (free_of c) c.given ab.0 ab.1 (clash_of ab.0.at ab.1.at c.clashes) else []

  apart-by : (o : Option HintFault) → fault_of (pair_list (free_of c) c.given ab.0 ab.1) hint.Terms ≡ o → rest o ≡ [] → AreApart c ab
  apart-by None e f = inl e
  apart-by (Some why) e f = inr (clash-shows (clash_of ab.0.at ab.1.at c.clashes) refl f)

  pub apart-holds : pair_faults (free_of c) c.given c.clashes ab ≡ [] → AreApart c ab
  apart-holds e = apart-by (fault_of (pair_list (free_of c) c.given ab.0 ab.1) hint.Terms) refl e

  none-by : (o : Option HintFault) → ClashShows c ab.0 ab.1 → rest o ≡ []
  none-by None h = refl
  none-by (Some why) h = shown-clash h

  pub apart-none : AreApart c ab → pair_faults (free_of c) c.given c.clashes ab ≡ []
  apart-none (inl e) = subst (λ (o : Option HintFault). rest o ≡ []) (sym e) refl
  apart-none (inr h) = none-by (fault_of (pair_list (free_of c) c.given ab.0 ab.1) hint.Terms) h

pub of-pair : (ts : List Told) (k : Clash) → other_clash ts k ≡ [] → IsOfPair ts k
of-pair ts k e =
    let a = of_some-parts (told_on k.first ts) (λ a. of_some (told_on k.second ts) (is_pair a)) (wants-holds _ _ _ e) in
    let b = of_some-parts (told_on k.second ts) (is_pair a.0) a.2 in
    record { first = a.0; first_found = a.1; second = b.0; second_found = b.1; pair = b.2 }

pub pair-of : (ts : List Told) (k : Clash) → IsOfPair ts k → other_clash ts k ≡ []
pair-of ts k h =
    wants-none _ _ _
    (of_some-from (told_on k.first ts) (λ a. of_some (told_on k.second ts) (is_pair a)) h.first h.first_found
    (of_some-from (told_on k.second ts) (is_pair h.first) h.second h.second_found h.pair))
