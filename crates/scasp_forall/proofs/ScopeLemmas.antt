-- A cover that is kept, behind a split and at the end of a case.
use Rattle.std.proofs.Common.{◌≡◌, ℕ, false, List, [], ◌∷◌, ◌++◌, filter, map, reverse, ap, sym, ◌∙◌}
use Rattle.scasp_forall.proofs.ListLemmas.{one_more}
use Rattle.scasp_forall.specs.Covers.{parted_alone, resumed, resumed_by}
use Rattle.scasp_forall.specs.Inside.Kept.{cover_of, remainder_of}
use Rattle.scasp_forall.specs.Inside.Listed.{listed}
use Rattle.scasp_forall.specs.declared.scope.Rest.{Rest}
use Rattle.scasp_forall.specs.declared.scope.Scope.{Scope}
use Rattle.scasp_lines_places.specs.Places.Chains.{chained}
use Rattle.scasp_lines_places.specs.declared.places.chain.Chain.{Chain}
use Rattle.scasp_search_rules.specs.Successors.Splits.{is_bound_in, replacement}
use Rattle.scasp_search_rules.specs.declared.states.outcomes.Parting.{Parting}
use Rattle.scasp_unify.specs.declared.bindings.Binding.{Binding}

-- the same side of a split, and the other one, which waits
pub parted_is : (d : ℕ) (p : Parting) (bs : List Binding) (s t : Scope) (r : Rest)
    → t.opening ≡ record s.opening { plain = false } → t.case ≡ s.case → listed t.universals ≡ listed s.universals ++ p.parts_here
    → chained t.region ≡ p.here ∷ chained s.region → chained t.waiting ≡ r ∷ chained s.waiting
    → listed r.region ≡ listed s.region ++ p.there ∷ [] → listed r.universals ≡ listed s.universals ++ p.parts_there
    → r.replaced ≡ filter (is_bound_in bs) (listed s.universals) → r.equation ≡ replacement p.there
    → cover_of d t ≡ parted_alone p bs (cover_of d s)
parted_is d p bs s t r o k u g w rr ru rp re =
    let waits : map remainder_of (chained t.waiting) ≡ record {
      region = listed s.region ++ p.there ∷ [];
      universals = listed s.universals ++ p.parts_there;
      replaced = filter (is_bound_in bs) (listed s.universals);
      equation = replacement p.there;
    } ∷ map remainder_of (chained s.waiting) =
    ap (map remainder_of) w ∙ (λ i. record { region = rr i; universals = ru i; replaced = rp i; equation = re i } ∷ map remainder_of (chained s.waiting)) in
    λ i. record {
      clause = (o i).clause;
      first = (o i).first;
      checks_head = (o i).checks_head;
      plain = (o i).plain;
      depth = d;
      case = k i;
      universals = u i;
      region = one_more p.here (chained s.region) (chained t.region) g i;
      waiting = waits i;
      before = [];
    }

-- the last remainder is the case
pub resumed_is : (k d : ℕ) (s t : Scope) (r : Rest) (others : Chain Rest) → chained s.waiting ≡ r ∷ chained others
    → t.opening ≡ s.opening → t.case ≡ k → chained t.universals ≡ chained r.universals → chained t.region ≡ chained r.region → chained t.waiting ≡ chained others
    → cover_of d t ≡ resumed k (cover_of d s)
resumed_is k d s t r others e o c u g w =
    (λ i. record {
      clause = (o i).clause;
      first = (o i).first;
      checks_head = (o i).checks_head;
      plain = (o i).plain;
      depth = d;
      case = c i;
      universals = ap (λ (xs : List ℕ). reverse xs) u i;
      region = ap reverse g i;
      waiting = ap (map remainder_of) w i;
      before = [];
    })
    ∙ sym (ap (λ (rs : List Rest). resumed_by k (cover_of d s) (map remainder_of rs)) e)

-- nothing changes where no remainder waits
pub resumed_none : (k d : ℕ) (s : Scope) → chained s.waiting ≡ [] → resumed k (cover_of d s) ≡ cover_of d s
resumed_none k d s e = ap (λ (rs : List Rest). resumed_by k (cover_of d s) (map remainder_of rs)) e
