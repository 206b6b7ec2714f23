-- Each of the states of a step.
use Rattle.std.specs.Prelude.{Bool, true, false, List, [], ◌∷◌, ◌++◌, map}
use Rattle.std.specs.List.{Contains, flat_map}
use Rattle.std.proofs.Common.{inl, inr, subst}
use Rattle.scasp_list.proofs.MemberLemmas.{Contains-none, Contains-cases}
use Rattle.scasp_search_rules.specs.declared.states.state.State.{State}
use Rattle.scasp_search_rules.specs.Successors.Falls.{EachState}
use Rattle.scasp_search_rules.specs.Successors.Steps.{Step, only_if}

pub each-state : (P : State → Type 0) (ss : List State) (t : State) → EachState P ss → Contains ss t → P t
each-state P [] t h i = absurd (Contains-none t i)
each-state P (s ∷ ss) t h i = elim (Contains-cases s ss t i) [ inl e ↦ subst P e h.0 | inr j ↦ each-state P ss t h.1 j ]

pub each_only_if : (P : State → Type 0) (b : Bool) (s : State) → P s → EachState P (only_if b s)
each_only_if P true s h = (h, tt)
each_only_if P false s h = tt

pub each_append : (P : State → Type 0) (xs ys : List State) → EachState P xs → EachState P ys → EachState P (xs ++ ys)
each_append P [] ys h k = k
each_append P (x ∷ xs) ys h k = (h.0, each_append P xs ys h.1 k)

pub each_followed : (P Q : State → Type 0) (f : State → Step) (ss : List State) → EachState P ss → ((s : State) → P s → EachState Q (f s).states) → EachState Q (flat_map (λ s. (f s).states) ss)
each_followed P Q f [] h k = tt
each_followed P Q f (s ∷ ss) h k = each_append Q (f s).states (flat_map (λ s. (f s).states) ss) (k s h.0) (each_followed P Q f ss h.1 k)

pub each_map : (P Q : State → Type 0) (f : State → State) (ss : List State) → EachState P ss → ((s : State) → P s → Q (f s)) → EachState Q (map f ss)
each_map P Q f [] h k = tt
each_map P Q f (s ∷ ss) h k = (k s h.0, each_map P Q f ss h.1 k)

pub each_weaker : (P Q : State → Type 0) (ss : List State) → ((s : State) → P s → Q s) → EachState P ss → EachState Q ss
each_weaker P Q [] k h = tt
each_weaker P Q (s ∷ ss) k h = (k s h.0, each_weaker P Q ss k h.1)
