-- Lists that stay sorted: with more bindings and with more constraints than rows, and with rows whose variables are numbers.
use Rattle.std.specs.Prelude.{◌≡◌, ◌⊎◌, Bool, true, false, List, [], ◌∷◌, ◌++◌, map}
use Rattle.std.specs.List.{Contains}
use Rattle.std.proofs.Common.{refl, sym, subst, ◌∙◌, inl, inr}
use Rattle.std.proofs.lemmas.Bool.{true≢false}
use Rattle.std.proofs.lemmas.List.{append_assoc}
use Rattle.std.proofs.lemmas.List.Elements.{Contains-append_cases, Contains-append_left, Contains-append_right}
use Rattle.scasp_list.specs.Each.{Each}
use Rattle.scasp_list.proofs.EachLemmas.{Each-map}
use Rattle.scasp_list.proofs.MemberLemmas.{Contains-map, Contains-from_map, Contains-single, list_all-from, list_all-member}
use Rattle.scasp_num.specs.Linear.{Linear, negation}
use Rattle.scasp_num.specs.declared.linear.Coeff.{Coeff}
use Rattle.scasp_search_rules.specs.Successors.Regions.{equation}
use Rattle.scasp_syntax.specs.Constraints.{Entails, holds}
use Rattle.scasp_syntax.specs.declared.con.Con.{Con}
use Rattle.scasp_syntax.specs.declared.con.Con.TheVariants as con
use Rattle.scasp_syntax.specs.declared.term.Term.TheVariants.{Var}
use Rattle.scasp_unify.specs.Numbers.{counts}
use Rattle.scasp_unify.specs.Resolver.{unifies, resolver, Equal}
use Rattle.scasp_unify.specs.Sorted.{Sorted, apart, typed, partly, is_typed, is_typed_con}
use Rattle.scasp_unify.specs.declared.bindings.Binding.{Binding}
use Rattle.scasp_unify.proofs.FailureLemmas.{counting}
use Rattle.scasp_unify.proofs.Members.{Each-member, Each-from, Each-self}
use Rattle.scasp_unify.proofs.ResolverLemmas.{complete-list, resolver-equal}
use Rattle.scasp_hint.proofs.RowItems.{item-sorted}
use Rattle.scasp_law_no_circle.proofs.Tasks.{NoRow}

unifies-less : (cs ds : List Con) → Each (Contains ds) cs → unifies ds ≡ true → unifies cs ≡ true
unifies-less cs ds i e =
    (complete-list (resolver ds) cs (Each-map (Contains ds) (Equal (resolver ds)) (λ c j. Each-member (Equal (resolver ds)) ds c (resolver-equal ds e) j) cs i)).0

typed-more : (cs ds : List Con) (c : Con) → Each (Contains ds) cs → unifies ds ≡ true → is_typed_con cs c ≡ true → is_typed_con ds c ≡ true
typed-more cs ds (con.Row r) i e f =
    list_all-from (λ (k : Coeff). counts ds k.x) r.coeffs (λ k j. counting cs ds k.x i e (list_all-member (λ (k : Coeff). counts cs k.x) r.coeffs k f j))
typed-more cs ds (con.Eq t u) i e f = refl
typed-more cs ds (con.Neq t u) i e f = refl
typed-more cs ds (con.NotShape x g n) i e f = refl
typed-more cs ds (con.Num t) i e f = refl
typed-more cs ds (con.NotNum t) i e f = refl

pub typed-plain : (ds : List Con) (c : Con) → NoRow c → is_typed_con ds c ≡ true
typed-plain ds (con.Row r) h = absurd h
typed-plain ds (con.Eq t u) h = refl
typed-plain ds (con.Neq t u) h = refl
typed-plain ds (con.NotShape x g n) h = refl
typed-plain ds (con.Num t) h = refl
typed-plain ds (con.NotNum t) h = refl

-- more constraints, none of them a row
pub sorted-more : (cs ds : List Con) → Each (Contains ds) cs → ((d : Con) → Contains ds d → Contains cs d ⊎ NoRow d) → Sorted cs → Sorted ds
sorted-more cs ds i new h = by (unifies ds) refl h
  where
    one : unifies ds ≡ true → is_typed cs ≡ true → (d : Con) → Contains cs d ⊎ NoRow d → is_typed_con ds d ≡ true
    one e f d (inl j) = typed-more cs ds d i e (list_all-member (is_typed_con cs) cs d f j)
    one e f d (inr n) = typed-plain ds d n

    by : (b : Bool) → unifies ds ≡ b → Sorted cs → Sorted ds
    by false e k = apart e
    by true e (apart f) = absurd (true≢false (sym (unifies-less cs ds i e) ∙ f))
    by true e (typed f) = typed (list_all-from (is_typed_con ds) ds (λ d j. one e f d (new d j)))
    by true e (partly some j f none) = partly some (Each-map (Contains cs) (Contains ds) (λ c k. Each-member (Contains ds) cs c i k) some j) f none

plain-equation : (b : Binding) → NoRow (equation b)
plain-equation b = tt

module _ (bs cs : List Binding) (gs hs : List Con) (more : (b : Binding) → Contains bs b → Contains cs b) (longer : (c : Con) → Contains gs c → Contains hs c) where
  pub list-within : (c : Con) → Contains (map equation bs ++ gs) c → Contains (map equation cs ++ hs) c
  list-within c i = by (Contains-append_cases (map equation bs) gs c i)
    where
      by : Contains (map equation bs) c ⊎ Contains gs c → Contains (map equation cs ++ hs) c
      by (inl j) =
          let o = Contains-from_map equation bs c j in
          Contains-append_left (map equation cs) hs c (subst (Contains (map equation cs)) o.2 (Contains-map equation cs o.0 (more o.0 o.1)))
      by (inr j) = Contains-append_right (map equation cs) hs c (longer c j)

  -- with more bindings, and with more constraints that are no rows
  pub sorted-bound : ((d : Con) → Contains hs d → Contains gs d ⊎ NoRow d) → Sorted (map equation bs ++ gs) → Sorted (map equation cs ++ hs)
  sorted-bound new h =
      sorted-more (map equation bs ++ gs) (map equation cs ++ hs) (Each-from (Contains (map equation cs ++ hs)) (map equation bs ++ gs) list-within)
      (λ d i. by d (Contains-append_cases (map equation cs) hs d i)) h
    where
      old : (d : Con) → Contains gs d ⊎ NoRow d → Contains (map equation bs ++ gs) d ⊎ NoRow d
      old d (inl j) = inl (Contains-append_right (map equation bs) gs d j)
      old d (inr n) = inr n

      by : (d : Con) → Contains (map equation cs) d ⊎ Contains hs d → Contains (map equation bs ++ gs) d ⊎ NoRow d
      by d (inl j) = let o = Contains-from_map equation cs d j in inr (subst NoRow o.2 (plain-equation o.0))
      by d (inr j) = old d (new d j)

-- one constraint more, no row
pub sorted-one : (bs : List Binding) (gs : List Con) (c : Con) → NoRow c → Sorted (map equation bs ++ gs) → Sorted (map equation bs ++ (gs ++ c ∷ []))
sorted-one bs gs c n h = sorted-bound bs bs gs (gs ++ c ∷ []) (λ b i. i) (λ d i. Contains-append_left gs (c ∷ []) d i) (λ d i. by d (Contains-append_cases gs (c ∷ []) d i)) h
  where
    by : (d : Con) → Contains gs d ⊎ Contains (c ∷ []) d → Contains gs d ⊎ NoRow d
    by d (inl j) = inl j
    by d (inr j) = inr (subst NoRow (Contains-single c d j) n)

-- a list entails what some of its constraints do
pub entails-more : (cs ds : List Con) (c : Con) → ((d : Con) → Contains cs d → Contains ds d) → Entails cs c → Entails ds c
entails-more cs ds c i h v m = h v (list_all-from (holds v.of) cs (λ d j. list_all-member (holds v.of) ds d m (i d j)))

-- a row, or its negation, whose variables are numbers by the list
pub sorted-row : (bs : List Binding) (gs : List Con) (r : Linear) → Sorted (map equation bs ++ gs) → Each (λ k. Entails (map equation bs ++ gs) (con.Num (Var k.x))) r.coeffs
    → Sorted (map equation bs ++ (gs ++ con.Row r ∷ [])) × Sorted (map equation bs ++ (gs ++ con.Row (negation r) ∷ []))
sorted-row bs gs r h k =
    let l : List Con = map equation bs ++ gs in
    let both = item-sorted l l r (Each-self l) h h
    (Each-map (λ (k : Coeff). Entails (map equation bs ++ gs) (con.Num (Var k.x))) (λ k. (counts (map equation bs ++ gs) k.x ≡ true) ⊎ Entails (map equation bs ++ gs) (con.Num (Var k.x))) (λ k e. inr e) r.coeffs k) in (
      subst Sorted (append_assoc (map equation bs) gs (con.Row r ∷ [])) both.0,
      subst Sorted (append_assoc (map equation bs) gs (con.Row (negation r) ∷ [])) both.1,
    )
