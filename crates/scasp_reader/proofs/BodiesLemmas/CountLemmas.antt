-- The number of flat items of a body, an item more.
use Rattle.std.proofs.Common.{◌≡◌, ℕ, zero, suc, ◌+◌, ◌<◌, ◌≤◌, inl, inr, false, nat_lt, Ok, Err, List, [], ◌∷◌, ◌++◌, map, length, refl, sym, ap, ◌∙◌, append_assoc, append-nil, length-append, arith}
use Rattle.std.proofs.lemmas.List.{length-map}
use Rattle.std.proofs.lemmas.Bool.{lt-ltb}
use Rattle.std.proofs.lemmas.Bool.Decides.{nat_tests}
use Rattle.std.proofs.lemmas.Grind.{flat_map-append}
use Rattle.std.specs.List.{flat_map}
use Rattle.scasp_syntax.specs.Flat.{flat_after, flat_body, number_test, unseen}
use Rattle.scasp_syntax.specs.declared.clause.FlatItem.TheVariants as flat
use Rattle.scasp_syntax.specs.declared.con.Con.TheVariants as con
use Rattle.scasp_syntax.specs.declared.clause.Item.{Item}
use Rattle.scasp_syntax.specs.declared.clause.Item.TheVariants.{Call, Equal, Differ, Linear}
use Rattle.scasp_syntax.specs.declared.clause.Lin.{Lin}
use Rattle.scasp_reader_terms.specs.declared.fault.Count.TheVariants as count
use Rattle.scasp_reader_terms.specs.declared.fault.Fault.{Fault}
use Rattle.scasp_reader_terms.specs.declared.fault.Kind.TheVariants as kind
use Rattle.scasp_reader_terms.specs.Steps.{Read, State, series, note_if, place_of}
use Rattle.scasp_reader.specs.declared.bodies.bodies.FlatCount.{FlatCount}
use Rattle.scasp_reader.specs.declared.bodies.bodies.TheConstants.{ITEM_LIMIT}
use Rattle.scasp_reader.specs.Bodies.Items.{item}
use Rattle.scasp_reader.specs.Bodies.Bodies.{listed_variables, Counts, counted_linear, counted_item, body}

-- the flat items of one item, behind those that tested these variables
abbrev item_length : List ℕ → Item → ℕ
item_length seen (Call l) = 1
item_length seen (Equal t u) = 1
item_length seen (Differ t u) = 1
item_length seen (Linear l) = length (unseen seen l.vars) + 1

length_after-one : (seen : List ℕ) (i : Item) → length (flat_after seen (i ∷ [])) ≡ item_length seen i
length_after-one seen (Call l) = refl
length_after-one seen (Equal t u) = refl
length_after-one seen (Differ t u) = refl
length_after-one seen (Linear l) =
    let p = map number_test (unseen seen l.vars) in
    let e : length (flat_after seen (Linear l ∷ [])) ≡ length p + 1 = length-append p (flat.Test (con.Row l.row) ∷ []) in
    omega (arith, length-map (unseen seen l.vars) number_test)

length_after : (seen : List ℕ) (items : List Item) (i : Item)
    → length (flat_after seen (items ++ i ∷ [])) ≡ length (flat_after seen items) + item_length (seen ++ flat_map listed_variables items) i
length_after seen [] i =
    let h : length (flat_after seen (i ∷ [])) ≡ item_length (seen ++ []) i = length_after-one seen i ∙ ap (λ xs. item_length xs i) (sym (append-nil seen)) in
    omega arith
length_after seen (Call l ∷ items) i = let h = length_after seen items i in omega arith
length_after seen (Equal t u ∷ items) i = let h = length_after seen items i in omega arith
length_after seen (Differ t u ∷ items) i = let h = length_after seen items i in omega arith
length_after seen (Linear l ∷ items) i =
    let p = map number_test (unseen seen l.vars) in
    let row = flat.Test (con.Row l.row) in
    let after = seen ++ l.vars in
    let e : length (flat_after seen (Linear l ∷ (items ++ i ∷ []))) ≡ length p + suc (length (flat_after after (items ++ i ∷ []))) = length-append p (row ∷ flat_after after (items ++ i ∷ [])) in
    let f : length (flat_after seen (Linear l ∷ items)) ≡ length p + suc (length (flat_after after items)) = length-append p (row ∷ flat_after after items) in
    let h = length_after after items i in
    let k : item_length (after ++ flat_map listed_variables items) i ≡ item_length (seen ++ (l.vars ++ flat_map listed_variables items)) i =
    ap (λ xs. item_length xs i) (append_assoc seen l.vars (flat_map listed_variables items)) in
    omega arith

-- ---- the count

module _ (c : FlatCount) (before : List Item) (i : Item) (h : Counts c before) where
  pub Counts_over : ITEM_LIMIT < c.number → Counts c (before ++ i ∷ [])
  Counts_over over = by h (length_after [] before i)
    where
      by : Counts c before → length (flat_body (before ++ i ∷ [])) ≡ length (flat_body before) + item_length ([] ++ flat_map listed_variables before) i → Counts c (before ++ i ∷ [])
      by (inl p) k = inr (over, omega (arith, p.0, k))
      by (inr p) k = inr (over, omega (arith, p.1, k))

  pub Counts_one : ((l : Lin) → i ≡ Linear l → ⊥) → c.number ≤ ITEM_LIMIT → Counts (record c { number = c.number + 1 }) (before ++ i ∷ [])
  Counts_one other within = by i other h (length_after [] before i)
    where
      by : (j : Item) → ((l : Lin) → j ≡ Linear l → ⊥) → Counts c before → length (flat_body (before ++ j ∷ [])) ≡ length (flat_body before) + item_length ([] ++ flat_map listed_variables before) j
          → Counts (record c { number = c.number + 1 }) (before ++ j ∷ [])
      by j o (inr p) k = absurd (omega (arith, p.0))
      by (Call l) o (inl p) k = inl (omega (arith, p.0, k), p.1 ∙ sym (flat_map-append listed_variables before (Call l ∷ []) ∙ append-nil _))
      by (Equal t u) o (inl p) k = inl (omega (arith, p.0, k), p.1 ∙ sym (flat_map-append listed_variables before (Equal t u ∷ []) ∙ append-nil _))
      by (Differ t u) o (inl p) k = inl (omega (arith, p.0, k), p.1 ∙ sym (flat_map-append listed_variables before (Differ t u ∷ []) ∙ append-nil _))
      by (Linear l) o (inl p) k = absurd (o l refl)

pub Counts_linear : (c : FlatCount) (before : List Item) (l : Lin) → Counts c before → c.number ≤ ITEM_LIMIT → Counts (counted_linear l.vars c) (before ++ Linear l ∷ [])
Counts_linear c before l (inr p) within = absurd (omega (arith, p.0))
Counts_linear c before l (inl p) within =
    let k = length_after [] before (Linear l) in
    let e : length (unseen c.seen l.vars) ≡ length (unseen (flat_map listed_variables before) l.vars) = ap (λ seen. length (unseen seen l.vars)) p.1 in
    inl (omega (arith, p.0, k, e), ap (λ seen. seen ++ l.vars) p.1 ∙ sym (flat_map-append listed_variables before (Linear l ∷ []) ∙ ap (λ xs. flat_map listed_variables before ++ xs) (append-nil l.vars)))

pub Counts_test : (c : FlatCount) (items : List Item) → Counts c items → nat_lt ITEM_LIMIT c.number ≡ nat_lt ITEM_LIMIT (length (flat_body items))
Counts_test c items (inl p) = ap (λ n. nat_lt ITEM_LIMIT n) p.0
Counts_test c items (inr p) = lt-ltb _ _ p.0 ∙ sym (lt-ltb _ _ p.1)

pub body-is : (s : State) → body s ≡ series counted_item (length s.tokens) [] s
unfolding body
body-is s = refl

pub within : (c : FlatCount) → nat_lt ITEM_LIMIT c.number ≡ false → c.number ≤ ITEM_LIMIT
within c h = grind (arith, nat_tests)

pub series_stops : {A : Type 0} (one : List A → Read A) (n : ℕ) (before : List A) → 0 < n → (s : State) (fault : Fault) → one before s ≡ Err fault → series one n before s ≡ Err fault
series_stops one zero before q s fault h = absurd (omega arith)
series_stops one (suc n) before q s fault h = rw h refl

pub counted_on : (before : List Item) (i : Item) (s s1 s2 : State) → item s ≡ Ok (i, s1)
    → note_if (nat_lt ITEM_LIMIT (length (flat_body (before ++ i ∷ [])))) (place_of s.tokens) (kind.Limit count.Items) s1 ≡ Ok (tt, s2)
    → counted_item before s ≡ Ok (i, s2)
counted_on before i s s1 s2 h k = rw h (rw k refl)
