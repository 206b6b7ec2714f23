-- Bodies are read back, up to their stop.
use Rattle.std.proofs.Common.{◌≡◌, ℕ, suc, ◌+◌, ◌-◌, ◌<◌, ◌≤◌, true, false, nat_lt, List, [], ◌∷◌, ◌++◌, map, length, Some, Ok, refl, ap, ◌∙◌, arith, append_assoc, length-append}
use Rattle.std.specs.Prelude.{nat_le}
use Rattle.std.specs.List.{list_all}
use Rattle.std.proofs.lemmas.Bool.{and_parts, false≢true}
use Rattle.std.proofs.lemmas.Bool.Decides.{nat_tests}
use Rattle.scasp_syntax.specs.Flat.{flat_after, flat_body, number_test, unseen}
use Rattle.scasp_syntax.specs.declared.clause.Item.{Item}
use Rattle.scasp_syntax.specs.declared.clause.Item.TheVariants as form
use Rattle.scasp_syntax.specs.declared.clause.FlatItem.TheVariants as flat
use Rattle.scasp_syntax.specs.declared.con.Con.TheVariants as con
use Rattle.scasp_reader_tokens.specs.declared.sign.Sign.TheVariants as sign
use Rattle.scasp_reader_tokens.specs.declared.token.Token.TheVariants as token
use Rattle.scasp_reader_tokens.specs.Tokens.{placed, tokens_behind}
use Rattle.scasp_reader_terms.specs.Steps.{State, series, token_of, is_sign}
use Rattle.scasp_reader.specs.declared.bodies.bodies.TheConstants.{ITEM_LIMIT}
use Rattle.scasp_reader.specs.Bodies.Items.{item}
use Rattle.scasp_reader.specs.Bodies.Bodies.{counted_item, body}
use Rattle.scasp_reader.proofs.BodiesLemmas.CountLemmas.{body-is}
use Rattle.scasp_print_program.specs.Terms.{Style}
use Rattle.scasp_print_program.specs.Items.{item_text, items_text}
use Rattle.scasp_law_program_text.proofs.ReadbackLemmas.SignReading.{comma_read, blank_read, stop_read}
use Rattle.scasp_law_program_text.specs.TermReadback.Reading.{before, behind_term}
use Rattle.scasp_law_program_text.specs.CompoundReadback.Styles.{IsStyle}
use Rattle.scasp_law_program_text.specs.CompoundReadback.Reading.{had, Reads}
use Rattle.scasp_law_program_text.proofs.CompoundReadbackLemmas.Steps.{behind_one, series-step, behind-last}
use Rattle.scasp_law_program_text.proofs.CompoundReadbackLemmas.Terms.{bind-parts}
use Rattle.scasp_law_program_text.specs.ClauseReadback.Fitting.{item_fits, body_fits}
use Rattle.scasp_law_program_text.specs.ClauseReadback.Counting.{count_item, count_body}
use Rattle.scasp_law_program_text.proofs.ClauseReadbackLemmas.Items.{item-read}
use Rattle.scasp_law_program_text.proofs.ClauseReadbackLemmas.ItemTokens.{of-any, stop-ends, items-end, item-has}

-- ---- flat items

-- a body has no fewer flat items than one with which it begins
flat-front : (seen : List ℕ) (xs ys : List Item) → length (flat_after seen xs) ≤ length (flat_after seen (xs ++ ys))
flat-front seen [] ys = omega arith
flat-front seen (form.Call l ∷ xs) ys = let h = flat-front seen xs ys in omega arith
flat-front seen (form.Equal t u ∷ xs) ys = let h = flat-front seen xs ys in omega arith
flat-front seen (form.Differ t u ∷ xs) ys = let h = flat-front seen xs ys in omega arith
flat-front seen (form.Linear l ∷ xs) ys =
    let p = map number_test (unseen seen l.vars) in
    let row = flat.Test (con.Row l.row) in
    let after = seen ++ l.vars in
    let a : length (p ++ row ∷ flat_after after xs) ≡ length p + suc (length (flat_after after xs)) = length-append p (row ∷ flat_after after xs) in
    let b : length (p ++ row ∷ flat_after after (xs ++ ys)) ≡ length p + suc (length (flat_after after (xs ++ ys))) = length-append p (row ∷ flat_after after (xs ++ ys)) in
    let h = flat-front after xs ys in omega (arith, a, b)

counted-step : (us : List Item) (i : Item) (s s1 : State) → nat_lt ITEM_LIMIT (length (flat_body (us ++ i ∷ []))) ≡ false → item s ≡ Ok (i, s1) → counted_item us s ≡ Ok (i, s1)
counted-step us i s s1 few e = rw e (rw few refl)

module _ (w : Style) (style : IsStyle w) where
  -- behind an item come these, up to the stop
  abbrev IsRest : List Item → Type 0
  IsRest is =
      (n m : ℕ) → list_all (item_fits w) is ≡ true → count_body w n is ≡ Some m → (us : List Item) (u : Item) (k : ℕ) (s : State) (rest : List ℕ) (at : ℕ)
      → length (flat_body (us ++ u ∷ is)) ≤ ITEM_LIMIT → length (tokens_behind 0 at (items_text w false is ++ (46 ∷ 10 ∷ rest))) ≤ k
      → behind_one counted_item k us u (behind_term (had w n s) at (items_text w false is ++ (46 ∷ 10 ∷ rest)))
      ≡ Ok (us ++ u ∷ is, behind_term (had w m s) (at + length (items_text w false is)) (46 ∷ 10 ∷ rest))

  -- the first of these, and the others
  module _ (i : Item) (is : List Item) (others : IsRest is) where
    first-read : (n m : ℕ) → list_all (item_fits w) (i ∷ is) ≡ true → count_body w n (i ∷ is) ≡ Some m → (us : List Item) (k : ℕ) (s : State) (rest : List ℕ) (at : ℕ)
        → length (flat_body (us ++ i ∷ is)) ≤ ITEM_LIMIT → length (tokens_behind 0 at (items_text w true (i ∷ is) ++ (46 ∷ 10 ∷ rest))) ≤ k
        → series counted_item k us (before (had w n s) at (items_text w true (i ∷ is) ++ (46 ∷ 10 ∷ rest)))
        ≡ Ok (us ++ i ∷ is, behind_term (had w m s) (at + length (items_text w true (i ∷ is))) (46 ∷ 10 ∷ rest))
    first-read n m g c us k s rest at few fuel =
        let p = and_parts (item_fits w i) (list_all (item_fits w) is) g in
        let first = item_text w i in
        let behind = items_text w false is in
        let stop = 46 ∷ 10 ∷ rest in
        let bytes = behind ++ stop in
        let ends = items-end w is stop (stop-ends rest) in
        let parts = bind-parts (count_item w n i) (λ m. count_body w m is) m c in
        let whole = append_assoc first behind stop in
        let left : length (tokens_behind 0 at (first ++ bytes)) ≤ k = rw whole at fuel in
        let has = item-has w style i bytes p.0 ends at in
        let some : 0 < k = omega (arith, left, has) in
        let less : length (tokens_behind 0 (at + length first) bytes) ≤ k - 1 = omega (arith, left, has) in
        let same : (us ++ i ∷ []) ++ is ≡ us ++ i ∷ is = append_assoc us (i ∷ []) is in
        let front = flat-front [] (us ++ i ∷ []) is in
        let fewer : length (flat_body (us ++ i ∷ [])) ≤ ITEM_LIMIT = omega (arith, front, few, ap (λ l. length (flat_body l)) same) in
        let within : nat_lt ITEM_LIMIT (length (flat_body (us ++ i ∷ []))) ≡ false = below (length (flat_body (us ++ i ∷ []))) fewer in
        let place : at + length first + length behind ≡ at + length (first ++ behind) = omega (arith, length-append first behind) in
        ap (λ bs. series counted_item k us (before (had w n s) at bs)) whole
        ∙ series-step counted_item k us (before (had w n s) at (first ++ bytes)) (behind_term (had w parts.0 s) (at + length first) bytes) i some
        (counted-step us i (before (had w n s) at (first ++ bytes)) (behind_term (had w parts.0 s) (at + length first) bytes) within (item-read w style i n parts.0 p.0 parts.1 s bytes (of-any i bytes ends) at))
        ∙ others parts.0 m p.1 parts.2 us i (k - 1) s rest (at + length first) few less
        ∙ ap (λ a. Ok (us ++ i ∷ is, behind_term (had w m s) a stop)) place
      where
        below : (n : ℕ) → n ≤ ITEM_LIMIT → nat_lt ITEM_LIMIT n ≡ false
        below n h = grind (arith, nat_tests)

    next-read : IsRest (i ∷ is)
    next-read n m g c us u k s rest at few fuel =
        let text = items_text w true (i ∷ is) in
        let stop = 46 ∷ 10 ∷ rest in
        let bytes = text ++ stop in
        let shift : at + 1 + 1 ≡ at + 2 = omega arith in
        let comma : tokens_behind 0 at (44 ∷ 32 ∷ bytes) ≡ placed at (token.Sign sign.Comma) ∷ tokens_behind 0 (at + 2) bytes =
        comma_read (32 ∷ bytes) at ∙ ap (λ ts. placed at (token.Sign sign.Comma) ∷ ts) (blank_read bytes (at + 1) ∙ ap (λ p. tokens_behind 0 p bytes) shift) in
        let fewer : length (tokens_behind 0 (at + 2) bytes) ≤ k = omega (arith, fuel, ap length comma) in
        let same : (us ++ u ∷ []) ++ i ∷ is ≡ us ++ u ∷ i ∷ is = append_assoc us (u ∷ []) (i ∷ is) in
        let within : length (flat_body ((us ++ u ∷ []) ++ i ∷ is)) ≤ ITEM_LIMIT = omega (arith, few, ap (λ l. length (flat_body l)) same) in
        let place : at + 2 + length text ≡ at + length (44 ∷ 32 ∷ text) = omega arith in
        ap (λ ts. behind_one counted_item k us u (record (behind_term (had w n s) at bytes) { tokens = ts })) comma
        ∙ first-read n m g c (us ++ u ∷ []) k (record s { is_behind_operand = false }) rest (at + 2) within fewer
        ∙ ap (λ l. Ok (l, behind_term (had w m s) (at + 2 + length text) stop)) same
        ∙ ap (λ a. Ok (us ++ u ∷ i ∷ is, behind_term (had w m s) a stop)) place

  no-more : IsRest []
  no-more n m g c us u k s rest at few fuel =
      let same : n ≡ m = cc in
      let stop = 46 ∷ 10 ∷ rest in
      let none : is_sign sign.Comma (token_of (tokens_behind 0 at stop)) ≡ false = ap (λ ts. is_sign sign.Comma (token_of ts)) (stop_read rest at) in
      let place : at ≡ at + 0 = omega arith in
      behind-last counted_item k us u (behind_term (had w n s) at stop) none
      ∙ ap (λ n. Ok (us ++ u ∷ [], behind_term (had w n s) at stop)) same
      ∙ ap (λ a. Ok (us ++ u ∷ [], behind_term (had w m s) a stop)) place

  rest-read : (is : List Item) → IsRest is
  rest-read [] = no-more
  rest-read (i ∷ is) = next-read i is (rest-read is)

  pub body-read : (is : List Item) (n m : ℕ) → body_fits w is ≡ true → count_body w n is ≡ Some m → (s : State) (rest : List ℕ) → Reads w n m body (items_text w true is) is s (46 ∷ 10 ∷ rest)
  body-read [] n m g c s rest at = absurd (false≢true g)
  body-read (i ∷ is) n m g c s rest at =
      let p = and_parts (list_all (item_fits w) (i ∷ is)) (nat_le (length (flat_body (i ∷ is))) ITEM_LIMIT) g in
      let bytes = items_text w true (i ∷ is) ++ (46 ∷ 10 ∷ rest) in
      body-is (before (had w n s) at bytes) ∙ first-read i is (rest-read is) n m p.0 c [] (length (tokens_behind 0 at bytes)) s rest at (fewer (length (flat_body (i ∷ is))) p.1) (omega arith)
    where
      fewer : (n : ℕ) → nat_le n ITEM_LIMIT ≡ true → n ≤ ITEM_LIMIT
      fewer n h = grind (arith, nat_tests)
