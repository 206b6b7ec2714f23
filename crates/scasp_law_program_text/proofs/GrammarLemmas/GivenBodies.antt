-- The tokens of a body that means something are read as its items.
use Rattle.std.proofs.Common.{◌≡◌, ℕ, zero, suc, ◌<◌, ◌≤◌, false, nat_lt, if◌then◌else◌, List, [], ◌∷◌, ◌++◌, map, length, Some, refl, ap, subst, ◌∙◌, append_assoc, length-append, arith}
use Rattle.std.proofs.lemmas.Bool.Decides.{nat_tests}
use Rattle.scasp_syntax.specs.Flat.{number_test, unseen, flat_after, flat_body}
use Rattle.scasp_syntax.specs.declared.clause.FlatItem.TheVariants as flat
use Rattle.scasp_syntax.specs.declared.con.Con.TheVariants as con
use Rattle.scasp_syntax.specs.declared.clause.Item.{Item as MeantItem}
use Rattle.scasp_syntax.specs.declared.clause.Item.TheVariants.{Call, Equal, Differ, Linear}
use Rattle.scasp_reader_tokens.specs.declared.sign.Sign.TheVariants as sign
use Rattle.scasp_reader_tokens.specs.declared.token.Token.{Token}
use Rattle.scasp_reader_tokens.specs.declared.token.Token.TheVariants as token
use Rattle.scasp_reader_terms.specs.declared.fault.Count.TheVariants as count
use Rattle.scasp_reader_terms.specs.declared.fault.Kind.TheVariants as kind
use Rattle.scasp_reader_terms.specs.Steps.{State, Read, ◌>>=◌, give, note_if, taken, behind, place_of, is_sign, series}
use Rattle.scasp_reader.specs.declared.bodies.bodies.TheConstants.{ITEM_LIMIT}
use Rattle.scasp_reader.specs.Bodies.Items.{item}
use Rattle.scasp_reader.specs.Bodies.Bodies.{counted_item, body}
use Rattle.scasp_reader.proofs.BodiesLemmas.CountLemmas.{body-is}
use Rattle.scasp_law_program_text.specs.Grammar.Known.{Known, then_make}
use Rattle.scasp_law_program_text.specs.Grammar.Trees.{Item, a_call, a_negative_call, an_equation, a_disequation, a_comparison, Body, one_item, more_items}
use Rattle.scasp_law_program_text.specs.Grammar.Spelling.{term_tokens, arguments_tokens, expression_tokens, item_tokens, body_tokens}
use Rattle.scasp_law_program_text.specs.Grammar.Bodies.{item_meaning, items_meaning, limited_items, body_meaning}
use Rattle.scasp_law_program_text.proofs.GrammarLemmas.Steps.{known}
use Rattle.scasp_law_program_text.proofs.GrammarLemmas.Given.{first, same, At, At_so, Gives, Gives_by, value-is, Gives_so, Gives_then, made, not-nothing, Gives_taken, Gives_not_taken}
use Rattle.scasp_law_program_text.proofs.GrammarLemmas.GivenTerms.{some-minus}
use Rattle.scasp_law_program_text.proofs.GrammarLemmas.GivenExpressions.{tokens-length}
use Rattle.scasp_law_program_text.proofs.GrammarLemmas.GivenItems.{EndsItem, item-given}

pub record EndsBody (rest : List Token) : Type 0 where
  pub ends : EndsItem rest
  pub not_comma : is_sign sign.Comma (first rest) ≡ false

comma-ends : (ts : List Token) → EndsItem (token.Sign sign.Comma ∷ ts)
comma-ends ts = record { term = record { not_over = refl; not_open = refl }; expression = record { no_factor = refl; no_product = refl }; no_equation = refl; no_relation = refl }

-- ---- counts

abbrev items_count : Body → ℕ
items_count (one_item i) = 1
items_count (more_items i b) = suc (items_count b)

some-item : (i : Item) → 0 < length (item_tokens i)
some-item (a_call a) = some-minus a.is_negated (token.Name a.name) (arguments_tokens a.arguments)
some-item (a_negative_call a) = omega arith
some-item (an_equation l r) = omega (arith, length-append (term_tokens l) (token.Sign sign.Equal ∷ term_tokens r))
some-item (a_disequation l r) = omega (arith, length-append (term_tokens l) (token.Sign sign.Differ ∷ term_tokens r))
some-item (a_comparison l o is_turned r) = omega (arith, length-append (expression_tokens l) (token.Sign (sign.Relation o is_turned) ∷ expression_tokens r))

items-within : (b : Body) → items_count b ≤ length (body_tokens b)
items-within (one_item i) = let some = some-item i in omega (arith, some)
items-within (more_items i b) = let some = some-item i in let rest = items-within b in omega (arith, some, rest, length-append (item_tokens i) (token.Sign sign.Comma ∷ body_tokens b))

-- more items have no fewer flat items
flat-longer : (seen : List ℕ) (xs ys : List MeantItem) → length (flat_after seen xs) ≤ length (flat_after seen (xs ++ ys))
flat-longer seen [] ys = omega arith
flat-longer seen (Call l ∷ xs) ys = let h = flat-longer seen xs ys in omega (arith, h)
flat-longer seen (Equal t u ∷ xs) ys = let h = flat-longer seen xs ys in omega (arith, h)
flat-longer seen (Differ t u ∷ xs) ys = let h = flat-longer seen xs ys in omega (arith, h)
flat-longer seen (Linear l ∷ xs) ys =
    let h = flat-longer (seen ++ l.vars) xs ys in
    let tests = map number_test (unseen seen l.vars) in
    let row = flat.Test (con.Row l.row) in
    omega (arith, h, length-append tests (row ∷ flat_after (seen ++ l.vars) xs), length-append tests (row ∷ flat_after (seen ++ l.vars) (xs ++ ys)))

few-before : (xs ys all : List MeantItem) → xs ++ ys ≡ all → nat_lt ITEM_LIMIT (length (flat_body all)) ≡ false → nat_lt ITEM_LIMIT (length (flat_body xs)) ≡ false
few-before xs ys all e few =
    let longer = flat-longer [] xs ys in
    let same_length : length (flat_body (xs ++ ys)) ≡ length (flat_body all) = ap (λ all. length (flat_body all)) e in
    grind (arith, nat_tests, longer, same_length, few)

-- ---- items, one behind the other

counted-given : (before : List MeantItem) (i : Item) (s : State) (rest : List Token) (x : MeantItem) (k : Known) → At (item_tokens i ++ rest) s → EndsItem rest → item_meaning i (known s) ≡ Some (x, k)
    → nat_lt ITEM_LIMIT (length (flat_body (before ++ x ∷ []))) ≡ false → Gives x rest k (counted_item before s)
counted-given before i s rest x k h ends e few =
    Gives_then x x rest rest k k (item s) (λ i. note_if (nat_lt ITEM_LIMIT (length (flat_body (before ++ i ∷ [])))) (place_of s.tokens) (kind.Limit count.Items) >>= (λ n. give i)) (item-given s rest ends x k i h e)
    (λ t there knows. Gives_by x rest k _ _ (ap (λ b. (note_if b (place_of s.tokens) (kind.Limit count.Items) >>= (λ n. give x)) t) few)
    (record { state = t; is = refl; there = there; knows = knows }))

abbrev then_more : ℕ → List MeantItem → MeantItem → Read (List MeantItem)
then_more n before x = taken sign.Comma >>= (λ comma. if comma then series counted_item n (before ++ x ∷ []) else give (before ++ x ∷ []))

items-given : (b : Body) (n : ℕ) (before : List MeantItem) (s : State) (rest : List Token) (xs : List MeantItem) (l : Known) → At (body_tokens b ++ rest) s → EndsBody rest → items_count b ≤ n
    → nat_lt ITEM_LIMIT (length (flat_body (before ++ xs))) ≡ false → items_meaning b (known s) ≡ Some (xs, l) → Gives (before ++ xs) rest l (series counted_item n before s)
items-given (one_item i) zero before s rest xs l h ends le few e = absurd (omega (arith, le))
items-given (more_items i b) zero before s rest xs l h ends le few e = absurd (omega (arith, le))
items-given (one_item i) (suc n) before s rest xs l h ends le few e =
    let m = made (item_meaning i (known s)) (λ x k. Some (x ∷ [], k)) xs l e in
    let x = m.value in
    let is : x ∷ [] ≡ xs = value-is (x ∷ []) xs m.between l m.rest in
    let few_here = ap (λ ys. nat_lt ITEM_LIMIT (length (flat_body (before ++ ys)))) is ∙ few in
    Gives_so (λ ys. before ++ ys) (x ∷ []) xs rest m.between l _
    (Gives_then x (before ++ x ∷ []) rest rest m.between m.between (counted_item before s) (then_more n before) (counted-given before i s rest x m.between h ends.ends m.first few_here)
    (λ t there knows. Gives_not_taken (before ++ x ∷ []) rest m.between t sign.Comma rest _ there ends.not_comma (record { state = t; is = refl; there = there; knows = knows })))
    m.rest
items-given (more_items i b) (suc n) before s rest xs l h ends le few e =
    let next = token.Sign sign.Comma ∷ (body_tokens b ++ rest) in
    let m = made (item_meaning i (known s)) (λ x k. then_make (items_meaning b k) (λ ys k. Some (x ∷ ys, k))) xs l e in
    let x = m.value in
    let more = made (items_meaning b m.between) (λ ys k. Some (x ∷ ys, k)) xs l m.rest in
    let is : x ∷ more.value ≡ xs = value-is (x ∷ more.value) xs more.between l more.rest in
    let grouped : (before ++ x ∷ []) ++ more.value ≡ before ++ xs = append_assoc before (x ∷ []) more.value ∙ ap (λ ys. before ++ ys) is in
    Gives_so (λ ys. before ++ ys) (x ∷ more.value) xs rest more.between l _
    (Gives_then x (before ++ x ∷ more.value) next rest m.between more.between (counted_item before s) (then_more n before)
    (counted-given before i s next x m.between (At_so _ _ s h (append_assoc (item_tokens i) (token.Sign sign.Comma ∷ body_tokens b) rest)) (comma-ends (body_tokens b ++ rest)) m.first
    (few-before (before ++ x ∷ []) more.value (before ++ xs) grouped few))
    (λ t there knows. Gives_taken (before ++ x ∷ more.value) rest more.between t sign.Comma (body_tokens b ++ rest) _ there refl
    (λ at. subst (λ ys. Gives ys rest more.between (series counted_item n (before ++ x ∷ []) (behind t))) (append_assoc before (x ∷ []) more.value)
    (items-given b n (before ++ x ∷ []) (behind t) rest more.value more.between at ends (omega (arith, le)) (ap (λ all. nat_lt ITEM_LIMIT (length (flat_body all))) grouped ∙ few)
    (ap (λ k. items_meaning b k) knows ∙ more.first)))))
    more.rest

pub body-given : (b : Body) (s : State) (rest : List Token) (xs : List MeantItem) (l : Known) → At (body_tokens b ++ rest) s → EndsBody rest → body_meaning b (known s) ≡ Some (xs, l) → Gives xs rest l (body s)
body-given b s rest xs l h ends e =
    let m = made (items_meaning b (known s)) (λ xs. limited_items xs) xs l e in
    let (few, is) = not-nothing (nat_lt ITEM_LIMIT (length (flat_body m.value))) (λ k. Some (m.value, k)) m.between xs l m.rest in
    let within = items-within b in
    let enough = tokens-length (body_tokens b) rest s h in
    Gives_by xs rest l _ _ (body-is s)
    (Gives_so same m.value xs rest m.between l _ (items-given b (length s.tokens) [] s rest m.value m.between h ends (omega (arith, within, enough)) few m.first) is)
