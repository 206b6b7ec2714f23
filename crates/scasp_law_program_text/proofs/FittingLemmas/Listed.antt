-- The variables that an expression lists: they hold each new one, and those that the clause had have names.
use Rattle.std.proofs.Common.{◌≡◌, ℕ, ◌+◌, ◌<◌, ◌≤◌, List, [], ◌∷◌, length, Some, ap, subst, ◌∙◌, inl, inr, arith}
use Rattle.std.specs.List.{Contains}
use Rattle.std.proofs.lemmas.Bool.{cases_lt}
use Rattle.scasp_list.specs.Each.{Each}
use Rattle.scasp_list.proofs.EachLemmas.{Each-map}
use Rattle.scasp_list.proofs.MemberLemmas.{Contains-none, Contains-here, Contains-cases}
use Rattle.scasp_num.specs.Arithmetic.{◌>>=◌}
use Rattle.scasp_reader_terms.specs.declared.reader.TheConstants.{VARIABLE_LIMIT}
use Rattle.scasp_reader_expressions.specs.Values.{united}
use Rattle.scasp_print_program.specs.Terms.{Style}
use Rattle.scasp_law_program_text.specs.CompoundReadback.Counting.{count_variable}
use Rattle.scasp_law_program_text.specs.LinearReadback.Counting.{count_variables}
use Rattle.scasp_reader.proofs.ProgramsLemmas.SumKeeping.{Ascending, united-Each, united-left, united-right}
use Rattle.scasp_law_program_text.specs.TermFitting.Readers.{Keeps, Covers}
use Rattle.scasp_law_program_text.proofs.TermFittingLemmas.Names.{IsNamed, IsVariable, named-covered, count-known, count-next}

-- the variables that were read behind the n that the clause had are among these, and those of the n have names
pub record IsListed (n : ℕ) (xs : List ℕ) (k : Style) : Type 0 where
  pub new : (y : ℕ) → n ≤ y → y < length k.variables → Contains xs y
  pub named : Each (λ y. y < n → IsNamed k y) xs

named_later : (k j : Style) → Keeps k.variables j.variables → (x : ℕ) → IsNamed k x → IsNamed j x
named_later k j h x (text, at, named) = (text, h x text at, named)

-- of no expression, behind which nothing more is known
pub none-listed : (n : ℕ) (k : Style) → length k.variables ≡ n → IsListed n [] k
none-listed n k e = record { new = λ y h l. absurd (omega (arith, h, l, e)); named = tt }

pub variable-listed : (n x : ℕ) (k : Style) → IsVariable n x k → IsListed n (x ∷ []) k
variable-listed n x k (inl (below, named, same)) = record { new = λ y h l. absurd (omega (arith, h, l, same)); named = (λ b. named, tt) }
variable-listed n x k (inr (next, few, more)) = record {
  new = λ y h l. (let e : x ≡ y = omega (arith, next, h, l, more) in subst (λ z. Contains (x ∷ []) z) e (Contains-here x []));
  named = (λ b. absurd (omega (arith, next, b)), tt);
}

-- of two expressions, one behind the other
pub united-listed : (n : ℕ) (xs ys : List ℕ) (k j : Style) → Keeps k.variables j.variables → n ≤ length k.variables → IsListed n xs k → IsListed (length k.variables) ys j
    → IsListed n (united xs ys) j
united-listed n xs ys k j keeps le h g =
    record {
      new = new;
      named = united-Each (λ y. y < n → IsNamed j y) xs ys
          (Each-map (λ y. y < n → IsNamed k y) (λ y. y < n → IsNamed j y) (λ y f b. named_later k j keeps y (f b)) xs h.named)
          (Each-map (λ y. y < length k.variables → IsNamed j y) (λ y. y < n → IsNamed j y) (λ y f b. f (omega (arith, b, le))) ys g.named);
    }
  where
    new : (y : ℕ) → n ≤ y → y < length j.variables → Contains (united xs ys) y
    new y above below =
        elim (cases_lt y (length k.variables)) [
          | inl first ↦ united-left xs ys y (h.new y above first)
          | inr later ↦ united-right xs ys y (g.new y later below)
        ]

-- ---- the variables in their order

module _ (w k : Style) (n : ℕ) (covers : Covers w k) (few : length k.variables ≤ VARIABLE_LIMIT) where
  -- the rest of them, where c are known
  counted-from : (xs : List ℕ) (c : ℕ) → n ≤ c → c ≤ length k.variables → Ascending xs → Each (λ x. x < length k.variables) xs → ((y : ℕ) → c ≤ y → y < length k.variables → Contains xs y)
      → Each (λ y. y < n → IsNamed k y) xs → Each (λ y. n ≤ y → c ≤ y) xs → count_variables w c xs ≡ Some (length k.variables)
  counted-from [] c above below asc low new named later =
      elim (cases_lt c (length k.variables)) [
        | inl more ↦ absurd (Contains-none c (new c (omega arith) more))
        | inr done ↦ (let e : c ≡ length k.variables = omega (arith, below, done) in ap Some e)
      ]
  counted-from (x ∷ xs) c above below asc low new named later =
      elim (cases_lt x n) [
        | inl old ↦ was old (counted-from xs c above below asc.1 low.1 (λ y h l. others y (λ e. omega (arith, e, old, above, h)) (new y h l)) named.1 later.1)
        | inr fresh ↦ (let e = next fresh in
            is_new e (counted-from xs (c + 1) (omega (arith, above)) (omega (arith, e, low.0)) asc.1 low.1 (λ y h l. others y (λ q. omega (arith, q, e, h)) (new y (omega (arith, h)) l)) named.1
            (Each-map (λ y. x < y) (λ y. n ≤ y → c + 1 ≤ y) (λ y l h. omega (arith, e, l)) xs asc.0)))
      ]
    where
      others : (y : ℕ) → (x ≡ y → ⊥) → Contains (x ∷ xs) y → Contains xs y
      others y apart h = elim (Contains-cases x xs y h) [ inl e ↦ absurd (apart e) | inr there ↦ there ]

      was : x < n → count_variables w c xs ≡ Some (length k.variables) → (count_variable w c x >>= (λ m. count_variables w m xs)) ≡ Some (length k.variables)
      was old rest = ap (λ o. o >>= (λ m. count_variables w m xs)) (count-known w c x (omega (arith, old, above)) (named-covered w k x covers (named.0 old))) ∙ rest

      -- the next one, since no later one is as low
      next : n ≤ x → x ≡ c
      next fresh =
          let low_x = low.0 in
          let at = later.0 fresh in
          elim (Contains-cases x xs c (new c (omega arith) (omega (arith, at, low_x)))) [
            | inl e ↦ e
            | inr there ↦ absurd (no_later xs asc.0 there at)
          ]
        where
          no_later : (ys : List ℕ) → Each (λ y. x < y) ys → Contains ys c → c ≤ x → ⊥
          no_later [] a h le = Contains-none c h
          no_later (y ∷ ys) a h le =
              let first = a.0 in
              elim (Contains-cases y ys c h) [ inl e ↦ omega (arith, e, first, le) | inr there ↦ no_later ys a.1 there le ]

      is_new : x ≡ c → count_variables w (c + 1) xs ≡ Some (length k.variables) → (count_variable w c x >>= (λ m. count_variables w m xs)) ≡ Some (length k.variables)
      is_new e rest =
          let low_x = low.0 in
          ap (λ o. o >>= (λ m. count_variables w m xs)) (ap (count_variable w c) e ∙ count-next w c (omega (arith, e, low_x, few))) ∙ rest

  pub listed-counted : (xs : List ℕ) → n ≤ length k.variables → Ascending xs → Each (λ x. x < length k.variables) xs → IsListed n xs k → count_variables w n xs ≡ Some (length k.variables)
  listed-counted xs le asc low h = counted-from xs n (omega arith) le asc low h.new h.named (Each-map (λ x. x < length k.variables) (λ y. n ≤ y → n ≤ y) (λ y l h. h) xs low)
