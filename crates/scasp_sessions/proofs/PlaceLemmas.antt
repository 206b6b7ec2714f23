-- Where a session stands.
use Rattle.std.specs.Prelude.{◌≡◌, ℕ, ◌+◌, ◌<◌, suc, Bool, true, false, if◌then◌else◌, List, [], ◌∷◌, ◌++◌, length, get_or, set, take, drop, not, Option, None, Some, IfSome, IsSomeAnd, is_some, option_copied, refl}
use Rattle.std.specs.List.{position_from}
use Rattle.std.proofs.Common.{Bor, ap, arith, subst, sym, ◌∙◌}
use Rattle.scasp_search.specs.declared.search.Search.{Search}
use Rattle.scasp_sessions.specs.Tables.{Table, has_number, search_of, with_search, without}
use Rattle.scasp_sessions.specs.declared.session.Session.{Session}
use Rattle.scasp_syntax.specs.declared.clause.Query.{Query}

-- the first session with the number stands at this place
pub record IsAt (id place : ℕ) (ss : List Session) : Type 0 where
  pub within : place < length ss
  pub searches : (d : Session) → search_of id ss ≡ Some (get_or ss place d).search
  pub changed : (d : Session) (t : Search) → with_search id t ss ≡ set ss place (record (get_or ss place d) { search = t })
  pub taken : without id ss ≡ take place ss ++ drop (suc place) ss

pub at-place : (id k place : ℕ) (ss : List Session) → position_from (has_number id) k ss ≡ Some place → (i : ℕ) × (place ≡ k + i) × IsAt id i ss
at-place id k place [] h = absurd (cc h)
at-place id k place (s ∷ ss) h = by (has_number id s) refl h (at-place id (k + 1) place ss)
  where
    first : has_number id s ≡ true → IsAt id 0 (s ∷ ss)
    first e = record { within = omega arith; searches = λ d. rw e refl; changed = λ d t. rw e refl; taken = rw e refl }

    later : (i : ℕ) → has_number id s ≡ false → IsAt id i ss → IsAt id (suc i) (s ∷ ss)
    later i e h = record {
      within = omega (arith, h.within);
      searches = λ d. rw e (h.searches d);
      changed = λ d t. rw e (ap (λ l. s ∷ l) (h.changed d t));
      taken = rw e (ap (λ l. s ∷ l) h.taken);
    }

    by : (b : Bool) → has_number id s ≡ b → (if b then Some k else position_from (has_number id) (k + 1) ss) ≡ Some place
        → (position_from (has_number id) (k + 1) ss ≡ Some place → (i : ℕ) × (place ≡ (k + 1) + i) × IsAt id i ss)
        → (i : ℕ) × (place ≡ k + i) × IsAt id i (s ∷ ss)
    by true e h next = let same : k ≡ place = cc h in (0, omega (arith, same), first e)
    by false e h next = let there = next h in (suc there.0, omega (arith, there.1), later there.0 e there.2)

pub at : (id place : ℕ) (ss : List Session) → position_from (has_number id) 0 ss ≡ Some place → IsAt id place ss
at id place ss h =
    let there = at-place id 0 place ss h in
    let same : there.0 ≡ place = omega (arith, there.1) in
    subst (λ i. IsAt id i ss) same there.2

pub nowhere : (id k : ℕ) (ss : List Session) → position_from (has_number id) k ss ≡ None → search_of id ss ≡ None
nowhere id k [] h = refl
nowhere id k (s ∷ ss) h = by (has_number id s) h (nowhere id (k + 1) ss)
  where
    by : (b : Bool) → (if b then Some k else position_from (has_number id) (k + 1) ss) ≡ None
        → (position_from (has_number id) (k + 1) ss ≡ None → search_of id ss ≡ None) → (if b then Some s.search else search_of id ss) ≡ None
    by true h next = absurd (cc h)
    by false h next = next h

-- ---- the sessions behind a call

pub placed : (id place : ℕ) (items opened : List Session) (found : Option ℕ) → items ≡ opened → found ≡ position_from (has_number id) 0 items → found ≡ Some place → IsAt id place opened
placed id place items opened found same is there = at id place opened (subst (λ l. position_from (has_number id) 0 l ≡ Some place) same (sym is ∙ there))

pub unplaced : (id : ℕ) (items opened : List Session) (found : Option ℕ) → items ≡ opened → found ≡ position_from (has_number id) 0 items → found ≡ None → search_of id opened ≡ None
unplaced id items opened found same is there = nowhere id 0 opened (subst (λ l. position_from (has_number id) 0 l ≡ None) same (sym is ∙ there))

pub same-table : {opened other : List Session} {next number : ℕ} → opened ≡ other → next ≡ number
    → let one : Table = record { opened = opened; next = next } in let two : Table = record { opened = other; next = number } in one ≡ two
same-table e f = rw (e, f) refl

-- ---- the query of a call that opens

pub asked : (query : Option (Bor Query)) (none : Bool) (there : Option Query) (P : Query → Type 0) → is_some query ≡ not none → none ≡ false → option_copied query ≡ there → IfSome there P → IsSomeAnd there P
asked None none there P is here same h = let wrong : false ≡ not false = is ∙ ap not here in absurd (cc wrong)
asked (Some q) none there P is here same h = subst (λ o. IfSome o P → IsSomeAnd o P) same (λ i. i) h
