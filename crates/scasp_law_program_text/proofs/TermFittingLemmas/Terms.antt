-- A term that is read fits in the brackets that may be opened, and its variables are numbered as they are read.
use Rattle.std.proofs.Common.{◌≡◌, ℕ, zero, suc, ◌-◌, ◌<◌, ◌≤◌, Bool, true, false, ◌&&◌, nat_lt, if◌then◌else◌, slice_get, List, [], ◌∷◌, ◌++◌, length, Option, None, Some, Result, refl, sym, ap, subst, ◌∙◌, length-append, arith}
use Rattle.std.specs.Prelude.{nat_le}
use Rattle.std.specs.Str.{IsUtf8}
use Rattle.std.proofs.lemmas.Bool.{and_parts, and_from, lt-ltb}
use Rattle.std.proofs.lemmas.Bool.Decides.{nat_tests}
use Rattle.std.proofs.lemmas.Option.{slice_get_within}
use Rattle.scasp_num.specs.Arithmetic.{◌>>=◌}
use Rattle.scasp_syntax.specs.Tm.{Tm, Tms, var, num, app, nil, cons, items, listed}
use Rattle.scasp_reader_tokens.specs.declared.sign.Sign.{Sign}
use Rattle.scasp_reader_tokens.specs.declared.sign.Sign.TheVariants as sign
use Rattle.scasp_reader_tokens.specs.declared.token.Token.{Token}
use Rattle.scasp_reader_tokens.specs.declared.token.Token.TheVariants as token
use Rattle.scasp_cert.specs.Text.Terms.{is_pair}
use Rattle.scasp_reader_terms.specs.declared.fault.Fault.{Fault}
use Rattle.scasp_reader_terms.specs.declared.terms.TheConstants.{ARITY_LIMIT}
use Rattle.scasp_reader_terms.specs.Constants.{constant}
use Rattle.scasp_reader_terms.specs.Names.{place_in}
use Rattle.scasp_reader_terms.specs.Steps.{State, Read, then_read, give, behind, place_of, token_of, is_sign}
use Rattle.scasp_reader_terms.specs.Terms.{inside, one_more, several, arguments_in, arguments, compound, list_of, elements, elements_if, list_in, variable_term, term_at_sign, term_at, term_with, term, below}
use Rattle.scasp_print_program.specs.Terms.{Style}
use Rattle.scasp_law_program_text.specs.Readback.Endings.{is_variable_text}
use Rattle.scasp_law_program_text.specs.CompoundReadback.Fitting.{call_fits, app_fits, rest_fits, fits, tail_fits, all_fit, pair_fits, tails_fit}
use Rattle.scasp_law_program_text.specs.CompoundReadback.Counting.{count, count_all}
use Rattle.scasp_law_program_text.specs.TermFitting.Readers.{known, IsReader, Covers}
use Rattle.scasp_law_program_text.proofs.TermFittingLemmas.Steps.{Follows, Follows_self, Follows_trans, covers_before, follows_behind, reader_behind, reader_in, Post, Post_give, Post_err, Post_from, Post_map, Post_then, IsNext, next_is, Post_taken, Post_note, between_holds, IsFull, series_holds}
use Rattle.scasp_law_program_text.proofs.TermFittingLemmas.Names.{behind_name, follows_name, place-is, IsVariable, variable-below, variable-counted, variable_at_holds}
use Rattle.scasp_law_program_text.proofs.TermFittingLemmas.Numbers.{IsNumberTerm, constant_holds}

-- ---- more brackets

above : (n m : ℕ) → n ≤ m → nat_lt 0 n ≡ true → nat_lt 0 m ≡ true
above n m le h = grind (arith, nat_tests, h)

call-more : (n m : ℕ) → n ≤ m → (ts : Tms) (a b : Bool) → (a ≡ true → b ≡ true) → call_fits n ts a ≡ true → call_fits m ts b ≡ true
call-more n m le ts a b f h =
    let few = nat_le (length (items ts)) ARITY_LIMIT in
    let p = and_parts (nat_lt 0 n && few) a h in
    let q = and_parts (nat_lt 0 n) few p.0 in
    and_from (nat_lt 0 m && few) b (and_from (nat_lt 0 m) few (above n m le q.0) q.1) (f p.1)

module _ (n m : ℕ) (le : n ≤ m) (f : ℕ) (ts : Tms) (a b c d : Bool) (args : a ≡ true → b ≡ true) (elements : c ≡ true → d ≡ true) where
  app-more : app_fits n f ts a c ≡ true → app_fits m f ts b d ≡ true
  app-more h = by ts h
    where
      by : (us : Tms) → app_fits n f us a c ≡ true → app_fits m f us b d ≡ true
      by nil h = refl
      by (cons u us) h = cases (is_pair f (cons u us)) h
        where
          cases : (t : Bool) → (if t then nat_lt 0 n && c else call_fits n (cons u us) a) ≡ true → (if t then nat_lt 0 m && d else call_fits m (cons u us) b) ≡ true
          cases true h = let p = and_parts (nat_lt 0 n) c h in and_from (nat_lt 0 m) d (above n m le p.0) (elements p.1)
          cases false h = call-more n m le (cons u us) a b args h

  rest-more : rest_fits n f ts a c ≡ true → rest_fits m f ts b d ≡ true
  rest-more h = by ts h
    where
      by : (us : Tms) → rest_fits n f us a c ≡ true → rest_fits m f us b d ≡ true
      by nil h = refl
      by (cons u us) h = cases (is_pair f (cons u us)) h
        where
          cases : (t : Bool) → (if t then c else call_fits n (cons u us) a) ≡ true → (if t then d else call_fits m (cons u us) b) ≡ true
          cases true h = elements h
          cases false h = call-more n m le (cons u us) a b args h

  -- as the rest of a list it needs no bracket of its own
  rest-from : app_fits n f ts a c ≡ true → rest_fits m f ts b d ≡ true
  rest-from h = by ts h
    where
      by : (us : Tms) → app_fits n f us a c ≡ true → rest_fits m f us b d ≡ true
      by nil h = refl
      by (cons u us) h = cases (is_pair f (cons u us)) h
        where
          cases : (t : Bool) → (if t then nat_lt 0 n && c else call_fits n (cons u us) a) ≡ true → (if t then d else call_fits m (cons u us) b) ≡ true
          cases true h = elements (and_parts (nat_lt 0 n) c h).1
          cases false h = call-more n m le (cons u us) a b args h

less : (n m : ℕ) → n ≤ m → n - 1 ≤ m - 1
less n m le = omega arith

module _ (w : Style) where
  mutual
    pub fits-more : (n m : ℕ) → n ≤ m → (t : Tm) → fits w n t ≡ true → fits w m t ≡ true
    fits-more n m le (var x) h = h
    fits-more n m le (num q) h = h
    fits-more n m le (app f ts) h =
        let p = and_parts (nat_lt f (length w.names)) (app_fits n f ts (all_fit w (n - 1) ts) (pair_fits w (n - 1) ts)) h in
        and_from (nat_lt f (length w.names)) (app_fits m f ts (all_fit w (m - 1) ts) (pair_fits w (m - 1) ts)) p.0
        (app-more n m le f ts (all_fit w (n - 1) ts) (all_fit w (m - 1) ts) (pair_fits w (n - 1) ts) (pair_fits w (m - 1) ts)
        (all-more (n - 1) (m - 1) (less n m le) ts) (pair-more (n - 1) (m - 1) (less n m le) ts) p.1)

    tail-more : (n m : ℕ) → n ≤ m → (t : Tm) → tail_fits w n t ≡ true → tail_fits w m t ≡ true
    tail-more n m le (var x) h = h
    tail-more n m le (num q) h = h
    tail-more n m le (app f ts) h =
        let p = and_parts (nat_lt f (length w.names)) (rest_fits n f ts (all_fit w (n - 1) ts) (pair_fits w n ts)) h in
        and_from (nat_lt f (length w.names)) (rest_fits m f ts (all_fit w (m - 1) ts) (pair_fits w m ts)) p.0
        (rest-more n m le f ts (all_fit w (n - 1) ts) (all_fit w (m - 1) ts) (pair_fits w n ts) (pair_fits w m ts)
        (all-more (n - 1) (m - 1) (less n m le) ts) (pair-more n m le ts) p.1)

    all-more : (n m : ℕ) → n ≤ m → (ts : Tms) → all_fit w n ts ≡ true → all_fit w m ts ≡ true
    all-more n m le nil h = refl
    all-more n m le (cons t ts) h =
        let p = and_parts (fits w n t) (all_fit w n ts) h in
        and_from (fits w m t) (all_fit w m ts) (fits-more n m le t p.0) (all-more n m le ts p.1)

    pair-more : (n m : ℕ) → n ≤ m → (ts : Tms) → pair_fits w n ts ≡ true → pair_fits w m ts ≡ true
    pair-more n m le nil h = refl
    pair-more n m le (cons t ts) h =
        let p = and_parts (fits w n t) (tails_fit w n ts) h in
        and_from (fits w m t) (tails_fit w m ts) (fits-more n m le t p.0) (tails-more n m le ts p.1)

    tails-more : (n m : ℕ) → n ≤ m → (ts : Tms) → tails_fit w n ts ≡ true → tails_fit w m ts ≡ true
    tails-more n m le nil h = refl
    tails-more n m le (cons t ts) h =
        let p = and_parts (tail_fits w n t) (tails_fit w n ts) h in
        and_from (tail_fits w m t) (tails_fit w m ts) (tail-more n m le t p.0) (tails-more n m le ts p.1)

  -- a term fits as the rest of a list, whose bracket is open, where it fits in that bracket
  tail-from : (n : ℕ) (t : Tm) → fits w n t ≡ true → tail_fits w n t ≡ true
  tail-from n (var x) h = h
  tail-from n (num q) h = h
  tail-from n (app f ts) h =
      let p = and_parts (nat_lt f (length w.names)) (app_fits n f ts (all_fit w (n - 1) ts) (pair_fits w (n - 1) ts)) h in
      and_from (nat_lt f (length w.names)) (rest_fits n f ts (all_fit w (n - 1) ts) (pair_fits w n ts)) p.0
      (rest-from n n (omega arith) f ts (all_fit w (n - 1) ts) (all_fit w (n - 1) ts) (pair_fits w (n - 1) ts) (pair_fits w n ts)
      (λ e. e) (pair-more (n - 1) n (omega arith) ts) p.1)

  tails-from : (n : ℕ) (ts : Tms) → all_fit w n ts ≡ true → tails_fit w n ts ≡ true
  tails-from n nil h = refl
  tails-from n (cons t ts) h =
      let p = and_parts (fits w n t) (all_fit w n ts) h in
      and_from (tail_fits w n t) (tails_fit w n ts) (tail-from n t p.0) (tails-from n ts p.1)

  pair-from : (n : ℕ) (ts : Tms) → all_fit w n ts ≡ true → pair_fits w n ts ≡ true
  pair-from n nil h = refl
  pair-from n (cons t ts) h =
      let p = and_parts (fits w n t) (all_fit w n ts) h in
      and_from (fits w n t) (tails_fit w n ts) p.0 (tails-from n ts p.1)

  -- ---- several terms

  all_fit-push : (room : ℕ) (ts : List Tm) (t : Tm) → all_fit w room (listed ts) ≡ true → fits w room t ≡ true → all_fit w room (listed (ts ++ t ∷ [])) ≡ true
  all_fit-push room [] t h k = and_from (fits w room t) true k refl
  all_fit-push room (u ∷ ts) t h k =
      let p = and_parts (fits w room u) (all_fit w room (listed ts)) h in
      and_from (fits w room u) (all_fit w room (listed (ts ++ t ∷ []))) p.0 (all_fit-push room ts t p.1 k)

  count-push : (n m j : ℕ) (ts : List Tm) (t : Tm) → count_all w n (listed ts) ≡ Some m → count w m t ≡ Some j → count_all w n (listed (ts ++ t ∷ [])) ≡ Some j
  count-push n m j [] t h k = let same : n ≡ m = cc in rw (same, k) refl
  count-push n m j (u ∷ ts) t h k = by (count w n u) h (λ i e. count-push i m j ts t e k)
    where
      by : (o : Option ℕ) → (o >>= (λ i. count_all w i (listed ts))) ≡ Some m → ((i : ℕ) → count_all w i (listed ts) ≡ Some m → count_all w i (listed (ts ++ t ∷ [])) ≡ Some j)
          → (o >>= (λ i. count_all w i (listed (ts ++ t ∷ [])))) ≡ Some j
      by None e rest = cc
      by (Some i) e rest = rest i e

  -- ---- lists

  list-tail : (room : ℕ) (ts : List Tm) (tail : Tm) → nat_lt 1 (length w.names) ≡ true → all_fit w room (listed ts) ≡ true → tail_fits w room tail ≡ true
      → tail_fits w room (list_of ts tail) ≡ true
  list-tail room [] tail pair h k = k
  list-tail room (t ∷ ts) tail pair h k =
      let p = and_parts (fits w room t) (all_fit w room (listed ts)) h in
      let rest = tail_fits w room (list_of ts tail) in
      and_from (nat_lt 1 (length w.names)) (fits w room t && (rest && true)) pair
      (and_from (fits w room t) (rest && true) p.0 (and_from rest true (list-tail room ts tail pair p.1 k) refl))

  list-fits : (room : ℕ) (ts : List Tm) (tail : Tm) → nat_lt 0 room ≡ true → nat_lt 1 (length w.names) ≡ true → all_fit w (room - 1) (listed ts) ≡ true → fits w (room - 1) tail ≡ true
      → fits w room (list_of ts tail) ≡ true
  list-fits room [] tail some pair h k = fits-more (room - 1) room (omega arith) tail k
  list-fits room (t ∷ ts) tail some pair h k =
      let p = and_parts (fits w (room - 1) t) (all_fit w (room - 1) (listed ts)) h in
      let rest = tail_fits w (room - 1) (list_of ts tail) in
      and_from (nat_lt 1 (length w.names)) (nat_lt 0 room && (fits w (room - 1) t && (rest && true))) pair
      (and_from (nat_lt 0 room) (fits w (room - 1) t && (rest && true)) some
      (and_from (fits w (room - 1) t) (rest && true) p.0 (and_from rest true (list-tail (room - 1) ts tail pair p.1 (tail-from (room - 1) tail k)) refl)))

  list-counted : (n m j : ℕ) (ts : List Tm) (tail : Tm) → count_all w n (listed ts) ≡ Some m → count w m tail ≡ Some j → count w n (list_of ts tail) ≡ Some j
  list-counted n m j [] tail h k = let same : n ≡ m = cc in rw same k
  list-counted n m j (t ∷ ts) tail h k = by (count w n t) h (λ i e. list-counted i m j ts tail e k)
    where
      by : (o : Option ℕ) → (o >>= (λ i. count_all w i (listed ts))) ≡ Some m → ((i : ℕ) → count_all w i (listed ts) ≡ Some m → count w i (list_of ts tail) ≡ Some j)
          → (o >>= (λ i. count w i (list_of ts tail) >>= (λ i. Some i))) ≡ Some j
      by None e rest = cc
      by (Some i) e rest = rw (rest i e) refl

-- ---- what is read

-- the term fits in every style for what is then known, and its variables are numbered behind the n that the clause had
pub record IsTerm (room n : ℕ) (t : Tm) (k : Style) : Type 0 where
  pub fit : (w : Style) → Covers w k → fits w room t ≡ true
  pub counted : (w : Style) → Covers w k → count w n t ≡ Some (length k.variables)

-- the same of several terms; of arguments there are not too many
pub record AreTerms (are_arguments : Bool) (room n : ℕ) (ts : List Tm) (k : Style) : Type 0 where
  pub fit : (w : Style) → Covers w k → all_fit w room (listed ts) ≡ true
  pub counted : (w : Style) → Covers w k → count_all w n (listed ts) ≡ Some (length k.variables)
  pub few : are_arguments ≡ true → length ts ≤ ARITY_LIMIT

-- arguments with their brackets
abbrev pub called_fits : Style → ℕ → Tms → Bool
called_fits w room nil = true
called_fits w room (cons t ts) = call_fits room (cons t ts) (all_fit w (room - 1) (cons t ts))

pub record AreArguments (room n : ℕ) (ts : List Tm) (k : Style) : Type 0 where
  pub fit : (w : Style) → Covers w k → called_fits w room (listed ts) ≡ true
  pub counted : (w : Style) → Covers w k → count_all w n (listed ts) ≡ Some (length k.variables)

pub called-app : (w : Style) (room f : ℕ) (ts : Tms) → nat_lt f (length w.names) ≡ true → called_fits w room ts ≡ true → fits w room (app f ts) ≡ true
called-app w room f nil h k = and_from (nat_lt f (length w.names)) true h refl
called-app w room f (cons t ts) h k =
    and_from (nat_lt f (length w.names)) (app_fits room f (cons t ts) (all_fit w (room - 1) (cons t ts)) (pair_fits w (room - 1) (cons t ts))) h (by (is_pair f (cons t ts)))
  where
    by : (b : Bool) → (if b then nat_lt 0 room && pair_fits w (room - 1) (cons t ts) else call_fits room (cons t ts) (all_fit w (room - 1) (cons t ts))) ≡ true
    by true =
        let few = nat_le (length (items (cons t ts))) ARITY_LIMIT in
        let p = and_parts (nat_lt 0 room && few) (all_fit w (room - 1) (cons t ts)) k in
        let q = and_parts (nat_lt 0 room) few p.0 in
        and_from (nat_lt 0 room) (pair_fits w (room - 1) (cons t ts)) q.0 (pair-from w (room - 1) (cons t ts) p.1)
    by false = k

-- the names of lists stand in the table
lists-there : (s : State) (w : Style) → IsReader s → Covers w (known s) → nat_lt 1 (length w.names) ≡ true
lists-there s w r c = lt-ltb 1 (length w.names) (slice_get_within w.names 1 _ (c.names 1 _ r.style.table.lists.pair))

empty-list : (s : State) (room : ℕ) → IsReader s → IsTerm room (length s.variables) (app 0 nil) (known s)
empty-list s room r = record {
  fit = λ w c. and_from (nat_lt 0 (length w.names)) true (lt-ltb 0 (length w.names) (slice_get_within w.names 0 _ (c.names 0 _ r.style.table.lists.nil))) refl;
  counted = λ w c. refl;
}

-- what is read in a bracket, where one may be opened: a term with a bracket less
abbrev pub Inner : ℕ → Option (Read Tm) → Type 0
Inner room None = Unit {0}
Inner room (Some one) = (nat_lt 0 room ≡ true) × ((s : State) → IsReader s → Post (IsTerm (room - 1) (length s.variables)) s (one s))

module _ (room : ℕ) (one : Read Tm) (h : (s : State) → IsReader s → Post (IsTerm room (length s.variables)) s (one s)) where
  several_holds : (are_arguments : Bool) (s : State) → IsReader s → Post (IsFull (AreTerms are_arguments room (length s.variables))) s (several are_arguments one s)
  several_holds are_arguments s r =
      series_holds All (λ before. one_more are_arguments (length before) one) step (length s.tokens) [] s r
      (λ fine. record { fit = λ w c. refl; counted = λ w c. refl; few = λ e. omega arith })
    where
      All : List Tm → Style → Type 0
      All = AreTerms are_arguments room (length s.variables)

      fewer : (n : ℕ) (a : Bool) → (a && nat_le ARITY_LIMIT n) ≡ false → a ≡ true → n < ARITY_LIMIT
      fewer n true e q = grind (arith, nat_tests, e)
      fewer n false e q = cc

      step : (before : List Tm) (t : State) → IsReader t → (t.fault ≡ None → All before (known t)) → Post (λ x k. All (before ++ x ∷ []) k) t (one_more are_arguments (length before) one t)
      step before t rt all =
          Post_note (λ x k. All (before ++ x ∷ []) k) t rt (are_arguments && nat_le ARITY_LIMIT (length before)) _ _ _
          (λ u f same few. Post_map (IsTerm room (length u.variables)) (λ x k. All (before ++ x ∷ []) k) u _ (h u f.reader)
          (λ x v g fine i.
          let a = all (f.fault (g.fault fine)) in
          let old = λ (w : Style) (c : Covers w (known v)). covers_before w t v (Follows_trans t u v f g) c in
          let number : length u.variables ≡ length t.variables = ap (λ (k : Style). length k.variables) (sym same) in
          record {
            fit = λ w c. all_fit-push w room before x (a.fit w (old w c)) (i.fit w c);
            counted = λ w c. count-push w (length s.variables) (length t.variables) (length v.variables) before x (a.counted w (old w c)) (ap (λ n. count w n x) (sym number) ∙ i.counted w c);
            few = λ e. (let less = fewer (length before) are_arguments (few (g.fault fine)) e in omega (arith, less, length-append before (x ∷ [])));
          }))

  arguments_in_holds : (s : State) → IsReader s → Post (IsFull (AreTerms true room (length s.variables))) s (arguments_in one s)
  arguments_in_holds s r =
      between_holds (IsFull (AreTerms true room (length s.variables))) false sign.Open sign.Close (several true one) s r
      (several_holds true (record (behind s) { is_in_list = false }) (reader_in false (behind s) (reader_behind s r)))

  elements_holds : (up : ℕ) → nat_lt 0 up ≡ true → up - 1 ≡ room → (s : State) → IsReader s → Post (IsTerm up (length s.variables)) s (elements one s)
  elements_holds up some e s r =
      Post_then (IsFull (AreTerms false room (length s.variables))) (IsTerm up (length s.variables)) s _ _ (several_holds false s r)
      (λ ts t f all. Post_taken (IsTerm up (length s.variables)) t f.reader sign.Bar _
      (last ts t (behind t) _ (follows_behind t f.reader) all (h (behind t) (reader_behind t f.reader)))
      (last ts t t _ (Follows_self t f.reader) all (Post_give (IsTerm room (length t.variables)) t (app 0 nil) f.reader (λ fine. empty-list t room f.reader))))
    where
      last : (ts : List Tm) (t u : State) (r : Result (Tm × State) Fault) → Follows t u → (t.fault ≡ None → IsFull (AreTerms false room (length s.variables)) ts (known t)) → Post (IsTerm room (length t.variables)) u r
          → Post (IsTerm up (length s.variables)) u (then_read r (λ tail. give (list_of ts tail)))
      last ts t u r f all p =
          Post_then (IsTerm room (length t.variables)) (IsTerm up (length s.variables)) u r _ p
          (λ tail v g i. Post_give (IsTerm up (length s.variables)) v (list_of ts tail) g.reader
          (λ fine.
          let a = (all (f.fault (g.fault fine))).0 in
          let j = i fine in
          let old = λ (w : Style) (c : Covers w (known v)). covers_before w t v (Follows_trans t u v f g) c in
          record {
            fit = λ w c. list-fits w up ts tail some (lists-there v w g.reader c) (subst (λ r. all_fit w r (listed ts) ≡ true) (sym e) (a.fit w (old w c))) (subst (λ r. fits w r tail ≡ true) (sym e) (j.fit w c));
            counted = λ w c. list-counted w (length s.variables) (length t.variables) (length v.variables) ts tail (a.counted w (old w c)) (j.counted w c);
          }))

  list_in_holds : (up : ℕ) → nat_lt 0 up ≡ true → up - 1 ≡ room → (s : State) → IsReader s → Post (IsTerm up (length s.variables)) s (list_in one s)
  list_in_holds up some e s r =
      let t = record (behind s) { is_in_list = true } in
      between_holds (IsTerm up (length s.variables)) true sign.OpenList sign.CloseList (elements_if one) s r (by t (reader_in true (behind s) (reader_behind s r)) (is_sign sign.CloseList (token_of t.tokens)))
    where
      by : (t : State) → IsReader t → (b : Bool) → Post (IsTerm up (length t.variables)) t (if b then give (app 0 nil) t else elements one t)
      by t rt true = Post_give (IsTerm up (length t.variables)) t (app 0 nil) rt (λ fine. empty-list t up rt)
      by t rt false = elements_holds up some e t rt

pub arguments_holds : (room : ℕ) (inner : Option (Read Tm)) → Inner room inner → (s : State) → IsReader s → Post (AreArguments room (length s.variables)) s (arguments inner s)
arguments_holds room inner h s r = by (is_sign sign.Open (token_of s.tokens)) inner h
  where
    called : (w : Style) (ts : List Tm) → nat_lt 0 room ≡ true → length ts ≤ ARITY_LIMIT → all_fit w (room - 1) (listed ts) ≡ true → called_fits w room (listed ts) ≡ true
    called w [] some few all = refl
    called w (t ∷ ts) some few all =
        let limit = nat_le (length (items (listed (t ∷ ts)))) ARITY_LIMIT in
        and_from (nat_lt 0 room && limit) (all_fit w (room - 1) (listed (t ∷ ts))) (and_from (nat_lt 0 room) limit some (within (t ∷ ts) few)) all
      where
        same : (us : List Tm) → length (items (listed us)) ≡ length us
        same [] = refl
        same (u ∷ us) = ap suc (same us)

        within : (us : List Tm) → length us ≤ ARITY_LIMIT → nat_le (length (items (listed us))) ARITY_LIMIT ≡ true
        within us le = let e = same us in grind (arith, nat_tests, e, le)

    by : (b : Bool) (inner : Option (Read Tm)) → Inner room inner → Post (AreArguments room (length s.variables)) s (if b then inside inner arguments_in s else give [] s)
    by true None h = Post_err (AreArguments room (length s.variables)) s _
    by true (Some one) h =
        Post_map (IsFull (AreTerms true (room - 1) (length s.variables))) (AreArguments room (length s.variables)) s _ (arguments_in_holds (room - 1) one h.1 s r)
        (λ ts t f fine a. record { fit = λ w c. called w ts h.0 (a.0.few refl) (a.0.fit w c); counted = a.0.counted })
    by false inner h = Post_give (AreArguments room (length s.variables)) s [] r (λ fine. record { fit = λ w c. refl; counted = λ w c. refl })

-- a name that was put into the table stands in each style for it
pub name-there : (text : List ℕ) (s t : State) (w : Style) → Follows (behind_name text s) t → Covers w (known t) → slice_get w.names (place_in s.names text) ≡ Some text
name-there text s t w f c = c.names (place_in s.names text) text (f.names (place_in s.names text) text (place-is s.names text))

compound_holds : (room : ℕ) (inner : Option (Read Tm)) → Inner room inner → (text : List ℕ) (s : State) → IsReader s → IsUtf8 text → Post (IsTerm room (length s.variables)) s (compound inner text s)
compound_holds room inner h text s r u =
    let n = length s.variables in
    let t = behind_name text s in
    let f = follows_name text s r u in
    let name = place_in s.names text in
    Post_from (IsTerm room n) s t _ f
    (Post_then (AreArguments room n) (IsTerm room n) t _ _ (arguments_holds room inner h t f.reader)
    (λ ts v g a. Post_give (IsTerm room n) v (app name (listed ts)) g.reader
    (λ fine. record {
      fit = λ w c. called-app w room name (listed ts) (lt-ltb name (length w.names) (slice_get_within w.names name text (name-there text s v w g c))) ((a fine).fit w c);
      counted = (a fine).counted;
    })))

variable_term_holds : (room at : ℕ) (text : List ℕ) (s : State) → IsReader s → is_variable_text text ≡ true → Post (IsTerm room (length s.variables)) s (variable_term at text s)
variable_term_holds room at text s r h =
    let n = length s.variables in
    Post_from (IsTerm room n) s (behind s) _ (follows_behind s r)
    (Post_then (IsVariable n) (IsTerm room n) (behind s) _ _ (variable_at_holds at text (behind s) (reader_behind s r) h)
    (λ x t f v. Post_give (IsTerm room n) t (var x) f.reader
    (λ fine.
    let below = variable-below n x (known t) (v fine) in
    record {
      fit = λ w c. lt-ltb x (length w.variables) (omega (arith, below, c.number));
      counted = λ w c. variable-counted w (known t) n x c (v fine);
    })))

number_term_holds : (room : ℕ) (s : State) → IsReader s → Post (IsTerm room (length s.variables)) s (constant s)
number_term_holds room s r =
    Post_map (IsNumberTerm (known s)) (IsTerm room (length s.variables)) s _ (constant_holds s r)
    (λ t v f fine i.
    let (same, q, is, small) = i in
    let number : length s.variables ≡ length v.variables = ap (λ (k : Style). length k.variables) same in
    record {
      fit = λ w c. ap (fits w room) is ∙ small;
      counted = λ w c. ap (count w (length s.variables)) is ∙ ap Some number;
    })

term_with_holds : (room : ℕ) (inner : Option (Read Tm)) → Inner room inner → (s : State) → IsReader s → Post (IsTerm room (length s.variables)) s (term_with inner s)
term_with_holds room inner h s r = by (place_of s.tokens) (token_of s.tokens) (next_is s r)
  where
    list : (i : Option (Read Tm)) → Inner room i → Post (IsTerm room (length s.variables)) s (inside i list_in s)
    list None h = Post_err (IsTerm room (length s.variables)) s _
    list (Some one) h = list_in_holds (room - 1) one h.1 room h.0 refl s r

    sign_by : (g : Sign) → Post (IsTerm room (length s.variables)) s (term_at_sign inner g s)
    sign_by sign.Minus = number_term_holds room s r
    sign_by sign.OpenList = list inner h
    sign_by g = Post_err (IsTerm room (length s.variables)) s _

    by : (at : ℕ) (o : Option Token) → IsNext o → Post (IsTerm room (length s.variables)) s (term_at inner at o s)
    by at (Some (token.Variable text)) k = variable_term_holds room at text s r k
    by at (Some (token.Number q)) k = number_term_holds room s r
    by at (Some (token.Name text)) k = compound_holds room inner h text s r k
    by at (Some (token.Sign g)) k = sign_by g
    by at o k = Post_err (IsTerm room (length s.variables)) s _

pub term_holds : (room : ℕ) (s : State) → IsReader s → Post (IsTerm room (length s.variables)) s (term room s)
unfolding term
term_holds zero s r = term_with_holds zero None tt s r
term_holds (suc room) s r =
    let e : room ≡ suc room - 1 = omega arith in
    term_with_holds (suc room) (Some (term room))
    (lt-ltb 0 (suc room) (omega arith), subst (λ n. (s : State) → IsReader s → Post (IsTerm n (length s.variables)) s (term room s)) e (term_holds room)) s r

pub below_holds : (room : ℕ) → Inner room (below term room)
below_holds zero = tt
below_holds (suc room) =
    let e : room ≡ suc room - 1 = omega arith in
    (lt-ltb 0 (suc room) (omega arith), subst (λ n. (s : State) → IsReader s → Post (IsTerm n (length s.variables)) s (term room s)) e (term_holds room))
