-- Names and variables of a reader: a name stands at its place in the table, a variable has its number.
use Rattle.std.proofs.Common.{◌≡◌, ℕ, suc, ◌+◌, ◌-◌, ◌<◌, ◌⊎◌, inl, inr, Bool, true, false, not, ◌&&◌, ◌||◌, ◌==◌, nat_lt, if◌then◌else◌, List, [], ◌∷◌, ◌++◌, length, slice_get, Option, None, Some, Ok, refl, sym, ap, subst, ◌∙◌, length-append, add-one, arith, true≢false}
use Rattle.std.specs.Prelude.{nat_le}
use Rattle.std.specs.List.{position_from}
use Rattle.std.specs.Str.{IsUtf8, bytes_eq}
use Rattle.std.proofs.lemmas.Bool.{and_parts, and_from}
use Rattle.std.proofs.lemmas.Bool.Decides.{nat_tests}
use Rattle.std.proofs.lemmas.List.Folds.{list_any-append}
use Rattle.std.proofs.lemmas.Option.{slice_get_within, slice_get-get_or}
use Rattle.std.proofs.Math.ListN.{get_or-append}
use Rattle.std.proofs.Math.Seq.{get_or-append_seam}
use Rattle.std.proofs.lemmas.Slice.Eq.{bytes_eq-Decides}
use Rattle.scasp_list.specs.Each.{Each}
use Rattle.scasp_list.proofs.EachLemmas.{Each-append}
use Rattle.scasp_name.specs.Texts.{has_text, with_text, AreDistinct}
use Rattle.scasp_name.proofs.TextLemmas.{slice_get-with_text, BeginWithLists-with_text}
use Rattle.scasp_reader_terms.specs.declared.reader.TheConstants.{VARIABLE_LIMIT, NUMBER_LIMIT}
use Rattle.scasp_reader_terms.specs.Names.{place_in, known_variable, with_variable, new_variable, variable_at}
use Rattle.scasp_reader_terms.proofs.VariableLemmas.{few-not-many}
use Rattle.scasp_reader_terms.specs.Steps.{State, behind}
use Rattle.scasp_print_program.specs.Terms.{Style, variable_text}
use Rattle.scasp_law_program_text.specs.Readback.Endings.{is_variable_text}
use Rattle.scasp_law_program_text.specs.CompoundReadback.Styles.{is_anonymous, are_variables, IsTable}
use Rattle.scasp_law_program_text.specs.CompoundReadback.Counting.{count_variable}
use Rattle.scasp_law_program_text.specs.TermFitting.Readers.{IsReader, known, Keeps, Covers}
use Rattle.scasp_law_program_text.proofs.TermFittingLemmas.Steps.{Follows, Follows_trans, reader_behind, follows_behind, Post, Post_ok, Post_give, Post_note}

pub bytes_eq-same : (x y : List ℕ) → bytes_eq x y ≡ true → x ≡ y
bytes_eq-same x y e = (bytes_eq-Decides x y).0 e

bytes_eq-self : (x : List ℕ) → bytes_eq x x ≡ true
bytes_eq-self x = (bytes_eq-Decides x x).1 refl

-- texts that differ, the other way round
bytes_eq-turned : (x y : List ℕ) → bytes_eq x y ≡ false → bytes_eq y x ≡ false
bytes_eq-turned x y e = by (bytes_eq y x) refl
  where
    by : (b : Bool) → bytes_eq y x ≡ b → bytes_eq y x ≡ false
    by false q = q
    by true q = absurd (true≢false (sym (bytes_eq-self x) ∙ ap (bytes_eq x) (sym (bytes_eq-same y x q)) ∙ e))

or-none : (b c : Bool) → (b || c) ≡ false → (b ≡ false) × (c ≡ false)
or-none false c e = (refl, e)
or-none true c e = cc

-- ---- lists of texts, with one more

push-last : (xs : List (List ℕ)) (x : List ℕ) → slice_get (xs ++ x ∷ []) (length xs) ≡ Some x
push-last xs x =
    slice_get-get_or (xs ++ x ∷ []) (length xs) x (omega (arith, length-append xs (x ∷ []))) ∙ ap Some (get_or-append_seam xs x [] x)

push-keeps : (xs : List (List ℕ)) (x : List ℕ) → Keeps xs (xs ++ x ∷ [])
push-keeps xs x i text e =
    let below : i < length xs = slice_get_within xs i text e in
    slice_get-get_or (xs ++ x ∷ []) i x (omega (arith, below, length-append xs (x ∷ []))) ∙ ap Some (get_or-append xs (x ∷ []) x i below) ∙ sym (slice_get-get_or xs i x below) ∙ e

has_text-push : (xs : List (List ℕ)) (x text : List ℕ) → has_text xs text ≡ false → bytes_eq text x ≡ false → has_text (xs ++ x ∷ []) text ≡ false
has_text-push xs x text h e = list_any-append (bytes_eq text) xs (x ∷ []) ∙ rw (h, e) refl

-- ---- names

distinct-push : (names : List (List ℕ)) (text : List ℕ) → AreDistinct names → has_text names text ≡ false → AreDistinct (names ++ text ∷ [])
distinct-push [] text d h = (refl, tt)
distinct-push (t ∷ names) text d h =
    let p = or-none (bytes_eq text t) (has_text names text) h in
    (has_text-push names text t d.0 (bytes_eq-turned text t p.0), distinct-push names text d.1 p.1)

table-with : (names : List (List ℕ)) (text : List ℕ) → IsTable names → IsUtf8 text → IsTable (with_text names text)
table-with names text t u = record { utf8 = (by (has_text names text) refl).0; distinct = (by (has_text names text) refl).1; lists = BeginWithLists-with_text names text t.lists }
  where
    by : (b : Bool) → has_text names text ≡ b → Each IsUtf8 (if b then names else names ++ text ∷ []) × AreDistinct (if b then names else names ++ text ∷ [])
    by true e = (t.utf8, t.distinct)
    by false e = (Each-append IsUtf8 names (text ∷ []) t.utf8 (u, tt), distinct-push names text t.distinct e)

place-old : (names : List (List ℕ)) (text : List ℕ) → has_text names text ≡ true → slice_get names (place_in names text) ≡ Some text
place-old [] text e = cc
place-old (t ∷ names) text e = by (bytes_eq text t) refl e (place-old names text)
  where
    by : (b : Bool) → bytes_eq text t ≡ b → (b || has_text names text) ≡ true → (has_text names text ≡ true → slice_get names (place_in names text) ≡ Some text)
        → slice_get (t ∷ names) (if b then 0 else place_in names text + 1) ≡ Some text
    by true q g h = ap Some (sym (bytes_eq-same text t q))
    by false q g h = rw (add-one (place_in names text)) (h g)

place-new : (names : List (List ℕ)) (text : List ℕ) → has_text names text ≡ false → place_in names text ≡ length names
place-new [] text e = refl
place-new (t ∷ names) text e =
    let p = or-none (bytes_eq text t) (has_text names text) e in
    let h = place-new names text p.1 in
    rw p.0 (omega (arith, h))

-- a name that was put into the table stands at its place
pub place-is : (names : List (List ℕ)) (text : List ℕ) → slice_get (with_text names text) (place_in names text) ≡ Some text
place-is names text = by (has_text names text) refl
  where
    by : (b : Bool) → has_text names text ≡ b → slice_get (if b then names else names ++ text ∷ []) (place_in names text) ≡ Some text
    by true e = place-old names text e
    by false e = rw (place-new names text e) (push-last names text)

-- the reader with this text in its table
abbrev pub with_name : List ℕ → State → State
with_name text s = record s { names = with_text s.names text }

pub follows_interned : (text : List ℕ) (s : State) → IsReader s → IsUtf8 text → Follows s (with_name text s)
follows_interned text s r u = record {
  reader = record { tokens = r.tokens; style = record { table = table-with s.names text r.style.table u; variables = r.style.variables }; limit = r.limit };
  fault = λ fine. fine;
  names = λ i t e. slice_get-with_text s.names text i (slice_get_within s.names i t e) ∙ e;
  variables = λ i t e. e;
}

-- the reader behind a name of this text, which is next
abbrev pub behind_name : List ℕ → State → State
behind_name text s = with_name text (behind s)

pub follows_name : (text : List ℕ) (s : State) → IsReader s → IsUtf8 text → Follows s (behind_name text s)
follows_name text s r u = Follows_trans s (behind s) (behind_name text s) (follows_behind s r) (follows_interned text (behind s) (reader_behind s r) u)

-- ---- variables

-- a variable that is not `_`
abbrev pub IsNamed : Style → ℕ → Type 0
IsNamed k x = (text : List ℕ) × (slice_get k.variables x ≡ Some text) × (is_anonymous text ≡ false)

-- x is one of the n variables that the clause had, which has a name, or it is the next one
abbrev pub IsVariable : ℕ → ℕ → Style → Type 0
IsVariable n x k = ((x < n) × IsNamed k x × (length k.variables ≡ n)) ⊎ ((x ≡ n) × (n < VARIABLE_LIMIT) × (length k.variables ≡ n + 1))

pub variable-below : (n x : ℕ) (k : Style) → IsVariable n x k → x < length k.variables
variable-below n x k (inl (below, named, same)) = omega (arith, below, same)
variable-below n x k (inr (next, few, more)) = omega (arith, next, more)

pub named-covered : (w k : Style) (x : ℕ) → Covers w k → IsNamed k x → is_anonymous (variable_text w x) ≡ false
named-covered w k x c (text, at, named) = c.named x text at named

pub count-known : (w : Style) (n x : ℕ) → x < n → is_anonymous (variable_text w x) ≡ false → count_variable w n x ≡ Some n
count-known w n x below a = let h : nat_lt x n ≡ true = grind (arith, nat_tests, below) in rw (h, a) refl

pub count-next : (w : Style) (n : ℕ) → n < VARIABLE_LIMIT → count_variable w n n ≡ Some (n + 1)
count-next w n h =
    let self : nat_lt n n ≡ false = grind (arith, nat_tests) in
    let same : (n == n) ≡ true = grind (arith, nat_tests) in
    let few : nat_lt n VARIABLE_LIMIT ≡ true = grind (arith, nat_tests, h) in
    rw self (rw (same, few) refl)

pub variable-counted : (w k : Style) (n x : ℕ) → Covers w k → IsVariable n x k → count_variable w n x ≡ Some (length k.variables)
variable-counted w k n x c (inl (below, named, same)) = count-known w n x below (named-covered w k x c named) ∙ ap Some (sym same)
variable-counted w k n x c (inr (next, few, more)) = ap (count_variable w n) next ∙ count-next w n few ∙ ap Some (sym more)

position-found : (text : List ℕ) (i : ℕ) (xs : List (List ℕ)) (x : ℕ) → position_from (bytes_eq text) i xs ≡ Some x → (j : ℕ) × (x ≡ i + j) × (slice_get xs j ≡ Some text)
position-found text i [] x e = cc
position-found text i (t ∷ xs) x e = by (bytes_eq text t) refl e (position-found text (i + 1) xs x)
  where
    by : (b : Bool) → bytes_eq text t ≡ b → (if b then Some i else position_from (bytes_eq text) (i + 1) xs) ≡ Some x
        → (position_from (bytes_eq text) (i + 1) xs ≡ Some x → (j : ℕ) × (x ≡ i + 1 + j) × (slice_get xs j ≡ Some text)) → (j : ℕ) × (x ≡ i + j) × (slice_get (t ∷ xs) j ≡ Some text)
    by true q e h = let here : i ≡ x = cc in (0, omega (arith, here), ap Some (sym (bytes_eq-same text t q)))
    by false q e h = let r = h e in (suc r.0, omega (arith, r.1), r.2)

position-none : (text : List ℕ) (i : ℕ) (xs : List (List ℕ)) → position_from (bytes_eq text) i xs ≡ None → has_text xs text ≡ false
position-none text i [] e = refl
position-none text i (t ∷ xs) e = by (bytes_eq text t) e (position-none text (i + 1) xs)
  where
    by : (b : Bool) → (if b then Some i else position_from (bytes_eq text) (i + 1) xs) ≡ None → (position_from (bytes_eq text) (i + 1) xs ≡ None → has_text xs text ≡ false)
        → (b || has_text xs text) ≡ false
    by true e h = cc
    by false e h = h e

-- the text is `_`, or none of these
abbrev IsNew : List (List ℕ) → List ℕ → Type 0
IsNew xs text = (is_anonymous text || not (has_text xs text)) ≡ true

known-named : (text : List ℕ) (xs : List (List ℕ)) (x : ℕ) → known_variable text xs ≡ Some x → (slice_get xs x ≡ Some text) × (is_anonymous text ≡ false)
known-named text xs x e = by (is_anonymous text) refl e
  where
    by : (b : Bool) → is_anonymous text ≡ b → (if b then None else position_from (bytes_eq text) 0 xs) ≡ Some x → (slice_get xs x ≡ Some text) × (is_anonymous text ≡ false)
    by true q e = cc
    by false q e =
        let r = position-found text 0 xs x e in
        let same : r.0 ≡ x = omega (arith, r.1) in
        (subst (λ j. slice_get xs j ≡ Some text) same r.2, q)

unknown-new : (text : List ℕ) (xs : List (List ℕ)) → known_variable text xs ≡ None → IsNew xs text
unknown-new text xs e = by (is_anonymous text) e
  where
    by : (b : Bool) → (if b then None else position_from (bytes_eq text) 0 xs) ≡ None → (b || not (has_text xs text)) ≡ true
    by true e = refl
    by false e = ap not (position-none text 0 xs e)

variables-push : (xs : List (List ℕ)) (text : List ℕ) → are_variables xs ≡ true → is_variable_text text ≡ true → IsNew xs text → are_variables (xs ++ text ∷ []) ≡ true
variables-push [] text v h new = and_from (is_variable_text text && (is_anonymous text || true)) true (and_from (is_variable_text text) (is_anonymous text || true) h new) refl
variables-push (t ∷ xs) text v h new =
    let p = and_parts (is_variable_text t && (is_anonymous t || not (has_text xs t))) (are_variables xs) v in
    let q = and_parts (is_variable_text t) (is_anonymous t || not (has_text xs t)) p.0 in
    and_from (is_variable_text t && (is_anonymous t || not (has_text (xs ++ text ∷ []) t))) (are_variables (xs ++ text ∷ []))
    (and_from (is_variable_text t) (is_anonymous t || not (has_text (xs ++ text ∷ []) t)) q.0 (others (is_anonymous t) refl q.1))
    (variables-push xs text p.1 h (later (is_anonymous text) (bytes_eq text t) new))
  where
    later : (a b : Bool) → (a || not (b || has_text xs text)) ≡ true → (a || not (has_text xs text)) ≡ true
    later true b e = refl
    later false true e = cc
    later false false e = e

    none : (c : Bool) → not c ≡ true → c ≡ false
    none true e = cc
    none false e = refl

    -- text is not t, unless it is `_`
    other : is_anonymous t ≡ false → (b : Bool) → bytes_eq t text ≡ b → bytes_eq t text ≡ false
    other a false e = e
    other a true e =
        let same : t ≡ text = bytes_eq-same t text e in
        let equal : bytes_eq text t ≡ true = ap (λ x. bytes_eq x t) (sym same) ∙ bytes_eq-self t in
        let plain : is_anonymous text ≡ false = ap is_anonymous (sym same) ∙ a in
        absurd (true≢false (sym new ∙ ap (λ c. c || not (bytes_eq text t || has_text xs text)) plain ∙ ap (λ c. not (c || has_text xs text)) equal))

    others : (a : Bool) → is_anonymous t ≡ a → (a || not (has_text xs t)) ≡ true → (a || not (has_text (xs ++ text ∷ []) t)) ≡ true
    others true e g = refl
    others false e g = ap not (has_text-push xs text t (none (has_text xs t) g) (other e (bytes_eq t text) refl))

limited : (n : ℕ) → nat_le VARIABLE_LIMIT n ≡ false → n < VARIABLE_LIMIT
limited n e = grind (arith, nat_tests, e)

new_variable_holds : (at : ℕ) (text : List ℕ) (s : State) → IsReader s → is_variable_text text ≡ true → known_variable text s.variables ≡ None
    → Post (IsVariable (length s.variables)) s (new_variable at text s)
new_variable_holds at text s r h e =
    Post_note (IsVariable (length s.variables)) s r (nat_le VARIABLE_LIMIT (length s.variables)) at _ _ (λ t f same few. put t f same few (nat_lt (length s.variables) NUMBER_LIMIT) refl)
  where
    put : (t : State) → Follows s t → known s ≡ known t → (t.fault ≡ None → nat_le VARIABLE_LIMIT (length s.variables) ≡ false) → (b : Bool) → nat_lt (length s.variables) NUMBER_LIMIT ≡ b
        → Post (IsVariable (length s.variables)) t (if b then Ok (length s.variables, with_variable text t) else Ok (NUMBER_LIMIT - 1, t))
    put t f same few true q =
        let have : s.variables ≡ t.variables = ap (λ (k : Style). k.variables) same in
        let more : length (t.variables ++ text ∷ []) ≡ length s.variables + 1 = length-append t.variables (text ∷ []) ∙ ap (λ (xs : List (List ℕ)). length xs + 1) (sym have) in
        let new : IsNew t.variables text = subst (λ xs. IsNew xs text) have (unknown-new text s.variables e) in
        Post_ok (IsVariable (length s.variables)) t (with_variable text t) (length s.variables)
        (record {
          reader = record {
            tokens = f.reader.tokens;
            style = record { table = f.reader.style.table; variables = variables-push t.variables text f.reader.style.variables h new };
            limit = λ fine. (let below = limited (length s.variables) (few fine) in omega (arith, below, more));
          };
          fault = λ fine. fine;
          names = λ i text e. e;
          variables = push-keeps t.variables text;
        })
        (λ fine. inr (refl, limited (length s.variables) (few fine), more))
    put t f same few false many = Post_give (IsVariable (length s.variables)) t (NUMBER_LIMIT - 1) f.reader (λ fine. absurd (few-not-many (length s.variables) (few fine) many))

pub variable_at_holds : (at : ℕ) (text : List ℕ) (s : State) → IsReader s → is_variable_text text ≡ true → Post (IsVariable (length s.variables)) s (variable_at at text s)
variable_at_holds at text s r h = by (known_variable text s.variables) refl
  where
    by : (o : Option ℕ) → known_variable text s.variables ≡ o → Post (IsVariable (length s.variables)) s (elim o [ None ↦ new_variable at text s | Some x ↦ Ok (x, s) ])
    by None e = new_variable_holds at text s r h e
    by (Some x) e =
        let p = known-named text s.variables x e in
        Post_give (IsVariable (length s.variables)) s x r (λ fine. inl (slice_get_within s.variables x text p.0, (text, p.0, p.1), refl))
