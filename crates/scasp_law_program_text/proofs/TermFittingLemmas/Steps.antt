-- What a step of a reader gives: the reader stays one of a text, what it knows only grows, and a noted fault stays.
use Rattle.std.proofs.Common.{◌≡◌, ℕ, zero, suc, ◌<◌, ◌≤◌, Bool, true, false, if◌then◌else◌, List, [], ◌∷◌, ◌++◌, length, drop, get_or, Option, None, Some, Result, Ok, Err, refl, ap, subst, length-append, arith}
use Rattle.std.proofs.lemmas.Option.{slice_get-get_or, slice_get_within}
use Rattle.scasp_reader_tokens.specs.declared.sign.Sign.{Sign}
use Rattle.scasp_reader_tokens.specs.declared.sign.Sign.TheVariants as sign
use Rattle.scasp_reader_tokens.specs.declared.token.Token.{Token}
use Rattle.scasp_reader_tokens.specs.declared.token.Placed.{Placed}
use Rattle.scasp_reader_terms.specs.declared.fault.Fault.{Fault}
use Rattle.scasp_reader_terms.specs.declared.fault.Kind.{Kind}
use Rattle.scasp_reader_terms.specs.Faults.{fault_at}
use Rattle.scasp_reader_terms.specs.Steps.{State, Read, then_read, noted, note_if, behind, token_of, is_sign, taken, expect, unexpected, between, series}
use Rattle.scasp_print_program.specs.Terms.{Style}
use Rattle.scasp_law_program_text.specs.TermFitting.Readers.{IsToken, AreTokens, known, IsReader, Keeps, Covers}

-- ---- what grows

pub Keeps-length : (xs ys : List (List ℕ)) → Keeps xs ys → length xs ≤ length ys
Keeps-length xs ys h = by (length xs) refl
  where
    by : (n : ℕ) → length xs ≡ n → n ≤ length ys
    by zero e = omega arith
    by (suc n) e =
        let below : n < length xs = omega (arith, e) in
        let there : n < length ys = slice_get_within ys n (get_or xs n []) (h n (get_or xs n []) (slice_get-get_or xs n [] below)) in
        omega (arith, there)

-- the reader t comes behind s
pub record Follows (s t : State) : Type 0 where
  pub reader : IsReader t
  pub fault : t.fault ≡ None → s.fault ≡ None
  pub names : Keeps s.names t.names
  pub variables : Keeps s.variables t.variables

pub Follows_self : (s : State) → IsReader s → Follows s s
Follows_self s r = record { reader = r; fault = λ f. f; names = λ i text e. e; variables = λ i text e. e }

pub Follows_trans : (s t u : State) → Follows s t → Follows t u → Follows s u
Follows_trans s t u h k = record {
  reader = k.reader;
  fault = λ f. h.fault (k.fault f);
  names = λ i text e. k.names i text (h.names i text e);
  variables = λ i text e. k.variables i text (h.variables i text e);
}

pub more_variables : (s t : State) → Follows s t → length s.variables ≤ length t.variables
more_variables s t h = Keeps-length s.variables t.variables h.variables

-- a style for what is known later is one for what is known before
pub covers_before : (w : Style) (s t : State) → Follows s t → Covers w (known t) → Covers w (known s)
covers_before w s t h c =
    let more : length s.variables ≤ length t.variables = more_variables s t h in
    record {
      names = λ i text e. c.names i text (h.names i text e);
      number = omega (arith, more, c.number);
      named = λ x text e. c.named x text (h.variables x text e);
    }

-- ---- what a step gives

-- Where something is given, the reader then comes behind s; and where no fault was noted, this holds of what was given and of what is known then.
pub record Post {A : Type 0} (Q : A → Style → Type 0) (s : State) (r : Result (A × State) Fault) : Type 0 where
  pub follows : (x : A) (t : State) → r ≡ Ok (x, t) → Follows s t
  pub holds : (x : A) (t : State) → r ≡ Ok (x, t) → t.fault ≡ None → Q x (known t)

abbrev pair_or : {A : Type 0} → A × State → Result (A × State) Fault → A × State
pair_or d (Ok p) = p
pair_or d (Err f) = d

pub Post_ok : {A : Type 0} (Q : A → Style → Type 0) (s t : State) (x : A) → Follows s t → (t.fault ≡ None → Q x (known t)) → Post Q s (Ok (x, t))
Post_ok {A = A} Q s t x h q =
    record {
      follows = λ y u e. subst (λ (p : A × State). Follows s p.1) (ap (pair_or (x, t)) e) h;
      holds = λ y u e. subst (λ (p : A × State). p.1.fault ≡ None → Q p.0 (known p.1)) (ap (pair_or (x, t)) e) q;
    }

pub Post_give : {A : Type 0} (Q : A → Style → Type 0) (s : State) (x : A) → IsReader s → (s.fault ≡ None → Q x (known s)) → Post Q s (Ok (x, s))
Post_give Q s x r q = Post_ok Q s s x (Follows_self s r) q

pub Post_err : {A : Type 0} (Q : A → Style → Type 0) (s : State) (f : Fault) → Post Q s (Err f)
Post_err Q s f = record { follows = λ y t e. cc; holds = λ y t e. cc }

pub Post_from : {A : Type 0} (Q : A → Style → Type 0) (s t : State) (r : Result (A × State) Fault) → Follows s t → Post Q t r → Post Q s r
Post_from Q s t r h p = record { follows = λ y u e. Follows_trans s t u h (p.follows y u e); holds = p.holds }

pub Post_map : {A : Type 0} (P Q : A → Style → Type 0) (s : State) (r : Result (A × State) Fault) → Post P s r
    → ((x : A) (t : State) → Follows s t → t.fault ≡ None → P x (known t) → Q x (known t)) → Post Q s r
Post_map P Q s r h f = record { follows = h.follows; holds = λ y t e fine. f y t (h.follows y t e) fine (h.holds y t e fine) }

-- what is known of the step's result besides
pub Post_also : {A : Type 0} (P R : A → Style → Type 0) (s : State) (r : Result (A × State) Fault) → Post P s r → ((x : A) (t : State) → r ≡ Ok (x, t) → R x (known t))
    → Post (λ x k. P x k × R x k) s r
Post_also P R s r h f = record { follows = h.follows; holds = λ y t e fine. (h.holds y t e fine, f y t e) }

pub Post_then : {A B : Type 0} (P : A → Style → Type 0) (Q : B → Style → Type 0) (s : State) (r : Result (A × State) Fault) (g : A → Read B)
    → Post P s r → ((x : A) (t : State) → Follows s t → (t.fault ≡ None → P x (known t)) → Post Q t (g x t)) → Post Q s (then_read r g)
Post_then P Q s (Ok p) g h k = let f = h.follows p.0 p.1 refl in Post_from Q s p.1 (g p.0 p.1) f (k p.0 p.1 f (h.holds p.0 p.1 refl))
Post_then P Q s (Err e) g h k = Post_err Q s e

-- ---- steps

-- what the next token is
abbrev pub IsNext : Option Token → Type 0
IsNext None = Unit {0}
IsNext (Some t) = IsToken t

pub next_is : (s : State) → IsReader s → IsNext (token_of s.tokens)
next_is s r = by s.tokens r.tokens
  where
    by : (ts : List Placed) → AreTokens ts → IsNext (token_of ts)
    by [] h = tt
    by (t ∷ ts) h = h.0

tokens_behind : (ts : List Placed) → AreTokens ts → AreTokens (drop 1 ts)
tokens_behind [] h = tt
tokens_behind (t ∷ ts) h = h.1

pub reader_behind : (s : State) → IsReader s → IsReader (behind s)
reader_behind s r = record { tokens = tokens_behind s.tokens r.tokens; style = r.style; limit = r.limit }

pub follows_behind : (s : State) → IsReader s → Follows s (behind s)
follows_behind s r = record { reader = reader_behind s r; fault = λ f. f; names = λ i text e. e; variables = λ i text e. e }

-- the same in another bracket
pub reader_in : (b : Bool) (s : State) → IsReader s → IsReader (record s { is_in_list = b })
reader_in b s r = record { tokens = r.tokens; style = r.style; limit = r.limit }

pub follows_in : (b : Bool) (s : State) → IsReader s → Follows s (record s { is_in_list = b })
follows_in b s r = record { reader = reader_in b s r; fault = λ f. f; names = λ i text e. e; variables = λ i text e. e }

some_fault : (f : Fault) (o : Option Fault) → o ≡ Some f → o ≡ None → ⊥
some_fault f o e h = cc

module _ {B : Type 0} (Q : B → Style → Type 0) (s : State) (r : IsReader s) where
  pub Post_taken : (t : Sign) (g : Bool → Read B) → Post Q (behind s) (g true (behind s)) → Post Q s (g false s) → Post Q s (then_read (taken t s) g)
  Post_taken t g h k = by (is_sign t (token_of s.tokens))
    where
      by : (b : Bool) → Post Q s (then_read (if b then Ok (true, behind s) else Ok (false, s)) g)
      by true = Post_from Q s (behind s) (g true (behind s)) (follows_behind s r) h
      by false = k

  pub Post_expect : (t : Sign) (g : Unit {0} → Read B) → Post Q (behind s) (g tt (behind s)) → Post Q s (then_read (expect t s) g)
  Post_expect t g h = by (is_sign t (token_of s.tokens))
    where
      by : (b : Bool) → Post Q s (then_read (if b then Ok (tt, behind s) else unexpected s) g)
      by true = Post_from Q s (behind s) (g tt (behind s)) (follows_behind s r) h
      by false = Post_err Q s _

  -- a fault is noted where the test holds; nothing else changes
  pub Post_note : (b : Bool) (at : ℕ) (k : Kind) (g : Unit {0} → Read B) → ((t : State) → Follows s t → known s ≡ known t → (t.fault ≡ None → b ≡ false) → Post Q t (g tt t))
      → Post Q s (then_read (note_if b at k s) g)
  Post_note false at k g h = h s (Follows_self s r) refl (λ fine. refl)
  Post_note true at k g h =
      let t = noted (fault_at at k) s in
      let follows : Follows s t = record {
        reader = record { tokens = r.tokens; style = r.style; limit = λ fine. absurd (some_fault _ t.fault refl fine) };
        fault = λ fine. absurd (some_fault _ t.fault refl fine);
        names = λ i text e. e;
        variables = λ i text e. e;
      } in
      Post_from Q s t (g tt t) follows (h t follows refl (λ fine. absurd (some_fault _ t.fault refl fine)))

-- ---- brackets and lists

pub between_holds : {A : Type 0} (Q : A → Style → Type 0) (is_list : Bool) (opening closing : Sign) (inner : Read A) (s : State) → IsReader s
    → Post Q (record (behind s) { is_in_list = is_list }) (inner (record (behind s) { is_in_list = is_list })) → Post Q s (between is_list opening closing inner s)
between_holds Q is_list opening closing inner s r h =
    Post_expect Q s r opening _
    (Post_from Q (behind s) (record (behind s) { is_in_list = is_list }) _ (follows_in is_list (behind s) (reader_behind s r))
    (Post_then Q Q _ _ _ h
    (λ x t f q. Post_expect Q t f.reader closing _
    (Post_ok Q (behind t) (record (behind t) { is_in_list = s.is_in_list }) x (follows_in s.is_in_list (behind t) (reader_behind t f.reader)) q))))

abbrev pub IsFull : {A : Type 0} → (List A → Style → Type 0) → List A → Style → Type 0
IsFull All xs k = All xs k × (0 < length xs)

-- what holds of the things before and stays true with each one more holds of all, and there is at least one
pub series_holds : {A : Type 0} (All : List A → Style → Type 0) (one : List A → Read A)
    → ((before : List A) (s : State) → IsReader s → (s.fault ≡ None → All before (known s)) → Post (λ x k. All (before ++ x ∷ []) k) s (one before s))
    → (n : ℕ) (before : List A) (s : State) → IsReader s → (s.fault ≡ None → All before (known s)) → Post (IsFull All) s (series one n before s)
series_holds All one h zero before s r all = Post_err (IsFull All) s _
series_holds {A = A} All one h (suc n) before s r all =
    Post_then (λ x k. All (before ++ x ∷ []) k) (IsFull All) s _ _ (h before s r all)
    (λ x t f now. Post_taken (IsFull All) t f.reader sign.Comma _
    (series_holds All one h n (before ++ x ∷ []) (behind t) (reader_behind t f.reader) now)
    (Post_give (IsFull All) t (before ++ x ∷ []) f.reader (λ fine. (now fine, some x))))
  where
    some : (x : A) → 0 < length (before ++ x ∷ [])
    some x = omega (arith, length-append before (x ∷ []))
