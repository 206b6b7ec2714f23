-- What a step of a reader gives, where the variables of a clause only grow.
use Rattle.std.proofs.Common.{◌≡◌, ℕ, zero, suc, ◌+◌, ◌-◌, ◌<◌, ◌≤◌, nat_lt, Bool, true, false, if◌then◌else◌, List, [], ◌∷◌, ◌++◌, length, codes, Option, None, Some, Result, Ok, Err, refl, ap, subst, length-append, arith}
use Rattle.std.specs.List.{position_from}
use Rattle.std.specs.Str.{bytes_eq}
use Rattle.scasp_reader_tokens.specs.declared.sign.Sign.{Sign}
use Rattle.scasp_reader_tokens.specs.declared.sign.Sign.TheVariants as sign
use Rattle.std.proofs.lemmas.Bool.Decides.{nat_tests}
use Rattle.scasp_reader_terms.specs.declared.reader.TheConstants.{NUMBER_LIMIT}
use Rattle.scasp_reader_terms.specs.declared.fault.Fault.{Fault}
use Rattle.scasp_reader_terms.specs.declared.fault.Kind.{Kind}
use Rattle.scasp_reader_terms.specs.Steps.{State, Read, then_read, give, note_if, behind, token_of, is_sign, taken, expect, unexpected, between, series}
use Rattle.scasp_reader_terms.specs.Names.{interned, known_variable, new_variable, with_variable, variable_at}

-- Where something is given, the clause has at least n variables, and this holds of it at their number.
pub record Post {A : Type 0} (Q : ℕ → A → Type 0) (n : ℕ) (r : Result (A × State) Fault) : Type 0 where
  pub more : (x : A) (t : State) → r ≡ Ok (x, t) → n ≤ length t.variables
  pub holds : (x : A) (t : State) → r ≡ Ok (x, t) → Q (length t.variables) x

abbrev pair_or : {A : Type 0} → A × State → Result (A × State) Fault → A × State
pair_or d (Ok p) = p
pair_or d (Err f) = d

pub Post_ok : {A : Type 0} (Q : ℕ → A → Type 0) (n : ℕ) (x : A) (s : State) → n ≤ length s.variables → Q (length s.variables) x → Post Q n (Ok (x, s))
Post_ok {A = A} Q n x s le q =
    record {
      more = λ y t e. subst (λ (p : A × State). n ≤ length p.1.variables) (ap (pair_or (x, s)) e) le;
      holds = λ y t e. subst (λ (p : A × State). Q (length p.1.variables) p.0) (ap (pair_or (x, s)) e) q;
    }

pub Post_err : {A : Type 0} (Q : ℕ → A → Type 0) (n : ℕ) (f : Fault) → Post Q n (Err f)
Post_err Q n f = record { more = λ y t e. cc; holds = λ y t e. cc }

pub Post_more : {A : Type 0} (Q : ℕ → A → Type 0) (n m : ℕ) (r : Result (A × State) Fault) → n ≤ m → Post Q m r → Post Q n r
Post_more Q n m r le h = record { more = λ y t e. (let a = h.more y t e in omega arith); holds = h.holds }

pub Post_then : {A B : Type 0} (P : ℕ → A → Type 0) (Q : ℕ → B → Type 0) (n : ℕ) (r : Result (A × State) Fault) (g : A → Read B)
    → Post P n r → ((x : A) (s : State) → n ≤ length s.variables → P (length s.variables) x → Post Q (length s.variables) (g x s)) → Post Q n (then_read r g)
Post_then P Q n (Ok p) g h k =
    let le : n ≤ length p.1.variables = h.more p.0 p.1 refl in
    Post_more Q n (length p.1.variables) (g p.0 p.1) le (k p.0 p.1 le (h.holds p.0 p.1 refl))
Post_then P Q n (Err e) g h k = Post_err Q n e

-- likewise where nothing is said of the number of variables
pub Post_next : {A B : Type 0} (P : ℕ → A → Type 0) (Q : ℕ → B → Type 0) (r : Result (A × State) Fault) (g : A → Read B)
    → Post P 0 r → ((x : A) (s : State) → P (length s.variables) x → Post Q 0 (g x s)) → Post Q 0 (then_read r g)
Post_next P Q (Ok p) g h k = k p.0 p.1 (h.holds p.0 p.1 refl)
Post_next P Q (Err e) g h k = Post_err Q 0 e

pub zero_least : (n : ℕ) → 0 ≤ n
zero_least n = omega arith

-- nothing is said of what is given
abbrev pub Any : {A : Type 0} → ℕ → A → Type 0
Any n x = Unit {0}

pub le_self : (n : ℕ) → n ≤ n
le_self n = omega arith

module _ (s : State) where
  pub taken_keeps : (g : Sign) → Post Any (length s.variables) (taken g s)
  taken_keeps g = by (is_sign g (token_of s.tokens))
    where
      by : (b : Bool) → Post Any (length s.variables) (if b then Ok (true, behind s) else Ok (false, s))
      by true = Post_ok Any _ true (behind s) (le_self _) tt
      by false = Post_ok Any _ false s (le_self _) tt

  pub expect_keeps : (g : Sign) → Post Any (length s.variables) (expect g s)
  expect_keeps g = by (is_sign g (token_of s.tokens))
    where
      by : (b : Bool) → Post {A = Unit {0}} Any (length s.variables) (if b then Ok (tt, behind s) else unexpected s)
      by true = Post_ok Any _ tt (behind s) (le_self _) tt
      by false = Post_err Any _ _

  pub note_if_keeps : (b : Bool) (at : ℕ) (k : Kind) → Post Any (length s.variables) (note_if b at k s)
  note_if_keeps true at k = Post_ok Any _ tt _ (le_self _) tt
  note_if_keeps false at k = Post_ok Any _ tt s (le_self _) tt

  pub interned_keeps : (text : List ℕ) → Post Any (length s.variables) (interned text s)
  interned_keeps text = Post_ok Any _ _ _ (le_self _) tt

-- ---- variables

position_from-below : (t : List ℕ → Bool) (i : ℕ) (xs : List (List ℕ)) (x : ℕ) → position_from t i xs ≡ Some x → x < i + length xs
position_from-below t i [] x e = cc
position_from-below t i (y ∷ ys) x e = by (t y) e (position_from-below t (i + 1) ys x)
  where
    by : (b : Bool) → (if b then Some i else position_from t (i + 1) ys) ≡ Some x → (position_from t (i + 1) ys ≡ Some x → x < i + 1 + length ys) → x < i + length (y ∷ ys)
    by true e h = let k : i ≡ x = cc in omega arith
    by false e h = let k = h e in omega arith

known-below : (text : List ℕ) (xs : List (List ℕ)) (x : ℕ) → known_variable text xs ≡ Some x → x < length xs
known-below text xs x e = by (bytes_eq text (codes "_")) e
  where
    by : (b : Bool) → (if b then None else position_from (bytes_eq text) 0 xs) ≡ Some x → x < length xs
    by true e = cc
    by false e = let h = position_from-below (bytes_eq text) 0 xs x e in omega arith

-- a number below
abbrev pub Below : ℕ → ℕ → Type 0
Below n x = x < n

pub variable_at_keeps : (at : ℕ) (text : List ℕ) (s : State) → Post Below (length s.variables) (variable_at at text s)
variable_at_keeps at text s = by (known_variable text s.variables) refl
  where
    by : (o : Option ℕ) → known_variable text s.variables ≡ o → Post Below (length s.variables) (elim o [ None ↦ new_variable at text s | Some x ↦ Ok (x, s) ])
    by (Some x) e = Post_ok Below _ x s (le_self _) (known-below text s.variables x e)
    by None e =
        Post_then Any Below _ _ _ (note_if_keeps s _ at _) (λ u t le v. put t le (nat_lt (length s.variables) NUMBER_LIMIT) refl)
      where
        put : (t : State) → length s.variables ≤ length t.variables → (b : Bool) → nat_lt (length s.variables) NUMBER_LIMIT ≡ b
            → Post Below (length t.variables) (if b then Ok (length s.variables, with_variable text t) else Ok (NUMBER_LIMIT - 1, t))
        put t le true few =
            let k : length (t.variables ++ text ∷ []) ≡ length t.variables + 1 = length-append t.variables (text ∷ []) in
            Post_ok Below _ (length s.variables) (with_variable text t) (omega (arith, k)) (omega (arith, k, le))
        put t le false many =
            let last : NUMBER_LIMIT - 1 < length s.variables = grind (arith, nat_tests, many) in
            Post_ok Below _ (NUMBER_LIMIT - 1) t (le_self _) (omega (arith, last, le))

-- ---- brackets and lists

-- what is said of a thing stays true where there are more variables
abbrev pub Lasts : {A : Type 0} → (ℕ → A → Type 0) → Type 0
Lasts {A = A} Q = (n m : ℕ) → n ≤ m → (x : A) → Q n x → Q m x

pub between_keeps : {A : Type 0} (Q : ℕ → A → Type 0) → Lasts Q → (is_list : Bool) (opening closing : Sign) (inner : Read A)
    → ((s : State) → Post Q (length s.variables) (inner s)) → (s : State) → Post Q (length s.variables) (between is_list opening closing inner s)
between_keeps Q lasts is_list opening closing inner h s =
    Post_then Any Q _ _ _ (expect_keeps s opening)
    (λ o t le u. Post_then Q Q _ _ _ (h (record t { is_in_list = is_list }))
    (λ x v le q. Post_then Any Q _ _ _ (expect_keeps v closing)
    (λ c w le u. Post_ok Q _ x _ (le_self _) (lasts _ _ le x q))))

-- this holds of each of them
abbrev pub AllOf : {A : Type 0} → (ℕ → A → Type 0) → ℕ → List A → Type 0
AllOf Q n [] = Unit {0}
AllOf Q n (x ∷ xs) = Q n x × AllOf Q n xs

pub AllOf-lasts : {A : Type 0} (Q : ℕ → A → Type 0) → Lasts Q → Lasts (AllOf Q)
AllOf-lasts Q lasts n m le [] h = tt
AllOf-lasts Q lasts n m le (x ∷ xs) h = (lasts n m le x h.0, AllOf-lasts Q lasts n m le xs h.1)

pub AllOf-push : {A : Type 0} (Q : ℕ → A → Type 0) (n : ℕ) (xs : List A) (x : A) → AllOf Q n xs → Q n x → AllOf Q n (xs ++ x ∷ [])
AllOf-push Q n [] x h q = (q, tt)
AllOf-push Q n (y ∷ ys) x h q = (h.0, AllOf-push Q n ys x h.1 q)

pub series_keeps : {A : Type 0} (Q : ℕ → A → Type 0) → Lasts Q → (one : List A → Read A) → ((before : List A) (s : State) → Post Q (length s.variables) (one before s))
    → (n : ℕ) (before : List A) (s : State) → AllOf Q (length s.variables) before → Post (AllOf Q) (length s.variables) (series one n before s)
series_keeps Q lasts one h zero before s all = Post_err (AllOf Q) _ _
series_keeps {A = A} Q lasts one h (suc n) before s all =
    Post_then Q (AllOf Q) _ _ _ (h before s)
    (λ x t le q. Post_then Any (AllOf Q) _ _ _ (taken_keeps t sign.Comma)
    (λ comma u le2 v.
    let now : AllOf Q (length u.variables) (before ++ x ∷ []) = AllOf-push Q _ before x (AllOf-lasts Q lasts _ _ (omega arith) before all) (lasts _ _ le2 x q) in
    by comma u (before ++ x ∷ []) now (series_keeps Q lasts one h n (before ++ x ∷ []) u now)))
  where
    by : (b : Bool) (u : State) (xs : List A) → AllOf Q (length u.variables) xs → Post (AllOf Q) (length u.variables) (series one n xs u)
        → Post (AllOf Q) (length u.variables) ((if b then series one n xs else give xs) u)
    by true u xs all p = p
    by false u xs all p = Post_ok (AllOf Q) _ xs u (le_self _) all
