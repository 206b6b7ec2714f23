-- What a step of the reader does before given tokens, where no fault was noted: it gives something, and notes none.
use Rattle.std.proofs.Common.{◌≡◌, ℕ, Bool, true, false, if◌then◌else◌, List, [], ◌∷◌, drop, Option, None, Some, Result, Ok, refl, ap, subst, ◌∙◌}
use Rattle.scasp_reader_tokens.specs.declared.sign.Sign.{Sign}
use Rattle.scasp_reader_tokens.specs.declared.token.Token.{Token}
use Rattle.scasp_reader_tokens.specs.declared.token.Token.TheVariants as token
use Rattle.scasp_reader_tokens.specs.declared.token.Placed.{Placed}
use Rattle.scasp_reader_terms.specs.declared.fault.Fault.{Fault}
use Rattle.scasp_reader_terms.specs.declared.fault.Kind.{Kind}
use Rattle.scasp_reader_terms.specs.SameSign.{same_sign}
use Rattle.scasp_reader_terms.specs.Steps.{State, Read, then_read, note_if, behind, token_of, is_sign, taken, expect, unexpected, between}
use Rattle.scasp_law_program_text.specs.Grammar.Known.{Known, Make, means, nothing, only, then_make}
use Rattle.scasp_law_program_text.specs.Grammar.Spelling.{bare}
use Rattle.scasp_law_program_text.proofs.GrammarLemmas.Steps.{known, opened}

-- ---- tokens

abbrev pub first : List Token → Option Token
first [] = None
first (k ∷ ts) = Some k

abbrev pub same : {A : Type 0} → A → A
same x = x

-- these tokens are next, and no fault was noted
pub record At (ts : List Token) (s : State) : Type 0 where
  pub tokens : bare s.tokens ≡ ts
  pub fault : s.fault ≡ None

first-bare : (tokens : List Placed) → token_of tokens ≡ first (bare tokens)
first-bare [] = refl
first-bare (t ∷ tokens) = refl

rest-bare : (tokens : List Placed) → bare (drop 1 tokens) ≡ drop 1 (bare tokens)
rest-bare [] = refl
rest-bare (t ∷ tokens) = refl

pub next-is : (ts : List Token) (s : State) → At ts s → token_of s.tokens ≡ first ts
next-is ts s h = first-bare s.tokens ∙ ap first h.tokens

pub At_behind : (k : Token) (ts : List Token) (s : State) → At (k ∷ ts) s → At ts (behind s)
At_behind k ts s h = record { tokens = rest-bare s.tokens ∙ ap (λ ts. drop 1 ts) h.tokens; fault = h.fault }

-- the same tokens, grouped in another way
pub At_so : (ts us : List Token) (s : State) → At ts s → ts ≡ us → At us s
At_so ts us s h e = record { tokens = h.tokens ∙ e; fault = h.fault }

-- ---- what a step gives

-- it gives this, leaves these tokens, and then this is known
pub record Gives {A : Type 0} (x : A) (ts : List Token) (k : Known) (r : Result (A × State) Fault) : Type 0 where
  pub state : State
  pub is : r ≡ Ok (x, state)
  pub there : At ts state
  pub knows : known state ≡ k

pub Gives_by : {A : Type 0} (x : A) (ts : List Token) (k : Known) (r q : Result (A × State) Fault) → r ≡ q → Gives x ts k q → Gives x ts k r
Gives_by x ts k r q e h = record { state = h.state; is = e ∙ h.is; there = h.there; knows = h.knows }

abbrev pair_or : {A : Type 0} → A × Known → Option (A × Known) → A × Known
pair_or d (Some p) = p
pair_or d None = d

pub value-is : {A : Type 0} (x y : A) (k l : Known) → means x k ≡ means y l → x ≡ y
value-is {A = A} x y k l e = ap (λ (p : A × Known). p.0) (ap (pair_or (x, k)) e)

pub so-is : {A B : Type 0} (f : A → Known → B) (x y : A) (k l : Known) → means x k ≡ means y l → f x k ≡ f y l
so-is {A = A} f x y k l e = ap (λ (p : A × Known). f p.0 p.1) (ap (pair_or (x, k)) e)

-- what is meant is given, so as the reader has it
pub Gives_ok : {A B : Type 0} (v : B → A) (x y : B) (ts : List Token) (s : State) (k : Known) → At ts s → means x (known s) ≡ means y k → Gives (v y) ts k (Ok (v x, s))
Gives_ok {A = A} {B = B} v x y ts s k h e =
    subst (λ (p : B × Known). Gives (v p.0) ts p.1 (Ok (v x, s))) (ap (pair_or (x, known s)) e)
    (record { state = s; is = refl; there = h; knows = refl })

-- the same of what was given before
pub Gives_so : {A B : Type 0} (v : B → A) (x y : B) (ts : List Token) (k l : Known) (r : Result (A × State) Fault) → Gives (v x) ts k r → means x k ≡ means y l → Gives (v y) ts l r
Gives_so {A = A} {B = B} v x y ts k l r h e = subst (λ (p : B × Known). Gives (v p.0) ts p.1 r) (ap (pair_or (x, k)) e) h

pub Gives_then : {A B : Type 0} (x : A) (y : B) (us ts : List Token) (l k : Known) (r : Result (A × State) Fault) (g : A → Read B) → Gives x us l r
    → ((t : State) → At us t → known t ≡ l → Gives y ts k (g x t)) → Gives y ts k (then_read r g)
Gives_then x y us ts l k r g h n =
    let m = n h.state h.there h.knows in
    record { state = m.state; is = ap (λ r. then_read r g) h.is ∙ m.is; there = m.there; knows = m.knows }

-- ---- meanings

pub record Made {A B : Type 0} (o : Option (A × Known)) (f : A → Make B) (y : B) (l : Known) : Type 0 where
  pub value : A
  pub between : Known
  pub first : o ≡ Some (value, between)
  pub rest : f value between ≡ Some (y, l)

pub made : {A B : Type 0} (o : Option (A × Known)) (f : A → Make B) (y : B) (l : Known) → then_make o f ≡ Some (y, l) → Made o f y l
made None f y l e = absurd cc
made (Some x) f y l e = record { value = x.0; between = x.1; first = refl; rest = e }

pub only-made : {A B : Type 0} (o : Option A) (f : A → Make B) (k : Known) (y : B) (l : Known) → then_make (only o k) f ≡ Some (y, l) → (x : A) × (o ≡ Some x) × (f x k ≡ Some (y, l))
only-made None f k y l e = absurd cc
only-made (Some x) f k y l e = (x, refl, e)

pub not-nothing : {A : Type 0} (b : Bool) (m : Make A) (k : Known) (y : A) (l : Known) → (if b then nothing else m) k ≡ Some (y, l) → (b ≡ false) × (m k ≡ Some (y, l))
not-nothing true m k y l e = absurd cc
not-nothing false m k y l e = (refl, e)

-- The reader's step gives what the first meaning is, and goes on with what it gave.
pub Gives_bind : {A B C D : Type 0} (v : C → A) (y : B) (z : D) (us ts : List Token) (l : Known) (r : Result (A × State) Fault) (g : A → Read B) (o : Option (C × Known)) (f : C → Make D) → then_make o f ≡ Some (z, l)
    → ((x : C) (k : Known) → o ≡ Some (x, k) → Gives (v x) us k r) → ((x : C) (t : State) → At us t → f x (known t) ≡ Some (z, l) → Gives y ts l (g (v x) t)) → Gives y ts l (then_read r g)
Gives_bind v y z us ts l r g o f e h n =
    let m = made o f z l e in
    Gives_then (v m.value) y us ts m.between l r g (h m.value m.between m.first)
    (λ t at same. n m.value t at (ap (λ k. f m.value k) same ∙ m.rest))

-- ---- steps

module _ {B : Type 0} (y : B) (ts : List Token) (k : Known) (s : State) where
  pub Gives_taken : (g : Sign) (us : List Token) (f : Bool → Read B) → At (token.Sign g ∷ us) s → same_sign g g ≡ true → (At us (behind s) → Gives y ts k (f true (behind s))) → Gives y ts k (then_read (taken g s) f)
  Gives_taken g us f h same n =
      let e : is_sign g (token_of s.tokens) ≡ true = ap (λ o. is_sign g o) (next-is _ s h) ∙ same in
      Gives_by y ts k _ (f true (behind s)) (ap (λ b. then_read (if b then Ok (true, behind s) else Ok (false, s)) f) e) (n (At_behind _ us s h))

  pub Gives_not_taken : (g : Sign) (us : List Token) (f : Bool → Read B) → At us s → is_sign g (first us) ≡ false → Gives y ts k (f false s) → Gives y ts k (then_read (taken g s) f)
  Gives_not_taken g us f h other n =
      let e : is_sign g (token_of s.tokens) ≡ false = ap (λ o. is_sign g o) (next-is us s h) ∙ other in
      Gives_by y ts k _ (f false s) (ap (λ b. then_read (if b then Ok (true, behind s) else Ok (false, s)) f) e) n

  pub Gives_expect : (g : Sign) (us : List Token) (f : Unit {0} → Read B) → At (token.Sign g ∷ us) s → same_sign g g ≡ true → (At us (behind s) → Gives y ts k (f tt (behind s))) → Gives y ts k (then_read (expect g s) f)
  Gives_expect g us f h same n =
      let e : is_sign g (token_of s.tokens) ≡ true = ap (λ o. is_sign g o) (next-is _ s h) ∙ same in
      Gives_by y ts k _ (f tt (behind s)) (ap (λ b. then_read (if b then Ok (tt, behind s) else unexpected s) f) e) (n (At_behind _ us s h))

  -- no fault is noted
  pub Gives_note : (b : Bool) (at : ℕ) (c : Kind) (f : Unit {0} → Read B) → b ≡ false → Gives y ts k (f tt s) → Gives y ts k (then_read (note_if b at c s) f)
  Gives_note b at c f e n = Gives_by y ts k _ (f tt s) (ap (λ b. then_read (note_if b at c s) f) e) n

pub between-gives : {A : Type 0} (x : A) (is_list : Bool) (opening closing : Sign) (inner : Read A) (us rest : List Token) (k : Known) (s : State) → same_sign opening opening ≡ true → same_sign closing closing ≡ true
    → At (token.Sign opening ∷ us) s → (At us (opened is_list s) → Gives x (token.Sign closing ∷ rest) k (inner (opened is_list s))) → Gives x rest k (between is_list opening closing inner s)
between-gives x is_list opening closing inner us rest k s o c h n =
    Gives_expect x rest k s opening us _ h o
    (λ a. Gives_then x x (token.Sign closing ∷ rest) rest k k _ _ (n (record { tokens = a.tokens; fault = a.fault }))
    (λ t b same. Gives_expect x rest k t closing rest _ b c
    (λ d. record { state = opened s.is_in_list t; is = refl; there = record { tokens = d.tokens; fault = d.fault }; knows = same })))
