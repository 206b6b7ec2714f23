-- What a step of the reader gives, where no fault is noted: it has taken tokens, and what it gives is what they mean.
use Rattle.std.proofs.Common.{◌≡◌, ℕ, Bool, true, false, ◌&&◌, if◌then◌else◌, List, [], ◌∷◌, ◌++◌, drop, Option, None, Some, Result, Ok, Err, refl, sym, ap, subst, ◌∙◌}
use Rattle.scasp_num.specs.SameRow.{same_op}
use Rattle.scasp_num.specs.declared.linear.Op.{Op}
use Rattle.scasp_num.specs.declared.linear.Op.TheVariants as op
use Rattle.scasp_reader_tokens.specs.declared.sign.Sign.{Sign}
use Rattle.scasp_reader_tokens.specs.declared.sign.Sign.TheVariants as sign
use Rattle.scasp_reader_tokens.specs.declared.token.Token.{Token}
use Rattle.scasp_reader_tokens.specs.declared.token.Token.TheVariants as token
use Rattle.scasp_reader_tokens.specs.declared.token.Placed.{Placed}
use Rattle.scasp_reader_terms.specs.declared.fault.Fault.{Fault}
use Rattle.scasp_reader_terms.specs.declared.fault.Kind.{Kind}
use Rattle.scasp_reader_terms.specs.Faults.{fault_at}
use Rattle.scasp_reader_terms.specs.SameSign.{same_flag, same_sign}
use Rattle.scasp_reader_terms.specs.Steps.{State, Read, then_read, noted, note_if, behind, token_of, is_sign, taken, expect, unexpected, between}
use Rattle.scasp_law_program_text.specs.Grammar.Known.{Known, Make, then_make}
use Rattle.scasp_law_program_text.specs.Grammar.Spelling.{bare}

-- what a reader knows
abbrev pub known : State → Known
known s = record { names = s.names; variables = s.variables }

-- ---- meanings

pub then-some : {A B : Type 0} (o : Option (A × Known)) (f : A → Make B) (x : A) (l : Known) (r : Option (B × Known)) → o ≡ Some (x, l) → f x l ≡ r → then_make o f ≡ r
then-some o f x l r h g = ap (λ o. then_make o f) h ∙ g

-- ---- signs and tokens

same-op : (o p : Op) → same_op o p ≡ true → o ≡ p
same-op op.Eq op.Eq h = refl
same-op op.Lt op.Lt h = refl
same-op op.Le op.Le h = refl
same-op op.Ne op.Ne h = refl
same-op o p h = absurd cc

same-flag : (a b : Bool) → same_flag a b ≡ true → a ≡ b
same-flag true true h = refl
same-flag false false h = refl
same-flag a b h = absurd cc

same-relation : (o p : Op) (a b : Bool) (t u : Bool) → same_op o p ≡ t → same_flag a b ≡ u → t && u ≡ true → sign.Relation o a ≡ sign.Relation p b
same-relation o p a b true true h k e = rw (same-op o p h, same-flag a b k) refl
same-relation o p a b t u h k e = absurd cc

same-sign : (a b : Sign) → same_sign a b ≡ true → a ≡ b
same-sign sign.Open sign.Open h = refl
same-sign sign.Close sign.Close h = refl
same-sign sign.OpenList sign.OpenList h = refl
same-sign sign.CloseList sign.CloseList h = refl
same-sign sign.Comma sign.Comma h = refl
same-sign sign.Bar sign.Bar h = refl
same-sign sign.Plus sign.Plus h = refl
same-sign sign.Minus sign.Minus h = refl
same-sign sign.Times sign.Times h = refl
same-sign sign.Over sign.Over h = refl
same-sign sign.If sign.If h = refl
same-sign sign.Query sign.Query h = refl
same-sign sign.Equal sign.Equal h = refl
same-sign sign.Differ sign.Differ h = refl
same-sign sign.Stop sign.Stop h = refl
same-sign (sign.Relation o a) (sign.Relation p b) h = same-relation o p a b (same_op o p) (same_flag a b) refl refl h
same-sign sign.Foreign sign.Foreign h = refl
same-sign a b h = absurd cc

-- the next token, and those behind it
pub next-token : (tokens : List Placed) (k : Token) → token_of tokens ≡ Some k → bare tokens ≡ k ∷ bare (drop 1 tokens)
next-token [] k e = absurd cc
next-token (t ∷ tokens) k e = let same : t.token ≡ k = cc in ap (λ k. k ∷ bare tokens) same

pub next-sign : (g : Sign) (tokens : List Placed) → is_sign g (token_of tokens) ≡ true → bare tokens ≡ token.Sign g ∷ bare (drop 1 tokens)
next-sign g [] h = absurd cc
next-sign g (t ∷ tokens) h = by t.token h
  where
    by : (k : Token) → is_sign g (Some k) ≡ true → k ∷ bare tokens ≡ token.Sign g ∷ bare tokens
    by (token.Sign u) h = ap (λ u. token.Sign u ∷ bare tokens) (sym (same-sign g u h))
    by k h = absurd cc

-- ---- what a step gives

-- Where something is given and no fault was noted, none was before, and this holds of what was given and of the reader then.
pub record Post {A : Type 0} (Q : A → State → Type 0) (s : State) (r : Result (A × State) Fault) : Type 0 where
  pub fault : (x : A) (t : State) → r ≡ Ok (x, t) → t.fault ≡ None → s.fault ≡ None
  pub holds : (x : A) (t : State) → r ≡ Ok (x, t) → t.fault ≡ None → Q x t

abbrev pair_or : {A : Type 0} → A × State → Result (A × State) Fault → A × State
pair_or d (Ok p) = p
pair_or d (Err f) = d

pub Post_ok : {A : Type 0} (Q : A → State → Type 0) (s t : State) (x : A) → (t.fault ≡ None → s.fault ≡ None) → (t.fault ≡ None → Q x t) → Post Q s (Ok (x, t))
Post_ok {A = A} Q s t x h q =
    record {
      fault = λ y u e. subst (λ (p : A × State). p.1.fault ≡ None → s.fault ≡ None) (ap (pair_or (x, t)) e) h;
      holds = λ y u e. subst (λ (p : A × State). p.1.fault ≡ None → Q p.0 p.1) (ap (pair_or (x, t)) e) q;
    }

pub Post_give : {A : Type 0} (Q : A → State → Type 0) (s : State) (x : A) → (s.fault ≡ None → Q x s) → Post Q s (Ok (x, s))
Post_give Q s x q = Post_ok Q s s x (λ f. f) q

pub Post_err : {A : Type 0} (Q : A → State → Type 0) (s : State) (f : Fault) → Post Q s (Err f)
Post_err Q s f = record { fault = λ x t e. absurd cc; holds = λ x t e. absurd cc }

pub Post_from : {A : Type 0} (Q : A → State → Type 0) (s t : State) (r : Result (A × State) Fault) → (t.fault ≡ None → s.fault ≡ None) → Post Q t r → Post Q s r
Post_from Q s t r h p = record { fault = λ x u e f. h (p.fault x u e f); holds = p.holds }

pub Post_map : {A : Type 0} (P Q : A → State → Type 0) (s : State) (r : Result (A × State) Fault) → Post P s r
    → ((x : A) (t : State) → (t.fault ≡ None → s.fault ≡ None) → t.fault ≡ None → P x t → Q x t) → Post Q s r
Post_map P Q s r h g = record { fault = h.fault; holds = λ x t e fine. g x t (h.fault x t e) fine (h.holds x t e fine) }

pub Post_then : {A B : Type 0} (P : A → State → Type 0) (Q : B → State → Type 0) (s : State) (r : Result (A × State) Fault) (g : A → Read B)
    → Post P s r → ((x : A) (t : State) → (t.fault ≡ None → s.fault ≡ None) → (t.fault ≡ None → P x t) → Post Q t (g x t)) → Post Q s (then_read r g)
Post_then P Q s (Ok p) g h k = let f = h.fault p.0 p.1 refl in Post_from Q s p.1 (g p.0 p.1) f (k p.0 p.1 f (h.holds p.0 p.1 refl))
Post_then P Q s (Err e) g h k = Post_err Q s e

-- ---- steps

some_fault : (f : Fault) (o : Option Fault) → o ≡ Some f → o ≡ None → ⊥
some_fault f o e h = cc

module _ {B : Type 0} (Q : B → State → Type 0) (s : State) where
  pub Post_taken : (t : Sign) (g : Bool → Read B) → (bare s.tokens ≡ token.Sign t ∷ bare (drop 1 s.tokens) → Post Q (behind s) (g true (behind s))) → Post Q s (g false s) → Post Q s (then_read (taken t s) g)
  Post_taken t g h k = by (is_sign t (token_of s.tokens)) refl
    where
      by : (b : Bool) → is_sign t (token_of s.tokens) ≡ b → Post Q s (then_read (if b then Ok (true, behind s) else Ok (false, s)) g)
      by true e = Post_from Q s (behind s) (g true (behind s)) (λ f. f) (h (next-sign t s.tokens e))
      by false e = k

  pub Post_expect : (t : Sign) (g : Unit {0} → Read B) → (bare s.tokens ≡ token.Sign t ∷ bare (drop 1 s.tokens) → Post Q (behind s) (g tt (behind s))) → Post Q s (then_read (expect t s) g)
  Post_expect t g h = by (is_sign t (token_of s.tokens)) refl
    where
      by : (b : Bool) → is_sign t (token_of s.tokens) ≡ b → Post Q s (then_read (if b then Ok (tt, behind s) else unexpected s) g)
      by true e = Post_from Q s (behind s) (g tt (behind s)) (λ f. f) (h (next-sign t s.tokens e))
      by false e = Post_err Q s _

  -- a fault is noted where the test holds; else nothing changes
  pub Post_note : (b : Bool) (at : ℕ) (k : Kind) (g : Unit {0} → Read B) → ((t : State) → (t.fault ≡ None → s.fault ≡ None) → (t.fault ≡ None → (s ≡ t) × (b ≡ false)) → Post Q t (g tt t))
      → Post Q s (then_read (note_if b at k s) g)
  Post_note false at k g h = h s (λ f. f) (λ fine. (refl, refl))
  Post_note true at k g h =
      let t = noted (fault_at at k) s in
      Post_from Q s t (g tt t) (λ fine. absurd (some_fault _ t.fault refl fine))
      (h t (λ fine. absurd (some_fault _ t.fault refl fine)) (λ fine. absurd (some_fault _ t.fault refl fine)))

-- ---- brackets

-- a reader in a bracket that opens here
abbrev pub opened : Bool → State → State
opened is_list s = record (behind s) { is_in_list = is_list }

pub between_holds : {A : Type 0} (P Q : A → State → Type 0) (is_list : Bool) (opening closing : Sign) (inner : Read A) (s : State) → Post P (opened is_list s) (inner (opened is_list s))
    → ((x : A) (t : State) → bare s.tokens ≡ token.Sign opening ∷ bare (drop 1 s.tokens) → bare t.tokens ≡ token.Sign closing ∷ bare (drop 1 t.tokens) → P x t → Q x (opened s.is_in_list t))
    → Post Q s (between is_list opening closing inner s)
between_holds P Q is_list opening closing inner s h q =
    Post_expect Q s opening _
    (λ opens. Post_from Q (behind s) (opened is_list s) _ (λ f. f)
    (Post_then P Q _ _ _ h
    (λ x t f p. Post_expect Q t closing _
    (λ close. Post_ok Q (behind t) (opened s.is_in_list t) x (λ f. f) (λ fine. q x t opens close (p fine))))))

-- ---- what is read has the tokens of a tree, and is what that tree means

pub record Spelled {T A : Type 0} (of : T → List Token) (meaning : T → Make A) (s : State) (x : A) (t : State) : Type 0 where
  pub tree : T
  pub tokens : bare s.tokens ≡ of tree ++ bare t.tokens
  pub value : meaning tree (known s) ≡ Some (x, known t)
