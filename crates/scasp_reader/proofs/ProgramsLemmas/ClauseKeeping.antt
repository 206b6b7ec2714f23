-- What is read of a text is well formed.
use Rattle.std.proofs.Common.{◌≡◌, ℕ, zero, suc, ◌+◌, Bool, true, false, nat_le, nat_lt, if◌then◌else◌, List, [], ◌∷◌, ◌++◌, length, codes, Option, None, Some, Result, Ok, Err, refl, sym, subst, length-append, arith}
use Rattle.std.specs.List.{list_all}
use Rattle.std.specs.Str.{bytes_eq}
use Rattle.std.proofs.lemmas.Bool.{and_parts, and_from}
use Rattle.scasp_name.specs.Texts.{with_text}
use Rattle.scasp_syntax.specs.WellFormed.{is_item_below, is_head_below, is_clause_well_formed, is_query_well_formed, are_abducible, are_well_formed}
use Rattle.scasp_syntax.specs.declared.atom.Atom.{Atom}
use Rattle.scasp_syntax.specs.declared.clause.Item.{Item}
use Rattle.scasp_reader_tokens.specs.declared.sign.Sign.{Sign}
use Rattle.scasp_reader_tokens.specs.declared.sign.Sign.TheVariants as sign
use Rattle.scasp_reader_tokens.specs.declared.token.Token.{Token}
use Rattle.scasp_reader_tokens.specs.declared.token.Token.TheVariants as token
use Rattle.scasp_reader_tokens.specs.Tokens.{tokens_of}
use Rattle.scasp_reader_terms.specs.declared.fault.Count.TheVariants as count
use Rattle.scasp_reader_terms.specs.declared.fault.Fault.{Fault}
use Rattle.scasp_reader_terms.specs.declared.fault.Kind.TheVariants as kind
use Rattle.scasp_reader_terms.specs.Faults.{fault_at}
use Rattle.scasp_reader_terms.specs.Steps.{State, ◌>>=◌, expect, give, stop_at, behind, place_of, token_of, start}
use Rattle.scasp_reader_terms.specs.Names.{interned}
use Rattle.scasp_reader.specs.declared.texts.clauses.Part.{Part}
use Rattle.scasp_reader.specs.declared.texts.clauses.Part.TheVariants as part
use Rattle.scasp_reader.specs.declared.texts.texts.Parts.{Parts}
use Rattle.scasp_reader.specs.declared.texts.texts.Reading.{Reading}
use Rattle.scasp_reader.specs.declared.texts.texts.TheConstants.{BYTE_LIMIT, CLAUSE_LIMIT}
use Rattle.scasp_reader.specs.Texts.Abducibles.{parameters, abducible_at, abducible}
use Rattle.scasp_reader.specs.Texts.Clauses.{ended, with_body, headed, name_of, named, query, clause_at_sign, clause_at, without_variables, clause}
use Rattle.scasp_reader.specs.Texts.Texts.{part_at, next_part, no_parts, part_count, with_part, is_end, parts_within, parts, read_parts, settled, told, reading_of, read}
use Rattle.scasp_reader.proofs.ProgramsLemmas.AbducibleKeeping.{is_positive, first-abducible}
use Rattle.scasp_reader.proofs.ProgramsLemmas.Keeping.{Post, Post_ok, Post_err, Post_then, Post_next, zero_least, Any, le_self, taken_keeps, expect_keeps, Lasts, AllOf, AllOf-lasts}
use Rattle.scasp_reader.proofs.ProgramsLemmas.TermKeeping.{AreBelow-lasts}
use Rattle.scasp_reader.proofs.ProgramsLemmas.ItemKeeping.{atom_keeps, IsAtom, IsItem, IsItem-lasts, body_keeps}

all_items : (n : ℕ) (items : List Item) → AllOf IsItem n items → list_all (is_item_below n) items ≡ true
all_items n [] h = refl
all_items n (i ∷ items) h = and_from (is_item_below n i) (list_all (is_item_below n) items) h.0 (all_items n items h.1)

-- what stands at a place is well formed; where the number of variables has no part in it
abbrev pub IsPart : ℕ → Part → Type 0
IsPart n (part.Clause c) = is_clause_well_formed c ≡ true
IsPart n (part.Query q) = is_query_well_formed q ≡ true
IsPart n (part.Abducible a) = is_positive a ≡ true
IsPart n part.Directive = Unit {0}
IsPart n part.End = Unit {0}

-- ---- clauses

abbrev IsHead : ℕ → Option Atom → Type 0
IsHead n h = is_head_below n h ≡ true

IsHead-lasts : Lasts IsHead
IsHead-lasts n m le None h = refl
IsHead-lasts n m le (Some a) h = AreBelow-lasts n m le a.args h

ended_keeps : (head : Option Atom) (items : List Item) (s : State) → IsHead (length s.variables) head → AllOf IsItem (length s.variables) items → Post IsPart (length s.variables) (ended head items s)
ended_keeps head items s h k =
    Post_then Any IsPart _ _ _ (expect_keeps s sign.Stop)
    (λ u t le v. Post_ok IsPart _ _ t (le_self _)
    (and_from (is_head_below (length t.variables) head) (list_all (is_item_below (length t.variables)) items)
    (IsHead-lasts _ _ le head h) (all_items _ items (AllOf-lasts IsItem IsItem-lasts _ _ le items k))))

with_body_keeps : (head : Option Atom) (s : State) → IsHead (length s.variables) head → Post IsPart (length s.variables) (with_body head s)
with_body_keeps head s h = Post_then (AllOf IsItem) IsPart _ _ _ (body_keeps s) (λ items t le k. ended_keeps head items t (IsHead-lasts _ _ le head h) k)

headed_keeps : (s : State) → Post IsPart (length s.variables) (headed s)
headed_keeps s =
    Post_then IsAtom IsPart _ _ _ (atom_keeps s)
    (λ a t le h. Post_then Any IsPart _ _ _ (taken_keeps t sign.If)
    (λ b u le2 v. by b a u (IsHead-lasts _ _ le2 (Some a) h)))
  where
    by : (b : Bool) (a : Atom) (u : State) → IsHead (length u.variables) (Some a) → Post IsPart (length u.variables) ((if b then with_body (Some a) else ended (Some a) []) u)
    by true a u h = with_body_keeps (Some a) u h
    by false a u h = ended_keeps (Some a) [] u h tt

-- ---- queries

-- so many
abbrev Counted : {A : Type 0} → ℕ → ℕ → List A → Type 0
Counted k n xs = length xs ≡ k

name_of_keeps : (text : List ℕ) (s : State) → Post Any (length s.variables) (name_of text s)
name_of_keeps text s = by (bytes_eq text (codes "_"))
  where
    by : (b : Bool) → Post Any (length s.variables) ((if b then give None else (interned text >>= (λ n. give (Some n)))) s)
    by true = Post_ok Any _ None s (le_self _) tt
    by false = Post_ok Any _ _ _ (le_self _) tt

named_keeps : (before : List (Option ℕ)) (texts : List (List ℕ)) (s : State) → Post (Counted (length before + length texts)) (length s.variables) (named before texts s)
named_keeps before [] s = Post_ok (Counted (length before + 0)) _ before s (le_self _) (omega arith)
named_keeps before (text ∷ texts) s =
    Post_then Any (Counted (length before + length (text ∷ texts))) _ _ _ (name_of_keeps text s)
    (λ n t le u.
    let k : length (before ++ n ∷ []) ≡ length before + 1 = length-append before (n ∷ []) in
    let e : length (before ++ n ∷ []) + length texts ≡ length before + length (text ∷ texts) = omega arith in
    subst (λ (m : ℕ). Post (Counted m) (length t.variables) (named (before ++ n ∷ []) texts t)) e (named_keeps (before ++ n ∷ []) texts t))

query_keeps : (s : State) → Post IsPart (length s.variables) (query s)
query_keeps s =
    Post_then (AllOf IsItem) IsPart _ _ _ (body_keeps (behind s))
    (λ items t le h. Post_then Any IsPart _ _ _ (expect_keeps t sign.Stop)
    (λ u v le2 w. Post_then (Counted (length {A = Option ℕ} [] + length v.variables)) IsPart _ _ _ (named_keeps [] v.variables v)
    (λ names z le3 f.
    let k : length names ≡ length v.variables = omega (arith, f) in
    Post_ok IsPart _ _ z (le_self _)
    (all_items (length names) items (subst (λ (m : ℕ). AllOf IsItem m items) (sym k) (AllOf-lasts IsItem IsItem-lasts _ _ le2 items h))))))

-- ---- predicates that may be assumed

anything_keeps : {A : Type 0} (r : Result (A × State) Fault) → Post Any 0 r
anything_keeps r = record { more = λ x t e. zero_least _; holds = λ x t e. tt }

abducible_keeps : (s : State) → Post IsPart 0 (abducible s)
abducible_keeps s = by (token_of (behind s).tokens)
  where
    by : (o : Option Token) → Post IsPart 0 (abducible_at o (behind s))
    by (Some (token.Name text)) =
        Post_next Any IsPart _ _ (anything_keeps (parameters (record (behind (behind s)) { names = with_text s.names text })))
        (λ n t u. Post_next Any IsPart _ _ (anything_keeps (expect sign.Stop t)) (λ v w x. Post_ok IsPart _ _ w (zero_least _) refl))
    by o = Post_err IsPart _ _

-- ---- parts

clause_keeps : (s : State) → Post IsPart 0 (clause s)
unfolding clause
clause_keeps s = by (token_of s.tokens)
  where
    sign_by : (g : Sign) → Post IsPart 0 (clause_at_sign g (without_variables s))
    sign_by sign.Minus = headed_keeps (without_variables s)
    sign_by sign.If = with_body_keeps None (behind (without_variables s)) refl
    sign_by sign.Query = query_keeps (without_variables s)
    sign_by g = Post_err IsPart _ _

    by : (o : Option Token) → Post IsPart 0 (clause_at o (without_variables s))
    by (Some (token.Name text)) = headed_keeps (without_variables s)
    by (Some (token.Sign g)) = sign_by g
    by (Some token.Abducible) = abducible_keeps (without_variables s)
    by o = Post_err IsPart _ _

next_part_keeps : (n : ℕ) (s : State) → Post IsPart 0 (next_part n s)
unfolding next_part
next_part_keeps n s = by (place_of s.tokens) (token_of s.tokens)
  where
    limited : (b : Bool) → Post IsPart 0 (if b then stop_at (place_of s.tokens) (kind.Limit count.Clauses) s else clause s)
    limited true = Post_err IsPart _ _
    limited false = clause_keeps s

    by : (at : ℕ) (o : Option Token) → Post IsPart 0 (part_at n at o s)
    by at (Some token.End) = Post_ok IsPart _ part.End s (zero_least _) tt
    by at (Some token.SkippedDirective) = Post_ok IsPart _ part.Directive (behind s) (zero_least _) tt
    by at (Some token.UnclosedDirective) = Post_err IsPart _ _
    by at (Some token.OtherDirective) = Post_err IsPart _ _
    by at (Some token.BadByte) = Post_err IsPart _ _
    by at (Some token.Unclosed) = Post_err IsPart _ _
    by at o = limited (nat_le CLAUSE_LIMIT n)

record AreSound (p : Parts) : Type 0 where
  well_formed : are_well_formed p.clauses p.queries ≡ true
  positive : list_all is_positive p.abducibles ≡ true

abbrev AreParts : ℕ → Parts → Type 0
AreParts n p = AreSound p

list_all-push : {A : Type 0} (f : A → Bool) (xs : List A) (x : A) → list_all f xs ≡ true → f x ≡ true → list_all f (xs ++ x ∷ []) ≡ true
list_all-push f [] x h k = and_from (f x) true k refl
list_all-push f (y ∷ ys) x h k = let p = and_parts (f y) (list_all f ys) h in and_from (f y) (list_all f (ys ++ x ∷ [])) p.0 (list_all-push f ys x p.1 k)

with_part-AreParts : (p : Parts) (q : Part) (n m : ℕ) → AreParts n p → IsPart n q → AreParts m (with_part p q)
with_part-AreParts p (part.Clause c) n m h k =
    let w = and_parts (list_all is_clause_well_formed p.clauses) (list_all is_query_well_formed p.queries) h.well_formed in
    record {
      well_formed = and_from (list_all is_clause_well_formed (p.clauses ++ c ∷ [])) (list_all is_query_well_formed p.queries) (list_all-push is_clause_well_formed p.clauses c w.0 k) w.1;
      positive = h.positive;
    }
with_part-AreParts p (part.Query q) n m h k =
    let w = and_parts (list_all is_clause_well_formed p.clauses) (list_all is_query_well_formed p.queries) h.well_formed in
    record {
      well_formed = and_from (list_all is_clause_well_formed p.clauses) (list_all is_query_well_formed (p.queries ++ q ∷ [])) w.0 (list_all-push is_query_well_formed p.queries q w.1 k);
      positive = h.positive;
    }
with_part-AreParts p (part.Abducible a) n m h k = record { well_formed = h.well_formed; positive = list_all-push is_positive p.abducibles a h.positive k }
with_part-AreParts p part.Directive n m h k = h
with_part-AreParts p part.End n m h k = h

parts_within_keeps : (n : ℕ) (p : Parts) (s : State) → AreParts 0 p → Post AreParts 0 (parts_within n p s)
parts_within_keeps zero p s h = Post_err AreParts _ _
parts_within_keeps (suc n) p s h =
    Post_next IsPart AreParts _ _ (next_part_keeps (part_count p) s)
    (λ q t k. by (is_end q) q t (parts_within_keeps n (with_part p q) t (with_part-AreParts p q (length t.variables) 0 h k)))
  where
    by : (b : Bool) (q : Part) (t : State) → Post AreParts 0 (parts_within n (with_part p q) t) → Post AreParts 0 ((if b then give p else parts_within n (with_part p q)) t)
    by true q t r = Post_ok AreParts _ p t (zero_least _) h
    by false q t r = r

parts_keeps : (s : State) → Post AreParts 0 (parts s)
unfolding parts
parts_keeps s = parts_within_keeps (length s.tokens) no_parts s (record { well_formed = refl; positive = refl })

record IsKept (r : Reading) : Type 0 where
  well_formed : are_well_formed r.clauses r.queries ≡ true
  abducible : are_abducible r.abducibles ≡ true

read-kept : (names : List (List ℕ)) (bytes : List ℕ) (r : Reading) → read names bytes ≡ Ok r → IsKept r
unfolding read
read-kept names bytes r e = by (nat_lt BYTE_LIMIT (length bytes)) e
  where
    last : (p : Parts) (t : State) (o : Option Fault) → AreParts 0 p → settled p t o ≡ Ok r → IsKept r
    last p t None h e =
        let q : read_parts p t.names ≡ r = cc in
        let kept : IsKept (read_parts p t.names) = record { well_formed = h.well_formed; abducible = first-abducible p.abducibles h.positive } in
        subst IsKept q kept
    last p t (Some f) h e = cc

    step : (x : Result (Parts × State) Fault) → Post AreParts 0 x → told x ≡ Ok r → IsKept r
    step (Err f) h e = cc
    step (Ok x) h e = last x.0 x.1 x.1.fault (h.holds x.0 x.1 refl) e

    by : (b : Bool) → (if b then Err (fault_at BYTE_LIMIT (kind.Limit count.Bytes)) else reading_of (tokens_of bytes) names) ≡ Ok r → IsKept r
    by true e = cc
    by false e = step (parts (start (tokens_of bytes) names)) (parts_keeps (start (tokens_of bytes) names)) e

pub read-well_formed : (names : List (List ℕ)) (bytes : List ℕ) (r : Reading) → read names bytes ≡ Ok r → are_well_formed r.clauses r.queries ≡ true
read-well_formed names bytes r e = (read-kept names bytes r e).well_formed

pub read-abducible : (names : List (List ℕ)) (bytes : List ℕ) (r : Reading) → read names bytes ≡ Ok r → are_abducible r.abducibles ≡ true
read-abducible names bytes r e = (read-kept names bytes r e).abducible
