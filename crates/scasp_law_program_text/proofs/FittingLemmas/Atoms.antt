-- An atom that is read is within the limits, and its predicate is none that the language lacks.
use Rattle.std.proofs.Common.{◌≡◌, ℕ, Bool, true, false, not, ◌&&◌, nat_lt, List, [], length, slice_get, Option, None, Some, refl, ap, subst, ◌∙◌}
use Rattle.std.specs.Prelude.{unwrap_or}
use Rattle.std.specs.Str.{IsUtf8}
use Rattle.std.proofs.lemmas.Bool.{and_from, lt-ltb}
use Rattle.std.proofs.lemmas.Option.{slice_get_within}
use Rattle.scasp_syntax.specs.Tm.{Tm, Tms, nil, cons, items, listed}
use Rattle.scasp_syntax.specs.declared.atom.Atom.{Atom}
use Rattle.scasp_reader_tokens.specs.declared.sign.Sign.TheVariants as sign
use Rattle.scasp_reader_tokens.specs.declared.token.Token.{Token}
use Rattle.scasp_reader_tokens.specs.declared.token.Token.TheVariants as token
use Rattle.scasp_cert.specs.Text.Names.{text_at}
use Rattle.scasp_reader_terms.specs.Names.{place_in}
use Rattle.scasp_reader_terms.specs.Steps.{State, behind, place_of, token_of}
use Rattle.scasp_reader_terms.specs.Terms.{term, below}
use Rattle.scasp_reader.specs.declared.bodies.atoms.TheConstants.{DEPTH_LIMIT}
use Rattle.scasp_reader.specs.Bodies.Atoms.{reserved, is_reserved, atom_of, checked_atom, named_atom, atom_behind, atom}
use Rattle.scasp_print_program.specs.Terms.{Style}
use Rattle.scasp_law_program_text.specs.CompoundReadback.Counting.{count_all}
use Rattle.scasp_law_program_text.specs.ClauseReadback.Fitting.{arguments_fit, atom_fits}
use Rattle.scasp_law_program_text.specs.TermFitting.Readers.{known, IsReader, Covers}
use Rattle.scasp_law_program_text.proofs.TermFittingLemmas.Steps.{Follows, reader_behind, Post, Post_give, Post_err, Post_from, Post_then, IsNext, next_is, Post_taken, Post_note}
use Rattle.scasp_law_program_text.proofs.TermFittingLemmas.Names.{behind_name, follows_name}
use Rattle.scasp_law_program_text.proofs.TermFittingLemmas.Terms.{called_fits, AreArguments, arguments_holds, name-there, below_holds}

-- the atom fits in every style for what is then known, and its variables are numbered behind the n that the clause had
pub record IsAtom (n : ℕ) (a : Atom) (k : Style) : Type 0 where
  pub fit : (w : Style) → Covers w k → atom_fits w a ≡ true
  pub counted : (w : Style) → Covers w k → count_all w n a.args ≡ Some (length k.variables)

-- the same of a name of this text with arguments
pub record IsCalled (n : ℕ) (text : List ℕ) (f : ℕ) (ts : Tms) (k : Style) : Type 0 where
  pub name : (w : Style) → Covers w k → slice_get w.names f ≡ Some text
  pub fit : (w : Style) → Covers w k → called_fits w DEPTH_LIMIT ts ≡ true
  pub counted : (w : Style) → Covers w k → count_all w n ts ≡ Some (length k.variables)

arguments-fit : (w : Style) (ts : Tms) → called_fits w DEPTH_LIMIT ts ≡ true → arguments_fit w ts ≡ true
arguments-fit w nil h = refl
arguments-fit w (cons t ts) h = h

called-fits : (n : ℕ) (minus : Bool) (text : List ℕ) (f : ℕ) (ts : Tms) (k : Style) → IsCalled n text f ts k → is_reserved reserved text (length (items ts)) ≡ false
    → IsAtom n (atom_of minus f ts) k
called-fits n minus text f ts k h free =
    record {
      fit = λ w c.
          (let at = h.name w c in
          let lawful = not (is_reserved reserved (text_at w.names f) (length (items ts))) in
          let text_is : text_at w.names f ≡ text = ap (λ o. unwrap_or o []) at in
          and_from (nat_lt f (length w.names) && lawful) (arguments_fit w ts)
          (and_from (nat_lt f (length w.names)) lawful (lt-ltb f (length w.names) (slice_get_within w.names f text at))
          (ap (λ t. not (is_reserved reserved t (length (items ts)))) text_is ∙ ap not free))
          (arguments-fit w ts (h.fit w c)));
      counted = h.counted;
    }

pub checked_atom_holds : (n at : ℕ) (minus : Bool) (text : List ℕ) (f : ℕ) (ts : Tms) (s : State) → IsReader s → (s.fault ≡ None → IsCalled n text f ts (known s))
    → Post (IsAtom n) s (checked_atom at minus text f ts s)
checked_atom_holds n at minus text f ts s r h =
    Post_note (IsAtom n) s r (is_reserved reserved text (length (items ts))) at _ _
    (λ t g same free. Post_give (IsAtom n) t (atom_of minus f ts) g.reader
    (λ fine. called-fits n minus text f ts (known t) (subst (λ k. IsCalled n text f ts k) same (h (g.fault fine))) (free fine)))

-- a name that was next, with its arguments
pub called-is : (text : List ℕ) (s t : State) (ts : List Tm) → Follows (behind_name text s) t → AreArguments DEPTH_LIMIT (length s.variables) ts (known t)
    → IsCalled (length s.variables) text (place_in s.names text) (listed ts) (known t)
called-is text s t ts f a = record { name = λ w c. name-there text s t w f c; fit = a.fit; counted = a.counted }

named_atom_holds : (at : ℕ) (minus : Bool) (text : List ℕ) (s : State) → IsReader s → IsUtf8 text → Post (IsAtom (length s.variables)) s (named_atom at minus text s)
named_atom_holds at minus text s r u =
    let n = length s.variables in
    let t = behind_name text s in
    let f = follows_name text s r u in
    Post_from (IsAtom n) s t _ f
    (Post_then (AreArguments DEPTH_LIMIT n) (IsAtom n) t _ _ (arguments_holds DEPTH_LIMIT (below term DEPTH_LIMIT) (below_holds DEPTH_LIMIT) t f.reader)
    (λ ts v g a. checked_atom_holds n at minus text (place_in s.names text) (listed ts) v g.reader (λ fine. called-is text s v ts g (a fine))))

pub atom_holds : (s : State) → IsReader s → Post (IsAtom (length s.variables)) s (atom s)
atom_holds s r = Post_taken (IsAtom (length s.variables)) s r sign.Minus _ (by true (behind s) (reader_behind s r)) (by false s r)
  where
    token_by : (minus : Bool) (t : State) → IsReader t → (o : Option Token) → IsNext o → Post (IsAtom (length t.variables)) t (atom_behind (place_of s.tokens) minus o t)
    token_by minus t rt (Some (token.Name text)) k = named_atom_holds (place_of s.tokens) minus text t rt k
    token_by minus t rt o k = Post_err (IsAtom (length t.variables)) t _

    by : (minus : Bool) (t : State) → IsReader t → Post (IsAtom (length t.variables)) t (atom_behind (place_of s.tokens) minus (token_of t.tokens) t)
    by minus t rt = token_by minus t rt (token_of t.tokens) (next_is t rt)
