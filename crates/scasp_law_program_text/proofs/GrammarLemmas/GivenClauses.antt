-- The tokens of a clause or query that means something are read as this one.
use Rattle.std.proofs.Common.{◌≡◌, ℕ, Bool, true, false, if◌then◌else◌, List, [], ◌∷◌, ◌++◌, length, codes, Option, None, Some, Ok, refl, sym, ap, subst, ◌∙◌, append_assoc, append-nil}
use Rattle.std.specs.Str.{bytes_eq}
use Rattle.scasp_name.specs.Texts.{with_text}
use Rattle.scasp_syntax.specs.declared.atom.Atom.{Atom as MeantAtom}
use Rattle.scasp_syntax.specs.declared.clause.Item.{Item as MeantItem}
use Rattle.scasp_reader_tokens.specs.declared.sign.Sign.TheVariants as sign
use Rattle.scasp_reader_tokens.specs.declared.token.Token.{Token}
use Rattle.scasp_reader_tokens.specs.declared.token.Token.TheVariants as token
use Rattle.scasp_reader_terms.specs.Names.{place_in, interned}
use Rattle.scasp_reader_terms.specs.Steps.{State, ◌>>=◌, give, get, taken, expect, behind}
use Rattle.scasp_reader.specs.Bodies.Atoms.{atom}
use Rattle.scasp_reader.specs.Bodies.Bodies.{body}
use Rattle.scasp_reader.specs.declared.texts.clauses.Part.{Part}
use Rattle.scasp_reader.specs.declared.texts.clauses.Part.TheVariants as part
use Rattle.scasp_reader.specs.Texts.Clauses.{ended, with_body, headed, name_of, named, query, clause_at, without_variables, clause}
use Rattle.scasp_law_program_text.specs.Grammar.Known.{Known, Make, means, then_make}
use Rattle.scasp_law_program_text.specs.Grammar.Trees.{Atom, Body, Clause, a_fact, a_rule, a_denial, a_query, an_abducible, a_directive}
use Rattle.scasp_law_program_text.specs.Grammar.Spelling.{minus_if, arguments_tokens, atom_tokens, body_tokens, parameters_tokens, clause_tokens}
use Rattle.scasp_law_program_text.specs.Grammar.Bodies.{atom_meaning, body_meaning}
use Rattle.scasp_law_program_text.specs.Grammar.Programs.{clause_of, query_of, names_of, clause_meaning}
use Rattle.scasp_law_program_text.specs.Grammar.Programs as meant
use Rattle.scasp_law_program_text.proofs.GrammarLemmas.Steps.{known}
use Rattle.scasp_law_program_text.proofs.GrammarLemmas.Given.{first, same, At, next-is, At_behind, At_so, Gives, Gives_by, Gives_ok, Gives_so, made, Gives_bind, Gives_taken, Gives_not_taken, Gives_expect}
use Rattle.scasp_law_program_text.proofs.GrammarLemmas.GivenItems.{atom-given}
use Rattle.scasp_law_program_text.proofs.GrammarLemmas.GivenBodies.{EndsBody, body-given}
use Rattle.scasp_law_program_text.proofs.GrammarLemmas.GivenAbducibles.{abducible-given}

stop-ends : (rest : List Token) → EndsBody (token.Sign sign.Stop ∷ rest)
stop-ends rest = record {
  ends = record { term = record { not_over = refl; not_open = refl }; expression = record { no_factor = refl; no_product = refl }; no_equation = refl; no_relation = refl };
  not_comma = refl;
}

-- ---- the names of a query's variables

abbrev meant_name : List ℕ → Make (Option ℕ)
meant_name text k = Some (Some (place_in k.names text), record k { names = with_text k.names text })

name-given : (text : List ℕ) (s : State) (rest : List Token) (n : Option ℕ) (k : Known) → At rest s → meant.name_of text (known s) ≡ Some (n, k) → Gives n rest k (name_of text s)
name-given text s rest n k h e = by (bytes_eq text (codes "_")) e
  where
    by : (b : Bool) → (if b then means None else (meant_name text)) (known s) ≡ Some (n, k) → Gives n rest k ((if b then give None else (interned text >>= (λ n. give (Some n)))) s)
    by true e = Gives_ok same None n rest s k h e
    by false e = Gives_ok same (Some (place_in s.names text)) n rest (record s { names = with_text s.names text }) k (record { tokens = h.tokens; fault = h.fault }) e

named-given : (texts : List (List ℕ)) (before : List (Option ℕ)) (s : State) (rest : List Token) (ns : List (Option ℕ)) (l : Known) → At rest s → names_of texts (known s) ≡ Some (ns, l) → Gives (before ++ ns) rest l (named before texts s)
named-given [] before s rest ns l h e = Gives_by (before ++ ns) rest l _ _ (ap (λ b. Ok (b, s)) (sym (append-nil before))) (Gives_ok (λ ys. before ++ ys) [] ns rest s l h e)
named-given (text ∷ texts) before s rest ns l h e =
    Gives_bind same (before ++ ns) ns rest rest l (name_of text s) (λ n. named (before ++ n ∷ []) texts) (meant.name_of text (known s)) (λ n k. then_make (names_of texts k) (λ ns k. Some (n ∷ ns, k))) e
    (λ n k i. name-given text s rest n k h i)
    (λ n t there i.
    let m = made (names_of texts (known t)) (λ ns k. Some (n ∷ ns, k)) ns l i in
    Gives_so (λ ys. before ++ ys) (n ∷ m.value) ns rest m.between l _
    (subst (λ ys. Gives ys rest m.between (named (before ++ n ∷ []) texts t)) (append_assoc before (n ∷ []) m.value) (named-given texts (before ++ n ∷ []) t rest m.value m.between there m.first)) m.rest)

-- ---- clauses

ended-given : (head : Option MeantAtom) (xs : List MeantItem) (s : State) (rest : List Token) (q : Part) (l : Known) → At (token.Sign sign.Stop ∷ rest) s → clause_of head xs (known s) ≡ Some (q, l) → Gives q rest l (ended head xs s)
ended-given head xs s rest q l h e =
    Gives_expect q rest l s sign.Stop rest (λ dot. get (λ s. length s.variables) >>= (λ n. give (part.Clause (record { head = head; body = xs; vars = n })))) h refl
    (λ there. Gives_ok same (part.Clause (record { head = head; body = xs; vars = length s.variables })) q rest (behind s) l there e)

with_body-given : (head : Option MeantAtom) (b : Body) (s : State) (rest : List Token) (q : Part) (l : Known) → At (body_tokens b ++ token.Sign sign.Stop ∷ rest) s
    → then_make (body_meaning b (known s)) (λ xs. clause_of head xs) ≡ Some (q, l) → Gives q rest l (with_body head s)
with_body-given head b s rest q l h e =
    Gives_bind same q q (token.Sign sign.Stop ∷ rest) rest l (body s) (λ xs. ended head xs) (body_meaning b (known s)) (λ xs. clause_of head xs) e
    (λ xs k i. body-given b s (token.Sign sign.Stop ∷ rest) xs k h (stop-ends rest) i)
    (λ xs t there i. ended-given head xs t rest q l there i)

headed-at : (a : Atom) (ts : List Token) (s : State) → clause_at (first (atom_tokens a ++ ts)) s ≡ headed s
headed-at a ts s = by a.is_negated
  where
    by : (b : Bool) → clause_at (first ((minus_if b ++ token.Name a.name ∷ arguments_tokens a.arguments) ++ ts)) s ≡ headed s
    by true = refl
    by false = refl

module _ (s : State) (rest : List Token) (q : Part) (l : Known) where
  abbrev now : State
  now = without_variables s

  clause-at : (ts : List Token) → At ts s → clause s ≡ clause_at (first ts) now
  unfolding clause
  clause-at ts h = ap (λ o. clause_at o now) (next-is ts s h)

  fact-given : (a : Atom) → At (atom_tokens a ++ token.Sign sign.Stop ∷ rest) s → then_make (atom_meaning a (known now)) (λ x. clause_of (Some x) []) ≡ Some (q, l) → Gives q rest l (headed now)
  fact-given a h e =
      Gives_bind same q q (token.Sign sign.Stop ∷ rest) rest l (atom now) (λ a. taken sign.If >>= (λ has_body. if has_body then with_body (Some a) else ended (Some a) [])) (atom_meaning a (known now)) (λ x. clause_of (Some x) []) e
      (λ x k i. atom-given a now (token.Sign sign.Stop ∷ rest) x k (record { tokens = h.tokens; fault = h.fault }) refl i)
      (λ x t there i. Gives_not_taken q rest l t sign.If (token.Sign sign.Stop ∷ rest) _ there refl (ended-given (Some x) [] t rest q l there i))

  rule-given : (a : Atom) (b : Body) → At (atom_tokens a ++ token.Sign sign.If ∷ (body_tokens b ++ token.Sign sign.Stop ∷ rest)) s
      → then_make (atom_meaning a (known now)) (λ x k. then_make (body_meaning b k) (λ xs. clause_of (Some x) xs)) ≡ Some (q, l) → Gives q rest l (headed now)
  rule-given a b h e =
      let next = token.Sign sign.If ∷ (body_tokens b ++ token.Sign sign.Stop ∷ rest) in
      Gives_bind same q q next rest l (atom now) (λ a. taken sign.If >>= (λ has_body. if has_body then with_body (Some a) else ended (Some a) [])) (atom_meaning a (known now))
      (λ x k. then_make (body_meaning b k) (λ xs. clause_of (Some x) xs)) e
      (λ x k i. atom-given a now next x k (record { tokens = h.tokens; fault = h.fault }) refl i)
      (λ x t there i. Gives_taken q rest l t sign.If (body_tokens b ++ token.Sign sign.Stop ∷ rest) _ there refl (λ at. with_body-given (Some x) b (behind t) rest q l at i))

  query-given : (b : Body) → At (token.Sign sign.Query ∷ (body_tokens b ++ token.Sign sign.Stop ∷ rest)) s → then_make (body_meaning b (known now)) (λ xs. query_of xs) ≡ Some (q, l) → Gives q rest l (query now)
  query-given b h e =
      Gives_bind same q q (token.Sign sign.Stop ∷ rest) rest l (body (behind now))
      (λ xs. expect sign.Stop >>= (λ dot. get (λ s. s.variables) >>= (λ texts. named [] texts >>= (λ names. give (part.Query (record { body = xs; names = names })))))) (body_meaning b (known now)) (λ xs. query_of xs) e
      (λ xs k i. body-given b (behind now) (token.Sign sign.Stop ∷ rest) xs k (record { tokens = (At_behind _ _ s h).tokens; fault = h.fault }) (stop-ends rest) i)
      (λ xs t there i. Gives_expect q rest l t sign.Stop rest _ there refl
      (λ at. Gives_bind same q q rest rest l (named [] t.variables (behind t)) (λ names. give (part.Query (record { body = xs; names = names }))) (names_of t.variables (known t)) _ i
      (λ ns k j. named-given t.variables [] (behind t) rest ns k at j)
      (λ ns u after j. Gives_ok same (part.Query (record { body = xs; names = ns })) q rest u l after j)))

-- a clause, of any kind
pub clause-given : (c : Clause) (s : State) (rest : List Token) (q : Part) (l : Known) → At (clause_tokens c ++ rest) s → (c ≡ a_directive → ⊥) → clause_meaning c (known s) ≡ Some (q, l) → Gives q rest l (clause s)
clause-given (a_fact a) s rest q l h other e =
    let g = At_so _ (atom_tokens a ++ token.Sign sign.Stop ∷ rest) s h (append_assoc (atom_tokens a) (token.Sign sign.Stop ∷ []) rest) in
    Gives_by q rest l _ _ (clause-at s rest q l _ g ∙ headed-at a (token.Sign sign.Stop ∷ rest) (without_variables s)) (fact-given s rest q l a g e)
clause-given (a_rule a b) s rest q l h other e =
    let next = token.Sign sign.If ∷ (body_tokens b ++ token.Sign sign.Stop ∷ rest) in
    let g = At_so _ (atom_tokens a ++ next) s h
    (append_assoc (atom_tokens a) (token.Sign sign.If ∷ (body_tokens b ++ token.Sign sign.Stop ∷ [])) rest ∙ ap (λ ts. atom_tokens a ++ token.Sign sign.If ∷ ts) (append_assoc (body_tokens b) (token.Sign sign.Stop ∷ []) rest)) in
    Gives_by q rest l _ _ (clause-at s rest q l _ g ∙ headed-at a next (without_variables s)) (rule-given s rest q l a b g e)
clause-given (a_denial b) s rest q l h other e =
    let g = At_so _ (token.Sign sign.If ∷ (body_tokens b ++ token.Sign sign.Stop ∷ rest)) s h (ap (λ ts. token.Sign sign.If ∷ ts) (append_assoc (body_tokens b) (token.Sign sign.Stop ∷ []) rest)) in
    Gives_by q rest l _ _ (clause-at s rest q l _ g)
    (with_body-given None b (behind (without_variables s)) rest q l (record { tokens = (At_behind _ _ s g).tokens; fault = h.fault }) e)
clause-given (a_query b) s rest q l h other e =
    let g = At_so _ (token.Sign sign.Query ∷ (body_tokens b ++ token.Sign sign.Stop ∷ rest)) s h (ap (λ ts. token.Sign sign.Query ∷ ts) (append_assoc (body_tokens b) (token.Sign sign.Stop ∷ []) rest)) in
    Gives_by q rest l _ _ (clause-at s rest q l _ g) (query-given s rest q l b g e)
clause-given (an_abducible text texts) s rest q l h other e =
    let g = At_so _ (token.Abducible ∷ token.Name text ∷ (parameters_tokens texts ++ token.Sign sign.Stop ∷ rest)) s h
    (ap (λ ts. token.Abducible ∷ token.Name text ∷ ts) (append_assoc (parameters_tokens texts) (token.Sign sign.Stop ∷ []) rest)) in
    Gives_by q rest l _ _ (clause-at s rest q l _ g) (abducible-given text texts (without_variables s) rest q l (record { tokens = g.tokens; fault = g.fault }) e)
clause-given a_directive s rest q l h other e = absurd (other refl)
