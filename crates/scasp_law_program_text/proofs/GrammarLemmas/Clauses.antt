-- Clauses and queries that are read.
use Rattle.std.proofs.Common.{◌≡◌, ℕ, Bool, true, false, if◌then◌else◌, List, [], ◌∷◌, ◌++◌, drop, length, codes, Option, None, Some, refl, sym, ap, ◌∙◌, append_assoc, append-nil}
use Rattle.std.specs.Str.{bytes_eq}
use Rattle.scasp_name.specs.Texts.{with_text}
use Rattle.scasp_syntax.specs.declared.atom.Atom.{Atom as MeantAtom}
use Rattle.scasp_syntax.specs.declared.clause.Item.{Item as MeantItem}
use Rattle.scasp_reader_tokens.specs.declared.sign.Sign.{Sign}
use Rattle.scasp_reader_tokens.specs.declared.sign.Sign.TheVariants as sign
use Rattle.scasp_reader_tokens.specs.declared.token.Token.{Token}
use Rattle.scasp_reader_tokens.specs.declared.token.Token.TheVariants as token
use Rattle.scasp_reader_terms.specs.Names.{place_in, interned}
use Rattle.scasp_reader_terms.specs.Steps.{State, ◌>>=◌, give, behind, token_of}
use Rattle.scasp_reader.specs.declared.texts.clauses.Part.{Part}
use Rattle.scasp_reader.specs.declared.texts.clauses.Part.TheVariants as part
use Rattle.scasp_reader.specs.Texts.Abducibles.{positive_pred, abducible_at, abducible}
use Rattle.scasp_reader.specs.Texts.Clauses.{ended, name_of, named, query, clause_at_sign, clause_at, without_variables, clause}
use Rattle.scasp_reader.specs.Texts.Texts.{is_end}
use Rattle.scasp_law_program_text.specs.Grammar.Trees.{a_fact, a_rule, a_denial, a_query, an_abducible}
use Rattle.scasp_law_program_text.specs.Grammar.Spelling.{bare, atom_tokens, body_tokens, parameters_tokens, clause_tokens}
use Rattle.scasp_law_program_text.specs.Grammar.Bodies.{atom_meaning, body_meaning}
use Rattle.scasp_law_program_text.specs.Grammar.Programs.{names_of, clause_meaning}
use Rattle.scasp_law_program_text.specs.Grammar.Programs as meant
use Rattle.scasp_law_program_text.proofs.GrammarLemmas.Steps.{known, then-some, next-token, Post, Post_give, Post_err, Post_from, Post_map, Post_then, Post_taken, Post_expect, Spelled}
use Rattle.scasp_law_program_text.proofs.GrammarLemmas.Terms.{with-sign, with-next}
use Rattle.scasp_law_program_text.proofs.GrammarLemmas.Items.{atom_holds}
use Rattle.scasp_law_program_text.proofs.GrammarLemmas.Bodies.{body_holds}
use Rattle.scasp_law_program_text.proofs.GrammarLemmas.Abducibles.{AreBracketed, bracketed_hold, abducible-meant}

-- a clause, of any kind, and not the end
pub record IsClause (s : State) (q : Part) (t : State) : Type 0 where
  pub spelled : Spelled clause_tokens clause_meaning s q t
  pub goes_on : is_end q ≡ false

abbrev IsBody : State → List MeantItem → State → Type 0
IsBody s xs t = Spelled body_tokens body_meaning s xs t

-- ---- names of a query's variables

record IsName (text : List ℕ) (s : State) (n : Option ℕ) (t : State) : Type 0 where
  tokens : s.tokens ≡ t.tokens
  value : meant.name_of text (known s) ≡ Some (n, known t)

record AreNames (before : List (Option ℕ)) (texts : List (List ℕ)) (s : State) (all : List (Option ℕ)) (t : State) : Type 0 where
  more : List (Option ℕ)
  is : all ≡ before ++ more
  tokens : s.tokens ≡ t.tokens
  value : names_of texts (known s) ≡ Some (more, known t)

name_holds : (text : List ℕ) (s : State) → Post (IsName text s) s (name_of text s)
name_holds text s = by (bytes_eq text (codes "_")) refl
  where
    anonymous : bytes_eq text (codes "_") ≡ true → meant.name_of text (known s) ≡ Some (None, known s)
    anonymous e = rw e refl

    named-so : bytes_eq text (codes "_") ≡ false → meant.name_of text (known s) ≡ Some (Some (place_in s.names text), record { names = with_text s.names text; variables = s.variables })
    named-so e = rw e refl

    by : (b : Bool) → bytes_eq text (codes "_") ≡ b → Post (IsName text s) s ((if b then give None else (interned text >>= (λ n. give (Some n)))) s)
    by true e = Post_give (IsName text s) s None (λ fine. record { tokens = refl; value = anonymous e })
    by false e =
        let t = record s { names = with_text s.names text } in
        Post_from (IsName text s) s t _ (λ f. f) (Post_give (IsName text s) t (Some (place_in s.names text)) (λ fine. record { tokens = refl; value = named-so e }))

named_holds : (before : List (Option ℕ)) (texts : List (List ℕ)) (s : State) → Post (AreNames before texts s) s (named before texts s)
named_holds before [] s = Post_give (AreNames before [] s) s before (λ fine. record { more = []; is = sym (append-nil before); tokens = refl; value = refl })
named_holds before (text ∷ texts) s =
    Post_then (IsName text s) (AreNames before (text ∷ texts) s) s _ _ (name_holds text s)
    (λ n t f i. Post_map (AreNames (before ++ n ∷ []) texts t) (AreNames before (text ∷ texts) s) t _ (named_holds (before ++ n ∷ []) texts t)
    (λ all u g fine a.
    let i = i (g fine) in
    record {
      more = n ∷ a.more;
      is = a.is ∙ append_assoc before (n ∷ []) a.more;
      tokens = i.tokens ∙ a.tokens;
      value = then-some _ _ _ _ _ i.value (then-some _ _ _ _ _ a.value refl);
    }))

-- ---- clauses

module _ (s : State) where
  -- the reader of another clause
  abbrev now : State
  now = without_variables s

  ended_holds : (head : Option MeantAtom) (xs : List MeantItem) (t : State)
      → (t.fault ≡ None → bare t.tokens ≡ token.Sign sign.Stop ∷ bare (drop 1 t.tokens) → Spelled clause_tokens clause_meaning s (part.Clause (record { head = head; body = xs; vars = length t.variables })) (behind t))
      → Post (IsClause s) t (ended head xs t)
  ended_holds head xs t h =
      Post_expect (IsClause s) t sign.Stop _
      (λ stop. Post_give (IsClause s) (behind t) (part.Clause (record { head = head; body = xs; vars = length t.variables })) (λ fine. record { spelled = h fine stop; goes_on = refl }))

  fact-spelled : (a : MeantAtom) (t : State) → Spelled atom_tokens atom_meaning now a t → bare t.tokens ≡ token.Sign sign.Stop ∷ bare (drop 1 t.tokens)
      → Spelled clause_tokens clause_meaning s (part.Clause (record { head = Some a; body = []; vars = length t.variables })) (behind t)
  fact-spelled a t p stop = record {
    tree = a_fact p.tree;
    tokens = p.tokens ∙ with-sign (atom_tokens p.tree) _ _ _ stop;
    value = then-some _ _ _ _ _ p.value refl;
  }

  rule-spelled : (a : MeantAtom) (t : State) (xs : List MeantItem) (u : State) → Spelled atom_tokens atom_meaning now a t → bare t.tokens ≡ token.Sign sign.If ∷ bare (drop 1 t.tokens) → IsBody (behind t) xs u
      → bare u.tokens ≡ token.Sign sign.Stop ∷ bare (drop 1 u.tokens) → Spelled clause_tokens clause_meaning s (part.Clause (record { head = Some a; body = xs; vars = length u.variables })) (behind u)
  rule-spelled a t xs u p next q stop = record {
    tree = a_rule p.tree q.tree;
    tokens = with-next _ (atom_tokens p.tree) _ _ (body_tokens q.tree ++ token.Sign sign.Stop ∷ []) _ _ p.tokens next (q.tokens ∙ with-sign (body_tokens q.tree) _ _ _ stop);
    value = then-some _ _ _ _ _ p.value (then-some _ _ _ _ _ q.value refl);
  }

  denial-spelled : (xs : List MeantItem) (u : State) → bare s.tokens ≡ token.Sign sign.If ∷ bare (drop 1 s.tokens) → IsBody (behind now) xs u → bare u.tokens ≡ token.Sign sign.Stop ∷ bare (drop 1 u.tokens)
      → Spelled clause_tokens clause_meaning s (part.Clause (record { head = None; body = xs; vars = length u.variables })) (behind u)
  denial-spelled xs u next q stop = record {
    tree = a_denial q.tree;
    tokens = next ∙ ap (λ ts. token.Sign sign.If ∷ ts) (q.tokens ∙ with-sign (body_tokens q.tree) _ _ _ stop);
    value = then-some _ _ _ _ _ q.value refl;
  }

  query-spelled : (xs : List MeantItem) (u : State) (names : List (Option ℕ)) (v : State) → bare s.tokens ≡ token.Sign sign.Query ∷ bare (drop 1 s.tokens) → IsBody (behind now) xs u
      → bare u.tokens ≡ token.Sign sign.Stop ∷ bare (drop 1 u.tokens) → AreNames [] u.variables (behind u) names v → Spelled clause_tokens clause_meaning s (part.Query (record { body = xs; names = names })) v
  query-spelled xs u names v next q stop a = record {
    tree = a_query q.tree;
    tokens = next ∙ ap (λ ts. token.Sign sign.Query ∷ ts) (q.tokens ∙ with-sign (body_tokens q.tree) _ _ _ stop ∙ ap (λ ts. (body_tokens q.tree ++ token.Sign sign.Stop ∷ []) ++ bare ts) a.tokens);
    value = then-some _ _ _ _ _ q.value (then-some _ _ _ _ _ (a.value ∙ ap (λ ns. Some (ns, known v)) (sym a.is)) refl);
  }

  headed_holds : Post (IsClause s) now (clause_at (Some (token.Name [])) now)
  headed_holds =
      Post_then (Spelled atom_tokens atom_meaning now) (IsClause s) now _ _ (atom_holds now)
      (λ a t f p. Post_taken (IsClause s) t sign.If _
      (λ next. Post_then (IsBody (behind t)) (IsClause s) (behind t) _ _ (body_holds (behind t))
      (λ xs u g q. ended_holds (Some a) xs u (λ fine stop. rule-spelled a t xs u (p (g fine)) next (q fine) stop)))
      (ended_holds (Some a) [] t (λ fine stop. fact-spelled a t (p fine) stop)))

  denial_holds : bare s.tokens ≡ token.Sign sign.If ∷ bare (drop 1 s.tokens) → Post (IsClause s) now (clause_at_sign sign.If now)
  denial_holds next =
      Post_from (IsClause s) now (behind now) _ (λ f. f)
      (Post_then (IsBody (behind now)) (IsClause s) (behind now) _ _ (body_holds (behind now))
      (λ xs u g q. ended_holds None xs u (λ fine stop. denial-spelled xs u next (q fine) stop)))

  query_holds : bare s.tokens ≡ token.Sign sign.Query ∷ bare (drop 1 s.tokens) → Post (IsClause s) now (query now)
  query_holds next =
      Post_from (IsClause s) now (behind now) _ (λ f. f)
      (Post_then (IsBody (behind now)) (IsClause s) (behind now) _ _ (body_holds (behind now))
      (λ xs u g q. Post_expect (IsClause s) u sign.Stop _
      (λ stop. Post_then (AreNames [] u.variables (behind u)) (IsClause s) (behind u) _ _ (named_holds [] u.variables (behind u))
      (λ names v i a. Post_give (IsClause s) v (part.Query (record { body = xs; names = names }))
      (λ fine. record { spelled = query-spelled xs u names v next (q (i fine)) stop (a fine); goes_on = refl })))))

  -- ---- predicates that may be assumed

  -- the reader behind a name of this text
  abbrev behind_name : List ℕ → State
  behind_name text = record (behind (behind now)) { names = with_text s.names text }

  abducible-spelled : (text : List ℕ) (n : ℕ) (u : State) → bare s.tokens ≡ token.Abducible ∷ bare (drop 1 s.tokens) → token_of (drop 1 s.tokens) ≡ Some (token.Name text) → AreBracketed (behind_name text) n u
      → bare u.tokens ≡ token.Sign sign.Stop ∷ bare (drop 1 u.tokens) → Spelled clause_tokens clause_meaning s (part.Abducible (positive_pred (place_in s.names text) n)) (behind u)
  abducible-spelled text n u next e a stop = record {
    tree = an_abducible text a.texts;
    tokens = next ∙ ap (λ ts. token.Abducible ∷ ts) (next-token (drop 1 s.tokens) (token.Name text) e ∙ ap (λ ts. token.Name text ∷ ts) (a.tokens ∙ with-sign (parameters_tokens a.texts) _ _ _ stop));
    value = then-some _ _ _ _ _ a.value (abducible-meant (place_in s.names text) n (length a.texts) (known u) a.number a.few);
  }

  abducible_holds : bare s.tokens ≡ token.Abducible ∷ bare (drop 1 s.tokens) → Post (IsClause s) now (abducible now)
  abducible_holds next = Post_from (IsClause s) now (behind now) _ (λ f. f) (by (token_of (drop 1 s.tokens)) refl)
    where
      by : (o : Option Token) → token_of (drop 1 s.tokens) ≡ o → Post (IsClause s) (behind now) (abducible_at o (behind now))
      by (Some (token.Name text)) e =
          Post_from (IsClause s) (behind now) (behind_name text) _ (λ f. f)
          (Post_then (AreBracketed (behind_name text)) (IsClause s) (behind_name text) _ _ (bracketed_hold (behind_name text))
          (λ n u f a. Post_expect (IsClause s) u sign.Stop _
          (λ stop. Post_give (IsClause s) (behind u) (part.Abducible (positive_pred (place_in s.names text) n))
          (λ fine. record { spelled = abducible-spelled text n u next e (a fine) stop; goes_on = refl }))))
      by o e = Post_err (IsClause s) (behind now) _

pub clause_holds : (s : State) → Post (IsClause s) s (clause s)
unfolding clause
clause_holds s = Post_from (IsClause s) s (without_variables s) _ (λ f. f) (by (token_of s.tokens) refl)
  where
    sign_by : (g : Sign) → token_of s.tokens ≡ Some (token.Sign g) → Post (IsClause s) (without_variables s) (clause_at_sign g (without_variables s))
    sign_by sign.Minus e = headed_holds s
    sign_by sign.If e = denial_holds s (next-token s.tokens _ e)
    sign_by sign.Query e = query_holds s (next-token s.tokens _ e)
    sign_by g e = Post_err (IsClause s) (without_variables s) _

    by : (o : Option Token) → token_of s.tokens ≡ o → Post (IsClause s) (without_variables s) (clause_at o (without_variables s))
    by (Some (token.Name text)) e = headed_holds s
    by (Some (token.Sign g)) e = sign_by g e
    by (Some token.Abducible) e = abducible_holds s (next-token s.tokens _ e)
    by o e = Post_err (IsClause s) (without_variables s) _
