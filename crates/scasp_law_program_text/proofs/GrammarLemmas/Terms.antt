-- Terms that are read.
use Rattle.std.proofs.Common.{◌≡◌, ℕ, zero, suc, ◌<◌, ◌≤◌, Bool, true, false, ◌&&◌, nat_lt, if◌then◌else◌, List, [], ◌∷◌, ◌++◌, drop, length, Option, None, Some, refl, sym, ap, subst, ◌∙◌, append_assoc, length-append, arith}
use Rattle.std.specs.Prelude.{nat_le}
use Rattle.std.proofs.lemmas.Bool.Decides.{nat_tests}
use Rattle.scasp_name.specs.Texts.{with_text}
use Rattle.scasp_syntax.specs.Tm.{Tm, var, app, nil, listed}
use Rattle.scasp_reader_tokens.specs.declared.sign.Sign.{Sign}
use Rattle.scasp_reader_tokens.specs.declared.sign.Sign.TheVariants as sign
use Rattle.scasp_reader_tokens.specs.declared.token.Token.{Token}
use Rattle.scasp_reader_tokens.specs.declared.token.Token.TheVariants as token
use Rattle.scasp_reader_terms.specs.declared.terms.TheConstants.{ARITY_LIMIT}
use Rattle.scasp_reader_terms.specs.Names.{place_in}
use Rattle.scasp_reader_terms.specs.Steps.{State, Read, give, behind, place_of, token_of, is_sign, series}
use Rattle.scasp_reader_terms.specs.Terms.{inside, one_more, several, arguments_in, arguments, compound, list_of, elements, elements_if, list_in, variable_term, term_at_sign, term_at, term_with, term, below}
use Rattle.scasp_law_program_text.specs.Grammar.Known.{Known}
use Rattle.scasp_law_program_text.specs.Grammar.Trees.{Term, a_variable, a_name, an_empty_list, a_list, a_list_with, Terms, one_term, more_terms, no_arguments, some_arguments}
use Rattle.scasp_law_program_text.specs.Grammar.Spelling.{bare, term_tokens, terms_tokens, arguments_tokens}
use Rattle.scasp_law_program_text.specs.Grammar.Terms.{limited_arguments, term_meaning, terms_meaning, arguments_meaning}
use Rattle.scasp_law_program_text.proofs.GrammarLemmas.Steps.{known, then-some, next-token, Post, Post_give, Post_err, Post_from, Post_map, Post_then, Post_taken, Post_note, opened, between_holds, Spelled}
use Rattle.scasp_law_program_text.proofs.GrammarLemmas.Leaves.{IsNumbered, variable_holds, constant_holds}

-- ---- several terms

-- one of them, of arguments one of so many
record IsOne (room : ℕ) (are_arguments : Bool) (n : ℕ) (s : State) (x : Tm) (t : State) : Type 0 where
  spelled : Spelled term_tokens (term_meaning room) s x t
  few : are_arguments ≡ true → n < ARITY_LIMIT

-- several behind these
record AreSeveral (room : ℕ) (are_arguments : Bool) (before : List Tm) (s : State) (all : List Tm) (t : State) : Type 0 where
  tree : Terms
  more : List Tm
  is : all ≡ before ++ more
  tokens : bare s.tokens ≡ terms_tokens tree ++ bare t.tokens
  value : terms_meaning room tree (known s) ≡ Some (more, known t)
  few : are_arguments ≡ true → length all ≤ ARITY_LIMIT

-- what stands in the brackets of a list
record IsInside (room : ℕ) (s : State) (x : Tm) (t : State) : Type 0 where
  tree : Term
  tokens : (rest : List Token) → bare t.tokens ≡ token.Sign sign.CloseList ∷ rest → token.Sign sign.OpenList ∷ bare s.tokens ≡ term_tokens tree ++ rest
  value : term_meaning (suc room) tree (known s) ≡ Some (x, known t)

fewer : (n : ℕ) (a : Bool) → (a && nat_le ARITY_LIMIT n) ≡ false → a ≡ true → n < ARITY_LIMIT
fewer n true e q = grind (arith, nat_tests, e)
fewer n false e q = cc

limited : (us : List Tm) (k : Known) → length us ≤ ARITY_LIMIT → limited_arguments us k ≡ Some (us, k)
limited us k few = let past : nat_lt ARITY_LIMIT (length us) ≡ false = grind (arith, nat_tests, few) in rw past refl

-- a thing, and a sign behind it
pub with-sign : (front ts rest : List Token) (k : Token) → ts ≡ k ∷ rest → front ++ ts ≡ (front ++ k ∷ []) ++ rest
with-sign front ts rest k e = ap (λ ts. front ++ ts) e ∙ sym (append_assoc front (k ∷ []) rest)

-- a thing, a sign behind it, and another thing
pub with-next : (all front ts us next rest : List Token) (k : Token) → all ≡ front ++ ts → ts ≡ k ∷ us → us ≡ next ++ rest → all ≡ (front ++ k ∷ next) ++ rest
with-next all front ts us next rest k e f g = e ∙ ap (λ ts. front ++ ts) (f ∙ ap (λ us. k ∷ us) g) ∙ sym (append_assoc front (k ∷ next) rest)

module _ (room : ℕ) (one : Read Tm) (h : (s : State) → Post (Spelled term_tokens (term_meaning room) s) s (one s)) where
  one_more_holds : (are_arguments : Bool) (n : ℕ) (s : State) → Post (IsOne room are_arguments n s) s (one_more are_arguments n one s)
  one_more_holds are_arguments n s =
      Post_note (IsOne room are_arguments n s) s (are_arguments && nat_le ARITY_LIMIT n) _ _ _
      (λ t f same. Post_map (Spelled term_tokens (term_meaning room) t) (IsOne room are_arguments n s) t _ (h t)
      (λ x u g fine spelled.
      let (is, past) = same (g fine) in
      record { spelled = subst (λ t. Spelled term_tokens (term_meaning room) t x u) (sym is) spelled; few = fewer n are_arguments past }))

  series_holds : (are_arguments : Bool) (n : ℕ) (before : List Tm) (s : State) → Post (AreSeveral room are_arguments before s) s (series (λ before. one_more are_arguments (length before) one) n before s)
  series_holds are_arguments zero before s = Post_err (AreSeveral room are_arguments before s) s _
  series_holds are_arguments (suc n) before s =
      Post_then (IsOne room are_arguments (length before) s) (AreSeveral room are_arguments before s) s _ _ (one_more_holds are_arguments (length before) s)
      (λ x t f i. Post_taken (AreSeveral room are_arguments before s) t sign.Comma _
      (λ comma. Post_map (AreSeveral room are_arguments (before ++ x ∷ []) (behind t)) (AreSeveral room are_arguments before s) (behind t) _ (series_holds are_arguments n (before ++ x ∷ []) (behind t))
      (λ all u g fine a. next x t all u (i (g fine)) comma a))
      (Post_give (AreSeveral room are_arguments before s) t (before ++ x ∷ []) (λ fine. last x t (i fine))))
    where
      next : (x : Tm) (t : State) (all : List Tm) (u : State) → IsOne room are_arguments (length before) s x t → bare t.tokens ≡ token.Sign sign.Comma ∷ bare (drop 1 t.tokens)
          → AreSeveral room are_arguments (before ++ x ∷ []) (behind t) all u → AreSeveral room are_arguments before s all u
      next x t all u i comma a = record {
        tree = more_terms i.spelled.tree a.tree;
        more = x ∷ a.more;
        is = a.is ∙ append_assoc before (x ∷ []) a.more;
        tokens = with-next _ (term_tokens i.spelled.tree) _ _ (terms_tokens a.tree) _ _ i.spelled.tokens comma a.tokens;
        value = then-some _ _ _ _ _ i.spelled.value (then-some _ _ _ _ _ a.value refl);
        few = a.few;
      }

      last : (x : Tm) (t : State) → IsOne room are_arguments (length before) s x t → AreSeveral room are_arguments before s (before ++ x ∷ []) t
      last x t i = record {
        tree = one_term i.spelled.tree;
        more = x ∷ [];
        is = refl;
        tokens = i.spelled.tokens;
        value = then-some _ _ _ _ _ i.spelled.value refl;
        few = λ e. (let less = i.few e in omega (arith, less, length-append before (x ∷ [])));
      }

  arguments_in_holds : (s : State) → Post (Spelled arguments_tokens (arguments_meaning (suc room)) s) s (arguments_in one s)
  arguments_in_holds s =
      between_holds (AreSeveral room true [] (opened false s)) (Spelled arguments_tokens (arguments_meaning (suc room)) s) false sign.Open sign.Close (several true one) s
      (series_holds true _ [] (opened false s))
      (λ xs t opens close a. record {
        tree = some_arguments a.tree;
        tokens = opens ∙ ap (λ ts. token.Sign sign.Open ∷ ts) (a.tokens ∙ with-sign (terms_tokens a.tree) _ _ _ close);
        value = then-some _ _ _ _ _ (a.value ∙ ap (λ us. Some (us, known t)) (sym a.is)) (limited xs (known t) (a.few refl));
      })

  elements_holds : (s : State) → Post (IsInside room s) s (elements one s)
  elements_holds s =
      Post_then (AreSeveral room false [] s) (IsInside room s) s _ _ (series_holds false _ [] s)
      (λ us t f a. Post_taken (IsInside room s) t sign.Bar _
      (λ bar. Post_then (Spelled term_tokens (term_meaning room) (behind t)) (IsInside room s) (behind t) _ _ (h (behind t))
      (λ x u g p. Post_give (IsInside room s) u (list_of us x) (λ fine. with_tail us x t u bar (a (g fine)) (p fine))))
      (Post_give (IsInside room s) t (list_of us (app 0 nil)) (λ fine. whole us t (a fine))))
    where
      with_tail : (us : List Tm) (x : Tm) (t u : State) → bare t.tokens ≡ token.Sign sign.Bar ∷ bare (drop 1 t.tokens) → AreSeveral room false [] s us t
          → Spelled term_tokens (term_meaning room) (behind t) x u → IsInside room s (list_of us x) u
      with_tail us x t u bar a p = record {
        tree = a_list_with a.tree p.tree;
        tokens = λ rest close.
            ap (λ ts. token.Sign sign.OpenList ∷ ts)
            (with-next _ (terms_tokens a.tree) _ _ (term_tokens p.tree ++ token.Sign sign.CloseList ∷ []) rest _ a.tokens bar (p.tokens ∙ with-sign (term_tokens p.tree) _ rest _ close));
        value = then-some _ _ _ _ _ (a.value ∙ ap (λ us. Some (us, known t)) (sym a.is)) (then-some _ _ _ _ _ p.value refl);
      }

      whole : (us : List Tm) (t : State) → AreSeveral room false [] s us t → IsInside room s (list_of us (app 0 nil)) t
      whole us t a = record {
        tree = a_list a.tree;
        tokens = λ rest close. ap (λ ts. token.Sign sign.OpenList ∷ ts) (a.tokens ∙ with-sign (terms_tokens a.tree) _ rest _ close);
        value = then-some _ _ _ _ _ (a.value ∙ ap (λ us. Some (us, known t)) (sym a.is)) refl;
      }

  elements_if_holds : (s : State) → Post (IsInside room s) s (elements_if one s)
  elements_if_holds s = by (is_sign sign.CloseList (token_of s.tokens))
    where
      by : (b : Bool) → Post (IsInside room s) s (if b then give (app 0 nil) s else elements one s)
      by true = Post_give (IsInside room s) s (app 0 nil) (λ fine. record { tree = an_empty_list; tokens = λ rest close. ap (λ ts. token.Sign sign.OpenList ∷ ts) close; value = refl })
      by false = elements_holds s

  list_in_holds : (s : State) → Post (Spelled term_tokens (term_meaning (suc room)) s) s (list_in one s)
  list_in_holds s =
      between_holds (IsInside room (opened true s)) (Spelled term_tokens (term_meaning (suc room)) s) true sign.OpenList sign.CloseList (elements_if one) s (elements_if_holds (opened true s))
      (λ x t opens close p. record { tree = p.tree; tokens = opens ∙ p.tokens _ close; value = p.value })

-- ---- terms

-- what is read in a bracket, where one may be opened
abbrev pub Inner : ℕ → Option (Read Tm) → Type 0
Inner room None = Unit {0}
Inner zero (Some one) = ⊥
Inner (suc room) (Some one) = (s : State) → Post (Spelled term_tokens (term_meaning room) s) s (one s)

pub arguments_holds : (room : ℕ) (inner : Option (Read Tm)) → Inner room inner → (s : State) → Post (Spelled arguments_tokens (arguments_meaning room) s) s (arguments inner s)
arguments_holds room inner h s = by (is_sign sign.Open (token_of s.tokens))
  where
    called : (room : ℕ) (inner : Option (Read Tm)) → Inner room inner → Post (Spelled arguments_tokens (arguments_meaning room) s) s (inside inner arguments_in s)
    called room None h = Post_err (Spelled arguments_tokens (arguments_meaning room) s) s _
    called zero (Some one) h = absurd h
    called (suc room) (Some one) h = arguments_in_holds room one h s

    by : (b : Bool) → Post (Spelled arguments_tokens (arguments_meaning room) s) s (if b then inside inner arguments_in s else give [] s)
    by true = called room inner h
    by false = Post_give (Spelled arguments_tokens (arguments_meaning room) s) s [] (λ fine. record { tree = no_arguments; tokens = refl; value = refl })

-- behind a name that is next, and put into the table
abbrev pub behind_name : List ℕ → State → State
behind_name text s = record (behind s) { names = with_text s.names text }

-- a name that was read, with its arguments
pub name-spelled : (room : ℕ) (text : List ℕ) (s : State) → bare s.tokens ≡ token.Name text ∷ bare (drop 1 s.tokens) → (ts : List Tm) (t : State)
    → Spelled arguments_tokens (arguments_meaning room) (behind_name text s) ts t → Spelled term_tokens (term_meaning room) s (app (place_in s.names text) (listed ts)) t
name-spelled room text s next ts t a = record {
  tree = a_name text a.tree;
  tokens = next ∙ ap (λ ts. token.Name text ∷ ts) a.tokens;
  value = then-some _ _ _ _ _ a.value refl;
}

compound_holds : (room : ℕ) (inner : Option (Read Tm)) → Inner room inner → (text : List ℕ) (s : State) → bare s.tokens ≡ token.Name text ∷ bare (drop 1 s.tokens)
    → Post (Spelled term_tokens (term_meaning room) s) s (compound inner text s)
compound_holds room inner h text s next =
    Post_from (Spelled term_tokens (term_meaning room) s) s (behind_name text s) _ (λ f. f)
    (Post_then (Spelled arguments_tokens (arguments_meaning room) (behind_name text s)) (Spelled term_tokens (term_meaning room) s) (behind_name text s) _ _ (arguments_holds room inner h (behind_name text s))
    (λ ts t f a. Post_give (Spelled term_tokens (term_meaning room) s) t (app (place_in s.names text) (listed ts)) (λ fine. name-spelled room text s next ts t (a fine))))

variable_term_holds : (room at : ℕ) (text : List ℕ) (s : State) → bare s.tokens ≡ token.Variable text ∷ bare (drop 1 s.tokens) → Post (Spelled term_tokens (term_meaning room) s) s (variable_term at text s)
variable_term_holds room at text s next =
    Post_from (Spelled term_tokens (term_meaning room) s) s (behind s) _ (λ f. f)
    (Post_then (IsNumbered text (behind s)) (Spelled term_tokens (term_meaning room) s) (behind s) _ _ (variable_holds at text (behind s))
    (λ x t f v. Post_give (Spelled term_tokens (term_meaning room) s) t (var x)
    (λ fine.
    let v = v fine in
    record {
      tree = a_variable text;
      tokens = next ∙ ap (λ ts. token.Variable text ∷ ts) v.tokens;
      value = then-some _ _ _ _ _ v.value refl;
    })))

term_with_holds : (room : ℕ) (inner : Option (Read Tm)) → Inner room inner → (s : State) → Post (Spelled term_tokens (term_meaning room) s) s (term_with inner s)
term_with_holds room inner h s = by (place_of s.tokens) (token_of s.tokens) refl
  where
    list : (room : ℕ) (inner : Option (Read Tm)) → Inner room inner → Post (Spelled term_tokens (term_meaning room) s) s (inside inner list_in s)
    list room None h = Post_err (Spelled term_tokens (term_meaning room) s) s _
    list zero (Some one) h = absurd h
    list (suc room) (Some one) h = list_in_holds room one h s

    sign_by : (g : Sign) → Post (Spelled term_tokens (term_meaning room) s) s (term_at_sign inner g s)
    sign_by sign.Minus = constant_holds room s
    sign_by sign.OpenList = list room inner h
    sign_by g = Post_err (Spelled term_tokens (term_meaning room) s) s _

    by : (at : ℕ) (o : Option Token) → token_of s.tokens ≡ o → Post (Spelled term_tokens (term_meaning room) s) s (term_at inner at o s)
    by at (Some (token.Variable text)) e = variable_term_holds room at text s (next-token s.tokens _ e)
    by at (Some (token.Number q)) e = constant_holds room s
    by at (Some (token.Name text)) e = compound_holds room inner h text s (next-token s.tokens _ e)
    by at (Some (token.Sign g)) e = sign_by g
    by at o e = Post_err (Spelled term_tokens (term_meaning room) s) s _

pub term_holds : (room : ℕ) (s : State) → Post (Spelled term_tokens (term_meaning room) s) s (term room s)
unfolding term
term_holds zero s = term_with_holds zero None tt s
term_holds (suc room) s = term_with_holds (suc room) (Some (term room)) (term_holds room) s

pub below_holds : (room : ℕ) → Inner room (below term room)
below_holds zero = tt
below_holds (suc room) = term_holds room
