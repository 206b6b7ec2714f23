-- Atoms and items that are read.
use Rattle.std.proofs.Common.{◌≡◌, ℕ, Bool, true, false, ◌&&◌, if◌then◌else◌, List, ◌∷◌, ◌++◌, drop, length, Option, None, Some, is_some, refl, sym, ap, subst, ◌∙◌}
use Rattle.scasp_num.specs.declared.linear.Op.{Op}
use Rattle.scasp_num.specs.Linear.{Linear}
use Rattle.scasp_syntax.specs.Tm.{Tm, app, items, listed}
use Rattle.scasp_syntax.specs.declared.atom.Atom.{Atom as MeantAtom}
use Rattle.scasp_syntax.specs.declared.clause.Item.{Item as MeantItem}
use Rattle.scasp_reader_tokens.specs.declared.sign.Sign.{Sign}
use Rattle.scasp_reader_tokens.specs.declared.sign.Sign.TheVariants as sign
use Rattle.scasp_reader_tokens.specs.declared.token.Token.{Token}
use Rattle.scasp_reader_tokens.specs.declared.token.Token.TheVariants as token
use Rattle.scasp_reader_terms.specs.declared.fault.Kind.TheVariants as kind
use Rattle.scasp_reader_terms.specs.Names.{place_in}
use Rattle.scasp_reader_terms.specs.Steps.{State, ◌>>=◌, give, stop_at, unexpected, behind, place_of, token_of}
use Rattle.scasp_reader_terms.specs.Terms.{term, below}
use Rattle.scasp_reader_expressions.specs.declared.values.Value.{Value}
use Rattle.scasp_reader_expressions.specs.Sums.{row_of}
use Rattle.scasp_reader_expressions.specs.Values.{united, made_at}
use Rattle.scasp_reader.specs.declared.bodies.atoms.TheConstants.{DEPTH_LIMIT}
use Rattle.scasp_reader.specs.declared.bodies.comparisons.Relation.{Relation}
use Rattle.scasp_reader.specs.Bodies.Atoms.{reserved, is_reserved, atom_of, checked_atom, atom_behind, atom}
use Rattle.scasp_reader.specs.Bodies.Items.{call_of, equation_of, linear_of, equation_sign, relation, equation_behind, term_behind, equation, name_behind, named_item, literal, row_between, relation_behind, comparison, begins_negation, begins_equation, unnamed_item, item_at_sign, item_at, item}
use Rattle.scasp_law_program_text.specs.Grammar.Known.{Known, then_make, only}
use Rattle.scasp_law_program_text.specs.Grammar.Trees.{a_call, a_negative_call, an_equation, a_disequation, a_comparison}
use Rattle.scasp_law_program_text.specs.Grammar.Spelling.{bare, minus_if, term_tokens, arguments_tokens, expression_tokens, atom_tokens, item_tokens}
use Rattle.scasp_law_program_text.specs.Grammar.Terms.{term_meaning, arguments_meaning}
use Rattle.scasp_law_program_text.specs.Grammar.Expressions.{Worth, expression_meaning}
use Rattle.scasp_law_program_text.specs.Grammar.Bodies.{allowed_atom, atom_meaning, item_meaning, linear_item}
use Rattle.scasp_law_program_text.specs.Grammar.Bodies as meant
use Rattle.scasp_law_program_text.proofs.GrammarLemmas.Steps.{known, then-some, next-token, Post, Post_give, Post_err, Post_from, Post_map, Post_then, Post_taken, Post_note, Spelled}
use Rattle.scasp_law_program_text.proofs.GrammarLemmas.Leaves.{append-minus}
use Rattle.scasp_law_program_text.proofs.GrammarLemmas.Terms.{with-next, term_holds, arguments_holds, below_holds, behind_name, name-spelled}
use Rattle.scasp_law_program_text.proofs.GrammarLemmas.Expressions.{valued, IsMade, made_at_holds, IsWorth, expression_holds}

-- ---- atoms

record IsAllowed (minus : Bool) (text : List ℕ) (f : ℕ) (ts : List Tm) (s : State) (a : MeantAtom) (t : State) : Type 0 where
  same : s ≡ t
  value : allowed_atom minus text f ts (known s) ≡ Some (a, known t)

atom-allowed : (minus : Bool) (text : List ℕ) (f : ℕ) (ts : List Tm) (k : Known) → is_reserved reserved text (length (items (listed ts))) ≡ false → allowed_atom minus text f ts k ≡ Some (atom_of minus f (listed ts), k)
atom-allowed minus text f ts k past = rw past refl

checked_atom_holds : (at : ℕ) (minus : Bool) (text : List ℕ) (f : ℕ) (ts : List Tm) (s : State) → Post (IsAllowed minus text f ts s) s (checked_atom at minus text f (listed ts) s)
checked_atom_holds at minus text f ts s =
    Post_note (IsAllowed minus text f ts s) s (is_reserved reserved text (length (items (listed ts)))) at kind.Unsupported _
    (λ t g same. Post_give (IsAllowed minus text f ts s) t (atom_of minus f (listed ts))
    (λ fine.
    let (is, past) = same fine in
    record { same = is; value = atom-allowed minus text f ts (known s) past ∙ ap (λ s. Some (atom_of minus f (listed ts), known s)) is }))

-- a name that was read, and its arguments, make an atom with this sign
atom-spelled : (minus : Bool) (text : List ℕ) (ts : List Tm) (a : MeantAtom) (s u t v : State) → bare s.tokens ≡ minus_if minus ++ bare u.tokens → known s ≡ known u
    → bare u.tokens ≡ token.Name text ∷ bare (drop 1 u.tokens) → Spelled arguments_tokens (arguments_meaning DEPTH_LIMIT) (behind_name text u) ts t
    → IsAllowed minus text (place_in u.names text) ts t a v → Spelled atom_tokens atom_meaning s a v
atom-spelled minus text ts a s u t v front same next p q = record {
  tree = record { is_negated = minus; name = text; arguments = p.tree };
  tokens = front ∙ ap (λ ts. minus_if minus ++ ts) (next ∙ ap (λ ts. token.Name text ∷ ts) (p.tokens ∙ ap (λ (t : State). arguments_tokens p.tree ++ bare t.tokens) q.same))
      ∙ append-minus minus (token.Name text) (arguments_tokens p.tree) (bare v.tokens);
  value = ap (λ k. atom_meaning (record { is_negated = minus; name = text; arguments = p.tree }) k) same ∙ then-some _ _ _ _ _ p.value q.value;
}

pub atom_holds : (s : State) → Post (Spelled atom_tokens atom_meaning s) s (atom s)
atom_holds s =
    Post_taken (Spelled atom_tokens atom_meaning s) s sign.Minus _
    (λ minus. by true (behind s) minus refl (token_of (behind s).tokens) refl)
    (by false s refl refl (token_of s.tokens) refl)
  where
    by : (minus : Bool) (u : State) → bare s.tokens ≡ minus_if minus ++ bare u.tokens → known s ≡ known u → (o : Option Token) → token_of u.tokens ≡ o
        → Post (Spelled atom_tokens atom_meaning s) u (atom_behind (place_of s.tokens) minus o u)
    by minus u front same (Some (token.Name text)) e =
        Post_from (Spelled atom_tokens atom_meaning s) u (behind_name text u) _ (λ f. f)
        (Post_then (Spelled arguments_tokens (arguments_meaning DEPTH_LIMIT) (behind_name text u)) (Spelled atom_tokens atom_meaning s) (behind_name text u) _ _
        (arguments_holds DEPTH_LIMIT (below term DEPTH_LIMIT) (below_holds DEPTH_LIMIT) (behind_name text u))
        (λ ts t f p. Post_map (IsAllowed minus text (place_in u.names text) ts t) (Spelled atom_tokens atom_meaning s) t _ (checked_atom_holds (place_of s.tokens) minus text (place_in u.names text) ts t)
        (λ a v g fine q. atom-spelled minus text ts a s u t v front same (next-token u.tokens _ e) (p (g fine)) q)))
    by minus u front same o e = Post_err (Spelled atom_tokens atom_meaning s) u _

-- ---- equations

abbrev pub equal_sign : Bool → Sign
equal_sign are_equal = if are_equal then sign.Equal else sign.Differ

equation-next : (s : State) (are_equal : Bool) → equation_sign (token_of s.tokens) ≡ Some are_equal → bare s.tokens ≡ token.Sign (equal_sign are_equal) ∷ bare (drop 1 s.tokens)
equation-next s are_equal h = by (token_of s.tokens) refl h
  where
    by_sign : (g : Sign) → token_of s.tokens ≡ Some (token.Sign g) → equation_sign (Some (token.Sign g)) ≡ Some are_equal → bare s.tokens ≡ token.Sign (equal_sign are_equal) ∷ bare (drop 1 s.tokens)
    by_sign sign.Equal e h =
        let same : true ≡ are_equal = cc in
        subst (λ b. bare s.tokens ≡ token.Sign (equal_sign b) ∷ bare (drop 1 s.tokens)) same (next-token s.tokens (token.Sign sign.Equal) e)
    by_sign sign.Differ e h =
        let same : false ≡ are_equal = cc in
        subst (λ b. bare s.tokens ≡ token.Sign (equal_sign b) ∷ bare (drop 1 s.tokens)) same (next-token s.tokens (token.Sign sign.Differ) e)
    by_sign g e h = absurd cc

    by : (o : Option Token) → token_of s.tokens ≡ o → equation_sign o ≡ Some are_equal → bare s.tokens ≡ token.Sign (equal_sign are_equal) ∷ bare (drop 1 s.tokens)
    by (Some (token.Sign g)) e h = by_sign g e h
    by o e h = absurd cc

abbrev IsItem : State → MeantItem → State → Type 0
IsItem s i t = Spelled item_tokens item_meaning s i t

equation-spelled : (are_equal : Bool) (l r : Tm) (s t u : State) → Spelled term_tokens (term_meaning DEPTH_LIMIT) s l t → bare t.tokens ≡ token.Sign (equal_sign are_equal) ∷ bare (drop 1 t.tokens)
    → Spelled term_tokens (term_meaning DEPTH_LIMIT) (behind t) r u → IsItem s (equation_of are_equal l r) u
equation-spelled true l r s t u p next q = record {
  tree = an_equation p.tree q.tree;
  tokens = with-next _ (term_tokens p.tree) _ _ (term_tokens q.tree) _ _ p.tokens next q.tokens;
  value = then-some _ _ _ _ _ p.value (then-some _ _ _ _ _ q.value refl);
}
equation-spelled false l r s t u p next q = record {
  tree = a_disequation p.tree q.tree;
  tokens = with-next _ (term_tokens p.tree) _ _ (term_tokens q.tree) _ _ p.tokens next q.tokens;
  value = then-some _ _ _ _ _ p.value (then-some _ _ _ _ _ q.value refl);
}

equation_behind_holds : (s : State) (are_equal : Bool) (l : Tm) (t : State) → equation_sign (token_of t.tokens) ≡ Some are_equal → (t.fault ≡ None → Spelled term_tokens (term_meaning DEPTH_LIMIT) s l t)
    → Post (IsItem s) t (equation_behind l are_equal t)
equation_behind_holds s are_equal l t e h =
    Post_from (IsItem s) t (behind t) _ (λ f. f)
    (Post_then (Spelled term_tokens (term_meaning DEPTH_LIMIT) (behind t)) (IsItem s) (behind t) _ _ (term_holds DEPTH_LIMIT (behind t))
    (λ r u f p. Post_give (IsItem s) u (equation_of are_equal l r) (λ fine. equation-spelled are_equal l r s t u (h (f fine)) (equation-next t are_equal e) (p fine))))

equation_holds : (s : State) → Post (IsItem s) s (equation s)
equation_holds s =
    Post_then (Spelled term_tokens (term_meaning DEPTH_LIMIT) s) (IsItem s) s _ _ (term_holds DEPTH_LIMIT s)
    (λ l t f h. by l t h (equation_sign (token_of t.tokens)) refl)
  where
    none : (t : State) (b : Bool) → Post (IsItem s) t (if b then stop_at (place_of s.tokens) kind.NotLinear t else unexpected t)
    none t true = Post_err (IsItem s) t _
    none t false = Post_err (IsItem s) t _

    by : (l : Tm) (t : State) → (t.fault ≡ None → Spelled term_tokens (term_meaning DEPTH_LIMIT) s l t) → (o : Option Bool) → equation_sign (token_of t.tokens) ≡ o
        → Post (IsItem s) t (term_behind (place_of s.tokens) l o t)
    by l t h None e = none t (is_some (relation (token_of t.tokens)))
    by l t h (Some are_equal) e = equation_behind_holds s are_equal l t e h

-- ---- items that begin with a name, or with `-` and a name

call-spelled : (s : State) (a : MeantAtom) (t : State) → Spelled atom_tokens atom_meaning s a t → IsItem s (call_of true a) t
call-spelled s a t p = record { tree = a_call p.tree; tokens = p.tokens; value = then-some _ _ _ _ _ p.value refl }

module _ (at : ℕ) (text : List ℕ) (s : State) (next : bare s.tokens ≡ token.Name text ∷ bare (drop 1 s.tokens)) where
  abbrev name : ℕ
  name = place_in s.names text

  name_behind_holds : (ts : List Tm) (t : State) → (t.fault ≡ None → Spelled arguments_tokens (arguments_meaning DEPTH_LIMIT) (behind_name text s) ts t)
      → (o : Option Bool) → equation_sign (token_of t.tokens) ≡ o → Post (IsItem s) t (name_behind at text name (listed ts) o t)
  name_behind_holds ts t h None e = by (is_some (relation (token_of t.tokens)))
    where
      by : (b : Bool) → Post (IsItem s) t ((if b then stop_at at kind.NotLinear else (checked_atom at false text name (listed ts) >>= (λ a. give (call_of true a)))) t)
      by true = Post_err (IsItem s) t _
      by false =
          Post_then (IsAllowed false text name ts t) (IsItem s) t _ _ (checked_atom_holds at false text name ts t)
          (λ a u g q. Post_give (IsItem s) u (call_of true a) (λ fine. call-spelled s a u (atom-spelled false text ts a s s t u refl refl next (h (g fine)) (q fine))))
  name_behind_holds ts t h (Some are_equal) e =
      equation_behind_holds s are_equal (app name (listed ts)) t e (λ fine. name-spelled DEPTH_LIMIT text s next ts t (h fine))

  named_item_holds : Post (IsItem s) s (named_item at text s)
  named_item_holds =
      Post_from (IsItem s) s (behind_name text s) _ (λ f. f)
      (Post_then (Spelled arguments_tokens (arguments_meaning DEPTH_LIMIT) (behind_name text s)) (IsItem s) (behind_name text s) _ _
      (arguments_holds DEPTH_LIMIT (below term DEPTH_LIMIT) (below_holds DEPTH_LIMIT) (behind_name text s))
      (λ ts t f h. name_behind_holds ts t h (equation_sign (token_of t.tokens)) refl))

literal_holds : (Q : MeantItem → State → Type 0) (at : ℕ) (positive : Bool) (s : State) → ((a : MeantAtom) (t : State) → Spelled atom_tokens atom_meaning s a t → Q (call_of positive a) t) → Post Q s (literal at positive s)
literal_holds Q at positive s q =
    Post_then (Spelled atom_tokens atom_meaning s) Q s _ _ (atom_holds s)
    (λ a t f h. by a t h (positive && is_some (relation (token_of t.tokens))))
  where
    by : (a : MeantAtom) (t : State) → (t.fault ≡ None → Spelled atom_tokens atom_meaning s a t) → (b : Bool) → Post Q t ((if b then stop_at at kind.NotLinear else give (call_of positive a)) t)
    by a t h true = Post_err Q t _
    by a t h false = Post_give Q t (call_of positive a) (λ fine. q a t (h fine))

negative-spelled : (s : State) → bare s.tokens ≡ token.Not ∷ bare (drop 1 s.tokens) → (a : MeantAtom) (t : State) → Spelled atom_tokens atom_meaning (behind s) a t → IsItem s (call_of false a) t
negative-spelled s next a t p = record { tree = a_negative_call p.tree; tokens = next ∙ ap (λ ts. token.Not ∷ ts) p.tokens; value = then-some _ _ _ _ _ p.value refl }

-- ---- comparisons

relation-next : (s : State) (r : Relation) → relation (token_of s.tokens) ≡ Some r → bare s.tokens ≡ token.Sign (sign.Relation r.op r.is_turned) ∷ bare (drop 1 s.tokens)
relation-next s r h = by (token_of s.tokens) refl h
  where
    by_sign : (g : Sign) → token_of s.tokens ≡ Some (token.Sign g) → relation (Some (token.Sign g)) ≡ Some r → bare s.tokens ≡ token.Sign (sign.Relation r.op r.is_turned) ∷ bare (drop 1 s.tokens)
    by_sign (sign.Relation o b) e h =
        let same : record { op = o; is_turned = b } ≡ r = cc in
        subst (λ (r : Relation). bare s.tokens ≡ token.Sign (sign.Relation r.op r.is_turned) ∷ bare (drop 1 s.tokens)) same (next-token s.tokens (token.Sign (sign.Relation o b)) e)
    by_sign g e h = absurd cc

    by : (o : Option Token) → token_of s.tokens ≡ o → relation o ≡ Some r → bare s.tokens ≡ token.Sign (sign.Relation r.op r.is_turned) ∷ bare (drop 1 s.tokens)
    by (Some (token.Sign g)) e h = by_sign g e h
    by o e h = absurd cc

record IsRow (o : Op) (is_turned : Bool) (e f : Value) (s : State) (row : Option Linear) (t : State) : Type 0 where
  same : s ≡ t
  made : (w v : Worth) → e ≡ valued w → f ≡ valued v → (x : Linear) × (meant.row_between o is_turned w v ≡ Some x) × (row ≡ Some x)

row_between_holds : (r : Relation) (at : ℕ) (e f : Value) (s : State) → Post (IsRow r.op r.is_turned e f s) s (row_between r at e.sum f.sum s)
row_between_holds r at e f s = by r.is_turned
  where
    by : (b : Bool) → Post (IsRow r.op b e f s) s ((if b then made_at (row_of r.op) at f.sum e.sum else made_at (row_of r.op) at e.sum f.sum) s)
    by true =
        Post_map (IsMade (row_of r.op) f.sum e.sum s) (IsRow r.op true e f s) s _ (made_at_holds (row_of r.op) at f.sum e.sum s)
        (λ row t g fine m. record { same = m.same; made = λ w v i j. m.made v.sum w.sum (ap (λ (f : Value). f.sum) j) (ap (λ (e : Value). e.sum) i) })
    by false =
        Post_map (IsMade (row_of r.op) e.sum f.sum s) (IsRow r.op false e f s) s _ (made_at_holds (row_of r.op) at e.sum f.sum s)
        (λ row t g fine m. record { same = m.same; made = λ w v i j. m.made w.sum v.sum (ap (λ (e : Value). e.sum) i) (ap (λ (f : Value). f.sum) j) })

abbrev IsSide : State → Value → State → Type 0
IsSide s e t = IsWorth expression_tokens (expression_meaning DEPTH_LIMIT) s e t

comparison-spelled : (r : Relation) (e f : Value) (row : Option Linear) (s t u v : State) → IsSide s e t → bare t.tokens ≡ token.Sign (sign.Relation r.op r.is_turned) ∷ bare (drop 1 t.tokens) → IsSide (behind t) f u
    → IsRow r.op r.is_turned e f u row v → IsItem s (linear_of (united e.variables f.variables) row) v
comparison-spelled r e f row s t u v p next q m =
    let (x, made, is) = m.made p.made q.made p.is q.is in
    let same : linear_of (united e.variables f.variables) row ≡ linear_item p.made q.made x =
    ap (λ (e : Value). linear_of (united e.variables f.variables) row) p.is ∙ ap (λ (f : Value). linear_of (united p.made.variables f.variables) row) q.is
    ∙ ap (λ row. linear_of (united p.made.variables q.made.variables) row) is in
    record {
      tree = a_comparison p.tree r.op r.is_turned q.tree;
      tokens = with-next _ (expression_tokens p.tree) _ _ (expression_tokens q.tree) _ _ p.tokens next (q.tokens ∙ ap (λ (t : State). expression_tokens q.tree ++ bare t.tokens) m.same);
      value =
          then-some _ _ _ _ _ p.value (then-some _ _ _ _ _ q.value (ap (λ o. then_make (only o (known u)) (λ row k. Some (linear_item p.made q.made row, k))) made))
          ∙ ap (λ (t : State). Some (linear_item p.made q.made x, known t)) m.same ∙ ap (λ i. Some (i, known v)) (sym same);
    }

relation_behind_holds : (s : State) (e : Value) (t : State) → (t.fault ≡ None → IsSide s e t) → (o : Option Relation) → relation (token_of t.tokens) ≡ o → Post (IsItem s) t (relation_behind e (place_of t.tokens) o t)
relation_behind_holds s e t h None is = Post_err (IsItem s) t _
relation_behind_holds s e t h (Some r) is =
    Post_from (IsItem s) t (behind t) _ (λ f. f)
    (Post_then (IsSide (behind t)) (IsItem s) (behind t) _ _ (expression_holds DEPTH_LIMIT (behind t))
    (λ f u g q. Post_then (IsRow r.op r.is_turned e f u) (IsItem s) u _ _ (row_between_holds r (place_of t.tokens) e f u)
    (λ row v i m. Post_give (IsItem s) v (linear_of (united e.variables f.variables) row)
    (λ fine. comparison-spelled r e f row s t u v (h (g (i fine))) (relation-next t r is) (q (i fine)) (m fine)))))

comparison_holds : (s : State) → Post (IsItem s) s (comparison s)
comparison_holds s =
    Post_then (IsSide s) (IsItem s) s _ _ (expression_holds DEPTH_LIMIT s)
    (λ e t f h. relation_behind_holds s e t h (relation (token_of t.tokens)) refl)

-- ---- items

unnamed_item_holds : (at : ℕ) (s : State) → Post (IsItem s) s (unnamed_item at s)
unnamed_item_holds at s = by (begins_negation s.tokens) (begins_equation s.tokens)
  where
    by : (b c : Bool) → Post (IsItem s) s (if b then literal at true s else (if c then equation s else comparison s))
    by true c = literal_holds (IsItem s) at true s (call-spelled s)
    by false true = equation_holds s
    by false false = comparison_holds s

pub item_holds : (s : State) → Post (Spelled item_tokens item_meaning s) s (item s)
unfolding item
item_holds s = by (place_of s.tokens) (token_of s.tokens) refl
  where
    sign_by : (at : ℕ) (g : Sign) → Post (IsItem s) s (item_at_sign at g s)
    sign_by at sign.Minus = unnamed_item_holds at s
    sign_by at sign.Open = unnamed_item_holds at s
    sign_by at sign.OpenList = equation_holds s
    sign_by at g = Post_err (IsItem s) s _

    by : (at : ℕ) (o : Option Token) → token_of s.tokens ≡ o → Post (IsItem s) s (item_at at o s)
    by at (Some token.Not) e = Post_from (IsItem s) s (behind s) _ (λ f. f) (literal_holds (IsItem s) at false (behind s) (negative-spelled s (next-token s.tokens _ e)))
    by at (Some (token.Name text)) e = named_item_holds at text s (next-token s.tokens _ e)
    by at (Some (token.Variable text)) e = unnamed_item_holds at s
    by at (Some (token.Number q)) e = unnamed_item_holds at s
    by at (Some (token.Sign g)) e = sign_by at g
    by at o e = Post_err (IsItem s) s _
