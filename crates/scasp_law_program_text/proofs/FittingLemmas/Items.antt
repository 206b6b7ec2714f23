-- An item that is read is within the limits, and its variables are numbered as they are read.
use Rattle.std.proofs.Common.{◌≡◌, ℕ, ◌<◌, ◌≤◌, Bool, true, false, ◌&&◌, if◌then◌else◌, List, length, Option, None, Some, is_some, refl, subst, arith}
use Rattle.std.specs.Str.{IsUtf8}
use Rattle.std.proofs.lemmas.Bool.{and_from, lt-ltb}
use Rattle.std.proofs.lemmas.Option.{slice_get_within}
use Rattle.scasp_list.proofs.EachLemmas.{Each-map}
use Rattle.scasp_num.specs.Linear.{Linear}
use Rattle.scasp_syntax.specs.Tm.{Tm, Tms, var, num, app, listed}
use Rattle.scasp_syntax.specs.View.{tm_of}
use Rattle.scasp_syntax.specs.declared.clause.Item.{Item}
use Rattle.scasp_syntax.specs.declared.clause.Item.TheVariants as form
use Rattle.scasp_reader_tokens.specs.declared.sign.Sign.{Sign}
use Rattle.scasp_reader_tokens.specs.declared.sign.Sign.TheVariants as sign
use Rattle.scasp_reader_tokens.specs.declared.token.Token.{Token}
use Rattle.scasp_reader_tokens.specs.declared.token.Token.TheVariants as token
use Rattle.scasp_reader_terms.specs.declared.fault.Kind.TheVariants as kind
use Rattle.scasp_reader_terms.specs.Names.{place_in}
use Rattle.scasp_reader_terms.specs.Steps.{State, ◌>>=◌, give, stop_at, unexpected, behind, place_of, token_of}
use Rattle.scasp_reader_terms.specs.Terms.{term, below}
use Rattle.scasp_reader_expressions.specs.declared.values.Value.{Value}
use Rattle.scasp_reader_expressions.specs.Sums.{row_of}
use Rattle.scasp_reader_expressions.specs.Values.{united, made_at}
use Rattle.scasp_reader_expressions.specs.Expressions.{expression}
use Rattle.scasp_reader.specs.declared.bodies.atoms.TheConstants.{DEPTH_LIMIT}
use Rattle.scasp_reader.specs.declared.bodies.comparisons.Relation.{Relation}
use Rattle.scasp_reader.specs.Bodies.Atoms.{checked_atom}
use Rattle.scasp_reader.specs.Bodies.Items.{term_of, call_of, equation_of, linear_of, equation_sign, relation, equation_behind, term_behind, equation, name_behind, named_item, literal, row_between, relation_behind, comparison, begins_negation, begins_equation, unnamed_item, item_at_sign, item_at, item}
use Rattle.scasp_print_program.specs.Terms.{Style}
use Rattle.scasp_law_program_text.specs.CompoundReadback.Fitting.{fits}
use Rattle.scasp_law_program_text.specs.CompoundReadback.Counting.{count}
use Rattle.scasp_law_program_text.specs.ClauseReadback.Fitting.{item_fits}
use Rattle.scasp_law_program_text.specs.ClauseReadback.Counting.{count_both, count_item}
use Rattle.scasp_reader.proofs.ProgramsLemmas.SumKeeping.{united-Ascending, united-Each}
use Rattle.scasp_reader.proofs.ProgramsLemmas.ValueKeeping.{IsValue as IsKept, expression_keeps}
use Rattle.scasp_reader.proofs.ProgramsLemmas.ItemKeeping.{IsItem as IsWellFormed, IsItem-lasts, item_keeps}
use Rattle.scasp_law_program_text.specs.TermFitting.Readers.{known, IsReader, Covers}
use Rattle.scasp_law_program_text.proofs.TermFittingLemmas.Steps.{Follows, more_variables, covers_before, follows_behind, reader_behind, Post, Post_give, Post_err, Post_from, Post_map, Post_also, Post_then, IsNext, next_is}
use Rattle.scasp_law_program_text.proofs.TermFittingLemmas.Names.{behind_name, follows_name}
use Rattle.scasp_law_program_text.proofs.TermFittingLemmas.Terms.{IsTerm, term_holds, AreArguments, arguments_holds, called-app, below_holds}
use Rattle.scasp_law_program_text.proofs.FittingLemmas.Listed.{united-listed, listed-counted}
use Rattle.scasp_law_program_text.proofs.FittingLemmas.Values.{IsValue, IsSame, made_at_holds, expression_holds}
use Rattle.scasp_law_program_text.proofs.FittingLemmas.Atoms.{IsAtom, IsCalled, checked_atom_holds, called-is, atom_holds}

-- the item fits in every style for what is then known, and its variables are numbered behind the n that the clause had
pub record IsItem (n : ℕ) (i : Item) (k : Style) : Type 0 where
  pub fit : (w : Style) → Covers w k → item_fits w i ≡ true
  pub counted : (w : Style) → Covers w k → count_item w n i ≡ Some (length k.variables)

-- the same, where nothing is said of the form of a linear item
abbrev plain_fits : Style → Item → Bool
plain_fits w (form.Call l) = item_fits w (form.Call l)
plain_fits w (form.Equal t s) = item_fits w (form.Equal t s)
plain_fits w (form.Differ t s) = item_fits w (form.Differ t s)
plain_fits w (form.Linear l) = true

record IsPlain (n : ℕ) (i : Item) (k : Style) : Type 0 where
  fit : (w : Style) → Covers w k → plain_fits w i ≡ true
  counted : (w : Style) → Covers w k → count_item w n i ≡ Some (length k.variables)

-- ---- equations

tm_of-term_of : (t : Tm) → tm_of (term_of t) ≡ t
tm_of-term_of (var x) = refl
tm_of-term_of (num q) = refl
tm_of-term_of (app f ts) = refl

both-counted : (w : Style) (n m j : ℕ) (l r : Tm) → count w n l ≡ Some m → count w m r ≡ Some j → count_both w n (tm_of (term_of l)) (tm_of (term_of r)) ≡ Some j
both-counted w n m j l r h k = rw (tm_of-term_of l, tm_of-term_of r) (rw h k)

both-fit : (w : Style) (l r : Tm) → fits w DEPTH_LIMIT l ≡ true → fits w DEPTH_LIMIT r ≡ true → fits w DEPTH_LIMIT (tm_of (term_of l)) && fits w DEPTH_LIMIT (tm_of (term_of r)) ≡ true
both-fit w l r h k = rw (tm_of-term_of l, tm_of-term_of r) (and_from (fits w DEPTH_LIMIT l) (fits w DEPTH_LIMIT r) h k)

equation-plain : (n : ℕ) (are_equal : Bool) (l r : Tm) (s t : State) → Follows s t → IsTerm DEPTH_LIMIT n l (known s) → IsTerm DEPTH_LIMIT (length s.variables) r (known t)
    → IsPlain n (equation_of are_equal l r) (known t)
equation-plain n true l r s t f h k = record {
  fit = λ w c. both-fit w l r (h.fit w (covers_before w s t f c)) (k.fit w c);
  counted = λ w c. both-counted w n (length s.variables) (length t.variables) l r (h.counted w (covers_before w s t f c)) (k.counted w c);
}
equation-plain n false l r s t f h k = record {
  fit = λ w c. both-fit w l r (h.fit w (covers_before w s t f c)) (k.fit w c);
  counted = λ w c. both-counted w n (length s.variables) (length t.variables) l r (h.counted w (covers_before w s t f c)) (k.counted w c);
}

equation_behind_holds : (n : ℕ) (l : Tm) (are_equal : Bool) (s : State) → IsReader s → (s.fault ≡ None → IsTerm DEPTH_LIMIT n l (known s)) → Post (IsPlain n) s (equation_behind l are_equal s)
equation_behind_holds n l are_equal s r h =
    Post_from (IsPlain n) s (behind s) _ (follows_behind s r)
    (Post_then (IsTerm DEPTH_LIMIT (length s.variables)) (IsPlain n) (behind s) _ _ (term_holds DEPTH_LIMIT (behind s) (reader_behind s r))
    (λ x t f k. Post_give (IsPlain n) t (equation_of are_equal l x) f.reader (λ fine. equation-plain n are_equal l x (behind s) t f (h (f.fault fine)) (k fine))))

term_behind_holds : (n at : ℕ) (l : Tm) (o : Option Bool) (s : State) → IsReader s → (s.fault ≡ None → IsTerm DEPTH_LIMIT n l (known s)) → Post (IsPlain n) s (term_behind at l o s)
term_behind_holds n at l None s r h = by (is_some (relation (token_of s.tokens)))
  where
    by : (b : Bool) → Post (IsPlain n) s (if b then stop_at at kind.NotLinear s else unexpected s)
    by true = Post_err (IsPlain n) s _
    by false = Post_err (IsPlain n) s _
term_behind_holds n at l (Some are_equal) s r h = equation_behind_holds n l are_equal s r h

equation_holds : (s : State) → IsReader s → Post (IsPlain (length s.variables)) s (equation s)
equation_holds s r =
    Post_then (IsTerm DEPTH_LIMIT (length s.variables)) (IsPlain (length s.variables)) s _ _ (term_holds DEPTH_LIMIT s r)
    (λ l t f h. term_behind_holds (length s.variables) (place_of s.tokens) l (equation_sign (token_of t.tokens)) t f.reader h)

-- ---- items that begin with a name, or with `-` and a name

name_behind_holds : (n at : ℕ) (text : List ℕ) (f : ℕ) (ts : Tms) (o : Option Bool) (s : State) → IsReader s → (s.fault ≡ None → IsCalled n text f ts (known s))
    → Post (IsPlain n) s (name_behind at text f ts o s)
name_behind_holds n at text f ts None s r h = by (is_some (relation (token_of s.tokens)))
  where
    by : (b : Bool) → Post (IsPlain n) s ((if b then stop_at at kind.NotLinear else (checked_atom at false text f ts >>= (λ a. give (call_of true a)))) s)
    by true = Post_err (IsPlain n) s _
    by false =
        Post_then (IsAtom n) (IsPlain n) s _ _ (checked_atom_holds n at false text f ts s r h)
        (λ a t g k. Post_give (IsPlain n) t (call_of true a) g.reader (λ fine. record { fit = (k fine).fit; counted = (k fine).counted }))
name_behind_holds n at text f ts (Some are_equal) s r h =
    equation_behind_holds n (app f ts) are_equal s r
    (λ fine.
    let a = h fine in
    record {
      fit = λ w c. called-app w DEPTH_LIMIT f ts (lt-ltb f (length w.names) (slice_get_within w.names f text (a.name w c))) (a.fit w c);
      counted = a.counted;
    })

named_item_holds : (at : ℕ) (text : List ℕ) (s : State) → IsReader s → IsUtf8 text → Post (IsPlain (length s.variables)) s (named_item at text s)
named_item_holds at text s r u =
    let n = length s.variables in
    let t = behind_name text s in
    let f = follows_name text s r u in
    Post_from (IsPlain n) s t _ f
    (Post_then (AreArguments DEPTH_LIMIT n) (IsPlain n) t _ _ (arguments_holds DEPTH_LIMIT (below term DEPTH_LIMIT) (below_holds DEPTH_LIMIT) t f.reader)
    (λ ts v g a. name_behind_holds n at text (place_in s.names text) (listed ts) (equation_sign (token_of v.tokens)) v g.reader (λ fine. called-is text s v ts g (a fine))))

literal_holds : (at : ℕ) (positive : Bool) (s : State) → IsReader s → Post (IsPlain (length s.variables)) s (literal at positive s)
literal_holds at positive s r =
    Post_then (IsAtom (length s.variables)) (IsPlain (length s.variables)) s _ _ (atom_holds s r)
    (λ a t f h. by (positive && is_some (relation (token_of t.tokens))) t f.reader
    (Post_give (IsPlain (length s.variables)) t (call_of positive a) f.reader (λ fine. record { fit = (h fine).fit; counted = (h fine).counted })))
  where
    by : {a : Item} (b : Bool) (t : State) → IsReader t → Post (IsPlain (length s.variables)) t (give a t) → Post (IsPlain (length s.variables)) t ((if b then stop_at at kind.NotLinear else give a) t)
    by true t rt p = Post_err (IsPlain (length s.variables)) t _
    by false t rt p = p

-- ---- comparisons

row_between_holds : (x : Relation) (at : ℕ) (e f : Value) (s : State) → IsReader s → Post (IsSame (known s)) s (row_between x at e.sum f.sum s)
row_between_holds x at e f s r = by x.is_turned
  where
    by : (b : Bool) → Post (IsSame (known s)) s ((if b then made_at (row_of x.op) at f.sum e.sum else made_at (row_of x.op) at e.sum f.sum) s)
    by true = made_at_holds (row_of x.op) at f.sum e.sum s r
    by false = made_at_holds (row_of x.op) at e.sum f.sum s r

-- listed, and well formed
abbrev IsSide : ℕ → Value → Style → Type 0
IsSide n e k = IsValue n e k × IsKept (length k.variables) e

side_holds : (s : State) → IsReader s → Post (IsSide (length s.variables)) s (expression DEPTH_LIMIT s)
side_holds s r =
    Post_also (IsValue (length s.variables)) (λ e k. IsKept (length k.variables) e) s _ (expression_holds DEPTH_LIMIT s r) (λ e t q. (expression_keeps DEPTH_LIMIT s).holds e t q)

linear-plain : (n : ℕ) (e f : Value) (row : Option Linear) (s t : State) → Follows s t → n ≤ length s.variables → t.fault ≡ None → IsSide n e (known s) → IsSide (length s.variables) f (known t)
    → IsPlain n (linear_of (united e.variables f.variables) row) (known t)
linear-plain n e f row s t g le fine h k =
    let more : length s.variables ≤ length t.variables = more_variables s t g in
    let m = length t.variables in
    record {
      fit = λ w c. refl;
      counted = λ w c. listed-counted w (known t) n c (g.reader.limit fine) (united e.variables f.variables) (omega (arith, le, more))
          (united-Ascending e.variables f.variables h.1.ascending)
          (united-Each (λ x. x < m) e.variables f.variables (Each-map (λ x. x < length s.variables) (λ x. x < m) (λ x l. omega (arith, l, more)) e.variables h.1.below) k.1.below)
          (united-listed n e.variables f.variables (known s) (known t) g.variables le h.0 k.0);
    }

relation_behind_holds : (n : ℕ) (e : Value) (at : ℕ) (o : Option Relation) (s : State) → IsReader s → n ≤ length s.variables → (s.fault ≡ None → IsSide n e (known s))
    → Post (IsPlain n) s (relation_behind e at o s)
relation_behind_holds n e at None s r le h = Post_err (IsPlain n) s _
relation_behind_holds n e at (Some x) s r le h =
    Post_from (IsPlain n) s (behind s) _ (follows_behind s r)
    (Post_then (IsSide (length s.variables)) (IsPlain n) (behind s) _ _ (side_holds (behind s) (reader_behind s r))
    (λ f t g k. Post_then (IsSame (known t)) (IsPlain n) t _ _ (row_between_holds x at e f t g.reader)
    (λ row u i same. Post_give (IsPlain n) u (linear_of (united e.variables f.variables) row) i.reader
    (λ fine. subst (λ z. IsPlain n (linear_of (united e.variables f.variables) row) z) (same fine)
    (linear-plain n e f row (behind s) t g le (i.fault fine) (h (g.fault (i.fault fine))) (k (i.fault fine)))))))

comparison_holds : (s : State) → IsReader s → Post (IsPlain (length s.variables)) s (comparison s)
comparison_holds s r =
    Post_then (IsSide (length s.variables)) (IsPlain (length s.variables)) s _ _ (side_holds s r)
    (λ e t f h. relation_behind_holds (length s.variables) e (place_of t.tokens) (relation (token_of t.tokens)) t f.reader (more_variables s t f) h)

-- ---- items

unnamed_item_holds : (at : ℕ) (s : State) → IsReader s → Post (IsPlain (length s.variables)) s (unnamed_item at s)
unnamed_item_holds at s r = by (begins_negation s.tokens) (begins_equation s.tokens)
  where
    by : (b c : Bool) → Post (IsPlain (length s.variables)) s (if b then literal at true s else (if c then equation s else comparison s))
    by true c = literal_holds at true s r
    by false true = equation_holds s r
    by false false = comparison_holds s r

plain_item_holds : (s : State) → IsReader s → Post (IsPlain (length s.variables)) s (item s)
unfolding item
plain_item_holds s r = by (place_of s.tokens) (token_of s.tokens) (next_is s r)
  where
    sign_by : (at : ℕ) (g : Sign) → Post (IsPlain (length s.variables)) s (item_at_sign at g s)
    sign_by at sign.Minus = unnamed_item_holds at s r
    sign_by at sign.Open = unnamed_item_holds at s r
    sign_by at sign.OpenList = equation_holds s r
    sign_by at g = Post_err (IsPlain (length s.variables)) s _

    by : (at : ℕ) (o : Option Token) → IsNext o → Post (IsPlain (length s.variables)) s (item_at at o s)
    by at (Some token.Not) k = Post_from (IsPlain (length s.variables)) s (behind s) _ (follows_behind s r) (literal_holds at false (behind s) (reader_behind s r))
    by at (Some (token.Name text)) k = named_item_holds at text s r k
    by at (Some (token.Variable text)) k = unnamed_item_holds at s r
    by at (Some (token.Number q)) k = unnamed_item_holds at s r
    by at (Some (token.Sign g)) k = sign_by at g
    by at o k = Post_err (IsPlain (length s.variables)) s _

whole-item : (n : ℕ) (i : Item) (k : Style) → IsPlain n i k → IsWellFormed (length k.variables) i → IsItem n i k
whole-item n i k p h = record { fit = by i p.fit h; counted = p.counted }
  where
    by : (i : Item) → ((w : Style) → Covers w k → plain_fits w i ≡ true) → IsWellFormed (length k.variables) i → (w : Style) → Covers w k → item_fits w i ≡ true
    by (form.Call l) f h w c = f w c
    by (form.Equal t s) f h w c = f w c
    by (form.Differ t s) f h w c = f w c
    by (form.Linear l) f h w c = IsItem-lasts (length k.variables) (length w.variables) c.number (form.Linear l) h

pub item_holds : (s : State) → IsReader s → Post (IsItem (length s.variables)) s (item s)
item_holds s r =
    Post_map (λ i k. IsPlain (length s.variables) i k × IsWellFormed (length k.variables) i) (IsItem (length s.variables)) s _
    (Post_also (IsPlain (length s.variables)) (λ i k. IsWellFormed (length k.variables) i) s _ (plain_item_holds s r) (λ i t q. (item_keeps s).holds i t q))
    (λ i t f fine h. whole-item (length s.variables) i (known t) h.0 h.1)
