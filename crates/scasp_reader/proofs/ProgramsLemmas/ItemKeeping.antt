-- The items that are read are well formed, with the variables of their clause.
use Rattle.std.proofs.Common.{◌≡◌, ℕ, ◌<◌, ◌≤◌, Bool, true, false, ◌&&◌, nat_eq, nat_lt, if◌then◌else◌, List, [], ◌++◌, length, Option, None, Some, is_some, refl, sym, subst, arith}
use Rattle.std.specs.Prelude.{option_and_then}
use Rattle.std.specs.List.{Contains, list_all, list_any}
use Rattle.std.proofs.lemmas.Bool.{and_parts, and_from, ltb-true, lt-ltb, eq-eqb}
use Rattle.scasp_list.specs.Each.{Each}
use Rattle.scasp_list.proofs.EachLemmas.{test_from-Each, Each-from_test}
use Rattle.scasp_list.proofs.MemberLemmas.{list_any-from}
use Rattle.scasp_num.specs.declared.linear.Coeff.{Coeff}
use Rattle.scasp_num.specs.declared.linear.Op.{Op}
use Rattle.scasp_num.specs.Gcd.{gcd, gcd_within}
use Rattle.scasp_num.specs.Linear.{Linear, is_normal}
use Rattle.scasp_name.specs.Texts.{with_text}
use Rattle.scasp_syntax.specs.Tm.{Tm, Tms, var, num, app, listed}
use Rattle.scasp_syntax.specs.View.{tm_of}
use Rattle.scasp_syntax.specs.WellFormed.{is_below, are_below, ascends, lists_variables, is_item_below}
use Rattle.scasp_syntax.specs.declared.atom.Atom.{Atom}
use Rattle.scasp_syntax.specs.declared.clause.Item.{Item}
use Rattle.scasp_syntax.specs.declared.clause.Item.TheVariants as form
use Rattle.scasp_reader_tokens.specs.declared.sign.Sign.{Sign}
use Rattle.scasp_reader_tokens.specs.declared.sign.Sign.TheVariants as sign
use Rattle.scasp_reader_tokens.specs.declared.token.Token.{Token}
use Rattle.scasp_reader_tokens.specs.declared.token.Token.TheVariants as token
use Rattle.scasp_reader_terms.specs.declared.fault.Kind.TheVariants as kind
use Rattle.scasp_reader_terms.specs.Steps.{State, ◌>>=◌, give, stop_at, unexpected, behind, place_of, token_of}
use Rattle.scasp_reader_terms.specs.Terms.{term, below}
use Rattle.scasp_reader_expressions.specs.declared.sums.Sum.{Sum}
use Rattle.scasp_reader_expressions.specs.declared.values.Value.{Value}
use Rattle.scasp_reader_expressions.specs.Sums.{row_of}
use Rattle.scasp_reader_expressions.specs.Values.{united, made_at}
use Rattle.scasp_reader.specs.declared.bodies.atoms.TheConstants.{DEPTH_LIMIT}
use Rattle.scasp_reader.specs.declared.bodies.comparisons.Relation.{Relation}
use Rattle.scasp_reader.specs.Bodies.Atoms.{atom_of, checked_atom, atom_behind, atom}
use Rattle.scasp_reader.specs.Bodies.Items.{term_of, call_of, equation_of, some_row, linear_of, equation_sign, relation, equation_behind, term_behind, equation, name_behind, named_item, literal, row_between, relation_behind, comparison, begins_negation, begins_equation, unnamed_item, item_at_sign, item_at, item}
use Rattle.scasp_reader.specs.Bodies.Bodies.{counted_item, body}
use Rattle.scasp_num.proofs.Kept.{normal_of-IsNormal}
use Rattle.scasp_num.proofs.NormalTests.{normal-decided}
use Rattle.scasp_num.specs.Number.{Number}
use Rattle.scasp_num.specs.Arithmetic.{difference_of}
use Rattle.scasp_num.specs.Sums.{normal_of}
use Rattle.scasp_reader_expressions.specs.Sums.{negated_pairs}
use Rattle.scasp_reader.proofs.ProgramsLemmas.Keeping.{Post, Post_ok, Post_err, Post_then, Any, le_self, taken_keeps, note_if_keeps, Lasts, AllOf, series_keeps}
use Rattle.scasp_reader.proofs.ProgramsLemmas.TermKeeping.{IsBelow, IsBelow-lasts, AreBelow, AreBelow-lasts, listed-below, arguments_keeps, term_keeps, below_keeps}
use Rattle.scasp_reader.proofs.ProgramsLemmas.SumKeeping.{Ascending, ascends-from, united-Ascending, united-Each, Pairs, Coeffs, row_of-Coeffs}
use Rattle.scasp_reader.proofs.ProgramsLemmas.ValueKeeping.{IsValue, IsValue-lasts, made_at_keeps, both-Pairs, expression_keeps}

-- ---- atoms

abbrev pub IsAtom : ℕ → Atom → Type 0
IsAtom n a = are_below n a.args ≡ true

pub IsAtom-lasts : Lasts IsAtom
IsAtom-lasts n m le a h = AreBelow-lasts n m le a.args h

checked_atom_keeps : (at : ℕ) (minus : Bool) (text : List ℕ) (f : ℕ) (ts : Tms) (s : State) → AreBelow (length s.variables) ts → Post IsAtom (length s.variables) (checked_atom at minus text f ts s)
checked_atom_keeps at minus text f ts s h =
    Post_then Any IsAtom _ _ _ (note_if_keeps s _ at _) (λ u t le v. Post_ok IsAtom _ (atom_of minus f ts) t (le_self _) (AreBelow-lasts _ _ le ts h))

pub atom_keeps : (s : State) → Post IsAtom (length s.variables) (atom s)
atom_keeps s = Post_then Any IsAtom _ _ _ (taken_keeps s sign.Minus) (λ minus t le u. by (place_of s.tokens) minus t (token_of t.tokens))
  where
    by : (at : ℕ) (minus : Bool) (t : State) (o : Option Token) → Post IsAtom (length t.variables) (atom_behind at minus o t)
    by at minus t (Some (token.Name text)) =
        Post_then (AllOf IsBelow) IsAtom _ _ _ (arguments_keeps (below term DEPTH_LIMIT) (below_keeps DEPTH_LIMIT) (record (behind t) { names = with_text t.names text }))
        (λ ts u le all. checked_atom_keeps at minus text _ (listed ts) u (listed-below _ ts all))
    by at minus t o = Post_err IsAtom _ _

-- ---- equations

abbrev pub IsItem : ℕ → Item → Type 0
IsItem n i = is_item_below n i ≡ true

tm_of-term_of : (t : Tm) → tm_of (term_of t) ≡ t
tm_of-term_of (var x) = refl
tm_of-term_of (num q) = refl
tm_of-term_of (app f ts) = refl

equation-IsItem : (n : ℕ) (are_equal : Bool) (l r : Tm) → is_below n l ≡ true → is_below n r ≡ true → IsItem n (equation_of are_equal l r)
equation-IsItem n are_equal l r h k = by are_equal
  where
    left : is_below n (tm_of (term_of l)) ≡ true
    left = subst (λ (t : Tm). is_below n t ≡ true) (sym (tm_of-term_of l)) h

    right : is_below n (tm_of (term_of r)) ≡ true
    right = subst (λ (t : Tm). is_below n t ≡ true) (sym (tm_of-term_of r)) k

    by : (b : Bool) → IsItem n (equation_of b l r)
    by true = and_from (is_below n (tm_of (term_of l))) (is_below n (tm_of (term_of r))) left right
    by false = and_from (is_below n (tm_of (term_of l))) (is_below n (tm_of (term_of r))) left right

equation_behind_keeps : (l : Tm) (are_equal : Bool) (s : State) → IsBelow (length s.variables) l → Post IsItem (length s.variables) (equation_behind l are_equal s)
equation_behind_keeps l are_equal s h =
    Post_then IsBelow IsItem _ _ _ (term_keeps DEPTH_LIMIT (behind s))
    (λ r t le k. Post_ok IsItem _ (equation_of are_equal l r) t (le_self _) (equation-IsItem _ are_equal l r (IsBelow-lasts _ _ le l h) k))

term_behind_keeps : (at : ℕ) (l : Tm) (o : Option Bool) (s : State) → IsBelow (length s.variables) l → Post IsItem (length s.variables) (term_behind at l o s)
term_behind_keeps at l None s h = by (is_some (relation (token_of s.tokens)))
  where
    by : (b : Bool) → Post IsItem (length s.variables) (if b then stop_at at kind.NotLinear s else unexpected s)
    by true = Post_err IsItem _ _
    by false = Post_err IsItem _ _
term_behind_keeps at l (Some are_equal) s h = equation_behind_keeps l are_equal s h

equation_keeps : (s : State) → Post IsItem (length s.variables) (equation s)
equation_keeps s =
    Post_then IsBelow IsItem _ _ _ (term_keeps DEPTH_LIMIT s) (λ l t le h. term_behind_keeps (place_of s.tokens) l (equation_sign (token_of t.tokens)) t h)

-- ---- items that begin with a name, or with `-` and a name

name_behind_keeps : (at : ℕ) (text : List ℕ) (f : ℕ) (ts : Tms) (o : Option Bool) (s : State) → AreBelow (length s.variables) ts → Post IsItem (length s.variables) (name_behind at text f ts o s)
name_behind_keeps at text f ts None s h = by (is_some (relation (token_of s.tokens)))
  where
    by : (b : Bool) → Post IsItem (length s.variables) ((if b then stop_at at kind.NotLinear else (checked_atom at false text f ts >>= (λ a. give (call_of true a)))) s)
    by true = Post_err IsItem _ _
    by false = Post_then IsAtom IsItem _ _ _ (checked_atom_keeps at false text f ts s h) (λ a t le k. Post_ok IsItem _ (call_of true a) t (le_self _) k)
name_behind_keeps at text f ts (Some are_equal) s h = equation_behind_keeps (app f ts) are_equal s h

named_item_keeps : (at : ℕ) (text : List ℕ) (s : State) → Post IsItem (length s.variables) (named_item at text s)
named_item_keeps at text s =
    Post_then (AllOf IsBelow) IsItem _ _ _ (arguments_keeps (below term DEPTH_LIMIT) (below_keeps DEPTH_LIMIT) (record (behind s) { names = with_text s.names text }))
    (λ ts t le all. name_behind_keeps at text _ (listed ts) (equation_sign (token_of t.tokens)) t (listed-below _ ts all))

literal_keeps : (at : ℕ) (positive : Bool) (s : State) → Post IsItem (length s.variables) (literal at positive s)
literal_keeps at positive s =
    Post_then IsAtom IsItem _ _ _ (atom_keeps s) (λ a t le h. by (positive && is_some (relation (token_of t.tokens))) a t h)
  where
    by : (b : Bool) (a : Atom) (t : State) → IsAtom (length t.variables) a → Post IsItem (length t.variables) ((if b then stop_at at kind.NotLinear else give (call_of positive a)) t)
    by true a t h = Post_err IsItem _ _
    by false a t h = Post_ok IsItem _ (call_of positive a) t (le_self _) h

-- ---- comparisons

-- the row's variables are among these, and it is in normal form
abbrev IsRow : List ℕ → Linear → Type 0
IsRow xs row = Coeffs (λ x. Contains xs x) row.coeffs × (is_normal row ≡ true)

abbrev IsSomeRow : List ℕ → Option Linear → Type 0
IsSomeRow xs None = Unit {0}
IsSomeRow xs (Some row) = IsRow xs row

row_of-IsRow : (xs : List ℕ) (op : Op) (a b : Sum) → Pairs (λ x. Contains xs x) a.pairs → Pairs (λ x. Contains xs x) b.pairs → IsSomeRow xs (row_of op a b)
row_of-IsRow xs op a b h k = by (row_of op a b) refl
  where
    normal : (row : Linear) → row_of op a b ≡ Some row → is_normal row ≡ true
    normal row e = step (difference_of a.constant b.constant) e
      where
        step : (c : Option Number) → option_and_then (λ constant. normal_of (a.pairs ++ negated_pairs b.pairs) constant op) c ≡ Some row → is_normal row ≡ true
        step None e = cc
        step (Some c) e = (normal-decided row).1 (normal_of-IsNormal (a.pairs ++ negated_pairs b.pairs) c op row (sym e))

    by : (o : Option Linear) → row_of op a b ≡ o → IsSomeRow xs o
    by None e = tt
    by (Some row) e = (row_of-Coeffs (λ x. Contains xs x) op a b row h k e, normal row e)

zero-IsRow : (xs : List ℕ) → IsRow xs (some_row None)
unfolding gcd gcd_within
zero-IsRow xs = (tt, refl)

some_row-IsRow : (xs : List ℕ) (o : Option Linear) → IsSomeRow xs o → IsRow xs (some_row o)
some_row-IsRow xs None h = zero-IsRow xs
some_row-IsRow xs (Some row) h = h

linear-IsItem : (n : ℕ) (xs : List ℕ) (o : Option Linear) → Ascending xs → Each (λ x. x < n) xs → IsSomeRow xs o → IsItem n (linear_of xs o)
linear-IsItem n xs o asc low h =
    let r = some_row o in
    let row = some_row-IsRow xs o h in
    let among = list_all (λ (k : Coeff). list_any (nat_eq k.x) xs) r.coeffs in
    let member : among ≡ true =
    test_from-Each (λ (k : Coeff). list_any (nat_eq k.x) xs) (λ (k : Coeff). Contains xs k.x) (λ k c. list_any-from (nat_eq k.x) xs k.x c (eq-eqb k.x k.x refl)) r.coeffs row.0 in
    and_from ((ascends xs && among) && list_all (λ x. nat_lt x n) xs) (is_normal r)
    (and_from (ascends xs && among) (list_all (λ x. nat_lt x n) xs)
    (and_from (ascends xs) among (ascends-from xs asc) member)
    (test_from-Each (λ x. nat_lt x n) (λ x. x < n) (λ x k. lt-ltb x n k) xs low))
    row.1

row_between_keeps : (r : Relation) (at : ℕ) (n m : ℕ) (e f : Value) → IsValue n e → IsValue m f → (s : State)
    → Post (λ k o. IsSomeRow (united e.variables f.variables) o) (length s.variables) (row_between r at e.sum f.sum s)
row_between_keeps r at n m e f h k s = by r.is_turned
  where
    by : (b : Bool) → Post (λ k o. IsSomeRow (united e.variables f.variables) o) (length s.variables) ((if b then made_at (row_of r.op) at f.sum e.sum else made_at (row_of r.op) at e.sum f.sum) s)
    by true =
        made_at_keeps (IsSomeRow (united e.variables f.variables)) tt (row_of r.op) at f.sum e.sum
        (λ x y p q. let both = both-Pairs n m e f h k y x q p in row_of-IsRow (united e.variables f.variables) r.op x y both.1 both.0) s
    by false =
        made_at_keeps (IsSomeRow (united e.variables f.variables)) tt (row_of r.op) at e.sum f.sum
        (λ x y p q. let both = both-Pairs n m e f h k x y p q in row_of-IsRow (united e.variables f.variables) r.op x y both.0 both.1) s

relation_behind_keeps : (e : Value) (at : ℕ) (o : Option Relation) (s : State) → IsValue (length s.variables) e → Post IsItem (length s.variables) (relation_behind e at o s)
relation_behind_keeps e at None s h = Post_err IsItem _ _
relation_behind_keeps e at (Some r) s h =
    Post_then IsValue IsItem _ _ _ (expression_keeps DEPTH_LIMIT (behind s))
    (λ f t le k. Post_then (λ n o. IsSomeRow (united e.variables f.variables) o) IsItem _ _ _ (row_between_keeps r at _ _ e f h k t)
    (λ o u le2 row.
    let he = IsValue-lasts _ _ le2 e (IsValue-lasts _ _ le e h) in
    let hf = IsValue-lasts _ _ le2 f k in
    Post_ok IsItem _ (linear_of (united e.variables f.variables) o) u (le_self _)
    (linear-IsItem _ (united e.variables f.variables) o (united-Ascending e.variables f.variables he.ascending) (united-Each (λ x. x < length u.variables) e.variables f.variables he.below hf.below) row)))

comparison_keeps : (s : State) → Post IsItem (length s.variables) (comparison s)
comparison_keeps s =
    Post_then IsValue IsItem _ _ _ (expression_keeps DEPTH_LIMIT s) (λ e t le h. relation_behind_keeps e (place_of t.tokens) (relation (token_of t.tokens)) t h)

-- ---- items and bodies

unnamed_item_keeps : (at : ℕ) (s : State) → Post IsItem (length s.variables) (unnamed_item at s)
unnamed_item_keeps at s = by (begins_negation s.tokens) (begins_equation s.tokens)
  where
    by : (b c : Bool) → Post IsItem (length s.variables) (if b then literal at true s else (if c then equation s else comparison s))
    by true c = literal_keeps at true s
    by false true = equation_keeps s
    by false false = comparison_keeps s

pub item_keeps : (s : State) → Post IsItem (length s.variables) (item s)
unfolding item
item_keeps s = by (place_of s.tokens) (token_of s.tokens)
  where
    sign_by : (at : ℕ) (g : Sign) → Post IsItem (length s.variables) (item_at_sign at g s)
    sign_by at sign.Minus = unnamed_item_keeps at s
    sign_by at sign.Open = unnamed_item_keeps at s
    sign_by at sign.OpenList = equation_keeps s
    sign_by at g = Post_err IsItem _ _

    by : (at : ℕ) (o : Option Token) → Post IsItem (length s.variables) (item_at at o s)
    by at (Some token.Not) = literal_keeps at false (behind s)
    by at (Some (token.Name text)) = named_item_keeps at text s
    by at (Some (token.Variable text)) = unnamed_item_keeps at s
    by at (Some (token.Number q)) = unnamed_item_keeps at s
    by at (Some (token.Sign g)) = sign_by at g
    by at o = Post_err IsItem _ _

below-more : (n m : ℕ) → n ≤ m → (xs : List ℕ) → list_all (λ x. nat_lt x n) xs ≡ true → list_all (λ x. nat_lt x m) xs ≡ true
below-more n m le xs h =
    test_from-Each (λ x. nat_lt x m) (λ x. x < n) (λ x k. lt-ltb x m (omega arith)) xs (Each-from_test (λ x. nat_lt x n) (λ x. x < n) (λ x k. ltb-true x n k) xs h)

pub IsItem-lasts : Lasts IsItem
IsItem-lasts n m le (form.Call l) h = AreBelow-lasts n m le l.atom.args h
IsItem-lasts n m le (form.Equal t u) h =
    let p = and_parts (is_below n (tm_of t)) (is_below n (tm_of u)) h in
    and_from (is_below m (tm_of t)) (is_below m (tm_of u)) (IsBelow-lasts n m le (tm_of t) p.0) (IsBelow-lasts n m le (tm_of u) p.1)
IsItem-lasts n m le (form.Differ t u) h =
    let p = and_parts (is_below n (tm_of t)) (is_below n (tm_of u)) h in
    and_from (is_below m (tm_of t)) (is_below m (tm_of u)) (IsBelow-lasts n m le (tm_of t) p.0) (IsBelow-lasts n m le (tm_of u) p.1)
IsItem-lasts n m le (form.Linear l) h =
    let p = and_parts (lists_variables l && list_all (λ x. nat_lt x n) l.vars) (is_normal l.row) h in
    let q = and_parts (lists_variables l) (list_all (λ x. nat_lt x n) l.vars) p.0 in
    and_from (lists_variables l && list_all (λ x. nat_lt x m) l.vars) (is_normal l.row) (and_from (lists_variables l) (list_all (λ x. nat_lt x m) l.vars) q.0 (below-more n m le l.vars q.1)) p.1

pub body_keeps : (s : State) → Post (AllOf IsItem) (length s.variables) (body s)
unfolding body
body_keeps s =
    series_keeps IsItem IsItem-lasts counted_item
    (λ before t. Post_then IsItem IsItem _ _ _ (item_keeps t)
    (λ i u le h. Post_then Any IsItem _ _ _ (note_if_keeps u _ _ _) (λ v w le2 x. Post_ok IsItem _ i w (le_self _) (IsItem-lasts _ _ le2 i h)))) (length s.tokens) [] s tt
