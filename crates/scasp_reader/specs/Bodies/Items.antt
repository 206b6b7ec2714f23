-- Items of bodies.
--     item := ["not"] atom | term ("=" | "\=") term | expression relation expression
-- An item that begins with a name is an atom, unless `=` or `\=` follows its term. One that begins with a variable or
-- a number is an equation where one of these two follows the term, and else a comparison.
use Rattle.std.specs.Prelude.{ℕ, ◌+◌, Bool, true, false, ◌&&◌, ◌||◌, pos, List, [], slice_get, if◌then◌else◌, Option, None, Some, option_map, is_some}
use Rattle.scasp_num.specs.declared.linear.Op.TheVariants as op
use Rattle.scasp_num.specs.Linear.{Linear}
use Rattle.scasp_syntax.specs.Tm.{Tm, Tms, var, num, app, listed}
use Rattle.scasp_syntax.specs.declared.atom.Atom.{Atom}
use Rattle.scasp_syntax.specs.declared.clause.Item.{Item}
use Rattle.scasp_syntax.specs.declared.clause.Item.TheVariants as form
use Rattle.scasp_syntax.specs.declared.term.Term.{Term}
use Rattle.scasp_syntax.specs.declared.term.Term.TheVariants.{Var, Num, App}
use Rattle.scasp_reader_tokens.specs.declared.sign.Sign.{Sign}
use Rattle.scasp_reader_tokens.specs.declared.sign.Sign.TheVariants as sign
use Rattle.scasp_reader_tokens.specs.declared.token.Token.{Token}
use Rattle.scasp_reader_tokens.specs.declared.token.Token.TheVariants as token
use Rattle.scasp_reader_tokens.specs.declared.token.Placed.{Placed}
use Rattle.scasp_reader_terms.specs.declared.fault.Kind.TheVariants as kind
use Rattle.scasp_reader_terms.specs.Steps.{Read, ◌>>=◌, give, get, stop_at, place_of, token_of, unexpected, take, is_sign}
use Rattle.scasp_reader_terms.specs.Names.{interned}
use Rattle.scasp_reader_terms.specs.Terms.{arguments, term, below}
use Rattle.scasp_reader_expressions.specs.declared.sums.Sum.{Sum}
use Rattle.scasp_reader_expressions.specs.declared.values.Value.{Value}
use Rattle.scasp_reader_expressions.specs.Sums.{row_of}
use Rattle.scasp_reader_expressions.specs.Values.{united, made_at}
use Rattle.scasp_reader_expressions.specs.Expressions.{expression}
use Rattle.scasp_reader.specs.declared.bodies.atoms.TheConstants.{DEPTH_LIMIT}
use Rattle.scasp_reader.specs.declared.bodies.comparisons.Relation.{Relation}
use Rattle.scasp_reader.specs.Bodies.Atoms.{atom, checked_atom}

-- ---- what an item is made of

-- a term as the code has it
abbrev pub term_of : Tm → Term
term_of (var x) = Var x
term_of (num q) = Num q
term_of (app f ts) = App f ts

abbrev pub call_of : Bool → Atom → Item
call_of positive a = form.Call (record { positive = positive; atom = a })

abbrev pub equation_of : Bool → Tm → Tm → Item
equation_of are_equal l r = if are_equal then form.Equal (term_of l) (term_of r) else form.Differ (term_of l) (term_of r)

-- the row, or any where a fault was noted
abbrev pub some_row : Option Linear → Linear
some_row (Some row) = row
some_row None = record { coeffs = []; constant = pos 0; op = op.Eq }

abbrev pub linear_of : List ℕ → Option Linear → Item
linear_of xs row = form.Linear (record { vars = xs; row = some_row row })

-- ---- signs between two sides

-- whether the sides are equal: `=`, or `\=`
abbrev pub equation_sign_of : Sign → Option Bool
equation_sign_of sign.Equal = Some true
equation_sign_of sign.Differ = Some false
equation_sign_of s = None

abbrev pub equation_sign : Option Token → Option Bool
equation_sign (Some (token.Sign s)) = equation_sign_of s
equation_sign t = None

abbrev pub relation_of : Sign → Option Relation
relation_of (sign.Relation o is_turned) = Some (record { op = o; is_turned = is_turned })
relation_of s = None

abbrev pub relation : Option Token → Option Relation
relation (Some (token.Sign s)) = relation_of s
relation t = None

-- ---- equations

-- what stands behind the left side, whose sign is next
abbrev pub equation_behind : Tm → Bool → Read Item
equation_behind l are_equal = do
  t ← take
  r ← term DEPTH_LIMIT
  give (equation_of are_equal l r)

-- a term that began at this place is no side of a relation, and here must be one of an equation
abbrev pub no_equation : ℕ → Read Item
no_equation at s = if is_some (relation (token_of s.tokens)) then stop_at at kind.NotLinear s else unexpected s

abbrev pub term_behind : ℕ → Tm → Option Bool → Read Item
term_behind at l None = no_equation at
term_behind at l (Some are_equal) = equation_behind l are_equal

abbrev pub equation : Read Item
equation = do
  at ← get (λ s. place_of s.tokens)
  l ← term DEPTH_LIMIT
  λ s. term_behind at l (equation_sign (token_of s.tokens)) s

-- ---- items that begin with a name, or with `-` and a name

-- the atom that begins at this place, which is no side of a relation
abbrev pub call_behind : ℕ → List ℕ → ℕ → Tms → Read Item
call_behind at text f ts = do
  r ← get (λ s. is_some (relation (token_of s.tokens)))
  if r then stop_at at kind.NotLinear else (checked_atom at false text f ts >>= (λ a. give (call_of true a)))

abbrev pub name_behind : ℕ → List ℕ → ℕ → Tms → Option Bool → Read Item
name_behind at text f ts None = call_behind at text f ts
name_behind at text f ts (Some are_equal) = equation_behind (app f ts) are_equal

abbrev pub named_item : ℕ → List ℕ → Read Item
named_item at text = do
  t ← take
  f ← interned text
  ts ← arguments (below term DEPTH_LIMIT)
  λ s. name_behind at text f (listed ts) (equation_sign (token_of s.tokens)) s

-- an atom with its sign, which is no side of a relation
abbrev pub literal : ℕ → Bool → Read Item
literal at positive = do
  a ← atom
  r ← get (λ s. is_some (relation (token_of s.tokens)))
  if positive && r then stop_at at kind.NotLinear else give (call_of positive a)

abbrev pub negative_item : ℕ → Read Item
negative_item at = do
  t ← take
  literal at false

-- ---- comparisons

-- the row between two sides, by the relation at this place
abbrev pub row_between : Relation → ℕ → Option Sum → Option Sum → Read (Option Linear)
row_between r at a b = if r.is_turned then made_at (row_of r.op) at b a else made_at (row_of r.op) at a b

-- the right side, where the relation at this place is next
abbrev pub right_side : Value → ℕ → Relation → Read Item
right_side e at r = do
  t ← take
  f ← expression DEPTH_LIMIT
  row ← row_between r at e.sum f.sum
  give (linear_of (united e.variables f.variables) row)

abbrev pub relation_behind : Value → ℕ → Option Relation → Read Item
relation_behind e at None = unexpected
relation_behind e at (Some r) = right_side e at r

abbrev pub comparison : Read Item
comparison = do
  e ← expression DEPTH_LIMIT
  λ s. relation_behind e (place_of s.tokens) (relation (token_of s.tokens)) s

-- ---- what the next tokens begin

abbrev pub nth_token : List Placed → ℕ → Option Token
nth_token tokens n = option_map (λ t. t.token) (slice_get tokens n)

abbrev pub is_number : Option Token → Bool
is_number (Some (token.Number q)) = true
is_number t = false

abbrev pub is_variable : Option Token → Bool
is_variable (Some (token.Variable text)) = true
is_variable t = false

abbrev pub is_name : Option Token → Bool
is_name (Some (token.Name text)) = true
is_name t = false

abbrev pub is_equation_at : List Placed → ℕ → Bool
is_equation_at tokens n = is_some (equation_sign (nth_token tokens n))

-- from the n-th token on: number ["/" number], and a sign of equations
abbrev pub is_number_equation : List Placed → ℕ → Bool
is_number_equation tokens n =
    is_number (nth_token tokens n)
    && (is_equation_at tokens (n + 1) || (is_sign sign.Over (nth_token tokens (n + 1)) && is_number (nth_token tokens (n + 2)) && is_equation_at tokens (n + 3)))

-- a variable or a number as a term, and a sign of equations
abbrev pub begins_equation : List Placed → Bool
begins_equation tokens =
    (is_variable (nth_token tokens 0) && is_equation_at tokens 1) || is_number_equation tokens 0
    || (is_sign sign.Minus (nth_token tokens 0) && is_number_equation tokens 1)

abbrev pub begins_negation : List Placed → Bool
begins_negation tokens = is_sign sign.Minus (nth_token tokens 0) && is_name (nth_token tokens 1)

-- an item that begins with a variable, a number, `-` or `(`
abbrev pub unnamed_item : ℕ → Read Item
unnamed_item at s =
    if begins_negation s.tokens then literal at true s
    else (if begins_equation s.tokens then equation s else comparison s)

abbrev pub item_at_sign : ℕ → Sign → Read Item
item_at_sign at sign.Minus = unnamed_item at
item_at_sign at sign.Open = unnamed_item at
item_at_sign at sign.OpenList = equation
item_at_sign at s = unexpected

abbrev pub item_at : ℕ → Option Token → Read Item
item_at at (Some token.Not) = negative_item at
item_at at (Some (token.Name text)) = named_item at text
item_at at (Some (token.Variable text)) = unnamed_item at
item_at at (Some (token.Number q)) = unnamed_item at
item_at at (Some (token.Sign s)) = item_at_sign at s
item_at at t = unexpected

unfoldable pub item : Read Item
item s = item_at (place_of s.tokens) (token_of s.tokens) s
