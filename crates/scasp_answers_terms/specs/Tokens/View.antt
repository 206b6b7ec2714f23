-- The tokens that the code has, as values.
use Rattle.std.specs.Prelude.{◌≡◌, ◌≢◌, ◌==◌, ◌||◌, ℕ, Bool, true, false, List, [], ◌∷◌, Option, None, Some, Result, Ok, Err}
use Rattle.std.specs.List.{filter}
use Rattle.scasp_reader_tokens.specs.Bytes.{is_lower}
use Rattle.scasp_reader_tokens.specs.Quoted.{text_of}
use Rattle.scasp_answers_terms.specs.declared.tokens.token.Token.{Token as ThisToken}
use Rattle.scasp_answers_terms.specs.declared.tokens.token.Token.TheVariants as this
use Rattle.scasp_answers_terms.specs.declared.tokens.token.Front.{Front as ThisFront}
use Rattle.scasp_answers_terms.specs.declared.tokens.stop.Stop.{Stop}
use Rattle.scasp_answers_terms.specs.declared.tokens.stop.Stop.TheVariants.{NoForm, Memory}
use Rattle.scasp_answers_terms.specs.Tokens.Readers.{Parsed}
use Rattle.scasp_answers_terms.specs.Tokens.Tokens.{Token, word, quoted, variable, digits, fraction, minus, plus, star, comma, bar, paren, close, bracket, unbracket, sign, bad, Front, front}

abbrev pub token_of : ThisToken → Token
token_of (this.Word text) = word text.now
token_of (this.Quoted bytes) = quoted (text_of bytes.now)
token_of (this.Variable x) = variable x
token_of (this.Digits n) = digits n
token_of (this.Fraction n d) = fraction n d
token_of this.Minus = minus
token_of this.Plus = plus
token_of this.Star = star
token_of this.Comma = comma
token_of this.Bar = bar
token_of this.Paren = paren
token_of this.Close = close
token_of this.Bracket = bracket
token_of this.Unbracket = unbracket
token_of (this.Sign b) = sign b
token_of this.Bad = bad

abbrev pub front_of : ThisFront → Front
front_of f = front (token_of f.token) f.more

-- ---- the tokens that are left

abbrev pub first_token : List Token → Option Token
first_token [] = None
first_token (t ∷ ts) = Some t

-- a word or a quoted text, which may be a name
abbrev pub is_text : Token → Bool
is_text (word w) = true
is_text (quoted q) = true
is_text (variable x) = false
is_text (digits n) = false
is_text (fraction n d) = false
is_text minus = false
is_text plus = false
is_text star = false
is_text comma = false
is_text bar = false
is_text paren = false
is_text close = false
is_text bracket = false
is_text unbracket = false
is_text (sign b) = false
is_text bad = false

abbrev pub texts_of : List Token → List Token
texts_of ts = filter is_text ts

-- no text begins with any other byte
abbrev pub begins_text : ℕ → Bool
begins_text b = is_lower b || (b == 39)

abbrev pub is_over : List Token → Bool
is_over [] = true
is_over (t ∷ ts) = false

-- the token was next, and these stand behind it; or it was not, and none is taken
abbrev pub Shifts : Bool → Token → List Token → List Token → Type 0
Shifts true t old new = old ≡ t ∷ new
Shifts false t old new = (first_token old ≢ Some t) × (new ≡ old)

-- the tokens were next, and these stand behind them; or they were not
abbrev pub Passes : Bool → Option (List Token) → List Token → Type 0
Passes true behind ts = behind ≡ Some ts
Passes false behind ts = behind ≡ None

-- The code answers what is read, as values, with these tokens behind it; or it answers that nothing is. Want of memory is free.
abbrev pub Reads : {A B : Type 0} → (B → A) → Parsed A → Result B Stop → List Token → Type 0
Reads view read (Ok x) ts = read ≡ Some (view x, ts)
Reads view read (Err NoForm) ts = read ≡ None
Reads view read (Err Memory) ts = Unit {0}

-- The same of a text: these tokens stand behind it, or it is not there.
abbrev pub Takes : {B : Type 0} → Option (List Token) → Result B Stop → List Token → Type 0
Takes behind (Ok done) ts = behind ≡ Some ts
Takes behind (Err NoForm) ts = behind ≡ None
Takes behind (Err Memory) ts = Unit {0}
