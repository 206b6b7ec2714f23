use Rattle.std.proofs.Common.{◌≡◌, ◌-◌, [], ◌∷◌, List, map, length, Some, None, Ok, Err, sym, ap, ◌∙◌, arith}
use Rattle.std.proofs.lemmas.List.{map-append, length-map}
use Rattle.scasp_reader_tokens.specs.declared.token.Token.TheVariants as token
use Rattle.scasp_syntax.specs.View.{tm_of}
use Rattle.scasp_reader_terms.specs.Steps.{Read, token_of, place_of, series}
use Rattle.scasp_reader_terms.specs.Terms.{one_more, term, variable_term, compound, term_at_sign, below}
use Rattle.scasp_reader_terms.specs.Constants.{constant}
use Rattle.scasp_syntax.specs.Tm.{Tm}
use Rattle.scasp_reader_terms.proofs.TermLemmas.{Does_same, term_variable, term_name, term_number, term_sign, term_none, term_other, series_last, series_more}
use Rattle.scasp_reader_terms.proofs.reader.Reader.+term.Goals as goal

pub several-returns-then-not-taken : goal.several-returns-then-not-taken
several-returns-then-not-taken t c =
    let one : List Tm → Read Tm = λ before. one_more c.args.are_arguments (length before) (term c.args.room) in
    let items = c.loop-left.terms.items in
    let x = c.in_ok-term.term in
    let s2 = c.taken.new.self in
    let count : length (map tm_of items) ≡ c.len.result = omega (arith, length-map items tm_of) in
    let is_one = ap (λ n. one_more c.args.are_arguments n (term c.args.room) c.loop-left.self) count ∙ c.in_ok-term.ensures in
    sym c.loop-left.invariant
    ∙ series_last one c.loop-left.left (map tm_of items) c.loop-left-test.true c.loop-left.self c.one_more.new.self s2 (tm_of x) is_one (c.taken.ensures ∙ ap (λ b. Ok (b, s2)) c.if-not-taken.true)
    ∙ ap (λ ts. Ok (ts, s2)) (sym (map-append tm_of items (x ∷ [])) ∙ ap (map tm_of) (sym c.in_ok-push.ensures.items))

pub several-loop-left-preserved : goal.several-loop-left-preserved
several-loop-left-preserved t c =
    let one : List Tm → Read Tm = λ before. one_more c.args.are_arguments (length before) (term c.args.room) in
    let items = c.loop-left.terms.items in
    let x = c.in_ok-term.term in
    let s2 = c.taken.new.self in
    let left = c.loop-left.left in
    let count : length (map tm_of items) ≡ c.len.result = omega (arith, length-map items tm_of) in
    let is_one = ap (λ n. one_more c.args.are_arguments n (term c.args.room) c.loop-left.self) count ∙ c.in_ok-term.ensures in
    ap (λ ts. series one (left - 1) ts s2) (ap (map tm_of) c.in_ok-push.ensures.items ∙ map-append tm_of items (x ∷ []))
    ∙ sym (series_more one left (map tm_of items) c.loop-left-test.true c.loop-left.self c.one_more.new.self s2 (tm_of x) is_one (c.taken.ensures ∙ ap (λ b. Ok (b, s2)) c.if-not-taken.false))
    ∙ c.loop-left.invariant

pub term-returns-in-Variable : goal.term-returns-in-Variable
term-returns-in-Variable t c =
    let s = c.args.self.now in
    let text = c.as_str.result.now in
    let tok : token_of s.tokens ≡ Some (token.Variable text) = cc (c.in-Some.ensures, c.as_str.ensures) in
    Does_same tm_of (term c.args.room) (variable_term (place_of s.tokens) text) s _ _ (term_variable c.args.room s text tok) c.variable_term.ensures

pub term-returns-in-Name : goal.term-returns-in-Name
term-returns-in-Name t c =
    let s = c.args.self.now in
    let text = c.as_str-in-Name.result.now in
    let tok : token_of s.tokens ≡ Some (token.Name text) = cc (c.in-Some.ensures, c.as_str-in-Name.ensures) in
    Does_same tm_of (term c.args.room) (compound (below term c.args.room) text) s _ _ (term_name c.args.room s text tok) c.compound.ensures

pub term-returns-in-Number : goal.term-returns-in-Number
term-returns-in-Number t c =
    let s = c.args.self.now in
    let q = c.in-Number.field-0 in
    let tok : token_of s.tokens ≡ Some (token.Number q) = cc (c.in-Some.ensures) in
    Does_same tm_of (term c.args.room) constant s _ _ (term_number c.args.room s q tok) c.constant.ensures

pub term-returns-in-Sign : goal.term-returns-in-Sign
term-returns-in-Sign t c =
    let s = c.args.self.now in
    let g = c.in-Sign.sign in
    let tok : token_of s.tokens ≡ Some (token.Sign g) = cc (c.in-Some.ensures) in
    Does_same tm_of (term c.args.room) (term_at_sign (below term c.args.room) g) s _ _ (term_sign c.args.room s g tok) c.term_at_sign.ensures

pub term-returns-in_default : goal.term-returns-in_default
term-returns-in_default t c =
    let s = c.args.self.now in
    let tok : token_of s.tokens ≡ None = cc in
    term_none c.args.room s tok ∙ ap (λ f. Err f) (sym c.unexpected.ensures)

pub term-returns-in-Not : goal.term-returns-in-Not
term-returns-in-Not t c =
    term_other c.args.room c.args.self.now c.in-Some.token.now (sym c.in-Some.ensures) c.in-Not.is ∙ ap (λ f. Err f) (sym c.unexpected-in-Not.ensures)
