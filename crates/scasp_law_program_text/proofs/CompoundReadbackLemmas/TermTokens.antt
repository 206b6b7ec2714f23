-- What ends the terms in a text, and how many tokens a term has at least.
use Rattle.std.proofs.Common.{◌≡◌, ℕ, ◌-◌, Bool, true, false, ◌&&◌, ◌==◌, nat_lt, List, [], ◌∷◌, ◌++◌, length, codes, refl, ap, subst, ◌∙◌, arith, append_assoc}
use Rattle.std.specs.Prelude.{if◌then◌else◌, nat_le}
use Rattle.std.proofs.lemmas.Bool.{and_parts}
use borrow.Author.Tests.{eqb-true}
use Rattle.scasp_syntax.specs.Tm.{Tm, Tms, var, num, app, nil, cons, items}
use Rattle.scasp_cert.specs.Text.Names.{text_at, name_text}
use Rattle.scasp_cert.specs.Text.Terms.{number_text, is_pair, called_text}
use Rattle.scasp_reader_tokens.specs.declared.sign.Sign.TheVariants as sign
use Rattle.scasp_reader_terms.specs.declared.terms.TheConstants.{ARITY_LIMIT}
use Rattle.scasp_print_program.specs.Terms.{Style, variable_text, constant_text, term_text, tail_text, terms_text, pair_text}
use Rattle.scasp_law_program_text.proofs.ReadbackLemmas.SignReading.{open_read, close_read, open_list_read, close_list_read, comma_read, bar_read}
use Rattle.scasp_law_program_text.specs.TermReadback.Reading.{EndsTerm}
use Rattle.scasp_law_program_text.proofs.TermReadbackLemmas.Ends.{comma_ends, closing_ends, closing_list_ends, bar_ends}
use Rattle.scasp_law_program_text.specs.CompoundReadback.Styles.{IsStyle}
use Rattle.scasp_law_program_text.specs.CompoundReadback.Fitting.{fits, tail_fits, all_fit, pair_fits, tails_fit, call_fits}
use Rattle.scasp_law_program_text.proofs.CompoundReadbackLemmas.Tables.{name-utf8, list-name, variable-is}
use Rattle.scasp_law_program_text.proofs.CompoundReadbackLemmas.Tokens.{Has, has-append, has-fewer, has-none, sign-has, name-has, variable-has, number-has}

-- ---- parts of a premise

pub record CallFits (w : Style) (room f : ℕ) (t : Tm) (ts : Tms) : Type 0 where
  pub named : nat_lt f (length w.names) ≡ true
  pub opens : nat_lt 0 room ≡ true
  pub within : nat_le (length (items (cons t ts))) ARITY_LIMIT ≡ true
  pub first : fits w (room - 1) t ≡ true
  pub others : all_fit w (room - 1) ts ≡ true

pub call-parts : (w : Style) (room f : ℕ) (t : Tm) (ts : Tms) → nat_lt f (length w.names) ≡ true → call_fits room (cons t ts) (all_fit w (room - 1) (cons t ts)) ≡ true → CallFits w room f t ts
call-parts w room f t ts named h =
    let limit = nat_le (length (items (cons t ts))) ARITY_LIMIT in
    let p = and_parts (nat_lt 0 room && limit) (all_fit w (room - 1) (cons t ts)) h in
    let q = and_parts (nat_lt 0 room) limit p.0 in
    let r = and_parts (fits w (room - 1) t) (all_fit w (room - 1) ts) p.1 in
    record { named = named; opens = q.0; within = q.1; first = r.0; others = r.1 }

-- name 1 with two arguments
pub record IsPair (f : ℕ) (ts : Tms) : Type 0 where
  pub name : f ≡ 1
  pub one : length (items ts) ≡ 1

pub pair-parts : (f : ℕ) (t : Tm) (ts : Tms) → is_pair f (cons t ts) ≡ true → IsPair f ts
pair-parts f t ts e =
    let p = and_parts (f == 1) (length (items (cons t ts)) == 2) e in
    let two : length (items (cons t ts)) ≡ 2 = eqb-true (length (items (cons t ts))) 2 p.1 in
    record { name = eqb-true f 1 p.0; one = omega (arith, two) }

-- ---- what stands behind a term

module _ (w : Style) where
  pub rest-ends : (room : ℕ) (ts : Tms) (rest : List ℕ) → EndsTerm rest → EndsTerm (terms_text w room false ts ++ rest)
  rest-ends room nil rest end = end
  rest-ends room (cons t ts) rest end = comma_ends ((term_text w room t ++ terms_text w room false ts) ++ rest)

  tail-ends : (room : ℕ) (t : Tm) (rest : List ℕ) → EndsTerm rest → EndsTerm (tail_text w room t ++ rest)
  tail-ends room (var x) rest end = bar_ends (variable_text w x ++ rest)
  tail-ends room (num q) rest end = bar_ends (number_text q ++ rest)
  tail-ends room (app f nil) rest end = by (f == 0)
    where
      by : (b : Bool) → EndsTerm ((if b then [] else codes "|" ++ name_text w.names f) ++ rest)
      by true = end
      by false = bar_ends (name_text w.names f ++ rest)
  tail-ends room (app f (cons t ts)) rest end = by (is_pair f (cons t ts))
    where
      elements : List ℕ
      elements = pair_text w room true (cons t ts)

      called : List ℕ
      called = called_text w.names f (cons t ts) (terms_text w (room - 1) true (cons t ts))

      by : (b : Bool) → EndsTerm ((if b then codes "," ++ elements else codes "|" ++ called) ++ rest)
      by true = comma_ends (elements ++ rest)
      by false = bar_ends (called ++ rest)

  pub second-ends : (room : ℕ) (ts : Tms) (rest : List ℕ) → EndsTerm rest → EndsTerm (pair_text w room false ts ++ rest)
  second-ends room nil rest end = end
  second-ends room (cons t ts) rest end =
      rw (append_assoc (tail_text w room t) (pair_text w room false ts) rest) (tail-ends room t (pair_text w room false ts ++ rest) (second-ends room ts rest end))

-- ---- tokens

module _ (w : Style) (style : IsStyle w) where
  abbrev HasTerm : Tm → Type 0
  HasTerm t = (room : ℕ) → fits w room t ≡ true → (rest : List ℕ) → EndsTerm rest → Has 1 (term_text w room t) rest

  abbrev HasTail : Tm → Type 0
  HasTail t = (room : ℕ) → tail_fits w room t ≡ true → (rest : List ℕ) → EndsTerm rest → Has 0 (tail_text w room t) rest

  abbrev HasRest : Tms → Type 0
  HasRest ts = (room : ℕ) → all_fit w room ts ≡ true → (rest : List ℕ) → EndsTerm rest → Has 0 (terms_text w room false ts) rest

  abbrev HasSecond : Tms → Type 0
  HasSecond ts = (room : ℕ) → tails_fit w room ts ≡ true → (rest : List ℕ) → EndsTerm rest → Has 0 (pair_text w room false ts) rest

  -- behind a bar
  barred : (text rest : List ℕ) → Has 1 text rest → Has 0 (codes "|" ++ text) rest
  barred text rest h = has-fewer 0 2 (codes "|" ++ text) rest (omega arith) (has-append 1 1 (codes "|") text rest (sign-has (codes "|") sign.Bar bar_read (text ++ rest)) h)

  named : (f : ℕ) (rest : List ℕ) → nat_lt f (length w.names) ≡ true → EndsTerm rest → Has 1 (name_text w.names f) rest
  named f rest h end = name-has (text_at w.names f) rest (name-utf8 w style f h) end.1.0

  bracketed : (text rest : List ℕ) → Has 0 text (93 ∷ rest) → Has 1 ((codes "[" ++ text) ++ codes "]") rest
  bracketed text rest h =
      has-fewer 1 2 ((codes "[" ++ text) ++ codes "]") rest (omega arith)
      (has-append 1 1 (codes "[" ++ text) (codes "]") rest
      (has-append 1 0 (codes "[") text (93 ∷ rest) (sign-has (codes "[") sign.OpenList open_list_read (text ++ (93 ∷ rest))) h)
      (sign-has (codes "]") sign.CloseList close_list_read rest))

  constant : (room f : ℕ) (rest : List ℕ) → nat_lt f (length w.names) ≡ true → EndsTerm rest → Has 1 (constant_text w room f) rest
  constant room f rest h end = by (f == 0) refl
    where
      empty : (b : Bool) → (f == 0) ≡ true → Has 1 (if b then codes "'[]'" else codes "[]") rest
      empty true e =
          let first : f ≡ 0 = eqb-true f 0 e in
          subst (λ text. Has 1 text rest) (ap (name_text w.names) first ∙ list-name w style) (named f rest h end)
      empty false e = bracketed [] rest (has-none (93 ∷ rest))

      by : (b : Bool) → (f == 0) ≡ b → Has 1 (if b then (if room == 0 then codes "'[]'" else codes "[]") else name_text w.names f) rest
      by true e = empty (room == 0) e
      by false e = named f rest h end

  module _ (f : ℕ) (t : Tm) (ts : Tms) (here : HasTerm t) (more : HasRest ts) (second : HasSecond ts) where
    elements : (room : ℕ) → pair_fits w room (cons t ts) ≡ true → (rest : List ℕ) → EndsTerm rest → Has 1 (pair_text w room true (cons t ts)) rest
    elements room h rest end =
        let p = and_parts (fits w room t) (tails_fit w room ts) h in
        let behind = pair_text w room false ts in
        has-append 1 0 (term_text w room t) behind rest (here room p.0 (behind ++ rest) (second-ends w room ts rest end)) (second room p.1 rest end)

    called : (room : ℕ) → CallFits w room f t ts → (rest : List ℕ) → Has 1 (called_text w.names f (cons t ts) (terms_text w (room - 1) true (cons t ts))) rest
    called room g rest =
        let name = name_text w.names f in
        let first = term_text w (room - 1) t in
        let behind = terms_text w (room - 1) false ts in
        let ending = closing_ends rest in
        has-fewer 1 4 (((name ++ codes "(") ++ (first ++ behind)) ++ codes ")") rest (omega arith)
        (has-append 3 1 ((name ++ codes "(") ++ (first ++ behind)) (codes ")") rest
        (has-append 2 1 (name ++ codes "(") (first ++ behind) (41 ∷ rest)
        (has-append 1 1 name (codes "(") ((first ++ behind) ++ (41 ∷ rest))
        (name-has (text_at w.names f) (40 ∷ ((first ++ behind) ++ (41 ∷ rest))) (name-utf8 w style f g.named) refl)
        (sign-has (codes "(") sign.Open open_read ((first ++ behind) ++ (41 ∷ rest))))
        (has-append 1 0 first behind (41 ∷ rest) (here (room - 1) g.first (behind ++ (41 ∷ rest)) (rest-ends w (room - 1) ts (41 ∷ rest) ending)) (more (room - 1) g.others (41 ∷ rest) ending)))
        (sign-has (codes ")") sign.Close close_read rest))

    pub app-has : HasTerm (app f (cons t ts))
    app-has room h rest end =
        let elems = pair_fits w (room - 1) (cons t ts) in
        let args = call_fits room (cons t ts) (all_fit w (room - 1) (cons t ts)) in
        let g = and_parts (nat_lt f (length w.names)) (if is_pair f (cons t ts) then nat_lt 0 room && elems else args) h in
        by (is_pair f (cons t ts)) g.0 g.1
      where
        by : (b : Bool) → nat_lt f (length w.names) ≡ true
            → (if b then nat_lt 0 room && pair_fits w (room - 1) (cons t ts) else call_fits room (cons t ts) (all_fit w (room - 1) (cons t ts))) ≡ true
            → Has 1 (if b then codes "[" ++ pair_text w (room - 1) true (cons t ts) ++ codes "]" else called_text w.names f (cons t ts) (terms_text w (room - 1) true (cons t ts))) rest
        by true n g =
            let elems = pair_fits w (room - 1) (cons t ts) in
            let p = and_parts (nat_lt 0 room) elems g in
            bracketed (pair_text w (room - 1) true (cons t ts)) rest (has-fewer 0 1 (pair_text w (room - 1) true (cons t ts)) (93 ∷ rest) (omega arith) (elements (room - 1) p.1 (93 ∷ rest) (closing_list_ends rest)))
        by false n g = called room (call-parts w room f t ts n g) rest

    pub app-tail : HasTail (app f (cons t ts))
    app-tail room h rest end =
        let args = call_fits room (cons t ts) (all_fit w (room - 1) (cons t ts)) in
        let g = and_parts (nat_lt f (length w.names)) (if is_pair f (cons t ts) then pair_fits w room (cons t ts) else args) h in
        by (is_pair f (cons t ts)) g.0 g.1
      where
        by : (b : Bool) → nat_lt f (length w.names) ≡ true
            → (if b then pair_fits w room (cons t ts) else call_fits room (cons t ts) (all_fit w (room - 1) (cons t ts))) ≡ true
            → Has 0 (if b then codes "," ++ pair_text w room true (cons t ts) else codes "|" ++ called_text w.names f (cons t ts) (terms_text w (room - 1) true (cons t ts))) rest
        by true n g =
            let elems = pair_text w room true (cons t ts) in
            has-fewer 0 2 (codes "," ++ elems) rest (omega arith) (has-append 1 1 (codes ",") elems rest (sign-has (codes ",") sign.Comma comma_read (elems ++ rest)) (elements room g rest end))
        by false n g = barred (called_text w.names f (cons t ts) (terms_text w (room - 1) true (cons t ts))) rest (called room (call-parts w room f t ts n g) rest)

  constant-tail : (f : ℕ) → HasTail (app f nil)
  constant-tail f room h rest end = by (f == 0)
    where
      by : (b : Bool) → Has 0 (if b then [] else codes "|" ++ name_text w.names f) rest
      by true = has-none rest
      by false = barred (name_text w.names f) rest (named f rest (and_parts (nat_lt f (length w.names)) true h).0 end)

  mutual
    pub term-has : (t : Tm) → HasTerm t
    term-has (var x) = λ room h rest end. variable-has (variable_text w x) rest (variable-is w style x h) end.1.0
    term-has (num q) = λ room h rest end. number-has q rest h end.0.0
    term-has (app f nil) = λ room h rest end. constant room f rest (and_parts (nat_lt f (length w.names)) true h).0 end
    term-has (app f (cons t ts)) = app-has f t ts (term-has t) (rest-has ts) (second-has ts)

    tail-has : (t : Tm) → HasTail t
    tail-has (var x) = λ room h rest end. barred (variable_text w x) rest (variable-has (variable_text w x) rest (variable-is w style x h) end.1.0)
    tail-has (num q) = λ room h rest end. barred (number_text q) rest (number-has q rest h end.0.0)
    tail-has (app f nil) = constant-tail f
    tail-has (app f (cons t ts)) = app-tail f t ts (term-has t) (rest-has ts) (second-has ts)

    pub rest-has : (ts : Tms) → HasRest ts
    rest-has nil = λ room h rest end. has-none rest
    rest-has (cons t ts) =
        λ room h rest end.
        let p = and_parts (fits w room t) (all_fit w room ts) h in
        let first = term_text w room t in
        let behind = terms_text w room false ts in
        has-fewer 0 2 (codes "," ++ (first ++ behind)) rest (omega arith)
        (has-append 1 1 (codes ",") (first ++ behind) rest (sign-has (codes ",") sign.Comma comma_read ((first ++ behind) ++ rest))
        (has-append 1 0 first behind rest (term-has t room p.0 (behind ++ rest) (rest-ends w room ts rest end)) (rest-has ts room p.1 rest end)))

    pub second-has : (ts : Tms) → HasSecond ts
    second-has nil = λ room h rest end. has-none rest
    second-has (cons t ts) =
        λ room h rest end.
        let p = and_parts (tail_fits w room t) (tails_fit w room ts) h in
        let behind = pair_text w room false ts in
        has-append 0 0 (tail_text w room t) behind rest (tail-has t room p.0 (behind ++ rest) (second-ends w room ts rest end)) (second-has ts room p.1 rest end)

  -- a name with arguments
  pub called-has : (f : ℕ) (t : Tm) (ts : Tms) (room : ℕ) → CallFits w room f t ts → (rest : List ℕ) → Has 1 (called_text w.names f (cons t ts) (terms_text w (room - 1) true (cons t ts))) rest
  called-has f t ts = called f t ts (term-has t) (rest-has ts) (second-has ts)
