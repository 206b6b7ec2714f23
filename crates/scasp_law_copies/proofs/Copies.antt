-- Lines with copies, and the lines that they stand for.
use Rattle.std.proofs.Common.{◌≡◌, ◌∙◌, ℕ, ◌+◌, ◌-◌, ◌≤◌, Bool, true, false, not, ◌&&◌, List, [], ◌∷◌, ◌++◌, length, take, flat_map, Option, None, Some, Result, Ok, Err, refl, sym, ap, arith, length-append, append-nil}
use Rattle.std.specs.Prelude.{if◌then◌else◌, nat_le}
use Rattle.std.specs.List.{list_all}
use Rattle.std.specs.Option.{option_map}
use Rattle.std.proofs.lemmas.Bool.{and_parts, le-leb, not-true}
use Rattle.std.proofs.lemmas.List.Folds.{list_all-append}
use Rattle.std.proofs.lemmas.Grind.{flat_map-append}
use Rattle.scasp_list.specs.Each.{Each}
use Rattle.scasp_copies.specs.Pieces.{Piece, piece_text}
use Rattle.scasp_copies.specs.Copies.{copy_of, last_number}
use Rattle.scasp_copies.specs.Writing.{is_copy_line, stands_for, written_behind}
use Rattle.scasp_answers_terms.specs.Tokens.Bounds.{is_place}
use Rattle.scasp_answers.specs.declared.blocks.fault.AnswerKind.{AnswerKind}
use Rattle.scasp_answers.specs.declared.blocks.fault.AnswerKind.TheVariants as kind
use Rattle.scasp_answers.specs.declared.blocks.version.Version.TheVariants as version
use Rattle.scasp_answers.specs.Blocks.States.{State}
use Rattle.scasp_answers.specs.Blocks.Files.{Versioned, is_second, judged, plain_judged, all_judged, copy_read, copy_in_version, copy_judged, line_judged, copy_in, told_behind, unless_fault}
use Rattle.scasp_law_copies.specs.Written.{told_past, written_lines, is_of_first, IsSpelled}
use Rattle.scasp_law_copies.proofs.Judging.{before, lines_judged, states_read, states-append}

abbrev pub one : State → List Piece → ℕ → Versioned
one s told room = record { state = s; version = version.One; told = told; room = room }

abbrev pub two : State → List Piece → ℕ → Versioned
two s told room = record { state = s; version = version.Two; told = told; room = room }

-- ---- a line of version 1

first-parts : (p : Piece) → is_of_first p ≡ true → (is_copy_line p ≡ false) × (is_second p.words ≡ false)
first-parts p h =
    let k = and_parts (not (is_copy_line p)) (not (is_second p.words)) h in
    (not-true (is_copy_line p) k.0, not-true (is_second p.words) k.1)

plain-one : (names : List (List ℕ)) (s : State) (told : List Piece) (room : ℕ) (p : Piece) → is_of_first p ≡ true
    → line_judged names (one s told room) p ≡ unless_fault (judged names s p) (λ t. Ok (one t told room))
plain-one names s told room p h = let k = first-parts p h in rw (k.0, k.1) refl

plain-two : (names : List (List ℕ)) (s t : State) (told : List Piece) (room : ℕ) (p : Piece) → is_second p.words ≡ false → judged names s p ≡ Ok t
    → plain_judged names (two s told room) p ≡ Ok (two t (told_behind told p) (room - length (piece_text p)))
plain-two names s t told room p k j = rw (k, j) refl

-- the states of version 1 are those of the lines
pub first-states : (names : List (List ℕ)) (s : State) (told : List Piece) (room : ℕ) (ps : List Piece) (w : Versioned) → list_all is_of_first ps ≡ true
    → lines_judged names (one s told room) ps ≡ Ok w → states_read names s ps ≡ Ok w.state
first-states names s told room [] w h e = let same : one s told room ≡ w = cc in ap (λ (u : Versioned). Ok u.state) same
first-states names s told room (p ∷ ps) w h e =
    let k = and_parts (is_of_first p) (list_all is_of_first ps) h in
    let e' : unless_fault (unless_fault (judged names s p) (λ t. Ok (one t told room))) (λ u. lines_judged names u ps) ≡ Ok w =
    ap (λ r. unless_fault r (λ u. lines_judged names u ps)) (sym (plain-one names s told room p k.0)) ∙ e in
    by (judged names s p) refl e' (λ t g. first-states names t told room ps w k.1 g)
  where
    by : (r : Result State AnswerKind) → judged names s p ≡ r → unless_fault (unless_fault r (λ t. Ok (one t told room))) (λ u. lines_judged names u ps) ≡ Ok w
        → ((t : State) → lines_judged names (one t told room) ps ≡ Ok w → states_read names t ps ≡ Ok w.state)
        → states_read names s (p ∷ ps) ≡ Ok w.state
    by (Err k) q g more = cc
    by (Ok t) q g more = rw q (more t g)

-- ---- lines without copies, in version 2

abbrev pub text_length : List Piece → ℕ
text_length ps = length (flat_map piece_text ps)

text-cons : (p : Piece) (ps : List Piece) → text_length (p ∷ ps) ≡ length (piece_text p) + text_length ps
text-cons p ps = length-append (piece_text p) (flat_map piece_text ps)

text-append : (ps qs : List Piece) → text_length (ps ++ qs) ≡ text_length ps + text_length qs
text-append ps qs = ap length (flat_map-append piece_text ps qs) ∙ length-append (flat_map piece_text ps) (flat_map piece_text qs)

told-append : (told ps qs : List Piece) → told_past told (ps ++ qs) ≡ told_past (told_past told ps) qs
told-append told [] qs = refl
told-append told (p ∷ ps) qs = told-append (told_behind told p) ps qs

all-read : (names : List (List ℕ)) (s t : State) (told : List Piece) (room : ℕ) (ps : List Piece) → list_all is_of_first ps ≡ true → states_read names s ps ≡ Ok t
    → all_judged names (two s told room) ps ≡ Ok (two t (told_past told ps) (room - text_length ps))
all-read names s t told room [] h e = let same : s ≡ t = cc in let none : room - 0 ≡ room = omega arith in ap (λ u. Ok (two u told room)) same ∙ ap (λ r. Ok (two t told r)) (sym none)
all-read names s t told room (p ∷ ps) h e =
    let k = and_parts (is_of_first p) (list_all is_of_first ps) h in
    let read = before (judged names s p) (λ u. states_read names u ps) t e in
    let left : room - length (piece_text p) - text_length ps ≡ room - text_length (p ∷ ps) = omega (arith, text-cons p ps) in
    ap (λ r. unless_fault r (λ u. all_judged names u ps)) (plain-two names s read.0 told room p (first-parts p k.0).1 read.1)
    ∙ all-read names read.0 t (told_behind told p) (room - length (piece_text p)) ps k.1 read.2
    ∙ ap (λ r. Ok (two t (told_past told (p ∷ ps)) r)) left

-- ---- lines with copies

-- what is written out for the line at the front
pub front : (first : Option (List Piece)) (rest : List Piece → Option (List Piece)) (qs : List Piece) → written_behind first rest ≡ Some qs
    → (cs : List Piece) × (more : List Piece) × (first ≡ Some cs) × (rest cs ≡ Some more) × (cs ++ more ≡ qs)
front None rest qs e = cc
front (Some cs) rest qs e = by (rest cs) refl e
  where
    by : (o : Option (List Piece)) → rest cs ≡ o → option_map (λ more. cs ++ more) o ≡ Some qs
        → (ds : List Piece) × (more : List Piece) × (Some cs ≡ Some ds) × (rest ds ≡ Some more) × (ds ++ more ≡ qs)
    by None q g = cc
    by (Some more) q g = (cs, more, refl, q, cc)

-- a copy is read as the lines that it stands for
copy-read : (names : List (List ℕ)) (s t : State) (told : List Piece) (room : ℕ) (p : Piece) (cs : List Piece) → is_copy_line p ≡ true → IsSpelled p
    → copy_of (last_number p.words) p.depth told ≡ Some cs → list_all is_of_first cs ≡ true → states_read names s cs ≡ Ok t → text_length cs ≤ room
    → line_judged names (two s told room) p ≡ Ok (two t (told_past told cs) (room - text_length cs))
copy-read names s t told room p cs copy spelled stands first e fits =
    let k = spelled copy in
    let v = two s told room in
    let n = last_number p.words in
    ap (λ (o : Option ℕ). elim o [ None ↦ plain_judged names v p | Some m ↦ copy_judged names v m p.depth ]) k.0
    ∙ ap (λ (b : Bool). if b then copy_in_version version.Two names v n p.depth else Err kind.NumberTooLarge) k.1
    ∙ ap (λ (o : Option (List Piece)). elim o [ None ↦ Err kind.Order | Some ps ↦ copy_read names v ps ]) stands
    ∙ ap (λ (b : Bool). if b then all_judged names v cs else unless_fault (all_judged names v (take 1 cs)) (λ w. Err kind.Limit)) (le-leb (text_length cs) room fits)
    ∙ all-read names s t told room cs first e

pub copies-read : (names : List (List ℕ)) (s t : State) (told : List Piece) (room : ℕ) (ps qs : List Piece) → Each IsSpelled ps → list_all is_of_first qs ≡ true
    → written_lines told ps ≡ Some qs → states_read names s qs ≡ Ok t → text_length qs ≤ room
    → lines_judged names (two s told room) ps ≡ Ok (two t (told_past told qs) (room - text_length qs))
copies-read names s t told room [] qs spelled first w e fits =
    let none : [] ≡ qs = cc in
    let e' : states_read names s [] ≡ Ok t = ap (states_read names s) none ∙ e in
    all-read names s t told room [] refl e' ∙ ap (λ xs. Ok (two t (told_past told xs) (room - text_length xs))) none
copies-read names s t told room (p ∷ ps) qs spelled first w e fits =
    by (front (stands_for told p) (λ cs. written_lines (told_past told cs) ps) qs w)
    (λ u told' room' more f g h k. copies-read names u t told' room' ps more spelled.1 f g h k)
  where
    Onward : Type 0
    Onward =
        (u : State) (told' : List Piece) (room' : ℕ) (more : List Piece) → list_all is_of_first more ≡ true → written_lines told' ps ≡ Some more → states_read names u more ≡ Ok t → text_length more ≤ room'
        → lines_judged names (two u told' room') ps ≡ Ok (two t (told_past told' more) (room' - text_length more))

    -- the line at the front is read as what is written out for it
    line : (u : State) (cs : List Piece) → stands_for told p ≡ Some cs → list_all is_of_first cs ≡ true → states_read names s cs ≡ Ok u → text_length cs ≤ room
        → line_judged names (two s told room) p ≡ Ok (two u (told_past told cs) (room - text_length cs))
    line u cs stands f g h = by (is_copy_line p) refl stands
      where
        by : (b : Bool) → is_copy_line p ≡ b → (if b then copy_of (last_number p.words) p.depth told else Some (p ∷ [])) ≡ Some cs
            → line_judged names (two s told room) p ≡ Ok (two u (told_past told cs) (room - text_length cs))
        by true q found = copy-read names s u told room p cs q spelled.0 found f g h
        by false q found =
            let same : p ∷ [] ≡ cs = cc in
            let f' : is_of_first p && true ≡ true = ap (list_all is_of_first) same ∙ f in
            let second = (first-parts p (and_parts (is_of_first p) true f').0).1 in
            let read = before (judged names s p) (λ t. states_read names t []) u (ap (states_read names s) same ∙ g) in
            let read' : judged names s p ≡ Ok u = read.1 ∙ read.2 in
            let size : length (piece_text p) ≡ text_length cs = sym (ap length (append-nil (piece_text p))) ∙ ap text_length same in
            rw q (plain-two names s u told room p second read' ∙ ap (λ n. Ok (two u (told_behind told p) (room - n))) size ∙ ap (λ xs. Ok (two u (told_past told xs) (room - text_length cs))) same)

    by : ((cs : List Piece) × (more : List Piece) × (stands_for told p ≡ Some cs) × (written_lines (told_past told cs) ps ≡ Some more) × (cs ++ more ≡ qs)) → Onward
        → lines_judged names (two s told room) (p ∷ ps) ≡ Ok (two t (told_past told qs) (room - text_length qs))
    by (cs, more, stands, written, all) onward =
        let parts = and_parts (list_all is_of_first cs) (list_all is_of_first more) (sym (list_all-append is_of_first cs more) ∙ ap (list_all is_of_first) all ∙ first) in
        let read = states-append names s t cs more (ap (states_read names s) all ∙ e) in
        let size : text_length cs + text_length more ≡ text_length qs = sym (text-append cs more) ∙ ap text_length all in
        let left : room - text_length cs - text_length more ≡ room - text_length qs = omega (arith, size) in
        ap (λ r. unless_fault r (λ w. lines_judged names w ps)) (line read.0 cs stands parts.0 read.1 (omega (arith, size, fits)))
        ∙ onward read.0 (told_past told cs) (room - text_length cs) more parts.1 written read.2 (omega (arith, size, fits))
        ∙ ap (λ xs. Ok (two t xs (room - text_length cs - text_length more))) (sym (told-append told cs more) ∙ ap (told_past told) all)
        ∙ ap (λ n. Ok (two t (told_past told qs) n)) left
