-- The end of a case, by whether a remainder waits.
use Rattle.std.specs.Prelude.{◌≡◌, ℕ, suc, Option, Some, None, List, [], ◌∷◌, ◌++◌, map, refl}
use Rattle.std.proofs.Common.{sym, ap, ◌∙◌}
use Rattle.scasp_search_calls.specs.Cases.Inside.Innermost.{ended_by, resumed}
use Rattle.scasp_search_rules.specs.declared.states.covers.Cover.{Cover}
use Rattle.scasp_search_rules.specs.declared.states.covers.Remainder.{Remainder}
use Rattle.scasp_search_rules.specs.declared.states.lines.Line.{Line}
use Rattle.scasp_search_rules.specs.declared.states.lines.Line.TheVariants as line
use Rattle.scasp_search_rules.specs.declared.states.state.Literal.{Literal}
use Rattle.scasp_search_rules.specs.declared.states.state.State.{State}
use Rattle.scasp_search_rules.specs.Successors.Cases.{ended_case, kept_literal, line_under, remaining, replaced_now, unbound}
use Rattle.scasp_search_state.specs.Words.{closed, next_case}
use Rattle.scasp_unify.specs.declared.bindings.Binding.{Binding}

-- ---- the state with and without the cover

abbrev pub with_covers : State → List Cover → State
with_covers s cs = record s { covers = cs }

line_inside : (s : State) (cs : List Cover) (l : Line) → line_under (with_covers s cs) l ≡ line_under s l
line_inside s cs (line.Pos a k ts n) = refl
line_inside s cs (line.Neg a n) = refl
line_inside s cs (line.Loop l at) = refl
line_inside s cs (line.Seen l at) = refl
line_inside s cs (line.Test c) = refl
line_inside s cs (line.Rule a k first) = refl
line_inside s cs (line.Check k first) = refl
line_inside s cs (line.Split c parts) = refl
line_inside s cs line.Void = refl
line_inside s cs (line.Leaf k) = refl
line_inside s cs (line.Head n) = refl

lines_inside : (s : State) (cs : List Cover) (ls : List Line) → map (line_under (with_covers s cs)) ls ≡ map (line_under s) ls
lines_inside s cs [] = refl
lines_inside s cs (l ∷ ls) =
    ap (λ (x : Line). x ∷ map (line_under (with_covers s cs)) ls) (line_inside s cs l)
    ∙ ap (λ (xs : List Line). line_under s l ∷ xs) (lines_inside s cs ls)

literals_inside : (s : State) (cs : List Cover) (us : List ℕ) (lits : List Literal)
    → map (kept_literal (with_covers s cs) us) lits ≡ map (kept_literal s us) lits
literals_inside s cs us [] = refl
literals_inside s cs us (a ∷ rest) = ap (λ (xs : List Literal). kept_literal s us a ∷ xs) (literals_inside s cs us rest)

replaced_inside : (s : State) (cs : List Cover) (o : Option Binding) → replaced_now (with_covers s cs) o ≡ replaced_now s o
replaced_inside s cs None = refl
replaced_inside s cs (Some b) = refl

ended_inside : (s : State) (c : Cover) (but : List ℕ)
    → with_covers (ended_case (with_covers s (c ∷ s.covers)) c but) s.covers ≡ ended_by s c.universals c.before but
ended_inside s c but =
    ap (λ (lits : List Literal). record s {
      literals = lits;
      lines = c.before ++ map (line_under (with_covers s (c ∷ s.covers))) s.lines;
      bound = unbound c.universals but s.bound;
    }) (literals_inside s (c ∷ s.covers) c.universals s.literals)
    ∙ ap (λ (ls : List Line). record s {
      literals = map (kept_literal s c.universals) s.literals;
      lines = c.before ++ ls;
      bound = unbound c.universals but s.bound;
    }) (lines_inside s (c ∷ s.covers) s.lines)

-- ---- the end of a cover

pub cover_gone : (s t : State) (c : Cover) (us but : List ℕ) (ls : List Line) → us ≡ c.universals → ls ≡ c.before → but ≡ [] → c.waiting ≡ []
    → t ≡ ended_by s us ls but → t ≡ next_case (with_covers s (c ∷ s.covers)) c s.covers c.waiting
cover_gone s t c us but ls u l b w e =
    e ∙ ap (λ (x : List ℕ). ended_by s x ls but) u ∙ ap (λ (x : List Line). ended_by s c.universals x but) l
    ∙ ap (λ (x : List ℕ). ended_by s c.universals c.before x) b ∙ sym (ended_inside s c [])
    ∙ sym (ap (λ (x : List Remainder). next_case (with_covers s (c ∷ s.covers)) c s.covers x) w)

-- ---- a remainder

remainder_first : (s : State) (c : Cover) (r : Remainder) (rs : List Remainder)
    → next_case (with_covers s (c ∷ s.covers)) c s.covers (r ∷ rs) ≡ resumed s c c.before r rs
remainder_first s c r rs =
    let t : State = ended_case (with_covers s (c ∷ s.covers)) c r.replaced in
    let next : State → List Binding → State = λ u bs. record u {
      covers = remaining c r rs u.cases u.lines ∷ s.covers;
      cases = suc u.cases;
      lines = [];
      bound = u.bound ++ bs;
    } in
    ap (λ (bs : List Binding). next t bs) (sym (replaced_inside t s.covers r.equation))
    ∙ ap (λ (u : State). next u (replaced_now u r.equation)) (ended_inside s c r.replaced)

pub remainder_next : (s t : State) (c : Cover) (before : List Line) (waiting : List Remainder) (ls : List Line) (r : Remainder) (rs : List Remainder)
    → ls ≡ c.before → c.waiting ≡ r ∷ rs → t ≡ resumed s (record c { waiting = waiting; before = before }) ls r rs
    → t ≡ next_case (with_covers s (c ∷ s.covers)) c s.covers c.waiting
remainder_next s t c before waiting ls r rs l w e =
    e ∙ ap (λ (y : List Line). resumed s c y r rs) l ∙ sym (remainder_first s c r rs)
    ∙ sym (ap (λ (ws : List Remainder). next_case (with_covers s (c ∷ s.covers)) c s.covers ws) w)

-- ---- the innermost cover

pub none_closed : (s t : State) → s.covers ≡ [] → t ≡ with_covers s [] → t ≡ closed s s.covers
none_closed s t h e = e ∙ ap (λ (cs : List Cover). closed (with_covers s cs) cs) (sym h)

pub first_closed : (s t : State) (c : Cover) (cs : List Cover) → s.covers ≡ c ∷ cs → t ≡ next_case (with_covers s (c ∷ cs)) c cs c.waiting
    → t ≡ closed s s.covers
first_closed s t c cs h e = e ∙ ap (λ (ds : List Cover). closed (with_covers s ds) ds) (sym h)
