-- One list is the context of one line after the other.
use Rattle.std.proofs.Common.{◌≡◌, ◌∙◌, ℕ, suc, ◌+◌, ◌-◌, ◌≤◌, List, [], ◌∷◌, ◌++◌, Option, Some, drop, length, take, ap, sym, subst, arith}
use Rattle.std.specs.Prelude.{IfSome}
use Rattle.std.proofs.lemmas.List.{append-nil, append_assoc, take-append-drop}
use Rattle.scasp_syntax.specs.declared.con.Con.{Con}
use Rattle.scasp_lines_places.specs.Dues.Ends.{last_of}
use Rattle.scasp_lines.specs.Contexts.{constraints_of, context}
use Rattle.scasp_lines.specs.Opened.{Opened}
use Rattle.scasp_lines_places.specs.Places.View.{all_opened}
use Rattle.scasp_lines_walk.specs.Traversal.Going.{GoesOn, IsReady}
use Rattle.scasp_lines_walk.specs.declared.traversal.cursor.Lines.{Lines}
use Rattle.scasp_lines_walk.specs.declared.traversal.parts.Line.{Line}
use Rattle.scasp_checker.specs.Walk.Contexts.{GoesOnFrom, IsKept}

-- what is given stands first
context-given : (given : List Con) (os : List Opened) → context given os ≡ given ++ context [] os
context-given given [] = sym (append-nil given)
context-given given (o ∷ os) = ap (λ cs. cs ++ constraints_of o) (context-given given os) ∙ append_assoc given (context [] os) (constraints_of o)

take-behind : (given xs : List Con) (k : ℕ) → take (length given + k) (given ++ xs) ≡ given ++ take k xs
take-behind [] xs k = let e : 0 + k ≡ k = omega arith in ap (λ i. take i xs) e
take-behind (g ∷ given) xs k =
    let e : suc (length given) + k ≡ suc (length given + k) = omega arith in
    ap (λ i. take i (g ∷ (given ++ xs))) e ∙ ap (λ ys. g ∷ ys) (take-behind given xs k)

-- the last are those behind what is kept
last-behind : (here : List Con) (size kept : ℕ) → size ≡ length here → kept ≤ length here → last_of (size - kept) here ≡ drop kept here
last-behind here size kept e h =
    let n : length here - (size - kept) ≡ kept = omega (arith, e, h) in ap (λ i. drop i here) n

-- where the list of the line before is cut and goes on so, it is the context of this line
pub changed : (given list made : List Con) (l : Line) (kept : ℕ) → GoesOnFrom given list l → kept ≡ length given + l.kept
    → ((l.size - l.kept) ≤ length (context [] (all_opened l.here.opened)) → made ≡ take kept list ++ last_of (l.size - l.kept) (context [] (all_opened l.here.opened)))
    → made ≡ context given (all_opened l.here.opened)
changed given list made l kept g e is =
    let here = context [] (all_opened l.here.opened) in
    let z = g.size in
    let enough : (l.size - l.kept) ≤ length here = omega (arith, z) in
    let front : take kept list ≡ given ++ take l.kept here =
    ap (λ i. take i list) e
    ∙ ap (take (length given + l.kept)) g.is
    ∙ take-behind given g.before l.kept
    ∙ ap (λ cs. given ++ cs) g.agree.same in
    let behind : last_of (l.size - l.kept) here ≡ drop l.kept here = last-behind here l.size l.kept g.size g.agree.long in
    is enough
    ∙ (λ i. front i ++ behind i)
    ∙ append_assoc given (take l.kept here) (drop l.kept here)
    ∙ ap (λ cs. given ++ cs) (take-append-drop l.kept here)
    ∙ sym (context-given given (all_opened l.here.opened))

-- the line that is found goes on from the line before
pub goes-on-from : (given list : List Con) (old new : Lines) (found : Option Line) (l : Line) → IsKept given list old
    → ((now : List Con) → IsReady now old → IfSome found (λ line. GoesOn now line new)) → found ≡ Some l → GoesOnFrom given list l
goes-on-from given list old new found l k h e =
    let g : GoesOn k.opened l new = subst (λ o. IfSome o (λ line. GoesOn k.opened line new)) e (h k.opened k.ready) in
    record { before = k.opened; is = k.is; agree = g.agree; size = g.size }

-- and the list is kept on
pub kept-on : (given list made : List Con) (old new : Lines) (found : Option Line) (l : Line) → IsKept given list old
    → ((now : List Con) → IsReady now old → IfSome found (λ line. GoesOn now line new)) → found ≡ Some l
    → made ≡ context given (all_opened l.here.opened) → IsKept given made new
kept-on given list made old new found l k h e m =
    let g : GoesOn k.opened l new = subst (λ o. IfSome o (λ line. GoesOn k.opened line new)) e (h k.opened k.ready) in
    record { opened = context [] (all_opened l.here.opened); is = m ∙ context-given given (all_opened l.here.opened); ready = g.ready }

-- at first it is what is given
pub kept-first : (given list : List Con) (left : Lines) → list ≡ given → IsReady [] left → IsKept given list left
kept-first given list left e r = record { opened = []; is = e ∙ sym (append-nil given); ready = r }
