-- What the standings of lines tell of the lines.
use Rattle.std.proofs.Common.{◌≡◌, ◌≢◌, ◌∙◌, ℕ, zero, suc, ◌+◌, ◌-◌, ◌<◌, Bool, true, false, not, nat_eq, ◌&&◌, nat_le, List, [], ◌∷◌, ◌++◌, map, Option, Some, None, refl, ap, sym, subst, arith}
use Rattle.std.specs.List.{flat_map, list_all}
use Rattle.std.specs.Prelude.{option_map, slice_get}
use Rattle.std.proofs.Math.Bool.{and-true}
use Rattle.std.proofs.lemmas.Bool.{cond-true, cond-false}
use Rattle.std.proofs.lemmas.Bool.Decides.{nat_tests}
use Rattle.std.proofs.lemmas.Option.{slice_get-map}
use Rattle.scasp_syntax.specs.Programs.{numbered}
use Rattle.scasp_syntax.specs.Same.{same_atom}
use Rattle.scasp_syntax.specs.declared.atom.Lit.{Lit}
use Rattle.scasp_cert.specs.Lines.{lines_of}
use Rattle.scasp_cert.specs.Trees.{Tree, pos_tree, neg_tree, loop_tree, seen_tree, test_tree}
use Rattle.scasp_lines.specs.Dues.{Due}
use Rattle.scasp_lines.specs.Opened.{Opened}
use Rattle.scasp_lines.specs.Places.{Place}
use Rattle.scasp_lines.specs.Walk.{Part, of_node, of_rule, of_check, of_case, Line}
use Rattle.scasp_lines.specs.Numbering.{Counts}
use Rattle.scasp_checker_rules.specs.Pairs.{told_on}
use Rattle.scasp_checker_rules.specs.Refusals.{of_some}
use Rattle.scasp_checker_rules.specs.Targets.{is_around, is_shown_by, is_target}
use Rattle.scasp_checker_rules.specs.Told.{Told, told, all_told, told_by_node, told_by_part}
use Rattle.scasp_lines_walk.specs.Shown.Standings.{standing_of_node, standing_of_part, standing_at, standings, told_by, told_where, opened_at, shows}
use Rattle.scasp_lines_walk.specs.Shown.TableView.{standing_of}
use Rattle.scasp_lines_walk.specs.declared.shown.table.Row.{Row}

-- ---- literals shown before

node-shows : (l : Lit) (at : ℕ) (here : Place) (target : Line) (due : Due) (t : Tree)
    → shows l at here (standing_of_node target.at target.here t) ≡ is_shown_by l at here target (of_node due t)
node-shows l at here target due (pos_tree a k ts children) = refl
node-shows l at here target due (neg_tree a covers) =
    ap (λ (b : Bool). b && nat_le (target.at + lines_of (neg_tree a covers)) at && list_all (is_around here.around) target.here.around)
    (and-true (not l.positive && same_atom a l.atom))
node-shows l at here target due (loop_tree lit to) = refl
node-shows l at here target due (seen_tree lit to) = refl
node-shows l at here target due (test_tree c hint) = refl

part-shows : (l : Lit) (at : ℕ) (here : Place) (target : Line) (part : Part)
    → shows l at here (standing_of_part target.at target.here part) ≡ is_shown_by l at here target part
part-shows l at here target (of_node due t) = node-shows l at here target due t
part-shows l at here target (of_rule k a b) = refl
part-shows l at here target (of_check k b) = refl
part-shows l at here target (of_case body b) = refl

get-shows : (l : Lit) (at : ℕ) (here : Place) (ls : List Line) (i : ℕ)
    → of_some (slice_get (standings ls) i) (shows l at here) ≡ of_some (slice_get ls i) (is_target l at here)
get-shows l at here [] i = refl
get-shows l at here (x ∷ ls) zero = part-shows l at here x x.part
get-shows l at here (x ∷ ls) (suc i) = get-shows l at here ls i

-- a line shows a literal where its standing does
pub line-shows : (l : Lit) (at : ℕ) (here : Place) (ls : List Line) (to : ℕ)
    → of_some (numbered (standings ls) to) (shows l at here) ≡ of_some (numbered ls to) (is_target l at here)
line-shows l at here ls zero = refl
line-shows l at here ls (suc i) = get-shows l at here ls i

-- ---- literals that are told

node-tells : (at : ℕ) (here : Place) (t : Tree) → told_by (standing_of_node at here t) ≡ told_by_node at here.opened t
node-tells at here (pos_tree a k ts children) = refl
node-tells at here (neg_tree a covers) = refl
node-tells at here (loop_tree lit to) = refl
node-tells at here (seen_tree lit to) = refl
node-tells at here (test_tree c hint) = refl

part-tells : (at : ℕ) (here : Place) (part : Part) → told_by (standing_of_part at here part) ≡ told_by_part at here.opened part
part-tells at here (of_node due t) = node-tells at here t
part-tells at here (of_rule k a b) = refl
part-tells at here (of_check k b) = refl
part-tells at here (of_case body b) = refl

-- the literals are those of the lines
pub standings-tell : (ls : List Line) → flat_map told_by (standings ls) ≡ all_told ls
standings-tell [] = refl
standings-tell (l ∷ ls) = let a = part-tells l.at l.here l.part in let b = standings-tell ls in λ i. a i ++ b i

-- ---- the literal on a line is found by its number, where lines are numbered without a gap

equal : (x y : ℕ) → x ≡ y → nat_eq x y ≡ true
equal x y e = grind (arith, nat_tests)

apart : (x y : ℕ) → x ≢ y → nat_eq x y ≡ false
apart x y e = grind (arith, nat_tests)

node-skipped : (j at : ℕ) (os : List Opened) (t : Tree) (rest : List Told) → nat_eq at j ≡ false → told_on j (told_by_node at os t ++ rest) ≡ told_on j rest
node-skipped j at os (pos_tree a k ts children) rest e = cond-false (nat_eq at j) (Some (told at os true a)) (told_on j rest) e
node-skipped j at os (neg_tree a covers) rest e = cond-false (nat_eq at j) (Some (told at os false a)) (told_on j rest) e
node-skipped j at os (loop_tree lit to) rest e = refl
node-skipped j at os (seen_tree lit to) rest e = refl
node-skipped j at os (test_tree c hint) rest e = refl

part-skipped : (j at : ℕ) (os : List Opened) (part : Part) (rest : List Told) → nat_eq at j ≡ false → told_on j (told_by_part at os part ++ rest) ≡ told_on j rest
part-skipped j at os (of_node due t) rest e = node-skipped j at os t rest e
part-skipped j at os (of_rule k a b) rest e = refl
part-skipped j at os (of_check k b) rest e = refl
part-skipped j at os (of_case body b) rest e = refl

node-found : (j at : ℕ) (here : Place) (t : Tree) (rest : List Told) → nat_eq at j ≡ true → told_on j rest ≡ None
    → told_on j (told_by_node at here.opened t ++ rest) ≡ told_where (Some (standing_of_node at here t))
node-found j at here (pos_tree a k ts children) rest e none = cond-true (nat_eq at j) (Some (told at here.opened true a)) (told_on j rest) e
node-found j at here (neg_tree a covers) rest e none = cond-true (nat_eq at j) (Some (told at here.opened false a)) (told_on j rest) e
node-found j at here (loop_tree lit to) rest e none = none
node-found j at here (seen_tree lit to) rest e none = none
node-found j at here (test_tree c hint) rest e none = none

part-found : (j at : ℕ) (here : Place) (part : Part) (rest : List Told) → nat_eq at j ≡ true → told_on j rest ≡ None
    → told_on j (told_by_part at here.opened part ++ rest) ≡ told_where (Some (standing_of_part at here part))
part-found j at here (of_node due t) rest e none = node-found j at here t rest e none
part-found j at here (of_rule k a b) rest e none = none
part-found j at here (of_check k b) rest e none = none
part-found j at here (of_case body b) rest e none = none

told-before : (n j : ℕ) (ls : List Line) → Counts n ls → j < n → told_on j (all_told ls) ≡ None
told-before n j [] c h = refl
told-before n j (l ∷ ls) c h =
    let number = c.0 in
    part-skipped j l.at l.here.opened l.part (all_told ls) (apart l.at j (λ e. absurd (omega (arith, number, e))))
    ∙ told-before (suc n) j ls c.1 (omega arith)

told-get : (n i : ℕ) (ls : List Line) → Counts n ls → told_on (n + i) (all_told ls) ≡ told_where (slice_get (standings ls) i)
told-get n i [] c = refl
told-get n zero (l ∷ ls) c =
    let number = c.0 in
    part-found (n + 0) l.at l.here l.part (all_told ls) (equal l.at (n + 0) (omega (arith, number))) (told-before (suc n) (n + 0) ls c.1 (omega arith))
told-get n (suc i) (l ∷ ls) c =
    let number = c.0 in
    let e : suc n + i ≡ n + suc i = omega arith in
    part-skipped (n + suc i) l.at l.here.opened l.part (all_told ls) (apart l.at (n + suc i) (λ e. absurd (omega (arith, number, e))))
    ∙ subst (λ (j : ℕ). told_on j (all_told ls) ≡ told_where (slice_get (standings ls) i)) e (told-get (suc n) i ls c.1)

pub line-told : (j : ℕ) (ls : List Line) → Counts 1 ls → told_on j (all_told ls) ≡ told_where (numbered (standings ls) j)
line-told zero ls c = told-before 1 0 ls c (omega arith)
line-told (suc i) ls c =
    let e : 1 + i ≡ suc i = omega arith in
    subst (λ (j : ℕ). told_on j (all_told ls) ≡ told_where (slice_get (standings ls) i)) e (told-get 1 i ls c)

-- ---- what opened

node-opened : (at : ℕ) (here : Place) (t : Tree) → opened_at (standing_of_node at here t) ≡ here.opened
node-opened at here (pos_tree a k ts children) = refl
node-opened at here (neg_tree a covers) = refl
node-opened at here (loop_tree lit to) = refl
node-opened at here (seen_tree lit to) = refl
node-opened at here (test_tree c hint) = refl

part-opened : (at : ℕ) (here : Place) (part : Part) → opened_at (standing_of_part at here part) ≡ here.opened
part-opened at here (of_node due t) = node-opened at here t
part-opened at here (of_rule k a b) = refl
part-opened at here (of_check k b) = refl
part-opened at here (of_case body b) = refl

pub line-opened : (l : Line) → opened_at (standing_at l) ≡ l.here.opened
line-opened l = part-opened l.at l.here l.part

-- ---- rows by their numbers

pub line_found : (rows xs : List Row) (n : ℕ) (o : Option Row) → n ≢ 0 → xs ≡ rows → o ≡ slice_get xs (n - 1) → option_map standing_of o ≡ numbered (map standing_of rows) n
line_found rows xs zero o h e f = absurd (h refl)
line_found rows xs (suc n) o h e f =
    let k : suc n - 1 ≡ n = omega arith in
    ap (option_map standing_of) (f ∙ (λ i. slice_get (e i) (k i))) ∙ sym (slice_get-map standing_of rows n)
