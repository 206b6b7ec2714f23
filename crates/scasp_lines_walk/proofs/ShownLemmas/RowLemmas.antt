-- Rows that are made from the last line to the first.
use Rattle.std.proofs.Common.{◌≡◌, ◌∙◌, ℕ, List, [], ◌∷◌, ◌++◌, map, reverse, refl, ap, sym, subst}
use Rattle.std.proofs.lemmas.List.{append-nil, append_assoc, map-append, reverse-append}
use Rattle.scasp_cert.specs.Trees.{pos_tree, neg_tree, loop_tree, seen_tree, test_tree}
use Rattle.scasp_lines.specs.Places.{Place}
use Rattle.scasp_lines.specs.Walk.{Line as LineValue, Part, of_node, of_rule, of_check, of_case}
use Rattle.scasp_lines_walk.proofs.TraversalLemmas.StackLemmas.{map_reverse}
use Rattle.scasp_lines_walk.specs.Traversal.View.{line_of}
use Rattle.scasp_lines_walk.specs.declared.traversal.parts.Line.{Line}
use Rattle.scasp_lines_walk.specs.Shown.Inside.Ends.{ended_at, ends, end_of, part_row, row_with, with_end}
use Rattle.scasp_lines_walk.specs.Shown.Standings.{Standing, standing_at, standing_of_part, standings}
use Rattle.scasp_lines_walk.specs.Shown.TableView.{standing_of}
use Rattle.scasp_lines_walk.specs.declared.shown.ends.Ended.{Ended}
use Rattle.scasp_lines_walk.specs.declared.shown.table.Row.{Row}
use Rattle.scasp_lines_walk.proofs.ShownLemmas.EndLemmas.{AreRight, right-at}

-- a line that ends where its part does has the row that stands there
row-is : (at : ℕ) (here : Place) (part : Part) → part_row at here part (end_of at part) ≡ standing_of_part at here part
row-is at here (of_node due (pos_tree a k ts children)) = refl
row-is at here (of_node due (neg_tree a covers)) = refl
row-is at here (of_node due (loop_tree lit to)) = refl
row-is at here (of_node due (seen_tree lit to)) = refl
row-is at here (of_node due (test_tree c hint)) = refl
row-is at here (of_rule k a b) = refl
row-is at here (of_check k b) = refl
row-is at here (of_case body b) = refl

-- Of all lines these are left; the others have their rows, the last in front, and these ends.
pub record Tabled (all : List LineValue) (left : List Line) (rows : List Standing) (ended : List Ended) : Type 0 where
  pub done : List LineValue
  pub is : all ≡ map line_of left ++ done
  pub standing : reverse rows ≡ standings done
  pub ending : ended ≡ ends done

pub tabled-none : (all : List LineValue) (left : List Line) (rows : List Row) (ended : List Ended) → map line_of left ≡ all → rows ≡ [] → ended ≡ []
    → Tabled all left (map standing_of rows) (reverse ended)
tabled-none all left rows ended e r f =
    record {
      done = [];
      is = sym e ∙ sym (append-nil (map line_of left));
      standing = ap (λ (rs : List Row). reverse (map standing_of rs)) r;
      ending = ap (λ (es : List Ended). reverse es) f;
    }

-- the last of the lines that are left gets its row and its end
pub tabled-more : (all : List LineValue) (old left : List Line) (l : Line) (rows made : List Standing) (ended now : List Ended)
    → old ≡ left ++ l ∷ [] → made ≡ rows ++ row_with (line_of l) ended ∷ [] → now ≡ with_end (line_of l) ended
    → AreRight all → Tabled all old rows ended → Tabled all left made now
tabled-more all old left l rows made ended now popped pushed end right t =
    let is : all ≡ map line_of left ++ (line_of l ∷ t.done) =
    t.is ∙ ap (λ (ls : List Line). map line_of ls ++ t.done) popped ∙ ap (λ ls. ls ++ t.done) (map-append line_of left (l ∷ []))
    ∙ append_assoc (map line_of left) (line_of l ∷ []) t.done in
    let here : ended_at (line_of l) ended ≡ end_of l.at (line_of l).part =
    ap (ended_at (line_of l)) t.ending ∙ right-at (map line_of left) (line_of l) t.done (subst AreRight is right) in
    let stands : row_with (line_of l) ended ≡ standing_at (line_of l) =
    ap (part_row l.at (line_of l).here (line_of l).part) here ∙ row-is l.at (line_of l).here (line_of l).part in
    let before = t.standing in
    record {
      done = line_of l ∷ t.done;
      is = is;
      standing = ap (λ (rs : List Standing). reverse rs) pushed ∙ reverse-append rows (row_with (line_of l) ended ∷ []) ∙ (λ i. stands i ∷ before i);
      ending = end ∙ ap (with_end (line_of l)) t.ending;
    }

-- no line is left
pub tabled-all : (all : List LineValue) (left : List Line) (rows : List Row) (ended : List Ended) → left ≡ [] → Tabled all left (map standing_of rows) ended
    → map standing_of (reverse rows) ≡ standings all
tabled-all all left rows ended none t =
    map_reverse standing_of rows ∙ t.standing ∙ ap standings (sym (t.is ∙ ap (λ (ls : List Line). map line_of ls ++ t.done) none))
