-- The variables of a clause are numbered in the order in which they are read: items and bodies.
use Rattle.std.specs.Prelude.{ℕ, List, [], ◌∷◌, Option, Some}
use Rattle.scasp_num.specs.Arithmetic.{◌>>=◌}
use Rattle.scasp_syntax.specs.Tm.{Tm}
use Rattle.scasp_syntax.specs.View.{tm_of}
use Rattle.scasp_syntax.specs.declared.clause.Item.{Item}
use Rattle.scasp_syntax.specs.declared.clause.Item.TheVariants as form
use Rattle.scasp_print_program.specs.Terms.{Style}
use Rattle.scasp_law_program_text.specs.CompoundReadback.Counting.{count, count_all}
use Rattle.scasp_law_program_text.specs.LinearReadback.Counting.{count_variables}

abbrev pub count_both : Style → ℕ → Tm → Tm → Option ℕ
count_both w n t s = count w n t >>= (λ m. count w m s)

-- the number of variables that the clause has had behind the item, where it had n before
abbrev pub count_item : Style → ℕ → Item → Option ℕ
count_item w n (form.Call l) = count_all w n l.atom.args
count_item w n (form.Equal t s) = count_both w n (tm_of t) (tm_of s)
count_item w n (form.Differ t s) = count_both w n (tm_of t) (tm_of s)
count_item w n (form.Linear l) = count_variables w n l.vars

abbrev pub count_body : Style → ℕ → List Item → Option ℕ
count_body w n [] = Some n
count_body w n (i ∷ items) = count_item w n i >>= (λ m. count_body w m items)
