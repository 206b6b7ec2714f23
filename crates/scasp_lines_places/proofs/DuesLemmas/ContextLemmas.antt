-- The context of entries one behind another.
use Rattle.std.proofs.Common.{◌≡◌, ◌∙◌, List, [], ◌∷◌, ◌++◌, map, Bor, refl, sym, ap}
use Rattle.scasp_syntax.specs.declared.con.Con.{Con}
use Rattle.scasp_lines.specs.Contexts.{constraints_of, context}
use Rattle.scasp_lines.specs.Opened.{Opened}
use Rattle.scasp_lines_places.specs.Places.View.{opened_of}
use Rattle.scasp_lines_places.specs.declared.places.place.Entry.{Entry}
use Rattle.scasp_lines_places.specs.Dues.Seen.{seen}
use Rattle.scasp_lines_places.proofs.DuesLemmas.DueLemmas.{map_push}

pub context_append : (given : List Con) (os ps : List Opened) → context given (os ++ ps) ≡ context (context given ps) os
context_append given [] ps = refl
context_append given (o ∷ os) ps = ap (λ cs. cs ++ constraints_of o) (context_append given os ps)

-- the outermost first
pub context_last : (given : List Con) (os : List Opened) (o : Opened) → context given (os ++ o ∷ []) ≡ context (given ++ constraints_of o) os
context_last given os o = context_append given os (o ∷ [])

-- the outermost of what is left is taken
pub context_step : (list made : List Con) (left : List (Bor Entry)) (e : Bor Entry) → made ≡ list ++ constraints_of (opened_of e.now) → context list (map seen (left ++ e ∷ [])) ≡ context made (map seen left)
context_step list made left e h =
    ap (context list) (map_push seen left e) ∙ context_last list (map seen left) (opened_of e.now) ∙ ap (λ cs. context cs (map seen left)) (sym h)
