-- The open lines of the code, as values.
use Rattle.std.specs.Prelude.{◌≡◌, List, [], ◌∷◌, drop, map, reverse, Option, None, Some}
use Rattle.scasp_answers.specs.Blocks.Open as spec
use Rattle.scasp_answers.specs.Parts.View.{open_of}
use Rattle.scasp_answers.specs.declared.parts.open_line.Open.{Open}
use Rattle.scasp_answers.specs.declared.opens.opens.Opens.{Opens}

-- the open lines, innermost first
abbrev pub opens_of : Opens → List spec.Open
opens_of o = reverse (map open_of o.list.items)

-- the open lines with these parts below the innermost one, if there is one
abbrev pub filled : List spec.Open → List spec.Part → List spec.Open
filled [] ps = []
filled (o ∷ opens) ps = spec.with_parts o ps ∷ opens

-- this is the innermost open line, or there is none
abbrev pub Innermost : List spec.Open → Option Open → Type 0
Innermost opens None = opens ≡ []
Innermost opens (Some o) = opens ≡ open_of o ∷ drop 1 opens

-- the innermost open line is taken off, or there was none
abbrev pub Pops : List spec.Open → Option Open → List spec.Open → Type 0
Pops old None new = (old ≡ []) × (new ≡ [])
Pops old (Some o) new = old ≡ open_of o ∷ new
