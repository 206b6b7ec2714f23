-- Parts that are between two numbers, one by one.
use Rattle.std.proofs.Common.{◌≡◌, ℕ, ◌+◌, ◌<◌, ◌&&◌, List, drop, get_or, length, map, ap}
use Rattle.scasp_syntax.specs.View.{tm_of}
use Rattle.scasp_syntax.specs.declared.con.Con.{Con}
use Rattle.scasp_unify.specs.Numbers.{is_among_numbers, is_number_term, number_var}
use Rattle.scasp_unify.specs.Solving.{part_of}
use Rattle.scasp_unify.specs.declared.parts.Part.{Part}
use Rattle.scasp_unify.proofs.SolvingLemmas.{next-part}

pub among-next : (cs : List Con) (ps : List Part) (i : ℕ) (p : Part) → i < length ps → p ≡ get_or ps i p → is_among_numbers cs (map part_of (drop i ps)) ≡ ((number_var cs p.at && is_number_term cs (tm_of p.term)) && is_among_numbers cs (map part_of (drop (i + 1) ps)))
among-next cs ps i p h e = ap (is_among_numbers cs) (next-part ps i p h e)
