-- Terms that bindings read from a place on.
use Rattle.std.specs.Prelude.{ℕ, List, Option, drop}
use Rattle.scasp_bound.specs.declared.reading.Head.{Head}
use Rattle.scasp_bound.specs.declared.reading.Head.TheVariants as head
use Rattle.scasp_bound.specs.declared.reading.Piece.{Piece}
use Rattle.scasp_bound.specs.Inside.Gaps.{present}
use Rattle.scasp_syntax.specs.Tm.{Tm, Tms, app, num, var}
use Rattle.scasp_syntax.specs.Values.{Sub, all_under}
use Rattle.scasp_syntax.specs.View.{tm_of, tms_of}
use Rattle.scasp_unify.specs.Solving.{sub_of}
use Rattle.scasp_unify.specs.declared.bindings.Binding.{Binding}

-- what the bindings from this place on make of each variable
abbrev pub behind : ℕ → List (Option Binding) → Sub
behind from bindings = sub_of (present (drop from bindings))

-- the terms as they are read
abbrev pub piece_read : List (Option Binding) → Piece → Tms
piece_read bindings p = all_under (behind p.from bindings) (tms_of p.terms.now)

-- the term that begins so
abbrev pub head_read : List (Option Binding) → Head → Tm
head_read bindings (head.Var x) = var x
head_read bindings (head.Num q) = num q
head_read bindings (head.Name f args) = app f (piece_read bindings args)
