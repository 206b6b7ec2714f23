-- The lines that the code has, as values.
use Rattle.std.specs.Prelude.{◌≡◌, Option, None, Some, Result, Ok, Err}
use Rattle.scasp_answers_terms.specs.declared.tokens.stop.Stop.{Stop}
use Rattle.scasp_answers_terms.specs.declared.tokens.stop.Stop.TheVariants.{NoForm, Memory}
use Rattle.scasp_answers_terms.specs.Tokens.Lines as lines
use Rattle.scasp_syntax.specs.declared.atom.Pred.{Pred}
use Rattle.scasp_answers_lines.specs.declared.forms.predicates.WidePred.{WidePred}
use Rattle.scasp_answers_lines.specs.declared.forms.line.End.{End}
use Rattle.scasp_answers_lines.specs.declared.forms.line.End.TheVariants as end
use Rattle.scasp_answers_lines.specs.declared.forms.line.Line.{Line}
use Rattle.scasp_answers_lines.specs.declared.forms.line.Line.TheVariants as this

abbrev pub end_of : End → lines.End
end_of end.Ended = lines.ended
end_of end.Stopped = lines.stopped
end_of end.Spent = lines.spent
end_of end.Overflow = lines.overflow

abbrev pub line_of : Line → lines.Line
line_of (this.Header version) = lines.header_line version
line_of (this.Ending e query) = lines.ending_line (end_of e) query
line_of (this.Rejected query answer at reason) = lines.rejected_line query answer at reason.now
line_of (this.Answer query answer terms) = lines.answer_line query answer terms
line_of (this.Given con) = lines.given_line con
line_of (this.Sample terms) = lines.sample_line terms
line_of this.Tree = lines.tree_line
line_of (this.Check clause) = lines.check_line clause
line_of (this.Clash clash) = lines.clash_line clash
line_of (this.Map map) = lines.map_line map
line_of this.End = lines.end_line
line_of (this.Pos atom rule terms) = lines.pos_line atom rule terms
line_of (this.Neg atom) = lines.neg_line atom
line_of (this.Loop lit at) = lines.loop_line lit at
line_of (this.Seen lit at) = lines.seen_line lit at
line_of (this.Test con hint) = lines.test_line con hint
line_of (this.Rule rule) = lines.rule_line rule
line_of (this.Split con) = lines.split_line con
line_of (this.Void hint) = lines.void_line hint
line_of (this.Leaf item) = lines.leaf_line item
line_of this.Head = lines.head_line

-- The code answers the line that is found, or that there is none. Want of memory is free.
abbrev pub Finds : Option lines.Line → Result Line Stop → Type 0
Finds found (Ok line) = found ≡ Some (line_of line)
Finds found (Err NoForm) = found ≡ None
Finds found (Err Memory) = Unit {0}

-- a predicate with a number of arguments of any size
abbrev pub pred_of : WidePred → Pred
pred_of p = record { minus = p.minus; name = p.name; arity = p.arity }
