use Rattle.std.proofs.Common.{◌∙◌, not, sym}
use Rattle.std.proofs.lemmas.Result.{err_from_is_err_and}
use Rattle.scasp_lines_walk.specs.Shown.TableView.{told_of}
use Rattle.scasp_search_ends.proofs.EndsLemmas.BehindLemmas.{found-fault, marked-met, marked-rest}
use Rattle.scasp_search_ends.specs.Ends.Inside.Behind.{is_under, key_of, told_under}
use Rattle.scasp_search_ends.specs.declared.ends.behind.Sought.TheVariants as sought
use Rattle.scasp_search_ends.proofs.ends.pairs.is_marked_apart.Goals as goal

pub returns-in_err-is_apart_among : goal.returns-in_err-is_apart_among
returns-in_err-is_apart_among c = λ ts h k.
    let a = told_of c.args.first.now in
    let key = key_of a (not a.positive) (sought.Marked c.args.marked) in
    let p = err_from_is_err_and c.from_residual.result c.from_residual.ensures.1 in
    rw (p.1, p.2)
    (found-fault c.args.free c.args.given.now a (is_under key) c.in_err-is_apart_among.field-0.0 _ _ (told_under c.args.behind.now key) ts (h key) c.in_err-is_apart_among.ensures)

pub returns-then-not-branch : goal.returns-then-not-branch
returns-then-not-branch c = λ ts h k.
    let a = told_of c.args.first.now in
    let key = key_of a (not a.positive) (sought.Marked c.args.marked) in
    marked-met c.args.free c.args.given.now a c.args.marked k (told_under c.args.behind.now key) ts (h key)
    (sym c.if-not-branch.true ∙ c.in_ok-is_apart_among.ensures)

pub returns : goal.returns
returns c = λ ts h k.
    let a = told_of c.args.first.now in
    let key = key_of a (not a.positive) (sought.Marked c.args.marked) in
    let other = key_of a (not a.positive) sought.Open in
    marked-rest c.args.free c.args.given.now a c.args.marked k c.is_apart_among-2.result (told_under c.args.behind.now key) (told_under c.args.behind.now other) ts (h key) (h other)
    (sym c.if-not-branch.false ∙ c.in_ok-is_apart_among.ensures) c.is_apart_among-2.ensures
