use Rattle.std.proofs.Common.{◌∙◌, sym, ap}
use Rattle.std.specs.Option.{option_map}
use Rattle.scasp_syntax.specs.declared.con.Con.TheVariants as con
use Rattle.scasp_answers_lines.specs.Rows.Inside.{sum_of}
use Rattle.scasp_answers_lines.proofs.RowsLemmas.RowLemmas.{unfit-read, fit-read}
use Rattle.scasp_answers_lines.proofs.rows.rows.row_con.Goals as goal

pub returns : goal.returns
returns c =
    unfit-read c.args.cursor.now c.any_sum.new.cursor c.relation.new.cursor (sum_of c.in_ok-sum.sum) c.in_ok-op.op c.in_ok-sum.ensures c.in_ok-op.ensures (sym (c.fits.ensures c.in_ok-op.op) ∙ c.if-fits.false)

pub normal_row-requires : goal.normal_row-requires
normal_row-requires c = sym (c.fits.ensures c.in_ok-op.op) ∙ c.if-fits.true

pub returns-in-Some : goal.returns-in-Some
returns-in-Some c =
    fit-read c.args.cursor.now c.any_sum.new.cursor c.relation.new.cursor (sum_of c.in_ok-sum.sum) c.in_ok-op.op c.in_ok-sum.ensures c.in_ok-op.ensures (sym (c.fits.ensures c.in_ok-op.op) ∙ c.if-fits.true)
    ∙ ap (option_map (λ r. (con.Row r, c.relation.new.cursor))) (sym c.in_ok-row.ensures ∙ c.in-Some.is)

pub returns-then-fits : goal.returns-then-fits
returns-then-fits c =
    fit-read c.args.cursor.now c.any_sum.new.cursor c.relation.new.cursor (sum_of c.in_ok-sum.sum) c.in_ok-op.op c.in_ok-sum.ensures c.in_ok-op.ensures (sym (c.fits.ensures c.in_ok-op.op) ∙ c.if-fits.true)
    ∙ ap (option_map (λ r. (con.Row r, c.relation.new.cursor))) (sym c.in_ok-row.ensures ∙ c.in-None.is)
