use Rattle.std.proofs.Common.{◌≡◌, Some, Err, sym, ap, ◌∙◌}
use Rattle.std.proofs.lemmas.Result.{err_from_is_err_and}
use Rattle.scasp_reader_terms.specs.Steps.{place_of, token_of}
use Rattle.scasp_reader_terms.specs.Terms.{below}
use Rattle.scasp_reader_expressions.specs.Values.{operated}
use Rattle.scasp_reader_expressions.specs.Expressions.{operation_behind, chain, factor_operation, product_operation, factor, product, expression}
use Rattle.scasp_reader_expressions.proofs.ChainLemmas.{repeated_stops, Does_on, Does_stops, operation_on, expression_on, expression_stops}
use Rattle.scasp_reader_expressions.proofs.expressions.+expression.Goals as goal

pub expression-returns : goal.expression-returns
expression-returns t c =
    let e = c.in_ok-first.first in
    let behind = chain product_operation (product (below expression c.args.room)) in
    Does_on (λ x. x) (expression c.args.room) (behind c.in_ok-value.value) c.args.reader.now c.product.new.reader _ _
    (expression_on c.args.room c.args.reader.now c.taken-minus.new.self c.taken-minus.result c.taken-minus.ensures e c.product.new.reader (c.in_ok-first.ensures)
    ∙ ap (λ x. behind x c.product.new.reader) (sym (c.in_ok-value.ensures)))
    c.products_behind.ensures

pub expression-returns-in_err-first : goal.expression-returns-in_err-first
expression-returns-in_err-first t c =
    let p = err_from_is_err_and c.from_residual.result c.from_residual.ensures.1 in
    let s = c.args.reader.now in
    Does_stops (λ x. x) (λ x. x) (expression c.args.room) (product (below expression c.args.room)) s c.taken-minus.new.self c.from_residual.result c.in_err-first.field-0.0 c.product.new.reader _
    (expression_stops c.args.room s c.taken-minus.new.self c.taken-minus.result c.taken-minus.ensures)
    (p.1 ∙ ap Err p.2) c.in_err-first.ensures

pub factor_behind-returns : goal.factor_behind-returns
factor_behind-returns t c =
    let inner = factor (below expression c.args.room) in
    let s = c.args.reader.now in
    let at = place_of s.tokens in
    let f = c.in_ok-operand.operand in
    Does_on (λ x. x) (operation_behind inner c.args.operation at c.args.value) (operated c.args.operation c.at-at.result c.args.value f) s c.factor.new.reader _ _
    (operation_on inner c.args.operation at c.args.value f s c.factor.new.reader (ap inner (sym c.take.ensures) ∙ c.in_ok-operand.ensures) ∙ ap (λ a. operated c.args.operation a c.args.value f c.factor.new.reader) (sym c.at-at.ensures))
    c.operated.ensures

pub product_behind-returns : goal.product_behind-returns
product_behind-returns t c =
    let inner = product (below expression c.args.room) in
    let s = c.args.reader.now in
    let at = place_of s.tokens in
    let f = c.in_ok-operand.operand in
    Does_on (λ x. x) (operation_behind inner c.args.operation at c.args.value) (operated c.args.operation c.at-at.result c.args.value f) s c.product.new.reader _ _
    (operation_on inner c.args.operation at c.args.value f s c.product.new.reader (ap inner (sym c.take.ensures) ∙ c.in_ok-operand.ensures) ∙ ap (λ a. operated c.args.operation a c.args.value f c.product.new.reader) (sym c.at-at.ensures))
    c.operated.ensures

pub factors_behind-returns-in_err-value : goal.factors_behind-returns-in_err-value
factors_behind-returns-in_err-value t c =
    let p = err_from_is_err_and c.from_residual.result c.from_residual.ensures.1 in
    let inner = factor (below expression c.args.room) in
    let s = c.loop-left.reader in
    let o = c.in-Some.operation in
    let is_sign : factor_operation (token_of s.tokens) ≡ Some o = cc (c.factor_operation.ensures, c.token.ensures, c.in-Some.ensures) in
    Does_stops (λ x. x) (λ x. x) (chain factor_operation inner c.args.first) (operation_behind inner o (place_of s.tokens) c.loop-left.value) c.args.reader.now s c.from_residual.result c.in_err-value.field-0.0 c.factor_behind.new.reader _
    (λ fault h. sym c.loop-left.invariant ∙ repeated_stops factor_operation inner c.loop-left.left c.loop-left.value s c.loop-left-test.true o is_sign fault h)
    (p.1 ∙ ap Err p.2) c.in_err-value.ensures

pub products_behind-returns-in_err-value : goal.products_behind-returns-in_err-value
products_behind-returns-in_err-value t c =
    let p = err_from_is_err_and c.from_residual.result c.from_residual.ensures.1 in
    let inner = product (below expression c.args.room) in
    let s = c.loop-left.reader in
    let o = c.in-Some.operation in
    let is_sign : product_operation (token_of s.tokens) ≡ Some o = cc (c.product_operation.ensures, c.token.ensures, c.in-Some.ensures) in
    Does_stops (λ x. x) (λ x. x) (chain product_operation inner c.args.first) (operation_behind inner o (place_of s.tokens) c.loop-left.value) c.args.reader.now s c.from_residual.result c.in_err-value.field-0.0 c.product_behind.new.reader _
    (λ fault h. sym c.loop-left.invariant ∙ repeated_stops product_operation inner c.loop-left.left c.loop-left.value s c.loop-left-test.true o is_sign fault h)
    (p.1 ∙ ap Err p.2) c.in_err-value.ensures
