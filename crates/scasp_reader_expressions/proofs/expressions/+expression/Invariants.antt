use Rattle.std.proofs.Common.{◌≡◌, ◌+◌, ◌*◌}
use Rattle.scasp_reader_terms.specs.Terms.{below}
use Rattle.scasp_reader_expressions.specs.Expressions.{repeated, chain, factor_operation, product_operation, factor, product, expression}
use Rattle.scasp_reader_expressions.proofs.expressions.+expression.Given as goal

-- these calls follow one another before one more bracket is opened
abbrev pub decreases-expression : goal.decreases-expression
decreases-expression l = 16 * l.room + 9

abbrev pub decreases-products_behind : goal.decreases-products_behind
decreases-products_behind l = 16 * l.room + 8

abbrev pub decreases-product_behind : goal.decreases-product_behind
decreases-product_behind l = 16 * l.room + 7

abbrev pub decreases-product : goal.decreases-product
decreases-product l = 16 * l.room + 6

abbrev pub decreases-factors_behind : goal.decreases-factors_behind
decreases-factors_behind l = 16 * l.room + 5

abbrev pub decreases-factor_behind : goal.decreases-factor_behind
decreases-factor_behind l = 16 * l.room + 4

abbrev pub decreases-factor : goal.decreases-factor
decreases-factor l = 16 * l.room + 3

abbrev pub decreases-factor_at_sign : goal.decreases-factor_at_sign
decreases-factor_at_sign l = 16 * l.room + 2

abbrev pub decreases-bracket : goal.decreases-bracket
decreases-bracket l = 16 * l.room + 10

abbrev pub invariant-products_behind-loop-left : goal.invariant-products_behind-loop-left
invariant-products_behind-loop-left l =
    repeated product_operation (product (below expression l.room)) l.left l.value l.reader ≡ chain product_operation (product (below expression l.room)) l.fn.first l.fn.reader

abbrev pub decreases-products_behind-loop-left : goal.decreases-products_behind-loop-left
decreases-products_behind-loop-left l = l.left

abbrev pub invariant-factors_behind-loop-left : goal.invariant-factors_behind-loop-left
invariant-factors_behind-loop-left l =
    repeated factor_operation (factor (below expression l.room)) l.left l.value l.reader ≡ chain factor_operation (factor (below expression l.room)) l.fn.first l.fn.reader

abbrev pub decreases-factors_behind-loop-left : goal.decreases-factors_behind-loop-left
decreases-factors_behind-loop-left l = l.left
