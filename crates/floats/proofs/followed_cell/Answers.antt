-- A cell that is answered passed all three tests; `NOT_FOLLOWED` is no cell's number.
use Rattle.std.proofs.Common.{false, T, sym, ◌∙◌, subst, arith, rules}
use lib.Ieee.{binary64}
use Rattle.rules.specs.Floats.{number_f}
use Rattle.floats.proofs.WholePart.{below}
use Rattle.laws.specs.Floats.Nans.{no_nan}
use Rattle.floats.proofs.Pattern.{exponent_of, fraction_of, fraction_lt, below_4096, exponent_below, no_sign}
use Rattle.floats.proofs.Ranges.{count_is, count_plus}
use Rattle.floats.proofs.Following.{followed}
use Rattle.floats.proofs.followed_cell.Goals as goal

pub returns-then-x : goal.returns-then-x
returns-then-x c h = absurd (omega arith)

pub float_to_bits-bits : goal.float_to_bits-bits
float_to_bits-bits c = no_nan c.args.x c.if-x.false

pub returns-then-bits-ge4661225614328463360 : goal.returns-then-bits-ge4661225614328463360
returns-then-bits-ge4661225614328463360 c h = absurd (omega arith)

pub whole_part-cell-requires : goal.whole_part-cell-requires
whole_part-cell-requires c = let x = c.args.x in
    record { fact_1 = omega (arith, exponent_below x c.if-bits-ge4661225614328463360.false); fact_2 = fraction_lt x }

pub overflow_cast-highest : goal.overflow_cast-highest
overflow_cast-highest c = let x = c.args.x in
    let small = below (exponent_of x) (fraction_of x) 12 (fraction_lt x) (exponent_below x c.if-bits-ge4661225614328463360.false) in
    search rules

pub returns-then-x-highest : goal.returns-then-x-highest
unfolding number_f
returns-then-x-highest c h = let x = c.args.x in
    let n = c.if-x.false in
    let low = c.if-bits-ge4661225614328463360.false in
    let s = below_4096 x low in
    let whole = c.whole_part-cell.ensures in
    followed binary64 _ x h (no_sign x c.well_formed.0.1 n s)
    (whole ∙ count_plus _ (below (exponent_of x) (fraction_of x) 64 (fraction_lt x) (omega (arith, exponent_below x low))) ∙ sym (count_is x false c.well_formed.0.1 n s))
    (subst T (sym c.if-x-highest.true) tt)

pub returns : goal.returns
returns c h = absurd (omega arith)
