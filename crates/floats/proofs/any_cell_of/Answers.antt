-- By the fields of the bits: inside the range the whole part with its sign, beyond it the range's end.
use Rattle.std.proofs.Common.{◌^◌, ◌<◌, true, false, sym, refl, ap, ◌∙◌, subst, arith}
use lib.Ieee.{Float, to_signed}
use lib.Ieee.Compare.{differs_from_itself}
use Rattle.rules.specs.Coordinates.{truncated}
use Rattle.floats.proofs.WholePart.{below}
use Rattle.laws.specs.Floats.Nans.{no_nan}
use Rattle.floats.proofs.Pattern.{exponent_of, fraction_of, fraction_lt, plus, minus}
use Rattle.floats.proofs.Ranges.{cell_is, cell_beyond, cell_kept, cell-plus, cell-minus, negated}
use Rattle.floats.proofs.any_cell_of.Goals as goal
use Rattle.floats.proofs.any_cell_of.Goals.{After-whole_part-size}

-- the call's result fits an i64
small : (c : After-whole_part-size) → c.whole_part-size.result < 2 ^ 63
small c =
    let x : Float = c.args.x in
    subst (λ n. n < 2 ^ 63) (sym c.whole_part-size.ensures) (below (exponent_of x) (fraction_of x) 63 (fraction_lt x) (omega arith))

pub returns-then-x : goal.returns-then-x
unfolding truncated to_signed
returns-then-x c = rw (differs_from_itself c.args.x (rw c.if-x.true tt)) refl

pub float_to_bits-bits : goal.float_to_bits-bits
float_to_bits-bits c = no_nan c.args.x c.if-x.false

pub whole_part-size-requires : goal.whole_part-size-requires
whole_part-size-requires c = record { fact_1 = omega arith; fact_2 = fraction_lt c.args.x }

pub overflow_cast-result : goal.overflow_cast-result
overflow_cast-result c = record { sfits = small c.before }

pub returns-then-sign-eq0 : goal.returns-then-sign-eq0
returns-then-sign-eq0 c = let w = c.whole_part-size in
    cell-plus w.result (small c.before) ∙ ap (cell_kept false) w.ensures
    ∙ sym (cell_is c.args.x false c.well_formed.0.1 c.if-x.false (plus c.args.x c.if-sign-eq0.true))

pub overflow_cast-result-then-exponent-lt1086 : goal.overflow_cast-result-then-exponent-lt1086
overflow_cast-result-then-exponent-lt1086 c = record { sfits = small c.before }

pub overflow_sub-result : goal.overflow_sub-result
overflow_sub-result c = negated c.whole_part-size.result (small c.before)

pub returns-then-exponent-lt1086 : goal.returns-then-exponent-lt1086
returns-then-exponent-lt1086 c = let w = c.whole_part-size in
    cell-minus w.result (small c.before) ∙ ap (cell_kept true) w.ensures
    ∙ sym (cell_is c.args.x true c.well_formed.0.1 c.if-x.false (minus c.args.x c.if-sign-eq0.false))

pub returns-then-sign-eq0-2 : goal.returns-then-sign-eq0-2
returns-then-sign-eq0-2 c = sym (cell_beyond c.args.x false c.well_formed.0.1 c.if-x.false (plus c.args.x c.if-sign-eq0-2.true) c.if-exponent-lt1086.false)

pub returns : goal.returns
returns c = sym (cell_beyond c.args.x true c.well_formed.0.1 c.if-x.false (minus c.args.x c.if-sign-eq0-2.false) c.if-exponent-lt1086.false)
