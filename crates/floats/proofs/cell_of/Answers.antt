-- Below 4096 with no sign by the exponent, else case by case.
use Rattle.std.proofs.Common.{◌/◌, ◌^◌, ◌<◌, false, sym, ap, ◌∙◌, subst, arith}
use lib.Ieee.{Float}
use Rattle.floats.specs.Whole.{whole_part}
use Rattle.floats.proofs.WholePart.{below}
use Rattle.laws.specs.Floats.Nans.{no_nan}
use Rattle.floats.proofs.Pattern.{bits_of, fraction_of, fraction_lt, equals_itself, low_sign, low_exponent}
use Rattle.floats.proofs.Ranges.{cell_is, cell_kept, cell-plus}
use Rattle.floats.proofs.cell_of.Goals as goal
use Rattle.floats.proofs.cell_of.Goals.{After-whole_part}

-- the call's result is a cell of a map
small : (c : After-whole_part) → c.whole_part.result < 2 ^ 63
small c =
    let x : Float = c.args.x in
    subst (λ n. n < 2 ^ 63) (sym c.whole_part.ensures) (below (bits_of x / 2 ^ 52) (fraction_of x) 63 (fraction_lt x) (omega arith))

pub float_to_bits-bits : goal.float_to_bits-bits
float_to_bits-bits c = no_nan c.args.x (equals_itself c.args.x c.if-x.true)

pub whole_part-requires : goal.whole_part-requires
whole_part-requires c = record { fact_1 = omega arith; fact_2 = fraction_lt c.args.x }

pub overflow_cast-result : goal.overflow_cast-result
overflow_cast-result c = record { sfits = small c }

pub returns-then-exponent-lt1035 : goal.returns-then-exponent-lt1035
returns-then-exponent-lt1035 c = let x = c.args.x in
    let low = c.if-exponent-lt1035.true in
    let w = c.whole_part in
    cell-plus w.result (small c) ∙ ap (cell_kept false) (w.ensures ∙ ap (λ n. whole_part n (fraction_of x)) (low_exponent x low))
    ∙ sym (cell_is x false c.well_formed.0.1 (equals_itself x c.if-x.true) (low_sign x low))
