-- By the fields of the bits: nothing below zero, the whole part inside the range, and the range's end beyond it.
use Rattle.std.proofs.Common.{true, false, sym, refl, ◌∙◌, arith}
use lib.Ieee.{to_unsigned}
use lib.Ieee.Compare.{differs_from_itself}
use Rattle.floats.proofs.WholePart.{below}
use Rattle.laws.specs.Floats.Nans.{no_nan}
use Rattle.floats.proofs.Pattern.{exponent_of, fraction_of, fraction_lt, plus, minus}
use Rattle.floats.proofs.Ranges.{count_is, count_beyond, count_plus}
use Rattle.floats.proofs.count_of.Goals as goal

pub returns-then-x : goal.returns-then-x
unfolding to_unsigned
returns-then-x c = rw (differs_from_itself c.args.x (rw c.if-x.true tt)) refl

pub float_to_bits-bits : goal.float_to_bits-bits
float_to_bits-bits c = no_nan c.args.x c.if-x.false

pub returns-then-sign-ne0 : goal.returns-then-sign-ne0
returns-then-sign-ne0 c = sym (count_is c.args.x true c.well_formed.0.1 c.if-x.false (minus c.args.x c.if-sign-ne0.true))

pub whole_part-requires : goal.whole_part-requires
whole_part-requires c = record { fact_1 = omega arith; fact_2 = fraction_lt c.args.x }

pub returns-then-exponent-lt1087 : goal.returns-then-exponent-lt1087
returns-then-exponent-lt1087 c = let x = c.args.x in
    let w = c.whole_part.ensures in
    w ∙ count_plus _ (below (exponent_of x) (fraction_of x) 64 (fraction_lt x) (omega arith))
    ∙ sym (count_is x false c.well_formed.0.1 c.if-x.false (plus x c.if-sign-ne0.false))

pub returns : goal.returns
returns c = sym (count_beyond c.args.x c.well_formed.0.1 c.if-x.false (plus c.args.x c.if-sign-ne0.false) c.if-exponent-lt1087.false)
