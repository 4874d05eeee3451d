-- The fraction with its leading one, shifted as far as the exponent says: to the left, to the right, or all of it away.
use Rattle.std.proofs.Common.{◌≡◌, ℕ, ◌+◌, ◌-◌, ◌*◌, ◌/◌, ◌%◌, ◌^◌, ◌<◌, sym, ap, ◌∙◌, arith, shl_exact}
use lib.Bits.{bit_or, or_shifted_r}
use Rattle.floats.proofs.WholePart.{shifted_left, shifted_right, nothing_left}
use Rattle.floats.proofs.whole_part.Goals as goal

pub returns-then-exponent-gt1075 : goal.returns-then-exponent-gt1075
returns-then-exponent-gt1075 c = let e = c.args.exponent in
    let t = c.args.fraction in
    let d : bit_or t (2 ^ 52) ≡ 2 ^ 52 + t = or_shifted_r 1 52 t c.requires.fact_2 in
    let v : 2 ^ 52 + t < 2 ^ 53 = omega arith in
    ap (λ (n : ℕ). (n * 2 ^ (e - 1075)) % 2 ^ 64) d ∙ shl_exact 53 (e - 1075) 64 v (omega arith) ∙ sym (shifted_left e t c.if-exponent-gt1075.true)

pub returns-then-places-gt52 : goal.returns-then-places-gt52
returns-then-places-gt52 c = sym (nothing_left c.args.exponent c.args.fraction c.requires.fact_2 (omega arith))

pub returns : goal.returns
returns c = let e = c.args.exponent in
    let t = c.args.fraction in
    ap (λ (n : ℕ). n / 2 ^ (1075 - e)) (or_shifted_r 1 52 t c.requires.fact_2) ∙ sym (shifted_right e t (omega arith) (omega arith))
