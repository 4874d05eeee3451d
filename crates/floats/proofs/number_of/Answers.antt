-- Both ways are the number to the nearest float; below 2 ^ 53 it is one.
use Rattle.std.proofs.Common.{ℕ, ◌^◌, ◌<◌, T, ℤ, sym, ap, subst, arith, le→leb, w64, to_z}
use lib.Ieee.{binary64, in_float, of_int}
use mir.ValLaws.{to_z_pos}
use Rattle.rules.specs.Floats.{number_f}
use Rattle.floats.proofs.number_of.Goals as goal

-- read as signed, it is the same number, and a float holds it
exact : (n : ℕ) → n < 9_007_199_254_740_992 → T (in_float binary64 (to_z w64 n))
unfolding in_float
exact n h = subst (λ (z : ℤ). T (in_float binary64 z)) (sym (to_z_pos w64 n (omega arith))) (le→leb n (2 ^ 53) (omega arith))

pub int_to_float-result : goal.int_to_float-result
int_to_float-result c = exact c.args.n c.if-n-lt9007199254740992.true

pub returns-then-n-lt9007199254740992 : goal.returns-then-n-lt9007199254740992
unfolding number_f
returns-then-n-lt9007199254740992 c = ap (of_int binary64) (to_z_pos w64 c.args.n (omega arith))

pub returns : goal.returns
unfolding number_f
returns c = c.nearest_u64_to_f64.ensures
