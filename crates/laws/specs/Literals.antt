-- The code's float literals, and what it computes of them, as the rules' numbers, in both formats: each by computing.
-- Assumes nothing.
use Rattle.std.specs.Prelude.{ℕ, ◌≡◌, refl, true, false, Float}
use Rattle.std.specs.Float.{Format, inf, binary32, binary64}
use Rattle.std.specs.Float.Ieee.{of_bits, of_int, div, sub, neg}
use Rattle.rules.specs.Floats.{zero_f, half_f, one_f, number_f}
use Rattle.rules.specs.TheGridAndItsBounds.{most_size}
use Rattle.rules.specs.TheLine.{threshold_of}

-- a literal, by its bits in each format
abbrev pub literal : ℕ → ℕ → Format → Float
literal narrow wide binary32 = of_bits binary32 narrow
literal narrow wide binary64 = of_bits binary64 wide

abbrev pub zero_code : Format → Float
zero_code = literal 0 0

abbrev pub half_code : Format → Float
half_code = literal 0x3f00_0000 0x3fe0_0000_0000_0000

abbrev pub one_code : Format → Float
one_code = literal 0x3f80_0000 0x3ff0_0000_0000_0000

abbrev pub three_code : Format → Float
three_code = literal 0x4040_0000 0x4008_0000_0000_0000

abbrev pub four_code : Format → Float
four_code = literal 0x4080_0000 0x4010_0000_0000_0000

abbrev pub most_size_code : Format → Float
most_size_code = literal 0x4980_0000 0x4130_0000_0000_0000

pub zero_is : (f : Format) → zero_code f ≡ zero_f
unfolding of_bits
zero_is binary32 = refl
zero_is binary64 = refl

pub half_is : (f : Format) → half_code f ≡ half_f
unfolding of_bits
half_is binary32 = refl
half_is binary64 = refl

pub one_is : (f : Format) → one_code f ≡ one_f
unfolding of_bits
one_is binary32 = refl
one_is binary64 = refl

pub most_size_is : (f : Format) → most_size_code f ≡ most_size
unfolding of_bits
most_size_is binary32 = refl
most_size_is binary64 = refl

pub infinity_is : (f : Format) → div f (one_code f) (zero_code f) ≡ inf false
unfolding of_bits div
infinity_is binary32 = refl
infinity_is binary64 = refl

pub minus_infinity_is : (f : Format) → div f (neg (one_code f)) (zero_code f) ≡ inf true
unfolding of_bits div neg
minus_infinity_is binary32 = refl
minus_infinity_is binary64 = refl

-- the thresholds of two and three axes
pub threshold2_is : (f : Format) → sub f (one_code f) (div f (one_code f) (three_code f)) ≡ threshold_of f 2
unfolding of_bits threshold_of number_f of_int
threshold2_is binary32 = refl
threshold2_is binary64 = refl

pub threshold3_is : (f : Format) → sub f (one_code f) (div f (one_code f) (four_code f)) ≡ threshold_of f 3
unfolding of_bits threshold_of number_f of_int
threshold3_is binary32 = refl
threshold3_is binary64 = refl
