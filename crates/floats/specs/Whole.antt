-- The whole part of a binary64's size from two fields of its 64 bits. Definitions only.
use Rattle.std.specs.Prelude.{ℕ, ◌+◌, ◌-◌, ◌*◌, ◌/◌, ◌^◌}

-- An exponent's field e and a fraction t stand for the size (2 ^ 52 + t) * 2 ^ (e - 1075); at the field 0 for less, but
-- either is below 1.
unfoldable pub whole_part : ℕ → ℕ → ℕ
whole_part e t = (2 ^ 52 + t) * 2 ^ (e - 1) / 2 ^ 1074
