-- A coordinate with no sign, at most its cell's number and one less a part of a cell, can be followed from that cell,
-- in every format. Assumes nothing.
use Rattle.std.proofs.Common.{◌≡◌, ℕ, ◌+◌, ◌-◌, ◌*◌, ◌/◌, ◌^◌, ◌≤◌, min, true, false, T, negsuc, sym, refl, subst, one-mul, div-mul-le_self, arith}
use lib.Ieee.{Float, nan, inf, fin, Format, binary32, binary64, up, down, round, sum, add, sub, div, le, of_bits, to_unsigned}
use lib.Ieee.Exact.{HasValue}
use lib.Ieee.Fits.{down_pos}
use Rattle.rules.specs.Floats.{number_f}
use Rattle.rules.specs.TheGridAndItsBounds.{most_extent}
use Rattle.laws.specs.Literals.{literal, one_code}
use Rattle.laws.specs.Floats.Values.{scaled, add_value}
use Rattle.laws.specs.Floats.Sizes.{AtMost, unsigned, below_exact, number_value}
use Rattle.laws.specs.Floats.Inside.{Inside, parts, some-parts, highest, highest_value}

-- ---- the code's bound over a cell's number: 1.0 less a part
abbrev parts_code : Format → Float
parts_code = literal 0x4500_0000 0x4130_0000_0000_0000

abbrev pub below-face : Format → Float
below-face f = sub f (one_code f) (div f (one_code f) (parts_code f))

below_face_value : (f : Format) → HasValue (below-face f) false (parts f - 1) (parts f)
unfolding of_bits div sub
below_face_value binary32 = (refl, refl)
below_face_value binary64 = (refl, refl)

module _ (f : Format) where
  together : (a b d : ℕ) → sum f false a false b d ≡ round f false (a + b) d
  unfolding sum
  together a b d = refl

  bound_value : (c : ℕ) → c ≤ most_extent → HasValue (add f (number_f f c) (below-face f)) false (highest f c) (parts f)
  bound_value c h =
      let n = subst (λ (k : ℕ). HasValue (number_f f c) false (c * parts f) k) (one-mul (parts f)) (scaled (number_f f c) false c 1 (parts f) (number_value f c h)) in
      rw (add_value f (number_f f c) (below-face f) false false (c * parts f) (parts f - 1) (parts f) (some-parts f) n (below_face_value f), together (c * parts f) (parts f - 1) (parts f))
      (highest_value f c (omega arith))

  -- ---- the cell
  of_cell : (c : ℕ) (x : Float) → c ≤ most_extent → T (unsigned x) → c ≡ to_unsigned 64 x → AtMost x (highest f c) (parts f) → Inside f c x
  unfolding to_unsigned
  of_cell c nan h u k p = absurd p
  of_cell c (inf s) h u k p = absurd p
  of_cell c (fin true m e) h u k p = absurd u
  of_cell c (fin false m e) h u k p =
      record {
        num = m * up e;
        den = down e;
        positive = down_pos e;
        is = (refl, refl);
        from = subst (λ (n : ℕ). n * down e ≤ m * up e) (sym (uncut (m * up e / down e) k)) (div-mul-le_self (m * up e) (down e));
        to = p;
      }
    where
      uncut : (w : ℕ) → c ≡ min w (2 ^ 64 - 1) → c ≡ w
      uncut w e = omega arith

  pub followed : (c : ℕ) (x : Float) → c ≤ most_extent → T (unsigned x) → c ≡ to_unsigned 64 x
      → T (le x (add f (number_f f c) (below-face f))) → Inside f c x
  followed c x h u k l =
      of_cell c x h u k (below_exact x _ (highest f c) (parts f) (some-parts f) (bound_value c h) u l)
