-- NaN alone is unlike itself: how code tries a number. Assumes nothing.
use Rattle.std.specs.Prelude.{◌≡◌, refl, Bool, true, false, not, T, Float}
use Rattle.std.proofs.Common.{sym, ap, ◌∙◌, true≢false}
use Rattle.std.specs.Float.{nan, inf, fin}
use Rattle.std.specs.Float.Ieee.{ne, is_nan}
use Rattle.std.specs.Float.Ieee.Compare.{differs_from_itself, nan_differs}

nan_of : (x : Float) → T (ne x x) → is_nan x ≡ true
unfolding is_nan
nan_of x t = ap is_nan (differs_from_itself x t)

number_of : (x : Float) → ne x x ≡ false → is_nan x ≡ false
unfolding is_nan
number_of nan e = let z : ◌≡◌ {A = Bool} false true = sym e ∙ nan_differs in absurd (true≢false (sym z))
number_of (inf s) e = refl
number_of (fin s m k) e = refl

pub unlike_itself : (x : Float) → is_nan x ≡ ne x x
unlike_itself x = go (ne x x) refl
  where
    go : (b : Bool) → ne x x ≡ b → is_nan x ≡ b
    go true e = nan_of x (rw e tt)
    go false e = number_of x e

-- the same as a machine's operation on a number's bits asks for it
pub no_nan : (x : Float) → ne x x ≡ false → T (not (is_nan x))
no_nan x e = rw (unlike_itself x, e) tt
