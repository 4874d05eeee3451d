-- The contracts that allow more than one answer, all of the walk by whole numbers. `followed_cell` and `cell_after` may
-- say of any coordinate that no cell is followed from it, by any number beyond every map, and so may what joins them
-- axis by axis; `follow` may stop after any cell, the first step among them. Each decides how much of a line is walked
-- the fast way; `walk_drawn` above them has one answer. Assumes nothing.
use Rattle.std.specs.Prelude.{ℕ, ◌+◌, ◌<◌, List, ◌≡◌, refl, Float, length, IfSome, None}
use Rattle.std.proofs.Common.{arith}
use Rattle.std.specs.Float.{Format}
use Rattle.rules.specs.TheGridAndItsBounds.{Head, most_extent}
use Rattle.rules.specs.TheLine.{Line}
use Rattle.laws.specs.Checks.{Ready}
use Rattle.laws.specs.Floats.Inside.{Followed}
use Rattle.laws.specs.Following.{Drawn}
use Rattle.beam.specs.Walking.{Begun, FollowedTo}
use Rattle.theorems.specs.OneAnswer.Law.{OneAnswer}

-- a number beyond every map is allowed, whatever the coordinate
pub nothing_followed : (f : Format) (x : Float) (c : ℕ) → most_extent < c → Followed f c x
nothing_followed f x c beyond within = absurd (omega arith)

-- so two numbers are
pub followed_not_one : (f : Format) (x : Float) → OneAnswer (λ c. Followed f c x) → ⊥
followed_not_one f x one =
    let same : ◌≡◌ {A = ℕ} 4_097 4_098 = one 4_097 4_098 (nothing_followed f x 4_097 (omega arith)) (nothing_followed f x 4_098 (omega arith)) in
    omega arith

-- to find no place for the cells that are followed is allowed: a line is then walked step by step
pub nothing_placed : (extents cells : List ℕ) → IfSome None (FollowedTo extents cells)
nothing_placed extents cells = tt

-- to walk no step at all is allowed
pub nothing_walked : (f : Format) (h : Head) (line : Line) (odds : List Float) (stamps : List ℕ) → Drawn line → Ready h (length odds) (length stamps)
    → Begun f h line odds stamps line odds stamps 0
nothing_walked f h line odds stamps drawn ready =
    record {
      drawn = drawn;
      walked = λ last. record { left = refl; ready = ready; used = omega arith; whole = λ n odds' stamps' applied. let none_before : 0 + n ≡ n = omega arith in rw none_before applied };
    }
