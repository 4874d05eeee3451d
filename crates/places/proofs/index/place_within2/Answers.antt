-- No product and no sum wraps, and indices below their extents make a place.
use Rattle.std.proofs.Common.{◌*◌, ◌≤◌, add-zero, one-mul, mul-one, arith, Fits-le, Fits-lit, lt-ltb}
use Rattle.rules.specs.TheGridAndItsBounds.{strides, strides_from}
use Rattle.rules.specs.Coordinates.{along, on_grid_from, times_strides, flat_index}
use Rattle.laws.specs.Places.{within_products}
use Rattle.places.proofs.index.place_within2.Goals as goal
use Rattle.places.proofs.index.place_within2.Goals.{Start}

product : (c : Start) → c.args.y * c.args.extents.x ≤ 4096 * 4096
product c = within_products c.requires.y_within c.requires.in_bounds.0.2.1 c.requires.in_bounds.0.1

pub overflow_mul-result : goal.overflow_mul-result
overflow_mul-result c = Fits-le (product (goal.at.overflow_mul-result c).Start) (Fits-lit {n = 4096 * 4096} tt)

pub overflow_add-result : goal.overflow_add-result
overflow_add-result c = let p = product (goal.at.overflow_add-result c).Start in
    let q = c.requires.x_within in
    let h = c.requires.in_bounds.0.1 in
    omega arith

pub returns : goal.returns
unfolding flat_index on_grid_from along times_strides strides strides_from
returns c = simp (lt-ltb _ _ c.requires.x_within, lt-ltb _ _ c.requires.y_within, one-mul, mul-one, add-zero)
