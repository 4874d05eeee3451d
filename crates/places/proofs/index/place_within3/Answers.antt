-- No product and no sum wraps, and indices below their extents make a place.
use Rattle.std.proofs.Common.{◌*◌, ◌≤◌, add-zero, add_assoc, mul-le-mul, one-mul, mul-one, arith, Fits-le, Fits-lit, lt-ltb}
use Rattle.rules.specs.TheGridAndItsBounds.{strides, strides_from}
use Rattle.rules.specs.Coordinates.{along, on_grid_from, times_strides, flat_index}
use Rattle.laws.specs.Places.{within_products}
use Rattle.places.proofs.index.place_within3.Goals as goal
use Rattle.places.proofs.index.place_within3.Goals.{Start}

product-y : (c : Start) → c.args.y * c.args.extents.x ≤ 4096 * 4096
product-y c = within_products c.requires.y_within c.requires.in_bounds.0.2.1 c.requires.in_bounds.0.1

stride : (c : Start) → c.args.extents.x * c.args.extents.y ≤ 4096 * 4096
stride c = mul-le-mul c.requires.in_bounds.0.1 c.requires.in_bounds.0.2.1

product-z : (c : Start) → c.args.z * (c.args.extents.x * c.args.extents.y) ≤ 4096 * (4096 * 4096)
product-z c = within_products c.requires.z_within c.requires.in_bounds.0.2.2.1 (stride c)

pub overflow_mul-result : goal.overflow_mul-result
overflow_mul-result c = Fits-le (product-y (goal.at.overflow_mul-result c).Start) (Fits-lit {n = 4096 * 4096} tt)

pub overflow_add-result : goal.overflow_add-result
overflow_add-result c = let p = product-y (goal.at.overflow_add-result c).Start in
    let q = c.requires.x_within in
    let h = c.requires.in_bounds.0.1 in
    omega arith

pub overflow_mul-result-2 : goal.overflow_mul-result-2
overflow_mul-result-2 c = Fits-le (stride (goal.at.overflow_mul-result-2 c).Start) (Fits-lit {n = 4096 * 4096} tt)

pub overflow_mul-result-3 : goal.overflow_mul-result-3
overflow_mul-result-3 c = Fits-le (product-z (goal.at.overflow_mul-result-3 c).Start) (Fits-lit {n = 4096 * (4096 * 4096)} tt)

pub overflow_add-result-2 : goal.overflow_add-result-2
overflow_add-result-2 c = let p = product-y (goal.at.overflow_add-result-2 c).Start in
    let r = product-z (goal.at.overflow_add-result-2 c).Start in
    let q = c.requires.x_within in
    let h = c.requires.in_bounds.0.1 in
    omega arith

pub returns : goal.returns
unfolding flat_index on_grid_from along times_strides strides strides_from
returns c = simp (lt-ltb _ _ c.requires.x_within, lt-ltb _ _ c.requires.y_within, lt-ltb _ _ c.requires.z_within, one-mul, mul-one, add-zero, add_assoc)
