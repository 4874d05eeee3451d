-- Requirements, "Coordinates": from points to cells, and from cells to places in the lent lists; the stencil and the
-- sample. Lists go axis by axis, axis 0 first. Definitions only.
use Rattle.std.specs.Prelude.{ℕ, zero, suc, ◌+◌, ◌-◌, ◌*◌, Bool, true, false, cond, not, ◌&&◌, List, [], ◌∷◌, map, ℤ, pos, negsuc, nat_abs, ltb, leb, length, get_or, set, Float}
use Rattle.std.proofs.Math.Option
use Rattle.std.proofs.Math.Option.{Option, some, none}
use Rattle.std.specs.Float.{nan, Format}
use Rattle.std.specs.Float.Ieee.{add, sub, mul, lt, le, to_signed}
use Rattle.std.specs.Float.Ieee.Scale.{finite}
use Rattle.rules.specs.Floats.{zero_f, one_f, number_f}
use Rattle.rules.specs.RefusalNumbers.{Answer, given, refused, and_then, out_of_bounds, non_finite_coordinate}
use Rattle.rules.specs.TheGridAndItsBounds.{strides}

-- "A float becomes a cell by truncation toward zero .. Beyond i64 it saturates; NaN gives 0 (the Rust Reference's
-- `as`)."
unfoldable pub truncated : Float → ℤ
truncated x = to_signed 63 x

unfoldable pub truncated_point : List Float → List ℤ
truncated_point [] = []
truncated_point (x ∷ xs) = truncated x ∷ truncated_point xs

-- in [0, extent): -0.0 is inside
unfoldable pub within : Format → ℕ → Float → Bool
within f e x = le zero_f x && lt x (number_f f e)

-- a set of axes as a number: the bit of the first axis, and the set of those after it
abbrev pub with_bit : Bool → ℕ → ℕ
with_bit first others = cond first 1 0 + 2 * others

-- Change request 1: "`cell_containing` reports every out-of-range axis before the first non-finite one."
unfoldable pub outside_axes : Format → List ℕ → List Float → ℕ
outside_axes f [] xs = 0
outside_axes f (e ∷ es) [] = 0
outside_axes f (e ∷ es) (x ∷ xs) = cond (finite x) (with_bit (not (within f e x)) (outside_axes f es xs)) 0

-- "`cell_containing`, axis by axis: not finite is 6; not in [0, extent) is 5 with the truncated index. -0.0 is inside."
unfoldable pub axis_containing : Format → ℕ → ℕ → ℕ → Float → Answer ℤ
axis_containing f off k e x =
    cond (finite x)
    (cond (within f e x) (given (truncated x)) (refused (out_of_bounds k (truncated x) e off)))
    (refused (non_finite_coordinate k))

unfoldable pub containing_from : Format → ℕ → ℕ → List ℕ → List Float → Answer (List ℤ)
containing_from f off k [] xs = given []
containing_from f off k (e ∷ es) [] = given []
containing_from f off k (e ∷ es) (x ∷ xs) =
    and_then (axis_containing f off k e x) (λ c. and_then (containing_from f off (suc k) es xs) (λ cs. given (c ∷ cs)))

unfoldable pub cell_containing : Format → List ℕ → List Float → Answer (List ℤ)
cell_containing f es xs = containing_from f (outside_axes f es xs) 0 es xs

-- "Flat index: each axis tested alone, then index times stride summed."
unfoldable pub along : ℕ → ℤ → Option ℕ
along e (pos n) = cond (ltb n e) (some n) none
along e (negsuc n) = none

-- Change request 1: "The index rule must report the set of all failing axes besides the first one's index and extent."
abbrev pub is_off : Option ℕ → Bool
is_off (some n) = false
is_off none = true

unfoldable pub off_axes : List ℕ → List ℤ → ℕ
off_axes [] is = 0
off_axes (e ∷ es) [] = 0
off_axes (e ∷ es) (i ∷ is) = with_bit (is_off (along e i)) (off_axes es is)

abbrev pub or_off : ℕ → ℕ → ℕ → ℤ → Option ℕ → Answer ℕ
or_off off k e i (some n) = given n
or_off off k e i none = refused (out_of_bounds k i e off)

unfoldable pub on_grid_from : ℕ → ℕ → List ℕ → List ℤ → Answer (List ℕ)
on_grid_from off k [] is = given []
on_grid_from off k (e ∷ es) [] = given []
on_grid_from off k (e ∷ es) (i ∷ is) = and_then (or_off off k e i (along e i)) (λ n. and_then (on_grid_from off (suc k) es is) (λ ns. given (n ∷ ns)))

unfoldable pub times_strides : List ℕ → List ℕ → ℕ
times_strides [] ss = 0
times_strides (n ∷ ns) [] = 0
times_strides (n ∷ ns) (s ∷ ss) = n * s + times_strides ns ss

unfoldable pub flat_index : List ℕ → List ℤ → Answer ℕ
flat_index es is = and_then (on_grid_from (off_axes es is) 0 es is) (λ ns. given (times_strides ns (strides es)))

-- "Stencil: "nothing" unless every coordinate is in [0, extent-1]. Cell by truncation, offset = coordinate - cell.
-- If cell+1 >= extent: cell = extent-2, offset 1."
pub record StencilAxis : Type 0 where
  pub cell : ℕ
  pub offset : Float

unfoldable pub folded_axis : Format → ℕ → Float → ℕ → StencilAxis
folded_axis f e x c = cond (leb e (c + 1)) (record { cell = e - 2; offset = one_f }) (record { cell = c; offset = sub f x (number_f f c) })

unfoldable pub stencil_axis : Format → ℕ → Float → Option StencilAxis
stencil_axis f e x = cond (le zero_f x && le x (number_f f (e - 1))) (some (folded_axis f e x (nat_abs (truncated x)))) none

abbrev pub joined : {A : Type 0} → Option A → Option (List A) → Option (List A)
joined (some a) (some as') = some (a ∷ as')
joined (some a) none = none
joined none (some as') = none
joined none none = none

unfoldable pub stencil : Format → List ℕ → List Float → Option (List StencilAxis)
stencil f [] xs = some []
stencil f (e ∷ es) [] = some []
stencil f (e ∷ es) (x ∷ xs) = joined (stencil_axis f e x) (stencil f es xs)

-- "Sample: corners 0 to 2^N-1, bit k meaning the high side of axis k." A corner is the list of its bits, bit 0 first.
abbrev pub with_axis : List (List Bool) → List (List Bool)
with_axis [] = []
with_axis (c ∷ cs) = (false ∷ c) ∷ (true ∷ c) ∷ with_axis cs

unfoldable pub corners : ℕ → List (List Bool)
corners zero = [] ∷ []
corners (suc n) = with_axis (corners n)

-- where a corner stands in the lists: one stride further for each axis whose high side it is on
unfoldable pub corner_place : ℕ → List ℕ → List Bool → ℕ
corner_place base [] bs = base
corner_place base (s ∷ ss) [] = base
corner_place base (s ∷ ss) (b ∷ bs) = corner_place (base + cond b s 0) ss bs

-- "A weight starts at 1 and is multiplied by offset or 1-offset, axes ascending."
abbrev pub side : Format → Float → Bool → Float
side f o high = cond high o (sub f one_f o)

unfoldable pub weighed : Format → Float → List Float → List Bool → Float
weighed f w [] bs = w
weighed f w (o ∷ os) [] = w
weighed f w (o ∷ os) (b ∷ bs) = weighed f (mul f w (side f o b)) os bs

-- "weights without axis k"
unfoldable pub weighed_without : Format → ℕ → Float → List Float → List Bool → Float
weighed_without f k w [] bs = w
weighed_without f k w (o ∷ os) [] = w
weighed_without f zero w (o ∷ os) (b ∷ bs) = weighed f w os bs
weighed_without f (suc k) w (o ∷ os) (b ∷ bs) = weighed_without f k (mul f w (side f o b)) os bs

-- "The value starts at 0 and adds weight times odds, corners ascending."
unfoldable pub value_from : Format → Float → List Float → (List Bool → Float) → List (List Bool) → Float
value_from f v os odds [] = v
value_from f v os odds (c ∷ cs) = value_from f (add f v (mul f (weighed f one_f os c) (odds c))) os odds cs

-- "Gradient k, also from 0: weights without axis k, times (high - low), over corners with bit k clear, ascending."
unfoldable pub slope_from : Format → Float → ℕ → List Float → (List Bool → Float) → List (List Bool) → Float
slope_from f v k os odds [] = v
slope_from f v k os odds (c ∷ cs) =
    slope_from f
    (cond (get_or c k false) v (add f v (mul f (weighed_without f k one_f os c) (sub f (odds (set c k true)) (odds c)))))
    k os odds cs

-- the gradients of axes k, k + 1, .. for as many axes as the first list has
unfoldable pub gradient_from : Format → ℕ → List Float → List Float → (List Bool → Float) → List (List Bool) → List Float
gradient_from f k [] os odds cs = []
gradient_from f k (o ∷ left) os odds cs = slope_from f zero_f k os odds cs ∷ gradient_from f (suc k) left os odds cs

pub record Sample : Type 0 where
  pub value : Float
  pub gradient : List Float

abbrev pub cells_of : List StencilAxis → List ℕ
cells_of axes = map (λ (a : StencilAxis). a.cell) axes

abbrev pub offsets_of : List StencilAxis → List Float
offsets_of axes = map (λ (a : StencilAxis). a.offset) axes

unfoldable pub sample_at : Format → List ℕ → List Float → List StencilAxis → Sample
sample_at f es odds axes =
    let os : List Float = offsets_of axes in
    let at : (List Bool → Float) = λ c. get_or odds (corner_place (times_strides (cells_of axes) (strides es)) (strides es) c) nan in
    let cs : List (List Bool) = corners (length axes) in
    record { value = value_from f zero_f os at cs; gradient = gradient_from f 0 os os at cs }

unfoldable pub sample : Format → List ℕ → List Float → List Float → Option Sample
sample f es odds xs = Option.map (sample_at f es odds) (stencil f es xs)
