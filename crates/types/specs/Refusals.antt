-- Each case of a refusal as its number and its values in the requirements' table. Definitions only.
use Rattle.rules.specs.RefusalNumbers as Paper
use Rattle.types.specs.declared.refusal.Refusal as Code
use Rattle.types.specs.declared.refusal.Refusal.TheVariants.{DimensionTooSmall, CapacityOverflow, Model, Buffer, OutOfBounds}
use Rattle.types.specs.declared.refusal.Refusal.TheVariants.{NonFiniteCoordinate, Ray, RayInList, Beams, Frame, Record, Room, Sweep, Odds, Lists, Cuts, Edition, Profile, Column}
use Rattle.types.specs.declared.refusal.Refusal.TheVariants.{Sizes, Charts, Chart}

abbrev pub refusal_of : Code.Refusal → Paper.Refusal
refusal_of (DimensionTooSmall axis extent) = Paper.dimension_too_small axis extent
refusal_of CapacityOverflow = Paper.capacity_overflow
refusal_of Model = Paper.bad_model
refusal_of Buffer = Paper.bad_buffer
refusal_of (OutOfBounds axis index extent axes) = Paper.out_of_bounds axis index extent axes
refusal_of (NonFiniteCoordinate axis) = Paper.non_finite_coordinate axis
refusal_of Ray = Paper.ray
refusal_of (RayInList place count) = Paper.ray_in_list place count
refusal_of Beams = Paper.bad_beams
refusal_of Frame = Paper.bad_frame
refusal_of (Record offset) = Paper.broken_record offset
refusal_of (Room needed) = Paper.no_room needed
refusal_of (Sweep offset) = Paper.broken_sweep offset
refusal_of Odds = Paper.odds_not_a_number
refusal_of Lists = Paper.unequal_lists
refusal_of Cuts = Paper.bad_cuts
refusal_of Edition = Paper.not_edition_one
refusal_of Profile = Paper.outside_profile
refusal_of (Column column) = Paper.nan_column column
refusal_of Sizes = Paper.unequal_sizes
refusal_of Charts = Paper.too_many_charts
refusal_of Chart = Paper.bad_chart
