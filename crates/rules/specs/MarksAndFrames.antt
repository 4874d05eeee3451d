-- Requirements, "Marks and frames": one mark on one cell, marks on a grid, and frames. Definitions only.
use Rattle.std.specs.Prelude.{ℕ, ◌+◌, ◌*◌, ◌/◌, Bool, true, false, cond, ◌&&◌, List, [], ◌∷◌, eqb, leb, ltb, get_or, set, length, replicate, Float}
use Rattle.std.specs.Float.{nan, Format}
use Rattle.std.specs.Float.Ieee.{add, sub, lt, le}
use Rattle.rules.specs.TheGridAndItsBounds.{Pair, Model, floor, pair_at, Grid, fresh_frame}

-- The steps and the bounds of one cell, and whence they come: a function of the cell's place in the lists. By change
-- request 6 a cell "uses its band's pair for clear, cloud and taking back"; the bounds are the model's.
pub record Steps : Type 0 where
  pub occupied : Float
  pub free : Float
  pub floor : Float
  pub ceiling : Float

abbrev pub steps_with : Model → Pair → Steps
steps_with m p = record { occupied = p.occupied; free = p.free; floor = floor m; ceiling = m.ceiling }

-- the pair of the band in which a place lies, by its height
abbrev pub pair_for : Model → ℕ → Pair
pair_for m place = pair_at (place / m.layer) m.lowest m.above

unfoldable pub steps_at : Model → ℕ → Steps
steps_at m place = steps_with m (pair_for m place)

-- "A stamp is frame*2, plus 1 if occupied."
unfoldable pub stamp_of : ℕ → Bool → ℕ
stamp_of frame occupied = frame * 2 + cond occupied 1 0

-- the frame that a stamp bears
abbrev pub frame_of : ℕ → ℕ
frame_of stamp = stamp / 2

-- "Clamp keeps NaN."
unfoldable pub clamp : Float → Float → Float → Float
clamp lo hi x = cond (lt x lo) lo (cond (lt hi x) hi x)

unfoldable pub limited : Steps → Float → Float
limited s x = clamp s.floor s.ceiling x

-- one cell, and what a mark leaves of it
pub record Cell : Type 0 where
  pub odds : Float
  pub stamp : ℕ

pub record Marked : Type 0 where
  pub cell : Cell
  pub changed : Bool

abbrev pub unmarked : Cell → Marked
unmarked c = record { cell = c; changed = false }

-- "Free: a stamp of this frame is left; else stamp frame*2 and odds = clamp(odds + free)."
unfoldable pub freed : Format → Steps → Float → Float
freed f s o = limited s (add f o s.free)

unfoldable pub mark_free : Format → Steps → ℕ → Cell → Marked
mark_free f s k c =
    cond (eqb (frame_of c.stamp) k) (unmarked c)
    (record { cell = record { odds = freed f s c.odds; stamp = stamp_of k false }; changed = true })

-- "Here d = occupied - free if the stamp was free of this frame and odds > floor (NaN counts as above), otherwise d =
-- occupied."
unfoldable pub occupied_step : Format → Steps → ℕ → Cell → Float
occupied_step f s k c =
    cond (eqb c.stamp (stamp_of k false)) (cond (le c.odds s.floor) s.occupied (sub f s.occupied s.free)) s.occupied

-- "Occupied: an occupied stamp of this frame is left; else stamp frame*2+1 and odds = clamp(odds + d)."
unfoldable pub occupy : Format → Steps → Float → Float → Float
occupy f s o d = limited s (add f o d)

unfoldable pub mark_occupied : Format → Steps → ℕ → Cell → Marked
mark_occupied f s k c =
    cond (eqb c.stamp (stamp_of k true)) (unmarked c)
    (record { cell = record { odds = occupy f s c.odds (occupied_step f s k c); stamp = stamp_of k true }; changed = true })

unfoldable pub mark_cell : Format → Steps → ℕ → Bool → Cell → Marked
mark_cell f s k false c = mark_free f s k c
mark_cell f s k true c = mark_occupied f s k c

-- a mark is a place in the lists and whether the cell is occupied
pub record Mark : Type 0 where
  pub place : ℕ
  pub occupied : Bool

abbrev pub cell_at : Grid → ℕ → Cell
cell_at g i = record { odds = get_or g.odds i nan; stamp = get_or g.stamps i 0 }

abbrev pub with_cell : Grid → ℕ → Cell → Grid
with_cell g i c = record { odds = set g.odds i c.odds; stamps = set g.stamps i c.stamp }

unfoldable pub mark_at : Format → Model → ℕ → Mark → Grid → Marked
mark_at f m k x g = mark_cell f (steps_at m x.place) k x.occupied (cell_at g x.place)

-- the grid after a list of marks, first to last
unfoldable pub marked : Format → Model → ℕ → List Mark → Grid → Grid
marked f m k [] g = g
marked f m k (x ∷ xs) g = marked f m k xs (with_cell g x.place (mark_at f m k x g).cell)

-- "The count is the marks that changed a cell"
unfoldable pub changes : Format → Model → ℕ → List Mark → Grid → ℕ
changes f m k [] g = 0
changes f m k (x ∷ xs) g = cond (mark_at f m k x g).changed 1 0 + changes f m k xs (with_cell g x.place (mark_at f m k x g).cell)

-- "`set_log_odds` clamps and leaves the stamp."
unfoldable pub set_odds : Model → ℕ → Float → List Float → List Float
set_odds m place x odds = set odds place (limited (steps_at m place) x)

-- "`begin_scan`: frame >= 2,147,483,647 zeroes all stamps and sets 1; else frame+1."
abbrev pub highest_frame : ℕ
highest_frame = 2_147_483_647

unfoldable pub opened_frame : ℕ → ℕ
opened_frame k = cond (leb highest_frame k) fresh_frame (k + 1)

unfoldable pub opened_stamps : ℕ → List ℕ → List ℕ
opened_stamps k stamps = cond (leb highest_frame k) (replicate (length stamps) 0) stamps

-- "marking, integrating or writing a record with frame 0 or > 2,147,483,647" is refused
unfoldable pub open_frame : ℕ → Bool
open_frame k = ltb 0 k && leb k highest_frame
