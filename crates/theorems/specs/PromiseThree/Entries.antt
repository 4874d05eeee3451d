-- Promise 3 said of the entries: what `begin_scan` and then a slice of beams, or `update_scan`, answer and leave, in a
-- sweep that meets the premises, is the sweep that the theorem speaks of. `StationsLists` says it of any calls that are
-- not refused. Assumes nothing.
use Rattle.std.specs.Prelude.{ℕ, suc, ◌+◌, Bool, true, false, cond, ◌&&◌, List, [], ◌∷◌, ◌≡◌, T, ltb, leb, Float, length}
use Rattle.std.proofs.Math.Option.{none}
use Rattle.std.proofs.Math.Path.{refl}
use Rattle.std.proofs.Common.{◌∙◌, arith, leb→le, le-ltb, lt-ltb, le-leb, leb-false}
use Rattle.std.specs.Float.{Format}
use Rattle.std.specs.Float.Ieee.Fits.{and_l, and_r}
use Rattle.rules.specs.RefusalNumbers.{given}
use Rattle.rules.specs.RefusalNumbers.Entries.{first_too_small, extents_refusal, head_refusal, of_integrated, begin_scan_entry, update_scan_entry, update_beams_entry}
use Rattle.rules.specs.TheGridAndItsBounds.{Head, Grid, least_extent, all_at_least, fits_capacity, extents_in_bounds, bounded, cuts_in_bounds, one_per_cell}
use Rattle.rules.specs.MarksAndFrames.{highest_frame, open_frame, opened_frame}
use Rattle.rules.specs.OneBeam.{Beam, flat_shape, beams_of}
use Rattle.theorems.specs.PromiseThree.{Opened, Sweep, head_opened, grid_opened, sweep}
use Rattle.theorems.specs.PromiseThree.Proof.{opened-length}
use Rattle.theorems.specs.FlatList.{is_true, flat_as_structs}

none_too_small : (k : ℕ) (es : List ℕ) → T (all_at_least least_extent es) → first_too_small k es ≡ none
unfolding first_too_small all_at_least
none_too_small k [] t = refl
none_too_small k (e ∷ es) t =
    rw (le-ltb e least_extent (leb→le least_extent e (and_l (leb least_extent e) (all_at_least least_extent es) t)))
    (none_too_small (suc k) es (and_r (leb least_extent e) (all_at_least least_extent es) t))

extents_pass : (es : List ℕ) → T (extents_in_bounds es) → extents_refusal es ≡ none
unfolding extents_refusal extents_in_bounds
extents_pass es t =
    rw (none_too_small 0 es (and_l (all_at_least least_extent es) (fits_capacity es) t), is_true (fits_capacity es) (and_r (all_at_least least_extent es) (fits_capacity es) t)) refl

-- a frame that was opened is one that a sweep can have
pub opened_open : (k : ℕ) → open_frame (opened_frame k) ≡ true
unfolding open_frame opened_frame
opened_open k = go (leb highest_frame k) refl
  where
    go : (b : Bool) → leb highest_frame k ≡ b → (ltb 0 (cond b 1 (k + 1)) && leb (cond b 1 (k + 1)) highest_frame) ≡ true
    go true e = refl
    go false e = let l = leb-false highest_frame k e in rw (lt-ltb 0 (k + 1) (omega arith), le-leb (k + 1) highest_frame (omega arith)) refl

-- `begin_scan` opens the sweep
pub begins : (h : Head) (g : Grid) → Opened h g → begin_scan_entry h g.stamps ≡ record { answer = given (head_opened h); lent = (grid_opened h g).stamps }
unfolding begin_scan_entry head_refusal
begins h g o = rw (extents_pass h.extents o.extents, is_true (one_per_cell h.extents (length g.stamps)) o.stamps_per_cell) refl

module _ (f : Format) (h : Head) (g : Grid) (bs : List Beam) (s : Sweep f h g bs) where
  -- A slice of beams then leaves what the theorem speaks of. That the cuts are in bounds is no premise of promise 3: it
  -- is what the entry itself checks (15).
  pub integrates : T (cuts_in_bounds h.extents h.model) → update_beams_entry f (head_opened h) bs (grid_opened h g) ≡ of_integrated (sweep f h g bs)
  unfolding update_beams_entry head_refusal
  integrates cuts =
      rw (
        extents_pass h.extents s.opened.extents,
        is_true (bounded h.model) s.opened.model,
        is_true (cuts_in_bounds h.extents h.model) cuts,
        is_true (one_per_cell h.extents (length g.odds)) s.opened.odds_per_cell,
        opened-length h.frame g.stamps,
        is_true (one_per_cell h.extents (length g.stamps)) s.opened.stamps_per_cell,
        opened_open h.frame,
      )
      refl

-- the same of `update_scan`, whose flat list is those beams
module _ (f : Format) (h : Head) (g : Grid) (numbers : List Float) (hits : List ℕ) (s : Sweep f h g (beams_of (length h.extents) numbers hits)) where
  pub scans : T (cuts_in_bounds h.extents h.model) → T (flat_shape (length h.extents) numbers hits)
      → update_scan_entry f (head_opened h) numbers hits (grid_opened h g) ≡ of_integrated (sweep f h g (beams_of (length h.extents) numbers hits))
  scans cuts t = flat_as_structs f (head_opened h) numbers hits (grid_opened h g) t ∙ integrates f h g (beams_of (length h.extents) numbers hits) s cuts
