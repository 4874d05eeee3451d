-- Marks up a column, in every format: what holds between two of them. Whatever the cells that are left do to the lists
-- as they stand, the whole column does to the lists as they were. Assumes nothing.
use Prim.Native.Nat.{ℕ, zero, suc, ◌+◌, ◌*◌, ◌≤◌, ◌<◌}
use mathlib.Core.Bool.{Bool, true, false}
use mathlib.Core.List.{List, [], ◌∷◌}
use mathlib.Core.Path.{◌≡◌, refl, sym, ap, ◌∙◌, subst}
use native.Mathlib.Nat.{zero-add, add_assoc, one-mul, suc-mul}
use native.Mathlib.Omega.{arith}
use lib.IntN.{pos}
use lib.Ieee.{Float, Format}
use lib.ListN.{length}
use Rattle.rules.specs.RefusalNumbers.{given}
use Rattle.rules.specs.TheGridAndItsBounds.{Head, cells, strides, strides_from}
use Rattle.rules.specs.Coordinates.{times_strides, flat_index}
use Rattle.rules.specs.VerticalBeam.{Vertical, in_profile, column_place, column_marks}
use Rattle.laws.specs.Checks.{Ready}
use Rattle.laws.specs.Places.{place_lt}
use Rattle.laws.specs.Room.{room}
use Rattle.beam.specs.Applying.{Applied, one}
use Rattle.beam.proofs.Applying.{both_applied}
use Rattle.beam.proofs.Walking.{still_ready}
use Rattle.vertical.proofs.InProfile.{Inside, inside_of, on-grid}

-- ---- a beam in the profile, by the code's test
pub inside : (es : List ℕ) (b : Vertical) → in_profile es b ≡ true → Inside es b
inside es b e = inside_of es b (rw e tt)

-- ---- places
-- a layer further on
next_layer : (ex ey ez x y z : ℕ) → column_place (ex ∷ ey ∷ ez ∷ []) x y z + ex * ey ≡ column_place (ex ∷ ey ∷ ez ∷ []) x y (suc z)
unfolding column_place times_strides strides strides_from
next_layer ex ey ez x y z =
    let a = suc-mul z (1 * ex * ey) in
    let b : 1 * ex * ey ≡ ex * ey = ap (λ (k : ℕ). k * ey) (one-mul ex) in
    omega arith

pub next_place : (ex ey ez x y z at : ℕ) → at ≡ column_place (ex ∷ ey ∷ ez ∷ []) x y z → at + ex * ey ≡ column_place (ex ∷ ey ∷ ez ∷ []) x y (suc z)
next_place ex ey ez x y z at e = ap (λ (i : ℕ). i + ex * ey) e ∙ next_layer ex ey ez x y z

pub place_below : (ex ey ez x y z at : ℕ) → at ≡ column_place (ex ∷ ey ∷ ez ∷ []) x y z → x < ex → y < ey → z < ez → at < cells (ex ∷ ey ∷ ez ∷ [])
place_below ex ey ez x y z at e hx hy hz =
    subst (λ (i : ℕ). i < cells (ex ∷ ey ∷ ez ∷ [])) (sym e)
    (place_lt (ex ∷ ey ∷ ez ∷ []) _ (column_place (ex ∷ ey ∷ ez ∷ []) x y z) refl (on-grid ex ey ez x y z hx hy hz))

pub place_is : (ex ey ez x y z at : ℕ) → x < ex → y < ey → z < ez
    → flat_index (ex ∷ ey ∷ ez ∷ []) (pos x ∷ pos y ∷ pos z ∷ []) ≡ given at
    → at ≡ column_place (ex ∷ ey ∷ ez ∷ []) x y z
place_is ex ey ez x y z at hx hy hz e =
    let g : given at ≡ given (column_place (ex ∷ ey ∷ ez ∷ []) x y z) = sym e ∙ on-grid ex ey ez x y z hx hy hz in
    cc

-- ---- the marks
module _ (f : Format) (h : Head) (x y : ℕ) (last : Bool) (bottom above : ℕ) (odds₀ : List Float) (stamps₀ : List ℕ) where
  pub record Climbing (at left count : ℕ) (odds : List Float) (stamps : List ℕ) : Type 0 where
    pub height : ℕ
    pub level : height + left ≡ bottom + above
    pub place : at ≡ column_place h.extents x y height
    pub ready : Ready h (length odds) (length stamps)
    pub used : count + room h.frame stamps ≤ room h.frame stamps₀
    pub whole : (n : ℕ) (odds' : List Float) (stamps' : List ℕ)
        → Applied f (column_marks h.extents x y last height left) h.model h.frame odds stamps n odds' stamps'
        → Applied f (column_marks h.extents x y last bottom above) h.model h.frame odds₀ stamps₀ (count + n) odds' stamps'

  pub starts : (at : ℕ) → Ready h (length odds₀) (length stamps₀) → at ≡ column_place h.extents x y bottom → Climbing at above 0 odds₀ stamps₀
  starts at r e = record { height = bottom; level = refl; place = e; ready = r; used = omega arith; whole = λ n o s a. rw zero-add a }

  module _ (at count : ℕ) (odds : List Float) (stamps : List ℕ) where
    -- a free mark, and the place above it
    one_up : (left next n : ℕ) (odds' : List Float) (stamps' : List ℕ) (w : Climbing at (suc left) count odds stamps)
        → Applied f (one at false) h.model h.frame odds stamps n odds' stamps' → next ≡ column_place h.extents x y (suc w.height)
        → Climbing next left (count + n) odds' stamps'
    unfolding column_marks
    one_up left next n odds' stamps' w a e =
        let u = w.used in
        let v = a.used in
        let l = w.level in
        record {
          height = suc w.height;
          level = omega arith;
          place = e;
          ready = still_ready f h _ odds odds' stamps stamps' n w.ready a;
          used = omega arith;
          whole = λ k odds'' stamps'' b.
              rw add_assoc
              (w.whole (n + k) odds'' stamps''
              (both_applied f h.model h.frame (one (column_place h.extents x y w.height) false) _ odds odds' odds'' stamps stamps' stamps'' n k
              (subst (λ (i : ℕ). Applied f (one i false) h.model h.frame odds stamps n odds' stamps') w.place a) b));
        }

    pub goes_up : (left left' next n : ℕ) (odds' : List Float) (stamps' : List ℕ) (w : Climbing at left count odds stamps) → left ≡ suc left'
        → Applied f (one at false) h.model h.frame odds stamps n odds' stamps' → next ≡ column_place h.extents x y (suc w.height)
        → Climbing next left' (count + n) odds' stamps'
    goes_up zero left' next n odds' stamps' w p a e = absurd (omega arith)
    goes_up (suc left) left' next n odds' stamps' w p a e =
        subst (λ (k : ℕ). Climbing next k (count + n) odds' stamps') (omega arith) (one_up left next n odds' stamps' w a e)

    -- the last mark
    pub ends : (left n : ℕ) (odds' : List Float) (stamps' : List ℕ) → Climbing at left count odds stamps → left ≡ 0
        → Applied f (one at last) h.model h.frame odds stamps n odds' stamps'
        → Applied f (column_marks h.extents x y last bottom above) h.model h.frame odds₀ stamps₀ (count + n) odds' stamps'
    unfolding column_marks
    ends zero n odds' stamps' w z a =
        w.whole n odds' stamps' (subst (λ (i : ℕ). Applied f (one i last) h.model h.frame odds stamps n odds' stamps') w.place a)
    ends (suc left) n odds' stamps' w z a = absurd (omega arith)
