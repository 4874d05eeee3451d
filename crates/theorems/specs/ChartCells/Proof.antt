-- The chart knows only the grid's promises, proved. Assumes nothing.
use Rattle.std.specs.Prelude.{ℕ, zero, suc, ◌+◌, ◌-◌, ◌*◌, ◌/◌, ◌≤◌, ◌<◌, ◌&&◌, ◌⊎◌, ◌≡◌, refl, pos, length, get_or, Float}
use mathlib.Core.List.{List, [], ◌∷◌, ◌++◌, map}
use Rattle.std.proofs.Common.{inl, inr, ◌∙◌, mul-one, mul_assoc, suc-mul, add-mul, zero-mul, zero-add, arith, lt-ltb, le-ltb}
use Rattle.std.proofs.Math.Path.{sym, ap, ap₂, subst}
use Rattle.std.proofs.Math.Nat.{one-mul, add-mul-div_right, div-eq_of_lt}
use Rattle.std.proofs.Math.Dec.{T, ltb, ltb→lt}
use Rattle.std.specs.Float.{nan}
use Rattle.std.specs.Float.Ieee.Fits.{and_l, and_r}
use Rattle.rules.specs.RefusalNumbers.{given}
use Rattle.rules.specs.TheGridAndItsBounds.{Pair, Band, Model, cells, strides_from, strides, layer_of, last_extent, pair_at, rising, cuts_below, cuts_in_bounds}
use Rattle.rules.specs.Coordinates.{along, on_grid_from, off_axes, times_strides, flat_index}
use Rattle.rules.specs.MarksAndFrames.{steps_at, steps_with}
use Rattle.rules.specs.LayerChart.{Cuts, cuts_in, stacked, cells_between, column_chart}
use Rattle.laws.specs.Floats.Tests.{order}
use Rattle.laws.specs.Places.{place_lt}
use Rattle.theorems.specs.ChartCells.{OnGrid, column_of, Layer, low, middle, high, from_of, to_of, InBand, Banded, pair_of, OneCell, SomeBand, KnowsThePromises}

-- ---- the index rule
on-grid : (off k : ℕ) (es ns : List ℕ) → OnGrid es ns → on_grid_from off k es (map pos ns) ≡ given ns
unfolding on_grid_from along
on-grid off k [] [] p = refl
on-grid off k [] (n ∷ ns) p = absurd p
on-grid off k (e ∷ es) [] p = absurd p
on-grid off k (e ∷ es) (n ∷ ns) p = rw (lt-ltb n e p.0, on-grid off (suc k) es ns p.1) refl

indexed : (es ns : List ℕ) → OnGrid es ns → flat_index es (map pos ns) ≡ given (column_of es ns)
unfolding flat_index
indexed es ns p = rw (on-grid (off_axes es (map pos ns)) 0 es ns p) refl

joined : (es : List ℕ) (top : ℕ) (ns : List ℕ) (z : ℕ) → OnGrid es ns → z < top → OnGrid (es ++ top ∷ []) (ns ++ z ∷ [])
joined [] top [] z p h = (h, tt)
joined [] top (n ∷ ns) z p h = absurd p
joined (e ∷ es) top [] z p h = absurd p
joined (e ∷ es) top (n ∷ ns) z p h = (p.0, joined es top ns z p.1 h)

-- a place is its column's, and as many layers up as its height is
raised : (s : ℕ) (es : List ℕ) (top : ℕ) (ns : List ℕ) (z : ℕ) → OnGrid es ns
    → times_strides (ns ++ z ∷ []) (strides_from s (es ++ top ∷ [])) ≡ times_strides ns (strides_from s es) + z * (s * cells es)
unfolding times_strides strides_from cells
raised s [] top [] z p = omega (arith, ap (λ (n : ℕ). z * n) (mul-one s))
raised s [] top (n ∷ ns) z p = absurd p
raised s (e ∷ es) top [] z p = absurd p
raised s (e ∷ es) top (n ∷ ns) z p = omega (arith, raised (s * e) es top ns z p.1, ap (λ (n : ℕ). z * n) (mul_assoc s e (cells es)))

layer_cells : (es : List ℕ) (top : ℕ) → layer_of (es ++ top ∷ []) ≡ cells es
unfolding layer_of cells
layer_cells [] top = refl
layer_cells (e ∷ []) top = refl
layer_cells (e ∷ d ∷ es) top = ap (λ (n : ℕ). e * n) (layer_cells (d ∷ es) top)

last-top : (es : List ℕ) (top : ℕ) → last_extent (es ++ top ∷ []) ≡ top
unfolding last_extent
last-top [] top = refl
last-top (e ∷ []) top = refl
last-top (e ∷ d ∷ es) top = last-top (d ∷ es) top

counts : (es ns : List ℕ) → OnGrid es ns → length (map pos ns) ≡ length es
counts [] [] p = refl
counts [] (n ∷ ns) p = absurd p
counts (e ∷ es) [] p = absurd p
counts (e ∷ es) (n ∷ ns) p = ap suc (counts es ns p.1)

column-below : (es ns : List ℕ) → OnGrid es ns → column_of es ns < cells es
column-below es ns p = place_lt es (map pos ns) (column_of es ns) (counts es ns p) (indexed es ns p)

-- ---- what the chart takes
stacked-at : (apart : ℕ) (odds : List Float) (n place i : ℕ) → i < n → get_or (stacked apart odds n place) i nan ≡ get_or odds (place + i * apart) nan
unfolding stacked
stacked-at apart odds zero place i h = absurd (omega arith)
stacked-at apart odds (suc n) place zero h = ap (λ (k : ℕ). get_or odds k nan) (omega (arith, zero-mul apart))
stacked-at apart odds (suc n) place (suc i) h =
    stacked-at apart odds n (place + apart) i (omega arith) ∙ ap (λ (k : ℕ). get_or odds k nan) (omega (arith, suc-mul i apart))

stacked-length : (apart : ℕ) (odds : List Float) (n place : ℕ) → length (stacked apart odds n place) ≡ n
unfolding stacked
stacked-length apart odds zero place = refl
stacked-length apart odds (suc n) place = ap suc (stacked-length apart odds n (place + apart))

between-at : (apart : ℕ) (odds : List Float) (column from to z : ℕ) → from ≤ z → z < to
    → get_or (cells_between apart odds column from to) (z - from) nan ≡ get_or odds (column + z * apart) nan
unfolding cells_between
between-at apart odds column from to z h g =
    stacked-at apart odds (to - from) (column + from * apart) (z - from) (omega arith) ∙ ap (λ (k : ℕ). get_or odds k nan) up
  where
    whole : from + (z - from) ≡ z
    whole = omega arith

    up : column + from * apart + (z - from) * apart ≡ column + z * apart
    up = omega (arith, sym (add-mul from (z - from) apart) ∙ ap (λ (k : ℕ). k * apart) whole)

-- ---- bands
height_of : (column z layer : ℕ) → column < layer → (column + z * layer) / layer ≡ z
height_of column z layer h = add-mul-div_right column z (omega arith) ∙ ap (λ (k : ℕ). k + z) (div-eq_of_lt h) ∙ zero-add z

pair_in : (p : Pair) (b c : Band) (top z : ℕ) (l : Layer) → b.cut < c.cut → InBand (record { first = b.cut; second = c.cut }) top l z
    → pair_at z p (b ∷ c ∷ []) ≡ pair_of p b c l
unfolding pair_at
pair_in p b c top z low r h = rw (lt-ltb z b.cut h.1) refl
pair_in p b c top z middle r h = rw (le-ltb z b.cut h.0, lt-ltb z c.cut h.1) refl
pair_in p b c top z high r h = rw (le-ltb z b.cut (omega (arith, r, h.0)), le-ltb z c.cut h.0) refl

some_band : (cuts : Cuts) (layers z : ℕ) → z < layers → SomeBand cuts layers z
some_band cuts layers z h = go (order z cuts.first) (order z cuts.second)
  where
    go : (z < cuts.first) ⊎ (cuts.first ≤ z) → (z < cuts.second) ⊎ (cuts.second ≤ z) → SomeBand cuts layers z
    go (inl p) q = record { layer = low; inside = (omega arith, p) }
    go (inr p) (inl q) = record { layer = middle; inside = (p, q) }
    go (inr p) (inr q) = record { layer = high; inside = (q, h) }

module _ (es : List ℕ) (top : ℕ) (m : Model) (w : Banded es top m) where
  cuts_are : cuts_in m ≡ record { first = w.second.cut; second = w.third.cut }
  cuts_are = rw w.bands refl

  cuts_rise : w.second.cut < w.third.cut
  unfolding cuts_in_bounds cuts_below rising
  cuts_rise =
      let b = w.second in
      let c = w.third in
      let t : T (cuts_below (last_extent (es ++ top ∷ [])) (b ∷ c ∷ [])) = subst (λ (bs : List Band). T (cuts_below (last_extent (es ++ top ∷ [])) bs)) w.bands w.cuts in
      let last = last_extent (es ++ top ∷ []) in
      ltb→lt b.cut c.cut (and_l (ltb b.cut c.cut) (ltb c.cut last) (and_r (ltb 0 b.cut) (ltb b.cut c.cut && ltb c.cut last) t))

  one_cell : (odds : List Float) (ns : List ℕ) (z : ℕ) (l : Layer) → OnGrid es ns → z < top → InBand (cuts_in m) top l z → OneCell es top m w odds ns z l
  unfolding strides steps_at
  one_cell odds ns z l p h i =
      let layer = layer_of (es ++ top ∷ []) in
      let size : 1 * cells es ≡ layer = one-mul (cells es) ∙ sym (layer_cells es top) in
      let at : column_of (es ++ top ∷ []) (ns ++ z ∷ []) ≡ column_of es ns + z * layer =
      raised 1 es top ns z p ∙ ap (λ (n : ℕ). column_of es ns + z * n) size in
      let inside : column_of es ns < layer = subst (λ (n : ℕ). column_of es ns < n) (sym (layer_cells es top)) (column-below es ns p) in
      let band : InBand (record { first = w.second.cut; second = w.third.cut }) top l z = subst (λ (c : Cuts). InBand c top l z) cuts_are i in
      record {
        place = column_of es ns + z * layer;
        indexed = indexed (es ++ top ∷ []) (ns ++ z ∷ []) (joined es top ns z p h) ∙ ap given at;
        taken = between-at layer odds (column_of es ns) (from_of (cuts_in m) l) (to_of (cuts_in m) top l) z i.0 i.1;
        pair =
            ap (steps_with m)
            (ap (λ (n : ℕ). pair_at ((column_of es ns + z * layer) / n) m.lowest m.above) w.layer
            ∙ ap₂ (λ (n : ℕ) (bs : List Band). pair_at n m.lowest bs) (height_of (column_of es ns) z layer inside) w.bands
            ∙ pair_in m.lowest w.second w.third top z l cuts_rise band);
      }

column : (ex ey x y : ℕ) → column_of (ex ∷ ey ∷ []) (x ∷ y ∷ []) ≡ x + y * ex
unfolding times_strides strides_from strides
column ex ey x y = omega (arith, mul-one x, ap (λ (n : ℕ). y * n) (one-mul ex))

pub the_chart_knows_only_the_grids_promises : KnowsThePromises
unfolding cells_between column_chart
the_chart_knows_only_the_grids_promises =
    record {
      one_cell = one_cell;
      column = column;
      columns = λ es top ns p. subst (λ (n : ℕ). column_of es ns < n) (sym (layer_cells es top)) (column-below es ns p);
      layers = last-top;
      some_band = some_band;
      heights = λ apart odds column from to. stacked-length apart odds (to - from) (column + from * apart);
      covers = λ columns layers ceiling cuts odds column. refl;
    }
