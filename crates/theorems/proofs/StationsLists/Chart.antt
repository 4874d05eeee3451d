-- The chart of what a night leaves: each cell has no higher grade than a lone cloud vote would give it, or the very
-- odds; so no number of the chart is higher. And the map to compare with is there, whatever the beams. Assumes nothing.
use Rattle.std.specs.Prelude.{ℕ, zero, suc, ◌+◌, ◌*◌, ◌≤◌, ◌<◌, ◌≡◌, refl, ◌⊎◌, Bool, false, cond, List, [], ◌∷◌, T, leb, get_or, drop, Float}
use Rattle.std.proofs.Math.Path.{sym, ap}
use Rattle.std.proofs.Common.{◌∙◌, subst, inl, inr, not-suc-le-zero, le_of_suc-le-suc, zero-add, add-zero, add-suc, suc-add, arith}
use Rattle.std.proofs.Math.Bool.{true}
use Rattle.std.proofs.Math.Option.{none}
use Rattle.std.proofs.Math.Dec.{eqb→eq}
use Rattle.std.proofs.Math.ListN.{length, get_or-eq_default}
use Rattle.std.specs.Float.{nan, inf, fin, Format}
use Rattle.std.specs.Float.Ieee.{is_nan, le, lt, eq}
use Rattle.rules.specs.RefusalNumbers.{given, no_room}
use Rattle.rules.specs.RefusalNumbers.Entries.{or_else, unless_holds, head_refusal}
use Rattle.rules.specs.TheGridAndItsBounds.{Head, Grid, cells, one_per_cell, last_extent, layer_of}
use Rattle.rules.specs.MarksAndFrames.{Cell, Mark, steps_at, freed}
use Rattle.rules.specs.LayerChart.{eighths, cuts_in, chart_of, first_nan, chart_refusal, charted, chart_uses, layer_chart_entry}
use Rattle.laws.specs.Floats.Tests.{order}
use Rattle.beam.proofs.MarkLists.{marked-odds}
use Rattle.theorems.specs.PromiseThree.{head_opened, grid_opened, frame_opened, Makes, Hit, Touched, Same, Opened}
use Rattle.theorems.specs.PromiseThree.Beams.{all_marks, makes_same, hit_test, test_hit, touched_test, test_touched}
use Rattle.theorems.specs.PromiseThree.Orders.{any_cloud, any_mark, kinds_on}
use Rattle.theorems.specs.FlatList.{is_true}
use Rattle.theorems.specs.FloorCost.{InUnits, lone_vote}
use Rattle.theorems.specs.LayerChart.Order.{eighths_more}
use Rattle.theorems.specs.LayerChart.More.{above-joined, above_same, chart_more, none_first}
use Rattle.theorems.specs.StationsLists.Words.{Call, Handed, hand_marks, handed, night, NoneRefused}
use Rattle.theorems.specs.StationsLists.ChartWords.{LoneVotes, NoThicker}
use Rattle.theorems.specs.StationsLists.OneCall.{not_refused, neither}
use Rattle.theorems.specs.StationsLists.Calls.{came}
use Rattle.theorems.proofs.StationsLists.Proof.{ends, costs}

-- ---- how a cell was met
pub data Met (f : Format) (es : List ℕ) (bs : List Handed) (i : ℕ) : Type 0 where
  was_hit : Hit (hand_marks f es) bs i → Met f es bs i
  was_clear : Touched (hand_marks f es) bs i → ¬ Hit (hand_marks f es) bs i → Met f es bs i
  was_left : ¬ Touched (hand_marks f es) bs i → Met f es bs i

module _ (f : Format) (es : List ℕ) (bs : List Handed) (i : ℕ) where
  met : Met f es bs i
  met = go (any_cloud (kinds_on i (all_marks (hand_marks f es) bs))) (any_mark (kinds_on i (all_marks (hand_marks f es) bs))) refl refl
    where
      go : (b c : Bool) → any_cloud (kinds_on i (all_marks (hand_marks f es) bs)) ≡ b → any_mark (kinds_on i (all_marks (hand_marks f es) bs)) ≡ c → Met f es bs i
      go true c p q = was_hit (test_hit (hand_marks f es) bs i (subst T (sym p) tt))
      go false true p q = was_clear (test_touched (hand_marks f es) bs i (subst T (sym q) tt)) (λ w. subst T p (hit_test (hand_marks f es) bs i w))
      go false false p q = was_left (λ w. subst T q (touched_test (hand_marks f es) bs i w))

-- ---- the map to compare with
tabled : (ℕ → Float) → ℕ → ℕ → List Float
tabled value k zero = []
tabled value k (suc n) = value k ∷ tabled value (suc k) n

tabled_length : (value : ℕ → Float) (k n : ℕ) → length (tabled value k n) ≡ n
unfolding tabled
tabled_length value k zero = refl
tabled_length value k (suc n) = ap suc (tabled_length value (suc k) n)

tabled_at : (value : ℕ → Float) (k n i : ℕ) → i < n → get_or (tabled value k n) i nan ≡ value (k + i)
unfolding tabled
tabled_at value k zero i l = absurd (not-suc-le-zero l)
tabled_at value k (suc n) zero l = ap value (sym (add-zero k))
tabled_at value k (suc n) (suc i) l = tabled_at value (suc k) n i (le_of_suc-le-suc l) ∙ ap value (suc-add k i ∙ sym (add-suc k i))

module _ (f : Format) (h : Head) (g : Grid) (bs : List Handed) where
  voted : ℕ → Float
  voted i =
      let ks = kinds_on i (all_marks (hand_marks f h.extents) bs) in
      cond (any_cloud ks) (lone_vote f h g i) (cond (any_mark ks) (freed f (steps_at h.model i) (get_or g.odds i nan)) (get_or g.odds i nan))

  none_of : (b : Bool) → ¬ T b → b ≡ false
  none_of true n = absurd (n tt)
  none_of false n = refl

  pub lone_votes : (odds : List Float) × LoneVotes f h g bs odds
  unfolding voted
  lone_votes =
      let es = h.extents in (
        tabled voted 0 (cells es),
        record {
          one_per_cell_lem = tabled_length voted 0 (cells es);
          hit = λ i l w. tabled_at voted 0 (cells es) i l ∙ ap voted (zero-add i)
              ∙ rw (is_true (any_cloud (kinds_on i (all_marks (hand_marks f es) bs))) (hit_test (hand_marks f es) bs i w)) refl;
          clear = λ i l w z. tabled_at voted 0 (cells es) i l ∙ ap voted (zero-add i)
              ∙ rw (
                none_of (any_cloud (kinds_on i (all_marks (hand_marks f es) bs))) (λ t. z (test_hit (hand_marks f es) bs i t)),
                is_true (any_mark (kinds_on i (all_marks (hand_marks f es) bs))) (touched_test (hand_marks f es) bs i w),
              ) refl;
          untouched = λ i l z. tabled_at voted 0 (cells es) i l ∙ ap voted (zero-add i)
              ∙ rw (
                none_of (any_cloud (kinds_on i (all_marks (hand_marks f es) bs))) (λ t. z (true, test_hit (hand_marks f es) bs i t)),
                none_of (any_mark (kinds_on i (all_marks (hand_marks f es) bs))) (λ t. z (test_touched (hand_marks f es) bs i t)),
              ) refl;
        },
      )

-- the same beams have the same map to compare with
pub votes_same : (f : Format) (h : Head) (g : Grid) (bs cs : List Handed) (odds : List Float) → Same bs cs → LoneVotes f h g bs odds → LoneVotes f h g cs odds
votes_same f h g bs cs odds e v =
    let there : (x : Mark) → Makes (hand_marks f h.extents) bs x → Makes (hand_marks f h.extents) cs x = λ x. makes_same (hand_marks f h.extents) bs cs x e.there in
    let back : (x : Mark) → Makes (hand_marks f h.extents) cs x → Makes (hand_marks f h.extents) bs x = λ x. makes_same (hand_marks f h.extents) cs bs x e.back in
    record {
      one_per_cell_lem = v.one_per_cell_lem;
      hit = λ i l w. v.hit i l (back _ w);
      clear = λ i l w z. v.clear i l (w.0, back _ w.1) (λ y. z (there _ y));
      untouched = λ i l z. v.untouched i l (λ y. z (y.0, there _ y.1));
    }

-- ---- each cell
no_nan_above : (x y : Float) → T (le x y) → is_nan y ≡ false
unfolding le lt eq is_nan
no_nan_above nan nan t = absurd t
no_nan_above (inf s) nan t = absurd t
no_nan_above (fin s m e) nan t = absurd t
no_nan_above x (inf s) t = refl
no_nan_above x (fin s m e) t = refl

-- no higher than the lone vote leaves it, or the same
abbrev pub NoHigher : List Float → List Float → ℕ → Type 0
NoHigher odds other p = T (le (get_or odds p nan) (get_or other p nan)) ⊎ (get_or odds p nan ≡ get_or other p nan)

module _ (f : Format) (h : Head) (g : Grid) (o : Opened h g) (cs : List Call) (a : NoneRefused f h g cs) (u : InUnits f h g)
    (other : List Float) (v : LoneVotes f h g (handed f h.extents cs) other) where
  abbrev odds : List Float
  odds = (night f h g cs).odds

  as_many : length odds ≡ cells h.extents
  unfolding one_per_cell
  as_many =
      ap (λ (x : Grid). length x.odds) (came f (head_opened h) cs (grid_opened h g) a).leaves
      ∙ marked-odds f h.model (frame_opened h) (all_marks (hand_marks f h.extents) (handed f h.extents cs)) (grid_opened h g)
      ∙ eqb→eq (length g.odds) (cells h.extents) o.odds_per_cell

  each : (p : ℕ) → NoHigher odds other p
  each p = go (order p (cells h.extents))
    where
      bs : List Handed
      bs = handed f h.extents cs

      on-map : p < cells h.extents → Met f h.extents (handed f h.extents cs) p → NoHigher odds other p
      on-map l (was_hit w) = inl (subst (λ (x : Float). T (le (get_or odds p nan) x)) (sym (v.hit p l w)) ((costs f h g o cs a u).no_higher p l w))
      on-map l (was_clear w z) = inr ((ends f h g o cs a).clear-odds p l w z ∙ sym (v.clear p l w z))
      on-map l (was_left z) = inr (ap (λ (c : Cell). c.odds) ((ends f h g o cs a).untouched p l z) ∙ sym (v.untouched p l z))

      go : (p < cells h.extents) ⊎ (cells h.extents ≤ p) → NoHigher odds other p
      go (inl l) = on-map l (met f h.extents (handed f h.extents cs) p)
      go (inr l) =
          let m = v.one_per_cell_lem in
          inr (get_or-eq_default odds nan (omega (arith, as_many)) ∙ sym (get_or-eq_default other nan (omega arith)))

  grades : (p : ℕ) → eighths h.model.ceiling (get_or odds p nan) ≤ eighths h.model.ceiling (get_or other p nan)
  grades p =
      elim (each p) [
        | inl t ↦ eighths_more h.model.ceiling (get_or odds p nan) (get_or other p nan) t
        | inr e ↦ subst (λ (x : Float). eighths h.model.ceiling (get_or odds p nan) ≤ eighths h.model.ceiling x) e (omega arith)
      ]

  numbers : (p : ℕ) → is_nan (get_or odds p nan) ≡ false → is_nan (get_or other p nan) ≡ false
  numbers p n = elim (each p) [ inl t ↦ no_nan_above (get_or odds p nan) (get_or other p nan) t | inr e ↦ ap is_nan (sym e) ∙ n ]

  -- ---- the charts
  abbrev chart_over : List Float → List ℕ
  chart_over xs = chart_of (layer_of h.extents) (last_extent h.extents) h.model.ceiling (cuts_in h.model) xs (layer_of h.extents)

  pub no_thicker : (chart : List ℕ) → (layer_chart_entry (head_opened h) odds chart).answer ≡ given tt → NoThicker (head_opened h) odds other chart
  unfolding layer_chart_entry charted chart_refusal
  no_thicker chart e =
      let columns = layer_of h.extents in
      let layers = last_extent h.extents in
      let p = not_refused (head_refusal chart_uses (head_opened h) (length odds) 0) chart _ tt e in
      let q = not_refused (or_else (unless_holds true (leb (5 * columns) (length chart)) (no_room (5 * columns))) (first_nan columns layers odds columns 0)) chart _ tt p.1 in
      let r = neither (unless_holds true (leb (5 * columns) (length chart)) (no_room (5 * columns))) (first_nan columns layers odds columns 0) q.0 in
      let s = none_first odds other numbers columns layers columns 0 r.1 in
      let t : head_refusal chart_uses (head_opened h) (length other) 0 ≡ none =
      ap (λ (n : ℕ). head_refusal chart_uses (head_opened h) n 0) (v.one_per_cell_lem ∙ sym as_many) ∙ p.0 in
      record {
        charted_too = rw (t, r.0, s) refl;
        none_above_lem =
            rw (t, p.0, r.0, s, r.1)
            (above-joined (chart_over odds) (drop (5 * columns) chart) (chart_over other) (drop (5 * columns) chart)
            (chart_more h.model.ceiling odds other grades columns layers (cuts_in h.model) columns) (above_same (drop (5 * columns) chart)));
      }
