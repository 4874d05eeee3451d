-- Many sample points in one call: by induction on the points, a slot further each time. Assumes nothing.
use Prim.Native.Nat.{ℕ, zero, suc, ◌+◌, ◌-◌, ◌*◌, ◌<◌}
use Rattle.std.specs.Prelude.{Bool, get_or, Float}
use Rattle.std.proofs.Math.Bool.{true, false}
use Rattle.std.proofs.Math.Path.{◌≡◌, refl, ap}
use Rattle.std.proofs.Common.{sym, ◌∙◌, length-take, length-drop, take_at, drop_at, drop-drop}
use mathlib.Core.List.{List}
use Rattle.std.proofs.Math.Option.{Option, some, none}
use Rattle.std.proofs.Math.Nat.{mul-zero, mul-suc}
use native.Mathlib.Omega.{arith}
use Rattle.std.proofs.Math.ListN.{length, take, drop, length-append}
use Rattle.std.specs.Float.{Format}
use Rattle.rules.specs.RefusalNumbers.{Refusal, given, refused, unequal_lists}
use Rattle.rules.specs.RefusalNumbers.Entries.{Outcome, or_else, unless_refused, unless_holds, answered, head_refusal, uses_of, sample_log_odds_entry}
use Rattle.rules.specs.RefusalNumbers.Entries as Entries
use Rattle.rules.specs.TheGridAndItsBounds.{Head}
use Rattle.rules.specs.Coordinates.{sample}
use Rattle.rules.specs.ManySamples.{Slots, slot_of, found_of, slots_all, found_all, sampled_all, same_counts, sample_all_log_odds_entry}
use Rattle.theorems.specs.ManySamples.{point_at, slot_at, PointByPoint, ManySamples}
use Rattle.sample_list.proofs.Counts.{slot_size, counted}

-- a part that starts so many further on
one_on : {A : Type 0} (n i : ℕ) (l : List A) → drop (n * i) (drop n l) ≡ drop (n * suc i) l
one_on n i l =
    let e : n + n * i ≡ n * suc i = omega (arith, mul-suc n i) in
    drop-drop (n * i) n l ∙ ap (λ (k : ℕ). drop k l) e

module _ (f : Format) (es : List ℕ) (odds : List Float) where
  -- the first point's slot, and the slots after it
  module _ (k : ℕ) (points held : List Float) (ps : length points ≡ length es * suc k) (hs : length held ≡ suc (length es) * suc k) where
    abbrev first : List Float
    first = slot_of (sample f es odds (take (length es) points)) (take (suc (length es)) held)

    first-size : length first ≡ suc (length es)
    first-size =
        slot_size f es odds (take (length es) points) (take (suc (length es)) held)
        (length-take (length es) points ∙ omega (arith, mul-suc (length es) k))
        (length-take (suc (length es)) held ∙ omega (arith, mul-suc (suc (length es)) k))

    points_left : length (drop (length es) points) ≡ length es * k
    points_left = length-drop (length es) points ∙ omega (arith, mul-suc (length es) k)

    held-left : length (drop (suc (length es)) held) ≡ suc (length es) * k
    held-left = length-drop (suc (length es)) held ∙ omega (arith, mul-suc (suc (length es)) k)

  slot_is : (k i : ℕ) (points held : List Float) → i < k → length points ≡ length es * k → length held ≡ suc (length es) * k
      → slot_at (length es) i (slots_all f es odds k points held) ≡ slot_of (sample f es odds (point_at (length es) i points)) (slot_at (length es) i held)
  unfolding slots_all
  slot_is zero i points held h ps hs = absurd (omega arith)
  slot_is (suc k) zero points held h ps hs =
      rw (mul-zero, mul-zero) (take_at (first k points held ps hs) _ (suc (length es)) (first-size k points held ps hs))
  slot_is (suc k) (suc i) points held h ps hs =
      let n : ℕ = length es in
      ap (λ (l : List Float). take (suc n) l)
      (sym (one_on (suc n) i (slots_all f es odds (suc k) points held))
      ∙ ap (λ (l : List Float). drop (suc n * i) l) (drop_at (first k points held ps hs) _ (suc n) (first-size k points held ps hs)))
      ∙ slot_is k i (drop n points) (drop (suc n) held) (omega arith) (points_left k points held ps hs) (held-left k points held ps hs)
      ∙ rw (one_on n i points, one_on (suc n) i held) refl

  mark_is : (k i : ℕ) (points : List Float) → i < k → get_or (found_all f es odds k points) i 0 ≡ found_of (sample f es odds (point_at (length es) i points))
  unfolding found_all
  mark_is zero i points h = absurd (omega arith)
  mark_is (suc k) zero points h = rw mul-zero refl
  mark_is (suc k) (suc i) points h = mark_is k i (drop (length es) points) (omega arith) ∙ rw one_on refl

  slots_size : (k : ℕ) (points held : List Float) → length points ≡ length es * k → length held ≡ suc (length es) * k
      → length (slots_all f es odds k points held) ≡ length held
  unfolding slots_all
  slots_size zero points held ps hs = refl
  slots_size (suc k) points held ps hs =
      length-append (first k points held ps hs) _
      ∙ omega (
        arith,
        first-size k points held ps hs,
        held-left k points held ps hs,
        mul-suc (suc (length es)) k,
        slots_size k (drop (length es) points) (drop (suc (length es)) held) (points_left k points held ps hs) (held-left k points held ps hs),
      )

  marks_size : (k : ℕ) (points : List Float) → length (found_all f es odds k points) ≡ k
  unfolding found_all
  marks_size zero points = refl
  marks_size (suc k) points = ap suc (marks_size k (drop (length es) points))

module _ (f : Format) (h : Head) (points odds : List Float) (s : Slots) where
  abbrev n : ℕ
  n = length h.extents

  abbrev head : Option Refusal
  head = head_refusal (uses_of Entries.samples) h (length odds) 0

  abbrev counts : Bool
  counts = same_counts n (length points) (length s.samples) (length s.found)

  alone : (point : List Float) → sample_log_odds_entry f h point odds ≡ answered head (given (sample f h.extents odds point))
  unfolding sample_log_odds_entry
  alone point = refl

  abbrev outcome : Option Refusal → Bool → Outcome (Unit {0}) Slots
  outcome x b =
      unless_refused (or_else x (unless_holds true b unequal_lists)) s (record { answer = given tt; lent = sampled_all f h.extents odds points s })

  by_tests : (x : Option Refusal) (b : Bool) → head ≡ x → counts ≡ b → PointByPoint f h points odds s (outcome x b)
  unfolding sampled_all
  by_tests (some r) b p q =
      record {
        each = λ e i l. let z : ◌≡◌ {A = ℕ} 0 1 = cc in absurd (omega arith);
        numbers_kept = refl;
        marks_kept = refl;
        refused_alike = λ r' point e.
            let a : answered (some r) (given (sample f h.extents odds point)) ≡ refused r' = rw p at (sym (alone point) ∙ e) in
            let k : r ≡ r' = cc in ap refused k;
        nothing_written = λ r' e. refl;
      }
  by_tests none false p q =
      record {
        each = λ e i l. let z : ◌≡◌ {A = ℕ} 0 1 = cc in absurd (omega arith);
        numbers_kept = refl;
        marks_kept = refl;
        refused_alike = λ r' point e.
            let a : answered none (given (sample f h.extents odds point)) ≡ refused r' = rw p at (sym (alone point) ∙ e) in
            let z : ◌≡◌ {A = ℕ} 0 1 = cc in absurd (omega arith);
        nothing_written = λ r' e. refl;
      }
  by_tests none true p q =
      let k : ℕ = length s.found in
      let ps = (counted n (length points) (length s.samples) k q).0 in
      let hs = (counted n (length points) (length s.samples) k q).1 in
      record {
        each = λ e i l. record {
          answer = sample f h.extents odds (point_at n i points);
          asked = alone (point_at n i points) ∙ rw p refl;
          slot = slot_is f h.extents odds k i points s.samples l ps hs;
          mark = mark_is f h.extents odds k i points l;
        };
        numbers_kept = slots_size f h.extents odds k points s.samples ps hs;
        marks_kept = marks_size f h.extents odds k points;
        refused_alike = λ r' point e.
            let a : answered none (given (sample f h.extents odds point)) ≡ refused r' = rw p at (sym (alone point) ∙ e) in
            let z : ◌≡◌ {A = ℕ} 0 1 = cc in absurd (omega arith);
        nothing_written = λ r' e. let z : ◌≡◌ {A = ℕ} 0 1 = cc in absurd (omega arith);
      }

pub many_samples : (f : Format) → ManySamples f
unfolding sample_all_log_odds_entry
many_samples f h points odds s = by_tests f h points odds s (head f h points odds s) (counts f h points odds s) refl refl
