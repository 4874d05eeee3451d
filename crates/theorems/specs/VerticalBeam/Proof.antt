-- The theorem: the vertical beam's coordinates are numbers of halves, so clipping leaves it as it is, and the line up
-- its column yields its cells. Assumes nothing.
use Rattle.std.specs.Prelude.{◌≡◌, refl, ◌⊎◌, Bool, true, false, ◌&&◌, ℕ, suc, ◌+◌, ◌-◌, ◌*◌, ◌≤◌, ◌<◌, min, T, eqb, leb, length, get_or, Float}
use Rattle.std.proofs.Common.{sym, ◌∙◌, subst, inl, inr, arith, lt-ltb, le-ltb, ltb→lt, leb→le, eqb→eq}
use Rattle.std.proofs.Math.Path.{ap, ap₂}
use mathlib.Core.List.{List, [], ◌∷◌}
use Rattle.std.proofs.Math.Option.{Option, some, none}
use Rattle.std.proofs.Math.Bool.{cond}
use Rattle.std.proofs.Math.Dec.{ltb}
use Rattle.std.specs.Float.{Format}
use Rattle.std.specs.Float.Ieee.{add}
use Rattle.std.specs.Float.Ieee.Bits.{is_true}
use Rattle.std.specs.Float.Ieee.Fits.{and_l, and_r}
use Rattle.rules.specs.Floats.{half_f, number_f, all_finite}
use Rattle.rules.specs.RefusalNumbers.{Refusal, given, refused, ray, and_then, outside_profile}
use Rattle.rules.specs.RefusalNumbers.Entries.{Outcome, unless_refused, or_else, unless_holds, answered, head_refusal, uses_of, beams, of_integrated, update_ray_entry}
use Rattle.rules.specs.TheGridAndItsBounds.{Head, Grid, most_extent}
use Rattle.rules.specs.TheLine.{Line, plotter, line_cells}
use Rattle.rules.specs.OneBeam.{Beam, Clipped, clip, marks_along, marks_between, beam_marks, integrated_marks, integrated_beam}
use Rattle.rules.specs.VerticalBeam.{Vertical, height, in_profile, column_marks, ends_occupied, cells_above, vertical_marks, update_vertical_entry}
use Rattle.laws.specs.Checks.{AxesInBounds, ready}
use Rattle.laws.specs.Floats.Tests.{and-true, order, ltb_iff}
use Rattle.vertical.proofs.InProfile.{inside_of}
use Rattle.theorems.specs.VerticalBeam.{cell_centre, upper_end, general_beam, unhit, SameAsGeneral}
use Rattle.theorems.specs.VerticalBeam.Halves.{half, one-half, number_halves, add_halves}
use Rattle.theorems.specs.VerticalBeam.Clipping.{Rise, AllUpward, extents_of, origins, endpoints, stops, ends_inside, origins-finite, endpoints-finite, clipped}
use Rattle.theorems.specs.VerticalBeam.Column.{column_cells, line-up, marks_up}

-- ---- the coordinates, in halves
centre_is : (f : Format) (n : ℕ) → n ≤ most_extent → cell_centre f n ≡ half f (2 * n + 1)
centre_is f n h = ap₂ (add f) (number_halves f n) (sym (one-half f)) ∙ add_halves f (2 * n) 1 (omega arith) (omega arith)

abbrev upper_halves : ℕ → ℕ → ℕ
upper_halves e t = cond (ltb t e) (2 * t + 1) (2 * e)

upper_is : (f : Format) (e t : ℕ) → e ≤ most_extent → t ≤ e → upper_end f e t ≡ half f (upper_halves e t)
upper_is f e t h g =
    ap₂ (λ (x y : Float). cond (ltb t e) x y) (centre_is f t (omega arith)) (number_halves f e) ∙ inner (ltb t e)
  where
    inner : (b : Bool) → cond b (half f (2 * t + 1)) (half f (2 * e)) ≡ half f (cond b (2 * t + 1) (2 * e))
    inner true = refl
    inner false = refl

-- the upper end, on the map or on its face
upper_cases : (e t : ℕ) → t ≤ e → ((t < e) × (upper_halves e t ≡ 2 * t + 1)) ⊎ ((t ≡ e) × (upper_halves e t ≡ 2 * e))
upper_cases e t h = go (order t e)
  where
    go : (t < e) ⊎ (e ≤ t) → ((t < e) × (upper_halves e t ≡ 2 * t + 1)) ⊎ ((t ≡ e) × (upper_halves e t ≡ 2 * e))
    go (inl g) = inl (g, ap (λ (b : Bool). cond b (2 * t + 1) (2 * e)) (lt-ltb t e g))
    go (inr g) = inr (omega arith, ap (λ (b : Bool). cond b (2 * t + 1) (2 * e)) (le-ltb t e g))

-- ---- a beam inside the profile
module _ (f : Format) (ex ey ez x y bottom top : ℕ) (hit : Bool) (hx : x < ex) (hy : y < ey) (hz : bottom < ez) (rises : bottom ≤ top) (ends : top ≤ ez)
    (kx : ex ≤ most_extent) (ky : ey ≤ most_extent) (kz : ez ≤ most_extent) where
  abbrev up : ℕ
  up = min top (ez - 1) - bottom

  abbrev axes : List Rise
  axes =
      record { extent = ex; from = 2 * x + 1; to = 2 * x + 1 } ∷ record { extent = ey; from = 2 * y + 1; to = 2 * y + 1 }
      ∷ record { extent = ez; from = 2 * bottom + 1; to = upper_halves ez top } ∷ []

  record Upper : Type 0 where
    from : 2 * bottom + 1 ≤ upper_halves ez top
    most : upper_halves ez top ≤ 2 * ez
    stop : min (upper_halves ez top) (2 * ez - 1) ≡ 2 * (bottom + up) + 1
    inside : ltb (upper_halves ez top) (2 * ez) ≡ ltb top ez

  upper : Upper
  upper = go (upper_cases ez top ends)
    where
      go : ((top < ez) × (upper_halves ez top ≡ 2 * top + 1)) ⊎ ((top ≡ ez) × (upper_halves ez top ≡ 2 * ez)) → Upper
      go (inl c) =
          let h : top < ez = c.0 in
          let e : upper_halves ez top ≡ 2 * top + 1 = c.1 in
          record {
            from = omega arith;
            most = omega arith;
            stop = ap (λ (k : ℕ). min k (2 * ez - 1)) e ∙ omega arith;
            inside = ap (λ (k : ℕ). ltb k (2 * ez)) e ∙ ltb_iff (2 * top + 1) (2 * ez) top ez (λ p. omega arith) (λ p. omega arith);
          }
      go (inr c) =
          let h : top ≡ ez = c.0 in
          let e : upper_halves ez top ≡ 2 * ez = c.1 in
          record {
            from = omega arith;
            most = omega arith;
            stop = ap (λ (k : ℕ). min k (2 * ez - 1)) e ∙ omega arith;
            inside = ap (λ (k : ℕ). ltb k (2 * ez)) e ∙ ltb_iff (2 * ez) (2 * ez) top ez (λ p. omega arith) (λ p. omega arith);
          }

  upward : AllUpward axes
  upward =
      let a = upper.from in
      let b = upper.most in (
        record { known = kx; positive = omega arith; starts = omega arith; rises = omega arith; ends = omega arith },
        (
          record { known = ky; positive = omega arith; starts = omega arith; rises = omega arith; ends = omega arith },
          (record { known = kz; positive = omega arith; starts = omega arith; rises = a; ends = b }, tt),
        ),
      )

  abbrev es : List ℕ
  es = ex ∷ ey ∷ ez ∷ []

  origins_are : cell_centre f x ∷ cell_centre f y ∷ cell_centre f bottom ∷ [] ≡ origins f axes
  origins_are =
      ap₂ (λ (a b : Float). a ∷ b ∷ cell_centre f bottom ∷ []) (centre_is f x (omega arith)) (centre_is f y (omega arith))
      ∙ ap (λ (c : Float). half f (2 * x + 1) ∷ half f (2 * y + 1) ∷ c ∷ []) (centre_is f bottom (omega arith))

  endpoints_are : cell_centre f x ∷ cell_centre f y ∷ upper_end f ez top ∷ [] ≡ endpoints f axes
  endpoints_are =
      ap₂ (λ (a b : Float). a ∷ b ∷ upper_end f ez top ∷ []) (centre_is f x (omega arith)) (centre_is f y (omega arith))
      ∙ ap (λ (c : Float). half f (2 * x + 1) ∷ half f (2 * y + 1) ∷ c ∷ []) (upper_is f ez top kz ends)

  stops_are : stops f axes ≡ half f (2 * x + 1) ∷ half f (2 * y + 1) ∷ half f (2 * (bottom + up) + 1) ∷ []
  stops_are =
      ap₂ (λ (a b : ℕ). half f a ∷ half f b ∷ half f (min (upper_halves ez top) (2 * ez - 1)) ∷ []) (omega arith) (omega arith)
      ∙ ap (λ (c : ℕ). half f (2 * x + 1) ∷ half f (2 * y + 1) ∷ half f c ∷ []) upper.stop

  inside_is : ends_inside axes ≡ ltb top ez
  inside_is =
      ap₂ (λ (a b : Bool). a && (b && (ltb (upper_halves ez top) (2 * ez) && true))) (lt-ltb (2 * x + 1) (2 * ex) (omega arith)) (lt-ltb (2 * y + 1) (2 * ey) (omega arith))
      ∙ ap (λ (c : Bool). c && true) upper.inside ∙ and-true (ltb top ez)

  abbrev beam : Vertical
  beam = record { x = x; y = y; bottom = bottom; top = top; hit = hit }

  marks_are : beam_marks f es (general_beam f es beam)
      ≡ given (column_marks es x y (hit && ltb top ez) bottom up)
  unfolding beam_marks marks_between
  marks_are =
      ap₂ (λ (os ts : List Float). cond (all_finite os && all_finite ts) (marks_between f es hit (clip f es os ts)) (refused ray)) origins_are endpoints_are
      ∙ ap₂ (λ (a b : Bool). cond (a && b) (marks_between f es hit (clip f es (origins f axes) (endpoints f axes))) (refused ray))
      (origins-finite f axes upward) (endpoints-finite f axes upward)
      ∙ ap (marks_between f es hit) (clipped f axes upward)
      ∙ ap₂ (λ (ps : List Float) (i : Bool). and_then (plotter f (origins f axes) ps) (λ (l : Line). given (marks_along es (hit && i) (line_cells f l)))) stops_are inside_is
      ∙ line-up f x y bottom up (omega arith) (omega arith) (omega arith) es (hit && ltb top ez)
      ∙ ap given (marks_up ex ey ez (hit && ltb top ez) x y hx hy bottom up (omega arith))

same_marks : (f : Format) (es : List ℕ) (b : Vertical) → AxesInBounds es → T (in_profile es b) → beam_marks f es (general_beam f es b) ≡ given (vertical_marks es b)
unfolding vertical_marks ends_occupied cells_above
same_marks f [] b h t = absurd (omega (arith, (inside_of [] b t).axes))
same_marks f (e ∷ []) b h t = absurd (omega (arith, (inside_of (e ∷ []) b t).axes))
same_marks f (e ∷ d ∷ []) b h t = absurd (omega (arith, (inside_of (e ∷ d ∷ []) b t).axes))
same_marks f (ex ∷ ey ∷ ez ∷ []) b h t =
    let i = inside_of (ex ∷ ey ∷ ez ∷ []) b t in
    marks_are f ex ey ez b.x b.y b.bottom b.top b.hit i.x_on i.y_on i.bottom_on i.rises i.ends h.1 h.2.1 h.2.2.1
same_marks f (e ∷ d ∷ c ∷ a ∷ es) b h t = absurd (omega (arith, (inside_of (e ∷ d ∷ c ∷ a ∷ es) b t).axes))

-- ---- the entry
abbrev tried : Head → Grid → Option Refusal
tried h g = head_refusal (uses_of beams) h (length g.odds) (length g.stamps)

abbrev marking : Format → Head → Vertical → Grid → Outcome ℕ Grid
marking f h b g = of_integrated (integrated_marks f h.model h.frame g (given (vertical_marks h.extents b)))

same_outcome : (f : Format) (h : Head) (b : Vertical) (g : Grid) → T (in_profile h.extents b)
    → update_vertical_entry f h b g ≡ update_ray_entry f h (general_beam f h.extents b) g
unfolding update_vertical_entry update_ray_entry integrated_beam
same_outcome f h b g t = go (tried h g) refl
  where
    go : (r : Option Refusal) → tried h g ≡ r
        → unless_refused (or_else (tried h g) (unless_holds true (in_profile h.extents b) outside_profile)) g (marking f h b g)
        ≡ unless_refused (tried h g) g (of_integrated (integrated_marks f h.model h.frame g (beam_marks f h.extents (general_beam f h.extents b))))
    go (some r) e = rw e refl
    go none e =
        let p = ready h (length g.odds) (length g.stamps) e in
        rw (e, is_true (in_profile h.extents b) t, same_marks f h.extents b p.extents.0 t) refl

outside : (f : Format) (h : Head) (b : Vertical) (g : Grid) → in_profile h.extents b ≡ false
    → update_vertical_entry f h b g ≡ record { answer = answered (tried h g) (refused outside_profile); lent = g }
unfolding update_vertical_entry
outside f h b g t = rw t (go (tried h g))
  where
    go : (r : Option Refusal) → unless_refused (or_else r (some outside_profile)) g (marking f h b g) ≡ record { answer = answered r (refused outside_profile); lent = g }
    go (some r) = refl
    go none = refl

ran_out : (es : List ℕ) (b : Vertical) → b.top ≡ height es → vertical_marks es b ≡ vertical_marks es (unhit b)
unfolding vertical_marks ends_occupied cells_above
ran_out es b e =
    ap (λ (t : Bool). column_marks es b.x b.y t b.bottom (min b.top (height es - 1) - b.bottom))
    (ap (λ (t : Bool). b.hit && t) (le-ltb b.top (height es) (omega arith)) ∙ and-false b.hit)
  where
    and-false : (p : Bool) → p && false ≡ false
    and-false true = refl
    and-false false = refl

pub same_as_general : (f : Format) → SameAsGeneral f
same_as_general f = record { marks = same_marks f; outcome = same_outcome f; outside = outside f; ran_out = ran_out }
