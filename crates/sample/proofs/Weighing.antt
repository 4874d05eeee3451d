-- The leaves of a sample, in every format: weights, sums and differences over the corners of one axis, of two and of
-- three, by what the code's calls answered. Assumes nothing.
use Rattle.std.proofs.Common.{◌≡◌, [], ◌∷◌, refl}
use lib.Ieee.{Float, Format, sub, mul}
use Rattle.rules.specs.Floats.{zero_f, one_f}
use Rattle.rules.specs.Coordinates.{corners, weighed, weighed_without, value_from, slope_from, gradient_from}
use Rattle.sample.specs.Sampling.{Edge, Square, Cube, on_edge, on_square, on_cube, at_edge, at_square, edge_times, square_times, edge_sum, square_sum}
use Rattle.sample.specs.Sampling.{along_edges, along_squares, between_edges, between_pairs, gradient_over}

module _ (f : Format) where
  -- ---- weights: o is the code's one
  pub edge-weighed : (x : Float) {o : Float} → o ≡ one_f → record { low = mul f o (sub f o x); high = mul f o x } ≡ at_edge (weighed f one_f (x ∷ []))
  unfolding weighed
  edge-weighed x h = rw h refl

  pub square_weighed : (x y : Float) {o : Float} {w a b : Edge} → o ≡ one_f → w ≡ at_edge (weighed f one_f (x ∷ [])) → a ≡ edge_times f w (sub f o y) → b ≡ edge_times f w y
      → record { low = a; high = b } ≡ at_square (weighed f one_f (x ∷ y ∷ []))
  unfolding weighed
  square_weighed x y h p q r = rw (q, r, p, h) refl

  pub square_times_lem : (w : Square) (s : Float) {a b : Edge} → a ≡ edge_times f w.low s → b ≡ edge_times f w.high s → record { low = a; high = b } ≡ square_times f w s
  square_times_lem w s p q = rw (p, q) refl

  -- ---- sums: z is the code's zero
  pub square_sum_lem : (v : Float) (w o : Square) {a b : Float} → a ≡ edge_sum f v w.low o.low → b ≡ edge_sum f a w.high o.high → b ≡ square_sum f v w o
  square_sum_lem v w o p q = rw (q, p) refl

  pub value_one : (x : Float) (e : Edge) {z v : Float} {w : Edge} → z ≡ zero_f → w ≡ at_edge (weighed f one_f (x ∷ [])) → v ≡ edge_sum f z w e
      → v ≡ value_from f zero_f (x ∷ []) (on_edge e) (corners 1)
  unfolding value_from weighed corners
  value_one x e h p q = rw (q, p, h) refl

  pub value_two : (x y : Float) (s : Square) {z v : Float} {w : Square} → z ≡ zero_f → w ≡ at_square (weighed f one_f (x ∷ y ∷ [])) → v ≡ square_sum f z w s
      → v ≡ value_from f zero_f (x ∷ y ∷ []) (on_square s) (corners 2)
  unfolding value_from weighed corners
  value_two x y s h p q = rw (q, p, h) refl

  pub value_three : (x y z : Float) (q : Cube) {n o u v : Float} {w a b : Square} → n ≡ zero_f → o ≡ one_f → w ≡ at_square (weighed f one_f (x ∷ y ∷ []))
      → a ≡ square_times f w (sub f o z) → u ≡ square_sum f n a q.low → b ≡ square_times f w z → v ≡ square_sum f u b q.high
      → v ≡ value_from f zero_f (x ∷ y ∷ z ∷ []) (on_cube q) (corners 3)
  unfolding value_from weighed corners
  value_three x y z q h i p a u b v = rw (v, b, u, a, p, h, i) refl

  -- ---- differences
  pub along_squares_lem : (s t : Square) {a b : Edge} → a ≡ along_edges f s → b ≡ along_edges f t → record { low = a; high = b } ≡ along_squares f s t
  along_squares_lem s t p q = rw (p, q) refl

  pub between_pairs_lem : (a b c d : Edge) {l h : Edge} → l ≡ between_edges f a b → h ≡ between_edges f c d → record { low = l; high = h } ≡ between_pairs f a b c d
  between_pairs_lem a b c d p q = rw (p, q) refl

  -- ---- the gradient: along each axis the value of the differences across it
  pub gradient_two : (x y : Float) (s : Square) {a b : Edge} {u v : Float} → a ≡ along_edges f s → u ≡ value_from f zero_f (y ∷ []) (on_edge a) (corners 1)
      → b ≡ between_edges f s.low s.high → v ≡ value_from f zero_f (x ∷ []) (on_edge b) (corners 1)
      → u ∷ v ∷ [] ≡ gradient_over f (x ∷ y ∷ []) (on_square s)
  unfolding gradient_over value_from slope_from gradient_from weighed weighed_without corners
  gradient_two x y s a u b v = rw (v, b, u, a) refl

  pub gradient_three : (x y z : Float) (q : Cube) {a b c : Square} {u v w : Float}
      → a ≡ along_squares f q.low q.high → u ≡ value_from f zero_f (y ∷ z ∷ []) (on_square a) (corners 2)
      → b ≡ between_pairs f q.low.low q.low.high q.high.low q.high.high → v ≡ value_from f zero_f (x ∷ z ∷ []) (on_square b) (corners 2)
      → c ≡ between_pairs f q.low.low q.high.low q.low.high q.high.high → w ≡ value_from f zero_f (x ∷ y ∷ []) (on_square c) (corners 2)
      → u ∷ v ∷ w ∷ [] ≡ gradient_over f (x ∷ y ∷ z ∷ []) (on_cube q)
  unfolding gradient_over value_from slope_from gradient_from weighed weighed_without corners
  gradient_three x y z q a u b v c w = rw (w, c, v, b, u, a) refl
