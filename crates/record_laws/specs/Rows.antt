-- The rows of odds and the end of a record: there and back, and what is known of rows that were read. Of any width and
-- number of rows. Assumes nothing.
use Rattle.std.specs.Prelude.{ℕ, zero, suc, ◌+◌, ◌*◌, ◌≤◌, ◌<◌, Bool, true, false, ◌≡◌, refl, eqb, length, take, drop}
use Rattle.std.proofs.Common.{true≢false, sym, ap, ap₂, ◌∙◌, subst, zero-mul, suc-mul, arith, length-append, length-drop, take-append-drop, drop_of_length-le, take_at, drop_at, drop-drop, length-take-le, eqb-true}
use mathlib.Core.List.{List, [], ◌∷◌, ◌++◌, append_assoc}
use Rattle.std.specs.Float.Ieee.{Float, nan, lt, eq, le}
use Rattle.rules.specs.RefusalNumbers.{Refusal, given, refused}
use Rattle.rules.specs.TheGridAndItsBounds.{Model, floor}
use Rattle.rules.specs.Fields.{little_endian, from_little_endian, float_bytes, floats_in, head_size, field_size, field, field_here}
use Rattle.rules.specs.Fields.{Reading, sound_or, field_then, rows_then, nothing_follows, rows_of, rows_tried}
use Rattle.rules.specs.MapRecord.{row_tag, row_length, row_field, end_tag, end_length, end_field, from_floor_to_ceiling, odds_in_bounds}
use Rattle.rules.specs.MapRecord.{rows_bytes, joined, odds_then, end_then, rows_checked}
use Rattle.record_laws.specs.Words.{IsByte, AreBytes, Is64, Are64, NotNan, NoNan}
use Rattle.record_laws.specs.Each.{each_nil, each_cons, each_take, each_drop, each_append, both}
use Rattle.record_laws.specs.Numbers.{float_bytes_length, floats_in_length, floats_back, floats_in_64, floats_again}
use Rattle.record_laws.specs.Fields.{field-length, field_again, Found, sound_given}
use Rattle.record_laws.specs.Fields.{Reached, BrokenAt, broken_here, field_back, field_given, field-broken}

-- ---- written
pub row_length_lem : (w : ℕ) (odds : List Float) → w ≤ length odds → length (float_bytes (take w odds)) ≡ 8 * w
row_length_lem w odds l = float_bytes_length (take w odds) ∙ ap (λ (k : ℕ). 8 * k) (length-take-le w odds l)

-- one row fewer, of one row's odds or stamps fewer
pub rows_left : {A : Type 0} (w n : ℕ) (xs : List A) → length xs ≡ suc n * w → (w ≤ length xs) × (length (drop w xs) ≡ n * w)
rows_left w n xs e = (omega arith, length-drop w xs ∙ omega arith)

pub rows_bytes_length : (w n : ℕ) (odds : List Float) → length odds ≡ n * w → length (rows_bytes w n odds) ≡ n * field_size (8 * w)
unfolding rows_bytes rows_of
rows_bytes_length w zero odds e = sym (zero-mul (field_size (8 * w)))
rows_bytes_length w (suc n) odds e =
    let r = rows_left w n odds e in
    length-append (field 4 (float_bytes (take w odds))) (rows_bytes w n (drop w odds))
    ∙ ap₂ ◌+◌ (field-length 4 (float_bytes (take w odds)) ∙ ap field_size (row_length_lem w odds r.0)) (rows_bytes_length w n (drop w odds) r.1)
    ∙ omega arith

-- ---- written, then read
pub end_back : {B : Type 0} (b : B) (o : ℕ) → end_then b o (field end_tag []) ≡ given b
unfolding field_then nothing_follows field field_here little_endian from_little_endian
end_back b o = refl

pub rows_back : {B : Type 0} (m : Model) (w n o q : ℕ) (odds : List Float) (rest : List ℕ) (next : List Float → Reading B)
    → rows_checked m w n q odds ≡ given tt → length odds ≡ n * w → Are64 odds → row_length w < 65_536
    → odds_then m w n next o (rows_bytes w n odds ++ rest) ≡ next odds (o + n * field_size (row_length w)) rest
unfolding rows_bytes rows_of rows_checked rows_tried odds_then rows_then joined
rows_back m w zero o q [] rest next c e h l = let z : o + 0 * field_size (row_length w) ≡ o = omega (arith, zero-mul (field_size (row_length w))) in rw z refl
rows_back m w zero o q (x ∷ xs) rest next c e h l = absurd (omega (arith, zero-mul w))
rows_back m w (suc n) o q odds rest next c e h l =
    let size = field_size (row_length w) in
    let r = rows_left w n odds e in
    let row = take w odds in
    let s = sound_given q (odds_in_bounds m row) tt (λ (t : Unit {0}). rows_checked m w n (q + size) (drop w odds)) tt c in
    let after = rows_bytes w n (drop w odds) ++ rest in
    let k : o + size + n * size ≡ o + suc n * size = omega (arith, suc-mul n size) in
    rw append_assoc
    (field_back (row_field m w) (λ xs. odds_then m w n (λ ys. next (xs ++ ys))) (float_bytes row) after row o (row_length_lem w odds r.0) l
    (floats_back row after w (length-take-le w odds r.0) (each_take Is64 nan w odds h)) s.0
    ∙ rows_back m w n (o + size) (q + size) (drop w odds) rest (λ ys. next (row ++ ys)) s.1 r.1 (each_drop Is64 nan w odds h) l
    ∙ ap₂ (λ (xs : List Float) (at : ℕ). next xs at rest) (take-append-drop w odds) k)

-- ---- read
-- odds from the floor to the ceiling are numbers
at-most-not-nan : (x y : Float) → le x y ≡ true → NotNan x
unfolding le lt eq
at-most-not-nan x y h e = let z : ◌≡◌ {A = Bool} false true = subst (λ (w : Float). le w y ≡ true) e h in true≢false (sym z)

pub bounds_no_nan : (m : Model) (xs : List Float) → odds_in_bounds m xs ≡ true → NoNan xs
unfolding odds_in_bounds
bounds_no_nan m [] b = each_nil NotNan nan
bounds_no_nan m (x ∷ xs) b =
    let p = both (from_floor_to_ceiling m x) (odds_in_bounds m xs) b in
    let q = both (le (floor m) x) (le x m.ceiling) p.0 in
    each_cons NotNan nan x xs (at-most-not-nan x m.ceiling q.1) (bounds_no_nan m xs p.1)

-- what is known of rows that were read: how long they are, that they could be written, and that binary64 holds them
pub record RowsRead (m : Model) (w n : ℕ) (rest : List ℕ) (odds : List Float) : Type 0 where
  pub odds-length : length odds ≡ n * w
  pub whole : n * field_size (row_length w) ≤ length rest
  pub checked : (o : ℕ) → rows_checked m w n o odds ≡ given tt
  pub held : Are64 odds
  -- that none is a NaN, and that writing them gives the bytes again
  pub numbers : NoNan odds
  pub again : AreBytes rest → rows_bytes w n odds ++ drop (n * field_size (row_length w)) rest ≡ rest

no_row_read : (m : Model) (w : ℕ) (rest : List ℕ) → RowsRead m w zero rest []
unfolding rows_bytes rows_of
no_row_read m w rest =
    let none = zero-mul (field_size (row_length w)) in
    record {
      odds-length = sym (zero-mul w);
      whole = omega arith;
      checked = λ q. unfold rows_checked rows_tried in refl;
      held = each_nil Is64 nan;
      numbers = each_nil NotNan nan;
      again = λ b. rw none refl;
    }

one_row_read : (m : Model) (w n : ℕ) (rest : List ℕ) (ys : List Float) → Found row_tag (row_length w) rest → odds_in_bounds m (floats_in w (drop head_size rest)) ≡ true
    → RowsRead m w n (drop (field_size (row_length w)) rest) ys → RowsRead m w (suc n) rest (floats_in w (drop head_size rest) ++ ys)
unfolding rows_bytes rows_of
one_row_read m w n rest ys f sound r =
    record {
      odds-length = length-append row ys ∙ ap₂ ◌+◌ many r.odds-length ∙ omega arith;
      whole = omega (arith, length-drop (field_size (row_length w)) rest, r.whole, f.whole, suc-mul n (field_size (row_length w)));
      checked = λ q. unfold rows_checked rows_tried in rw (first, others, sound) (r.checked (q + field_size (row_length w)));
      held = each_append Is64 nan row ys (floats_in_64 w (drop head_size rest)) r.held;
      numbers = each_append NotNan nan row ys here r.numbers;
      again = written;
    }
  where
    row : List Float
    row = floats_in w (drop head_size rest)

    many : length (floats_in w (drop head_size rest)) ≡ w
    many = floats_in_length w (drop head_size rest)

    first : take w (floats_in w (drop head_size rest) ++ ys) ≡ floats_in w (drop head_size rest)
    first = take_at (floats_in w (drop head_size rest)) ys w many

    others : drop w (floats_in w (drop head_size rest) ++ ys) ≡ ys
    others = drop_at (floats_in w (drop head_size rest)) ys w many

    here : NoNan (floats_in w (drop head_size rest))
    here = bounds_no_nan m (floats_in w (drop head_size rest)) sound

    written : AreBytes rest → rows_bytes w (suc n) (floats_in w (drop head_size rest) ++ ys) ++ drop (suc n * field_size (row_length w)) rest ≡ rest
    written b =
        let k : field_size (row_length w) + n * field_size (row_length w) ≡ suc n * field_size (row_length w) = omega (arith, suc-mul n (field_size (row_length w))) in
        rw (first, others, append_assoc, sym k, sym (drop-drop (n * field_size (row_length w)) (field_size (row_length w)) rest))
        (ap₂ (λ (x y : List ℕ). field row_tag x ++ y)
        (floats_again w (drop head_size rest) (each_drop IsByte 0 head_size rest b) (omega (arith, length-drop head_size rest, f.whole)) here)
        (r.again (each_drop IsByte 0 (field_size (row_length w)) rest b))
        ∙ field_again row_tag (row_length w) rest b f)

-- rows that were read, and what was given behind them
pub record RowsPassed {B : Type 0} (m : Model) (w n : ℕ) (next : List Float → Reading B) (o : ℕ) (rest : List ℕ) (b : B) : Type 0 where
  pub odds : List Float
  pub rows : RowsRead m w n rest odds
  pub after : next odds (o + n * field_size (row_length w)) (drop (n * field_size (row_length w)) rest) ≡ given b

pub rows_given : {B : Type 0} (m : Model) (w n : ℕ) (next : List Float → Reading B) (o : ℕ) (rest : List ℕ) (b : B)
    → odds_then m w n next o rest ≡ given b → RowsPassed m w n next o rest b
unfolding odds_then rows_then joined
rows_given m w zero next o rest b e =
    let none = zero-mul (field_size (row_length w)) in
    let k : o + 0 * field_size (row_length w) ≡ o = omega arith in
    record { odds = []; rows = no_row_read m w rest; after = rw (k, none) e }
rows_given m w (suc n) next o rest b e =
    let size = field_size (row_length w) in
    let row = floats_in w (drop head_size rest) in
    let p = field_given (row_field m w) (λ xs. odds_then m w n (λ ys. next (xs ++ ys))) o rest b e in
    let q = rows_given m w n (λ ys. next (row ++ ys)) (o + size) (drop size rest) b p.after in
    let k : o + size + n * size ≡ o + suc n * size = omega (arith, suc-mul n size) in
    let j : size + n * size ≡ suc n * size = omega (arith, suc-mul n size) in
    record {
      odds = row ++ q.odds;
      rows = one_row_read m w n rest q.odds p.is_found p.is_sound q.rows;
      after = sym (ap₂ (next (row ++ q.odds)) k (drop-drop (n * size) size rest ∙ ap (λ (at : ℕ). drop at rest) j)) ∙ q.after;
    }

-- the end that was read: it is the end's field and nothing else
pub record EndRead {B : Type 0} (rest : List ℕ) (a b : B) : Type 0 where
  pub is : a ≡ b
  pub size : length rest ≡ field_size end_length
  pub again : AreBytes rest → field end_tag [] ≡ rest

end_again : (rest : List ℕ) → AreBytes rest → Found end_tag end_length rest → length rest ≡ 3 → field end_tag [] ≡ rest
unfolding field little_endian
end_again rest b f l = ap (λ (x : List ℕ). field end_tag [] ++ x) (sym (drop_of_length-le rest {i = 3} (omega arith))) ∙ field_again end_tag end_length rest b f

pub end_given : {B : Type 0} (a : B) (o : ℕ) (rest : List ℕ) (b : B) → end_then a o rest ≡ given b → EndRead rest a b
unfolding nothing_follows
end_given a o rest b e =
    let p = field_given end_field (λ (t : Unit {0}). nothing_follows a) o rest b e in
    go (eqb (length (drop (field_size end_length) rest)) 0) refl p.is_found p.after
  where
    go : (x : Bool) → eqb (length (drop (field_size end_length) rest)) 0 ≡ x → Found end_tag end_length rest → sound_or (o + field_size end_length) x a ≡ given b
        → EndRead rest a b
    go false t f g = let z : ◌≡◌ {A = ℕ} 0 1 = cc in absurd (omega arith)
    go true t f g =
        let none = eqb-true (length (drop (field_size end_length) rest)) 0 t in
        let l : length rest ≡ 3 = omega (arith, length-drop (field_size end_length) rest, f.whole) in
        record { is = cc; size = l; again = λ b. end_again rest b f l }

-- ---- refused
pub end-broken : {B : Type 0} (bytes : List ℕ) (a : B) (o : ℕ) (rest : List ℕ) (r : Refusal) → Reached bytes o rest → end_then a o rest ≡ refused r → BrokenAt bytes r
unfolding nothing_follows
end-broken bytes a o rest r p e =
    field-broken end_field (λ (t : Unit {0}). nothing_follows a) bytes o rest r p e (λ q f. after (eqb (length (drop (field_size end_length) rest)) 0) q f)
  where
    after : (x : Bool) → Reached bytes (o + field_size end_length) (drop (field_size end_length) rest) → sound_or (o + field_size end_length) x a ≡ refused r → BrokenAt bytes r
    after true q f = let z : ◌≡◌ {A = ℕ} 0 1 = cc in absurd (omega arith)
    after false q f = broken_here bytes (o + field_size end_length) (drop (field_size end_length) rest) r q cc

pub rows_broken_lem : {B : Type 0} (bytes : List ℕ) (m : Model) (w n : ℕ) (next : List Float → Reading B) (o : ℕ) (rest : List ℕ) (r : Refusal) → Reached bytes o rest
    → odds_then m w n next o rest ≡ refused r
    → ((odds : List Float) (at : ℕ) (left : List ℕ) → Reached bytes at left → next odds at left ≡ refused r → BrokenAt bytes r) → BrokenAt bytes r
unfolding odds_then rows_then joined
rows_broken_lem bytes m w zero next o rest r p e later = later [] o rest p e
rows_broken_lem bytes m w (suc n) next o rest r p e later =
    let row = floats_in w (drop head_size rest) in
    let size = field_size (row_length w) in
    field-broken (row_field m w) (λ xs. odds_then m w n (λ ys. next (xs ++ ys))) bytes o rest r p e
    (λ q f. rows_broken_lem bytes m w n (λ ys. next (row ++ ys)) (o + size) (drop size rest) r q f (λ ys. later (row ++ ys)))
