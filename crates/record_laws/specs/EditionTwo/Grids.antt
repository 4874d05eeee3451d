-- The rows of a record of edition 2 that were read, of odds alone or of odds and stamps: how long the lists are that
-- they give, that these may be written, and that writing them gives the bytes again. Assumes nothing.
use Prim.Native.Nat.{ℕ, suc, ◌+◌, ◌*◌, ◌/◌, ◌≤◌}
use Rattle.std.specs.Prelude.{Bool, cond, ◌≡◌, leb, drop}
use Rattle.std.proofs.Math.Bool.{true, false}
use mathlib.Core.List.{List, [], ◌∷◌, ◌++◌, append_assoc}
use Rattle.std.proofs.Math.Path.{refl, sym, ap₂}
use Rattle.std.proofs.Common.{ap, ◌∙◌, zero-mul, arith, length-drop, drop-drop, leb-true}
use Rattle.std.proofs.Math.Nat.{suc-mul}
use Rattle.std.proofs.Math.ListN.{length, length-append}
use Rattle.std.proofs.Math.Seq.{take_at, drop_at}
use Rattle.std.specs.Float.Ieee.{nan}
use Rattle.rules.specs.RefusalNumbers.{given}
use Rattle.rules.specs.TheGridAndItsBounds.{Model, Grid}
use Rattle.rules.specs.MarksAndFrames.{frame_of, highest_frame}
use Rattle.rules.specs.Fields.{float_bytes, floats_in, head_size, field_size, field, Reading, rows_of, rows_tried}
use Rattle.rules.specs.MapRecord.{row_tag, row_length, row_field, odds_in_bounds}
use Rattle.rules.specs.EditionTwo.{stamps_tag, stamps_length, stamp_bytes, stamps_in, none_above, stamps_field, grid_bytes, row_then, grid_of_rows, row_size, grid_tried}
use Rattle.record_laws.specs.Words.{Each, IsByte, AreBytes, Is64, Are64, NotNan, NoNan}
use Rattle.record_laws.specs.Each.{each_nil, each_cons, each_drop, each_append, both}
use Rattle.record_laws.specs.Numbers.{floats_in_length, floats_in_64, floats_again, InFourBytes, stamps_in_length, stamps_again}
use Rattle.record_laws.specs.Fields.{Found, field_again, field_given}
use Rattle.record_laws.specs.Rows.{bounds_no_nan}
use Rattle.record_laws.specs.EditionTwo.Parts.{AllHave, all_whole, PartPassed}

-- ---- stamps
-- a stamp of a frame that is no higher than the highest is below 2 ^ 32
pub in_four_bytes : (frame : ℕ) (ss : List ℕ) → frame ≤ highest_frame → none_above frame ss ≡ true → Each InFourBytes 0 ss
unfolding none_above
in_four_bytes frame [] l e = each_nil InFourBytes 0
in_four_bytes frame (s ∷ ss) l e =
    let t = both (leb (frame_of s) frame) (none_above frame ss) e in
    let low : s / 2 ≤ frame = leb-true (frame_of s) frame t.0 in
    each_cons InFourBytes 0 s ss (omega arith) (in_four_bytes frame ss l t.1)

none-above-both : (frame : ℕ) (ss ts : List ℕ) → none_above frame ss ≡ true → none_above frame ts ≡ true → none_above frame (ss ++ ts) ≡ true
unfolding none_above
none-above-both frame [] ts e f = f
none-above-both frame (s ∷ ss) ts e f =
    let t = both (leb (frame_of s) frame) (none_above frame ss) e in
    rw t.0 (none-above-both frame ss ts t.1 f)

-- the lists that rows give; of a closed record, with any stamps
abbrev pub grid_with : Bool → List Grid → List ℕ → Grid
grid_with running gs others = record { odds = (grid_of_rows gs).odds; stamps = cond running (grid_of_rows gs).stamps others }

-- ---- one row
module _ (m : Model) (frame w : ℕ) where
  pub record RowRead (running : Bool) (rest : List ℕ) (g : Grid) : Type 0 where
    pub odds-length : length g.odds ≡ w
    pub odds_sound : odds_in_bounds m g.odds ≡ true
    pub stamps-length : running ≡ true → length g.stamps ≡ w
    pub stamps_sound : running ≡ true → none_above frame g.stamps ≡ true
    pub held : Are64 g.odds
    pub again : AreBytes rest
        → field row_tag (float_bytes g.odds) ++ (cond running (field stamps_tag (stamp_bytes g.stamps)) [] ++ drop (row_size running w) rest) ≡ rest

  odds_again : (rest : List ℕ) → Found row_tag (row_length w) rest → odds_in_bounds m (floats_in w (drop head_size rest)) ≡ true → AreBytes rest
      → field row_tag (float_bytes (floats_in w (drop head_size rest))) ++ drop (field_size (row_length w)) rest ≡ rest
  odds_again rest f sound b =
      let l = f.whole in
      ap (λ (x : List ℕ). field row_tag x ++ drop (field_size (row_length w)) rest)
      (floats_again w (drop head_size rest) (each_drop IsByte 0 head_size rest b) (omega (arith, length-drop head_size rest))
      (bounds_no_nan m (floats_in w (drop head_size rest)) sound))
      ∙ field_again row_tag (row_length w) rest b f

  stamps_row_again : (rest : List ℕ) → Found stamps_tag (stamps_length w) rest → AreBytes rest
      → field stamps_tag (stamp_bytes (stamps_in w (drop head_size rest))) ++ drop (field_size (stamps_length w)) rest ≡ rest
  stamps_row_again rest f b =
      let l = f.whole in
      ap (λ (x : List ℕ). field stamps_tag x ++ drop (field_size (stamps_length w)) rest)
      (stamps_again w (drop head_size rest) (each_drop IsByte 0 head_size rest b) (omega (arith, length-drop head_size rest)))
      ∙ field_again stamps_tag (stamps_length w) rest b f

  pub row_given : {B : Type 0} (running : Bool) (next : Grid → Reading B) (o : ℕ) (rest : List ℕ) (b : B) → row_then running m frame w next o rest ≡ given b
      → PartPassed (row_size running w) (RowRead running) (row_then running m frame w) next o rest b
  row_given false next o rest b e =
      let p = field_given (row_field m w) (λ odds. next (record { odds = odds; stamps = [] })) o rest b e in
      let k : field_size (row_length w) + 0 ≡ field_size (row_length w) = omega arith in
      let odds = floats_in w (drop head_size rest) in
      record {
        it = record { odds = odds; stamps = [] };
        whole = rw k p.is_found.whole;
        has = record {
          odds-length = floats_in_length w (drop head_size rest);
          odds_sound = p.is_sound;
          stamps-length = λ h. let z : ◌≡◌ {A = ℕ} 0 1 = cc in absurd (omega arith);
          stamps_sound = λ h. let z : ◌≡◌ {A = ℕ} 0 1 = cc in absurd (omega arith);
          held = floats_in_64 w (drop head_size rest);
          again = λ b. rw k (odds_again rest p.is_found p.is_sound b);
        };
        after = rw k p.after;
      }
  row_given true next o rest b e =
      let row = field_size (row_length w) in
      let left = drop row rest in
      let odds = floats_in w (drop head_size rest) in
      let p = field_given (row_field m w) (λ odds. _) o rest b e in
      let q = field_given (stamps_field frame w) (λ stamps. next (record { odds = odds; stamps = stamps })) (o + row) left b p.after in
      let i = p.is_found.whole in
      let j = q.is_found.whole in
      let d = length-drop row rest in
      let behind : drop (field_size (stamps_length w)) left ≡ drop (row_size true w) rest = drop-drop (field_size (stamps_length w)) row rest in
      let k : o + row + field_size (stamps_length w) ≡ o + row_size true w = omega arith in
      let g : Grid = record { odds = odds; stamps = stamps_in w (drop head_size left) } in
      record {
        it = g;
        whole = omega arith;
        has = record {
          odds-length = floats_in_length w (drop head_size rest);
          odds_sound = p.is_sound;
          stamps-length = λ h. stamps_in_length w (drop head_size left);
          stamps_sound = λ h. q.is_sound;
          held = floats_in_64 w (drop head_size rest);
          again = λ b. rw (sym behind)
              (ap (λ (x : List ℕ). field row_tag (float_bytes odds) ++ x) (stamps_row_again left q.is_found (each_drop IsByte 0 row rest b))
              ∙ odds_again rest p.is_found p.is_sound b);
        };
        after = sym (ap₂ (next g) k behind) ∙ q.after;
      }

  -- ---- so many rows
  abbrev pub RowsRead : Bool → List ℕ → List Grid → Type 0
  RowsRead running rest gs = AllHave (row_size running w) (RowRead running) rest gs

  rows_odds_length : (running : Bool) (rest : List ℕ) (gs : List Grid) → RowsRead running rest gs → length (grid_of_rows gs).odds ≡ length gs * w
  unfolding grid_of_rows
  rows_odds_length running rest [] h = sym (zero-mul w)
  rows_odds_length running rest (g ∷ gs) h =
      length-append g.odds (grid_of_rows gs).odds
      ∙ ap₂ ◌+◌ h.1.odds-length (rows_odds_length running (drop (row_size running w) rest) gs h.2)
      ∙ omega (arith, suc-mul (length gs) w)

  rows_stamps_length : (rest : List ℕ) (gs : List Grid) → RowsRead true rest gs → length (grid_of_rows gs).stamps ≡ length gs * w
  unfolding grid_of_rows
  rows_stamps_length rest [] h = sym (zero-mul w)
  rows_stamps_length rest (g ∷ gs) h =
      length-append g.stamps (grid_of_rows gs).stamps
      ∙ ap₂ ◌+◌ (h.1.stamps-length refl) (rows_stamps_length (drop (row_size true w) rest) gs h.2)
      ∙ omega (arith, suc-mul (length gs) w)

  rows_held : (running : Bool) (rest : List ℕ) (gs : List Grid) → RowsRead running rest gs → Are64 (grid_of_rows gs).odds
  unfolding grid_of_rows
  rows_held running rest [] h = each_nil Is64 nan
  rows_held running rest (g ∷ gs) h =
      each_append Is64 nan g.odds (grid_of_rows gs).odds h.1.held (rows_held running (drop (row_size running w) rest) gs h.2)

  rows_numbers : (running : Bool) (rest : List ℕ) (gs : List Grid) → RowsRead running rest gs → NoNan (grid_of_rows gs).odds
  unfolding grid_of_rows
  rows_numbers running rest [] h = each_nil NotNan nan
  rows_numbers running rest (g ∷ gs) h =
      each_append NotNan nan g.odds (grid_of_rows gs).odds (bounds_no_nan m g.odds h.1.odds_sound)
      (rows_numbers running (drop (row_size running w) rest) gs h.2)

  rows_none_above : (rest : List ℕ) (gs : List Grid) → RowsRead true rest gs → none_above frame (grid_of_rows gs).stamps ≡ true
  unfolding grid_of_rows none_above
  rows_none_above rest [] h = refl
  rows_none_above rest (g ∷ gs) h =
      none-above-both frame g.stamps (grid_of_rows gs).stamps (h.1.stamps_sound refl) (rows_none_above (drop (row_size true w) rest) gs h.2)

  rows_tried_lem : (running : Bool) (rest : List ℕ) (gs : List Grid) (o : ℕ) (others : List ℕ) → RowsRead running rest gs
      → grid_tried running m frame w (length gs) o (grid_with running gs others) ≡ given tt
  unfolding grid_tried rows_tried grid_of_rows
  rows_tried_lem running rest [] o others h = refl
  rows_tried_lem false rest (g ∷ gs) o others h =
      rw (take_at g.odds (grid_of_rows gs).odds w h.1.odds-length, drop_at g.odds (grid_of_rows gs).odds w h.1.odds-length, h.1.odds_sound)
      (rows_tried_lem false (drop (row_size false w) rest) gs (o + row_size false w) (drop w others) h.2)
  rows_tried_lem true rest (g ∷ gs) o others h =
      let n = h.1.stamps-length refl in
      rw (
        take_at g.odds (grid_of_rows gs).odds w h.1.odds-length,
        drop_at g.odds (grid_of_rows gs).odds w h.1.odds-length,
        take_at g.stamps (grid_of_rows gs).stamps w n,
        drop_at g.stamps (grid_of_rows gs).stamps w n,
        h.1.odds_sound,
        h.1.stamps_sound refl,
      )
      (rows_tried_lem true (drop (row_size true w) rest) gs (o + row_size true w) others h.2)

  rows_again : (running : Bool) (rest : List ℕ) (gs : List Grid) (others : List ℕ) → RowsRead running rest gs → AreBytes rest
      → grid_bytes running w (length gs) (grid_with running gs others) ++ drop (length gs * row_size running w) rest ≡ rest
  unfolding grid_bytes rows_of grid_of_rows
  rows_again running rest [] others h b = rw (zero-mul (row_size running w)) refl
  rows_again false rest (g ∷ gs) others h b =
      let size = row_size false w in
      let j : size + length gs * size ≡ suc (length gs) * size = omega (arith, suc-mul (length gs) size) in
      rw (
        take_at g.odds (grid_of_rows gs).odds w h.1.odds-length,
        drop_at g.odds (grid_of_rows gs).odds w h.1.odds-length,
        sym j,
        sym (drop-drop (length gs * size) size rest),
      )
      (simp append_assoc
      (ap (λ (x : List ℕ). field row_tag (float_bytes g.odds) ++ x)
      (rows_again false (drop size rest) gs (drop w others) h.2 (each_drop IsByte 0 size rest b))
      ∙ h.1.again b))
  rows_again true rest (g ∷ gs) others h b =
      let size = row_size true w in
      let n = h.1.stamps-length refl in
      let j : size + length gs * size ≡ suc (length gs) * size = omega (arith, suc-mul (length gs) size) in
      rw (
        take_at g.odds (grid_of_rows gs).odds w h.1.odds-length,
        drop_at g.odds (grid_of_rows gs).odds w h.1.odds-length,
        take_at g.stamps (grid_of_rows gs).stamps w n,
        drop_at g.stamps (grid_of_rows gs).stamps w n,
        sym j,
        sym (drop-drop (length gs * size) size rest),
      )
      (simp append_assoc
      (ap (λ (x : List ℕ). field row_tag (float_bytes g.odds) ++ (field stamps_tag (stamp_bytes g.stamps) ++ x))
      (rows_again true (drop size rest) gs others h.2 (each_drop IsByte 0 size rest b))
      ∙ h.1.again b))

  -- what is known of the lists that so many rows give, as the record keeps them
  pub record GridRead (running : Bool) (n : ℕ) (rest others : List ℕ) (g : Grid) : Type 0 where
    pub odds-length : length g.odds ≡ n * w
    pub stamps-length : running ≡ true → length g.stamps ≡ n * w
    pub whole : n * row_size running w ≤ length rest
    pub tried : (o : ℕ) → grid_tried running m frame w n o g ≡ given tt
    pub held : Are64 g.odds
    pub numbers : NoNan g.odds
    pub none_above_lem : running ≡ true → none_above frame g.stamps ≡ true
    pub closed : running ≡ false → g.stamps ≡ others
    pub again : AreBytes rest → grid_bytes running w n g ++ drop (n * row_size running w) rest ≡ rest

  pub grid_read : (running : Bool) (rest : List ℕ) (gs : List Grid) (others : List ℕ) → RowsRead running rest gs
      → GridRead running (length gs) rest others (grid_with running gs others)
  grid_read false rest gs others h =
      record {
        odds-length = rows_odds_length false rest gs h;
        stamps-length = λ e. let z : ◌≡◌ {A = ℕ} 0 1 = cc in absurd (omega arith);
        whole = all_whole (row_size false w) (RowRead false) rest gs h;
        tried = λ o. rows_tried_lem false rest gs o others h;
        held = rows_held false rest gs h;
        numbers = rows_numbers false rest gs h;
        none_above_lem = λ e. let z : ◌≡◌ {A = ℕ} 0 1 = cc in absurd (omega arith);
        closed = λ e. refl;
        again = λ b. rows_again false rest gs others h b;
      }
  grid_read true rest gs others h =
      record {
        odds-length = rows_odds_length true rest gs h;
        stamps-length = λ e. rows_stamps_length rest gs h;
        whole = all_whole (row_size true w) (RowRead true) rest gs h;
        tried = λ o. rows_tried_lem true rest gs o others h;
        held = rows_held true rest gs h;
        numbers = rows_numbers true rest gs h;
        none_above_lem = λ e. rows_none_above rest gs h;
        closed = λ e. let z : ◌≡◌ {A = ℕ} 0 1 = cc in absurd (omega arith);
        again = λ b. rows_again true rest gs others h b;
      }
