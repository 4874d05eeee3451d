-- The entries that read and write a record, where they are not refused: what the answer says of the lists lent. Assumes
-- nothing.
use Rattle.std.specs.Prelude.{ℕ, Bool, true, false, cond, ◌&&◌, List, ◌++◌, ◌≡◌, refl, eqb, length, drop, replicate, Float}
use Rattle.std.proofs.Math.Option.{Option, some, none}
use Rattle.std.proofs.Math.Path.{sym, ap}
use Rattle.std.proofs.Common.{ap₂, ◌∙◌, arith, eqb-true, eq-eqb}
use Rattle.rules.specs.RefusalNumbers.{Refusal, Answer, given, refused, bad_cuts, bad_buffer}
use Rattle.rules.specs.RefusalNumbers.Entries.{head_refusal, uses_of, writing, Outcome}
use Rattle.rules.specs.RefusalNumbers.Entries.{unless_refused, read_answer, read_record_entry, write_answer, write_record_entry}
use Rattle.rules.specs.TheGridAndItsBounds.{Head, Grid, cells, cuts_in_bounds, one_per_cell}
use Rattle.rules.specs.MapRecord.{Stored, record_bytes, record_of, writable, with_cuts}
use Rattle.theorems.specs.MapRecord.Words.{map_read, SameReading}
use Rattle.record_laws.specs.Each.{both}

-- ---- reading
-- one odds number and one stamp for each cell of the map that was read
abbrev pub RightSize : Stored → Grid → Type 0
RightSize s g = (length g.odds ≡ cells s.head.extents) × (length g.stamps ≡ cells s.head.extents)

-- the cuts that were given fit the map that was read
abbrev pub cuts_fit : List ℕ → Stored → Bool
cuts_fit cuts s = cuts_in_bounds s.head.extents (with_cuts cuts s.head).model

pub reads : (axes : ℕ) (cuts bytes : List ℕ) (s : Stored) (g : Grid) → record_of axes bytes ≡ given s → cuts_fit cuts s ≡ true → RightSize s g
    → read_record_entry axes cuts bytes g ≡ map_read cuts s
unfolding read_record_entry one_per_cell
reads axes cuts bytes s g e c l = rw (e, c, eq-eqb _ _ l.0, eq-eqb _ _ l.1, l.1) refl

-- what reading leaves of a grid by whether it has the sizes
abbrev sized_answer : List ℕ → Stored → Grid → Bool → Outcome Head Grid
sized_answer cuts s g b =
    cond b (record { answer = given (with_cuts cuts s.head); lent = record { odds = s.odds; stamps = replicate (length g.stamps) 0 } })
    (record { answer = refused bad_buffer; lent = g })

-- and by whether the cuts fit
abbrev cut_answer : List ℕ → Stored → Grid → Bool → Bool → Outcome Head Grid
cut_answer cuts s g c b = cond c (sized_answer cuts s g b) (record { answer = refused bad_cuts; lent = g })

-- an answer that is a head came from a record, into a grid of its sizes
pub record ReadFrom (axes : ℕ) (cuts bytes : List ℕ) (g : Grid) (h : Head) : Type 0 where
  pub stored : Stored
  pub is : record_of axes bytes ≡ given stored
  pub head_is : with_cuts cuts stored.head ≡ h
  pub cuts_fit_lem : cuts_fit cuts stored ≡ true
  pub sizes : RightSize stored g

pub read_from_lem : (axes : ℕ) (cuts bytes : List ℕ) (g : Grid) (h : Head) → (read_record_entry axes cuts bytes g).answer ≡ given h → ReadFrom axes cuts bytes g h
unfolding read_record_entry one_per_cell
read_from_lem axes cuts bytes g h e = go (record_of axes bytes) refl e
  where
    sized : (s : Stored) (f b : Bool) → record_of axes bytes ≡ given s → cuts_fit cuts s ≡ f
        → eqb (length g.odds) (cells s.head.extents) && eqb (length g.stamps) (cells s.head.extents) ≡ b
        → (cut_answer cuts s g f b).answer ≡ given h → ReadFrom axes cuts bytes g h
    sized s true true t f b q =
        let c = both (eqb (length g.odds) (cells s.head.extents)) (eqb (length g.stamps) (cells s.head.extents)) b in
        record { stored = s; is = t; head_is = cc; cuts_fit_lem = f; sizes = (eqb-true _ _ c.0, eqb-true _ _ c.1) }
    sized s true false t f b q = let z : ◌≡◌ {A = ℕ} 0 1 = cc in absurd (omega arith)
    sized s false b t f e q = let z : ◌≡◌ {A = ℕ} 0 1 = cc in absurd (omega arith)

    go : (a : Answer Stored) → record_of axes bytes ≡ a → (read_answer cuts g a).answer ≡ given h → ReadFrom axes cuts bytes g h
    go (given s) t q =
        sized s (cuts_fit cuts s) (eqb (length g.odds) (cells s.head.extents) && eqb (length g.stamps) (cells s.head.extents)) t refl refl q
    go (refused r) t q = let z : ◌≡◌ {A = ℕ} 0 1 = cc in absurd (omega arith)

-- the answer goes by the sizes of what was lent
answer_by_size : (cuts : List ℕ) (a : Answer Stored) (g k : Grid) → length g.odds ≡ length k.odds → length g.stamps ≡ length k.stamps
    → (read_answer cuts g a).answer ≡ (read_answer cuts k a).answer
answer_by_size cuts (refused r) g k p q = refl
answer_by_size cuts (given s) g k p q =
    ap₂ (λ (m n : ℕ). (cut_answer cuts s g (cuts_fit cuts s) (one_per_cell s.head.extents m && one_per_cell s.head.extents n)).answer) p q
    ∙ either (cuts_fit cuts s) (one_per_cell s.head.extents (length k.odds) && one_per_cell s.head.extents (length k.stamps))
  where
    either : (c b : Bool) → (cut_answer cuts s g c b).answer ≡ (cut_answer cuts s k c b).answer
    either true true = refl
    either true false = refl
    either false b = refl

pub same-reading : (axes : ℕ) (cuts bytes : List ℕ) (g k : Grid) → SameReading axes cuts bytes g k
same-reading axes cuts bytes g k = record { answers = λ p q. unfold read_record_entry in answer_by_size cuts (record_of axes bytes) g k p q; maps = maps }
  where
    maps : (h j : Head) → (read_record_entry axes cuts bytes g).answer ≡ given h → (read_record_entry axes cuts bytes k).answer ≡ given j
        → read_record_entry axes cuts bytes g ≡ read_record_entry axes cuts bytes k
    maps h j p q =
        let x = read_from_lem axes cuts bytes g h p in
        let y = read_from_lem axes cuts bytes k j q in
        let same : x.stored ≡ y.stored = cc (x.is, y.is) in
        reads axes cuts bytes x.stored g x.is x.cuts_fit_lem x.sizes
        ∙ ap (map_read cuts) same
        ∙ sym (reads axes cuts bytes y.stored k y.is y.cuts_fit_lem y.sizes)

-- ---- writing
-- an answer that is a count came from a head that passed, and the bytes stand first in what was lent
pub record WroteInto (h : Head) (odds : List Float) (out : List ℕ) (n : ℕ) : Type 0 where
  pub passes : head_refusal (uses_of writing) h (length odds) 0 ≡ none
  pub counted : writable h odds (length out) ≡ given n
  pub lent_is : (write_record_entry h odds out).lent ≡ record_bytes h odds ++ drop n out

pub wrote_into : (h : Head) (odds : List Float) (out : List ℕ) (n : ℕ) → (write_record_entry h odds out).answer ≡ given n → WroteInto h odds out n
unfolding write_record_entry
wrote_into h odds out n e = go (head_refusal (uses_of writing) h (length odds) 0) (writable h odds (length out)) refl refl e
  where
    go : (x : Option Refusal) (a : Answer ℕ) → head_refusal (uses_of writing) h (length odds) 0 ≡ x → writable h odds (length out) ≡ a
        → (unless_refused x out (write_answer h odds out a)).answer ≡ given n → WroteInto h odds out n
    go (some r) a p q t = let z : ◌≡◌ {A = ℕ} 0 1 = cc in absurd (omega arith)
    go none (refused r) p q t = let z : ◌≡◌ {A = ℕ} 0 1 = cc in absurd (omega arith)
    go none (given m) p q t =
        let w : writable h odds (length out) ≡ given n = cc in
        record { passes = p; counted = w; lent_is = rw (p, w) refl }

pub writes : (h : Head) (odds : List Float) (out : List ℕ) (n : ℕ)
    → head_refusal (uses_of writing) h (length odds) 0 ≡ none → writable h odds (length out) ≡ given n
    → write_record_entry h odds out ≡ record { answer = given n; lent = record_bytes h odds ++ drop n out }
unfolding write_record_entry
writes h odds out n p w = rw (p, w) refl
