-- The entries that read and write edition 2, where they are not refused: what the answer says of the lists lent.
-- Assumes nothing.
use Rattle.std.specs.Prelude.{ℕ, ◌≤◌, Bool, true, false, cond, ◌&&◌, List, ◌++◌, ◌≡◌, refl, eqb, leb, length, drop}
use Rattle.std.proofs.Math.Option.{Option, some, none}
use Rattle.std.proofs.Math.Path.{sym, ap}
use Rattle.std.proofs.Common.{ap₂, ◌∙◌, arith, eqb-true, eq-eqb, leb-true}
use Rattle.rules.specs.RefusalNumbers.{Refusal, Answer, given, refused, bad_buffer, no_room}
use Rattle.rules.specs.RefusalNumbers.Entries.{head_refusal, Outcome, unless_refused}
use Rattle.rules.specs.RefusalNumbers.Editions.{Loaded, load_answer, read_edition_entry, uses_of_writing, store_answer, write_edition_entry}
use Rattle.rules.specs.TheGridAndItsBounds.{Head, Grid, cells, one_per_cell}
use Rattle.rules.specs.MapRecord.{row_width, row_count}
use Rattle.rules.specs.EditionTwo.{Kept, edition_bytes, edition_of, grid_offset, grid_tried, edition_size, edition_room, edition_writable}
use Rattle.rows.proofs.Answers.{then_given}
use Rattle.record_laws.specs.Each.{both}
use Rattle.theorems.specs.EditionTwo.Words.{as_read, SameLoading}

-- ---- reading
-- one odds number and one stamp for each cell of the map that was read
abbrev pub RightSize : Kept → Grid → Type 0
RightSize k g = (length g.odds ≡ cells k.head.extents) × (length g.stamps ≡ cells k.head.extents)

pub loads : (axes : ℕ) (bytes : List ℕ) (k : Kept) (g : Grid) → edition_of axes bytes ≡ given k → RightSize k g → read_edition_entry axes bytes g ≡ as_read k
unfolding read_edition_entry one_per_cell
loads axes bytes k g e l = rw (e, eq-eqb _ _ l.0, eq-eqb _ _ l.1) refl

-- what reading leaves of a grid by whether it has the sizes
abbrev sized_answer : Kept → Grid → Bool → Outcome Loaded Grid
sized_answer k g b = cond b (as_read k) (record { answer = refused bad_buffer; lent = g })

-- an answer that is a map came from a record, into a grid of its sizes
pub record LoadedFrom (axes : ℕ) (bytes : List ℕ) (g : Grid) (l : Loaded) : Type 0 where
  pub holds : Kept
  pub is : edition_of axes bytes ≡ given holds
  pub says : ◌≡◌ {A = Loaded} (record { head = holds.head; running = holds.running }) l
  pub sizes : RightSize holds g

pub loaded-from : (axes : ℕ) (bytes : List ℕ) (g : Grid) (l : Loaded) → (read_edition_entry axes bytes g).answer ≡ given l → LoadedFrom axes bytes g l
unfolding read_edition_entry one_per_cell
loaded-from axes bytes g l e = go (edition_of axes bytes) refl e
  where
    sized : (k : Kept) (b : Bool) → edition_of axes bytes ≡ given k
        → eqb (length g.odds) (cells k.head.extents) && eqb (length g.stamps) (cells k.head.extents) ≡ b
        → (sized_answer k g b).answer ≡ given l → LoadedFrom axes bytes g l
    sized k true t b q =
        let c = both (eqb (length g.odds) (cells k.head.extents)) (eqb (length g.stamps) (cells k.head.extents)) b in
        record { holds = k; is = t; says = cc; sizes = (eqb-true _ _ c.0, eqb-true _ _ c.1) }
    sized k false t b q = let z : ◌≡◌ {A = ℕ} 0 1 = cc in absurd (omega arith)

    go : (a : Answer Kept) → edition_of axes bytes ≡ a → (load_answer g a).answer ≡ given l → LoadedFrom axes bytes g l
    go (given k) t q = sized k (eqb (length g.odds) (cells k.head.extents) && eqb (length g.stamps) (cells k.head.extents)) t refl q
    go (refused r) t q = let z : ◌≡◌ {A = ℕ} 0 1 = cc in absurd (omega arith)

-- the answer goes by the sizes of what was lent
answer_by_size : (a : Answer Kept) (g k : Grid) → length g.odds ≡ length k.odds → length g.stamps ≡ length k.stamps
    → (load_answer g a).answer ≡ (load_answer k a).answer
answer_by_size (refused r) g k p q = refl
answer_by_size (given s) g k p q =
    ap₂ (λ (m n : ℕ). (sized_answer s g (one_per_cell s.head.extents m && one_per_cell s.head.extents n)).answer) p q
    ∙ either (one_per_cell s.head.extents (length k.odds) && one_per_cell s.head.extents (length k.stamps))
  where
    either : (b : Bool) → (sized_answer s g b).answer ≡ (sized_answer s k b).answer
    either true = refl
    either false = refl

pub same-loading : (axes : ℕ) (bytes : List ℕ) (g k : Grid) → SameLoading axes bytes g k
same-loading axes bytes g k = record { answers = λ p q. unfold read_edition_entry in answer_by_size (edition_of axes bytes) g k p q; maps = maps }
  where
    maps : (l m : Loaded) → (read_edition_entry axes bytes g).answer ≡ given l → (read_edition_entry axes bytes k).answer ≡ given m
        → read_edition_entry axes bytes g ≡ read_edition_entry axes bytes k
    maps l m p q =
        let x = loaded-from axes bytes g l p in
        let y = loaded-from axes bytes k m q in
        let same : x.holds ≡ y.holds = cc (x.is, y.is) in
        loads axes bytes x.holds g x.is x.sizes ∙ ap as_read same ∙ sym (loads axes bytes y.holds k y.is y.sizes)

-- ---- writing
-- there is room for as many bytes as are answered
pub room_given : (es : List ℕ) (running : Bool) (room n : ℕ) → edition_room es running room ≡ given n → (edition_size es running ≡ n) × (n ≤ room)
unfolding edition_room
room_given es running room n e = go (leb (edition_size es running) room) refl e
  where
    go : (b : Bool) → leb (edition_size es running) room ≡ b
        → cond b (given (edition_size es running)) (refused (no_room (edition_size es running))) ≡ given n → (edition_size es running ≡ n) × (n ≤ room)
    go true t q = let z : edition_size es running ≡ n = cc in (z, omega (arith, leb-true (edition_size es running) room t))
    go false t q = let z : ◌≡◌ {A = ℕ} 0 1 = cc in absurd (omega arith)

-- where writing is not refused, the rows are sound
writable_given : (h : Head) (running : Bool) (g : Grid) (room n : ℕ) → edition_writable h running g room ≡ given n
    → (grid_tried running h.model h.frame (row_width h.extents) (row_count h.extents) (grid_offset (length h.extents)) g ≡ given tt)
    × (edition_size h.extents running ≡ n) × (n ≤ room)
unfolding edition_writable
writable_given h running g room n e =
    let es = h.extents in
    let c = then_given (grid_tried running h.model h.frame (row_width es) (row_count es) (grid_offset (length es)) g)
    (λ (t : Unit {0}). edition_room es running room) n e in
    let r = room_given es running room n c.2 in
    (c.1, r.0, r.1)

-- an answer that is a count came from a map that passed every test, and the bytes stand first in what was lent
pub record StoredInto (h : Head) (running : Bool) (g : Grid) (out : List ℕ) (n : ℕ) : Type 0 where
  pub passes : head_refusal (uses_of_writing running) h (length g.odds) (length g.stamps) ≡ none
  pub tried : grid_tried running h.model h.frame (row_width h.extents) (row_count h.extents) (grid_offset (length h.extents)) g ≡ given tt
  pub size : (edition_size h.extents running ≡ n) × (n ≤ length out)
  pub lent_is : (write_edition_entry h running g out).lent ≡ edition_bytes h running g ++ drop n out

pub stored_into : (h : Head) (running : Bool) (g : Grid) (out : List ℕ) (n : ℕ) → (write_edition_entry h running g out).answer ≡ given n
    → StoredInto h running g out n
unfolding write_edition_entry
stored_into h running g out n e =
    go (head_refusal (uses_of_writing running) h (length g.odds) (length g.stamps)) (edition_writable h running g (length out)) refl refl e
  where
    go : (x : Option Refusal) (a : Answer ℕ) → head_refusal (uses_of_writing running) h (length g.odds) (length g.stamps) ≡ x
        → edition_writable h running g (length out) ≡ a → (unless_refused x out (store_answer h running g out a)).answer ≡ given n → StoredInto h running g out n
    go (some r) a p q t = let z : ◌≡◌ {A = ℕ} 0 1 = cc in absurd (omega arith)
    go none (refused r) p q t = let z : ◌≡◌ {A = ℕ} 0 1 = cc in absurd (omega arith)
    go none (given m) p q t =
        let w : edition_writable h running g (length out) ≡ given n = cc in
        let c = writable_given h running g (length out) n w in
        record { passes = p; tried = c.0; size = (c.1, c.2); lent_is = rw (p, w) refl }

pub stores : (h : Head) (running : Bool) (g : Grid) (out : List ℕ) (n : ℕ)
    → head_refusal (uses_of_writing running) h (length g.odds) (length g.stamps) ≡ none → edition_writable h running g (length out) ≡ given n
    → write_edition_entry h running g out ≡ record { answer = given n; lent = edition_bytes h running g ++ drop n out }
unfolding write_edition_entry
stores h running g out n p w = rw (p, w) refl
