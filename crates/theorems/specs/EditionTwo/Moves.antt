-- The moves between the editions, where they are not refused: what the answer says of the lists lent. And when the move
-- back is refused with 16. Assumes nothing.
use Rattle.std.specs.Prelude.{ℕ, ◌≤◌, ◌<◌, Bool, true, false, cond, not, ◌&&◌, List, ◌++◌, ◌⊎◌, ◌≡◌, refl, leb, length, take, drop}
use Rattle.std.proofs.Common.{inl, inr, sym, ap, ◌∙◌, subst, arith, take_at, leb-true, le-leb}
use Rattle.rules.specs.RefusalNumbers.{Refusal, Answer, given, refused, bad_cuts, no_room, not_edition_one}
use Rattle.rules.specs.RefusalNumbers.Entries.{Outcome}
use Rattle.rules.specs.RefusalNumbers.Editions.{store_answer, unstamped, upgrade_answer, upgrade_entry, Moved, has_edition_one, back_answer, downgrade_answer, downgrade_entry}
use Rattle.rules.specs.TheGridAndItsBounds.{Head, cuts_in_bounds}
use Rattle.rules.specs.MapRecord.{Stored, record_bytes, record_of, record_size, room_for, row_width, row_count, rows_offset, rows_checked, with_cuts, equal_pairs}
use Rattle.rules.specs.EditionTwo.{Kept, kept, cuts_for, cuts_of, edition_bytes, edition_of, edition_size, edition_room}
use Rattle.record_laws.specs.Words.{Held}
use Rattle.record_laws.specs.Heads.{Tests, tests_of_writing}
use Rattle.record_laws.specs.Back.{writable_is}
use Rattle.record_laws.specs.Read.{read_sound, read_plain}
use Rattle.record_laws.specs.EditionTwo.Written.{edition-length}
use Rattle.record_laws.specs.EditionTwo.Back.{edition_back}
use Rattle.record_laws.specs.EditionTwo.Broken.{edition-broken}
use Rattle.theorems.specs.MapRecord.Entries.{cuts_fit}
use Rattle.theorems.specs.EditionTwo.Words.{HasNoEditionOne}
use Rattle.theorems.specs.EditionTwo.Entries.{room_given}
use Rattle.theorems.specs.EditionTwo.Laid.{Laid, laid}

-- ---- up
-- the bytes of a record of edition 1 with cuts
abbrev pub bytes_up : List ℕ → Stored → List ℕ
bytes_up cuts s = edition_bytes (with_cuts cuts s.head) false (unstamped s.odds)

-- an answer that is a count came from a record of edition 1 and cuts that fit it, and the bytes stand first in what was
-- lent
pub record MovedUp (axes : ℕ) (cuts bytes out : List ℕ) (n : ℕ) : Type 0 where
  pub stored : Stored
  pub is : record_of axes bytes ≡ given stored
  pub cuts_fit_lem : cuts_fit cuts stored ≡ true
  pub size : (edition_size stored.head.extents false ≡ n) × (n ≤ length out)
  pub lent_is : (upgrade_entry axes cuts bytes out).lent ≡ bytes_up cuts stored ++ drop n out

pub moved_up : (axes : ℕ) (cuts bytes out : List ℕ) (n : ℕ) → (upgrade_entry axes cuts bytes out).answer ≡ given n → MovedUp axes cuts bytes out n
unfolding upgrade_entry
moved_up axes cuts bytes out n e = go (record_of axes bytes) refl e
  where
    sized : (s : Stored) (a : Answer ℕ) → record_of axes bytes ≡ given s → cuts_fit cuts s ≡ true → edition_room s.head.extents false (length out) ≡ a
        → (store_answer (with_cuts cuts s.head) false (unstamped s.odds) out a).answer ≡ given n → MovedUp axes cuts bytes out n
    sized s (refused r) t f p q = let z : ◌≡◌ {A = ℕ} 0 1 = cc in absurd (omega arith)
    sized s (given m) t f p q =
        let w : edition_room s.head.extents false (length out) ≡ given n = cc in
        record { stored = s; is = t; cuts_fit_lem = f; size = room_given s.head.extents false (length out) n w; lent_is = rw (t, f, w) refl }

    fitted : (s : Stored) (b : Bool) → record_of axes bytes ≡ given s → cuts_fit cuts s ≡ b
        → (cond b (store_answer (with_cuts cuts s.head) false (unstamped s.odds) out (edition_room s.head.extents false (length out)))
        (record { answer = refused bad_cuts; lent = out })).answer ≡ given n
        → MovedUp axes cuts bytes out n
    fitted s true t f q = sized s (edition_room s.head.extents false (length out)) t f refl q
    fitted s false t f q = let z : ◌≡◌ {A = ℕ} 0 1 = cc in absurd (omega arith)

    go : (a : Answer Stored) → record_of axes bytes ≡ a → (upgrade_answer cuts out a).answer ≡ given n → MovedUp axes cuts bytes out n
    go (given s) t q = fitted s (cuts_fit cuts s) t refl q
    go (refused r) t q = let z : ◌≡◌ {A = ℕ} 0 1 = cc in absurd (omega arith)

-- and where the cuts fit and there is room, it is that answer
pub moves_up : (axes : ℕ) (cuts bytes out : List ℕ) (s : Stored) → record_of axes bytes ≡ given s → cuts_fit cuts s ≡ true
    → edition_size s.head.extents false ≤ length out
    → upgrade_entry axes cuts bytes out
    ≡ record { answer = given (edition_size s.head.extents false); lent = bytes_up cuts s ++ drop (edition_size s.head.extents false) out }
unfolding upgrade_entry edition_room
moves_up axes cuts bytes out s e f l = rw (e, f, le-leb (edition_size s.head.extents false) (length out) l) refl

-- what is known of the head that a record of edition 1 gives with cuts that fit
pub laid_on : (axes : ℕ) (cuts bytes : List ℕ) (s : Stored) → 0 < axes → record_of axes bytes ≡ given s → cuts_fit cuts s ≡ true
    → Laid cuts s.head s.odds
laid_on axes cuts bytes s some-axis e fit =
    let plain = read_plain axes bytes s e in
    let sound = read_sound axes bytes s some-axis e in
    let all = (tests_of_writing s.head (length s.odds) sound.passes).0 in
    let checked = (writable_is s.head s.odds (length bytes) (length bytes) (sound.written (length bytes) (omega arith))).checked in
    subst (λ (h : Head). Laid cuts h s.odds) plain
    (laid cuts s.head s.odds (subst (λ (k : Head). cuts_in_bounds k.extents (with_cuts cuts k).model ≡ true) (sym plain) fit)
    (subst (λ (k : Head). Tests k (length s.odds)) (sym plain) all) (subst (λ (k : Head). Held k s.odds) (sym plain) sound.held)
    (subst (λ (k : Head). rows_checked k.model (row_width k.extents) (row_count k.extents) (rows_offset (length k.extents)) s.odds ≡ given tt)
    (sym plain) checked))

-- what was moved up is read as a closed record with the cuts
pub up_is : (axes : ℕ) (cuts bytes out : List ℕ) (s : Stored) (n : ℕ) → 0 < axes → length cuts ≡ cuts_for axes → record_of axes bytes ≡ given s
    → (upgrade_entry axes cuts bytes out).answer ≡ given n
    → edition_of axes (take n (upgrade_entry axes cuts bytes out).lent) ≡ given (kept (with_cuts cuts s.head) false (unstamped s.odds))
up_is axes cuts bytes out s n some-axis cut e answer =
    let u = moved_up axes cuts bytes out n answer in
    let same : u.stored ≡ s = cc (u.is, e) in
    let x = u.stored in
    let l = laid_on axes cuts bytes x some-axis u.is u.cuts_fit_lem in
    let h = with_cuts cuts x.head in
    let axes_are = (read_sound axes bytes x some-axis u.is).axes_are in
    let many : length h.model.above ≡ cuts_for (length h.extents) = l.many ∙ cut ∙ ap cuts_for (sym axes_are) in
    let some : 0 < length h.extents = omega arith in
    let first : take n (upgrade_entry axes cuts bytes out).lent ≡ bytes_up cuts x =
    ap (take n) u.lent_is
    ∙ take_at (bytes_up cuts x) (drop n out) n (edition-length h false (unstamped x.odds) many some l.passes ∙ u.size.0) in
    ap (edition_of axes) first
    ∙ ap (λ (k : ℕ). edition_of k (bytes_up cuts x)) (sym axes_are)
    ∙ edition_back h false (unstamped x.odds) _ many some l.passes l.tried l.held
    ∙ ap (λ (y : Stored). given (kept (with_cuts cuts y.head) false (unstamped y.odds))) same

-- ---- back
pub record MovedBack (axes : ℕ) (bytes out : List ℕ) (m : Moved) : Type 0 where
  pub holds : Kept
  pub is : edition_of axes bytes ≡ given holds
  pub closed : holds.running ≡ false
  pub alike : equal_pairs holds.head.model.lowest holds.head.model.above ≡ true
  pub size : (record_size holds.head.extents ≡ m.size) × (m.size ≤ length out)
  pub cuts_are : cuts_of holds.head.model.above ≡ m.cuts
  pub lent_is : (downgrade_entry axes bytes out).lent ≡ record_bytes holds.head holds.grid.odds ++ drop m.size out

-- a record that has an edition 1 is closed and of equal pairs
both_hold : (running alike : Bool) → not running && alike ≡ true → (running ≡ false) × (alike ≡ true)
both_hold true alike e = let z : ◌≡◌ {A = ℕ} 0 1 = cc in absurd (omega arith)
both_hold false alike e = (refl, e)

one_fails : (running alike : Bool) → not running && alike ≡ false → (running ≡ true) ⊎ (alike ≡ false)
one_fails true alike e = inl refl
one_fails false alike e = inr e

fails : (running alike : Bool) → (running ≡ true) ⊎ (alike ≡ false) → not running && alike ≡ false
fails true alike w = refl
fails false alike (inl e) = let z : ◌≡◌ {A = ℕ} 0 1 = cc in absurd (omega arith)
fails false alike (inr e) = e

-- what the move back answers, by whether the record has an edition 1
abbrev back_if : Kept → List ℕ → Bool → Outcome Moved (List ℕ)
back_if k out b = cond b (back_answer k.head k.grid.odds out (room_for k.head.extents (length out))) (record { answer = refused not_edition_one; lent = out })

pub moved_back : (axes : ℕ) (bytes out : List ℕ) (m : Moved) → (downgrade_entry axes bytes out).answer ≡ given m → MovedBack axes bytes out m
unfolding downgrade_entry room_for
moved_back axes bytes out m e = go (edition_of axes bytes) refl e
  where
    sized : (k : Kept) (b : Bool) → edition_of axes bytes ≡ given k → has_edition_one k ≡ true → leb (record_size k.head.extents) (length out) ≡ b
        → (back_answer k.head k.grid.odds out (cond b (given (record_size k.head.extents)) (refused (no_room (record_size k.head.extents))))).answer ≡ given m
        → MovedBack axes bytes out m
    sized k false t f p q = let z : ◌≡◌ {A = ℕ} 0 1 = cc in absurd (omega arith)
    sized k true t f p q =
        let same : ◌≡◌ {A = Moved} (record { size = record_size k.head.extents; cuts = cuts_of k.head.model.above }) m = cc in
        let long : record_size k.head.extents ≡ m.size = ap (λ (x : Moved). x.size) same in
        let h = both_hold k.running (equal_pairs k.head.model.lowest k.head.model.above) f in
        record {
          holds = k;
          is = t;
          closed = h.0;
          alike = h.1;
          size = (long, omega (arith, leb-true (record_size k.head.extents) (length out) p));
          cuts_are = ap (λ (x : Moved). x.cuts) same;
          lent_is = rw (t, f, p) (ap (λ (j : ℕ). record_bytes k.head k.grid.odds ++ drop j out) long);
        }

    fitted : (k : Kept) (b : Bool) → edition_of axes bytes ≡ given k → has_edition_one k ≡ b → (back_if k out b).answer ≡ given m → MovedBack axes bytes out m
    fitted k true t f q = sized k (leb (record_size k.head.extents) (length out)) t f refl q
    fitted k false t f q = let z : ◌≡◌ {A = ℕ} 0 1 = cc in absurd (omega arith)

    go : (a : Answer Kept) → edition_of axes bytes ≡ a → (downgrade_answer out a).answer ≡ given m → MovedBack axes bytes out m
    go (given k) t q = fitted k (has_edition_one k) t refl q
    go (refused r) t q = let z : ◌≡◌ {A = ℕ} 0 1 = cc in absurd (omega arith)

pub moves_back : (axes : ℕ) (bytes out : List ℕ) (k : Kept) → edition_of axes bytes ≡ given k → has_edition_one k ≡ true
    → record_size k.head.extents ≤ length out
    → downgrade_entry axes bytes out
    ≡ record {
      answer = given (record { size = record_size k.head.extents; cuts = cuts_of k.head.model.above });
      lent = record_bytes k.head k.grid.odds ++ drop (record_size k.head.extents) out;
    }
unfolding downgrade_entry room_for
moves_back axes bytes out k e f l = rw (e, f, le-leb (record_size k.head.extents) (length out) l) refl

-- ---- refused with 16
pub not_back : (axes : ℕ) (bytes out : List ℕ) → HasNoEditionOne axes bytes → downgrade_entry axes bytes out ≡ record { answer = refused not_edition_one; lent = out }
unfolding downgrade_entry
not_back axes bytes out w =
    let k = w.holds in
    let f : has_edition_one k ≡ false = fails k.running (equal_pairs k.head.model.lowest k.head.model.above) w.why in
    rw (w.is, f) refl

pub only_then : (axes : ℕ) (bytes out : List ℕ) → (downgrade_entry axes bytes out).answer ≡ refused not_edition_one → HasNoEditionOne axes bytes
unfolding downgrade_entry room_for
only_then axes bytes out e = go (edition_of axes bytes) refl e
  where
    sized : (k : Kept) (b : Bool)
        → (back_answer k.head k.grid.odds out (cond b (given (record_size k.head.extents)) (refused (no_room (record_size k.head.extents))))).answer
        ≡ refused not_edition_one → HasNoEditionOne axes bytes
    sized k true q = let z : ◌≡◌ {A = ℕ} 0 1 = cc in absurd (omega arith)
    sized k false q =
        let r : no_room (record_size k.head.extents) ≡ not_edition_one = cc in
        let z : ◌≡◌ {A = ℕ} 11 16 = ap (λ (x : Refusal). x.number) r in absurd (omega arith)

    fitted : (k : Kept) (b : Bool) → edition_of axes bytes ≡ given k → has_edition_one k ≡ b → (back_if k out b).answer ≡ refused not_edition_one → HasNoEditionOne axes bytes
    fitted k true t f q = sized k (leb (record_size k.head.extents) (length out)) q
    fitted k false t f q = record { holds = k; is = t; why = one_fails k.running (equal_pairs k.head.model.lowest k.head.model.above) f }

    go : (a : Answer Kept) → edition_of axes bytes ≡ a → (downgrade_answer out a).answer ≡ refused not_edition_one → HasNoEditionOne axes bytes
    go (given k) t q = fitted k (has_edition_one k) t refl q
    go (refused r) t q =
        let same : r ≡ not_edition_one = cc in
        let b = edition-broken axes bytes r t in
        let z : ◌≡◌ {A = ℕ} 10 16 = ap (λ (x : Refusal). x.number) (b.is ∙ same) in absurd (omega arith)
