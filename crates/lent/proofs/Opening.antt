-- A sweep opened in a lent head: what the answer by value says of the head that is left, over any number of axes.
-- Assumes nothing.
use Prim.Native.Nat.{ℕ}
use mathlib.Core.List.{List}
use mathlib.Core.Option.{Option, some, none}
use mathlib.Core.Path.{◌≡◌, refl, sym, ap, ◌∙◌}
use lib.ListN.{length}
use Rattle.rules.specs.RefusalNumbers.{Refusal, Answer, given, refused}
use Rattle.rules.specs.RefusalNumbers.Entries.{Outcome, unless_refused, head_refusal, uses_of, begin_scan, begin_scan_entry}
use Rattle.rules.specs.TheGridAndItsBounds.{Head}
use Rattle.rules.specs.MarksAndFrames.{opened_frame, opened_stamps}
use Rattle.lent.specs.LentHead.{Opened, left_in}

-- a head with another's frame
abbrev pub with_frame : Head → ℕ → Head
with_frame h k = record { extents = h.extents; model = h.model; frame = k }

head_of : Head → Answer Head → Head
head_of h (given m) = m
head_of h (refused r) = h

-- the head that `begin_scan` answers differs from the one it was given in its frame alone
pub frame-alone : (h m : Head) (stamps after : List ℕ) → ◌≡◌ {A = Outcome Head (List ℕ)} (record { answer = given m; lent = after }) (begin_scan_entry h stamps)
    → m ≡ with_frame h m.frame
unfolding begin_scan_entry head_of
frame-alone h m stamps after e = go (head_refusal (uses_of begin_scan) h 0 (length stamps)) (ap (λ (o : Outcome Head (List ℕ)). head_of h o.answer) e)
  where
    go : (x : Option Refusal)
        → m ≡ head_of h (unless_refused {A = Head} x stamps (record { answer = given (with_frame h (opened_frame h.frame)); lent = opened_stamps h.frame stamps })).answer
        → m ≡ with_frame h m.frame
    go (some r) p = p ∙ ap (λ (k : ℕ). with_frame h k) (sym (ap (λ (x : Head). x.frame) p))
    go none p = p ∙ ap (λ (k : ℕ). with_frame h k) (sym (ap (λ (x : Head). x.frame) p))

-- so a head that takes over the frame alone is the one that is answered
pub advanced : (h m : Head) (stamps after : List ℕ) → ◌≡◌ {A = Outcome Head (List ℕ)} (record { answer = given m; lent = after }) (begin_scan_entry h stamps)
    → ◌≡◌ {A = Opened} (record { answer = given tt; head = with_frame h m.frame; stamps = after }) (left_in h (begin_scan_entry h stamps))
advanced h m stamps after e =
    ap (λ (x : Head). record { answer = given tt; head = x; stamps = after }) (sym (frame-alone h m stamps after e)) ∙ ap (left_in h) e

-- and a head elsewhere that takes over the frame that was left, and nothing else, is the one that was left
pub taken_over : (h : Head) (stamps : List ℕ) (o : Opened) → o ≡ left_in h (begin_scan_entry h stamps) → o.head ≡ with_frame h o.head.frame
unfolding begin_scan_entry
taken_over h stamps o e = ap (λ (x : Opened). x.head) e ∙ go (head_refusal (uses_of begin_scan) h 0 (length stamps)) ∙ ap (λ (x : Opened). with_frame h x.head.frame) (sym e)
  where
    go : (x : Option Refusal)
        → (left_in h (unless_refused {A = Head} x stamps (record { answer = given (with_frame h (opened_frame h.frame)); lent = opened_stamps h.frame stamps }))).head
        ≡ with_frame h (left_in h (unless_refused {A = Head} x stamps (record { answer = given (with_frame h (opened_frame h.frame)); lent = opened_stamps h.frame stamps }))).head.frame
    go (some r) = refl
    go none = refl
