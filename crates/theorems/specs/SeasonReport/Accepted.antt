-- What a call that was not refused has shown, and what it leaves; and the charts of two runs as those of one. Assumes
-- nothing.
use Rattle.std.specs.Prelude.{ℕ, ◌+◌, ◌-◌, ◌*◌, ◌≤◌, ◌<◌, ◌≡◌, Bool, true, false, ◌&&◌, ◌⊎◌, List, ◌++◌, T, eqb, leb, length, get_or}
use Rattle.std.proofs.Math.Path.{refl}
use Rattle.std.proofs.Common.{sym, ap, ◌∙◌, inl, inr, mul-add, arith, eqb→eq, leb→le, le→leb, get_or-append-add}
use Rattle.std.specs.Float.Ieee.Fits.{and_l, and_r}
use Rattle.std.proofs.Math.ListN.{get_or-append}
use Rattle.rules.specs.RefusalNumbers.{Refusal, given, refused, unequal_sizes, too_many_charts, bad_chart}
use Rattle.rules.specs.RefusalNumbers.Entries.{Outcome, unless_refused, or_else, unless_holds}
use Rattle.rules.specs.SeasonReport.{most_charts, plus, run_report, report_columns, is_report, good_columns, good_report, add_charts_entry}
use Rattle.laws.specs.Floats.Tests.{bool_ext, order}
use Rattle.theorems.specs.SeasonReport.{Alike}
use Rattle.season.proofs.Sums.{plus-length}
use Rattle.season.proofs.Good.{Proper, all_proper, all-good, all_sound_good, added_sound, moved}

-- ---- the three tests of a call
abbrev pub tried : Bool → Bool → Bool → List ℕ → Outcome ℕ (List ℕ) → Outcome ℕ (List ℕ)
tried s l g report out =
    unless_refused (or_else (unless_holds true s unequal_sizes) (or_else (unless_holds true l too_many_charts) (unless_holds true g bad_chart))) report out

passed_all : (s l g : Bool) (report : List ℕ) (out : Outcome ℕ (List ℕ)) (k : ℕ) → (tried s l g report out).answer ≡ given k → T s × T l × T g
passed_all true true true report out k e = (tt, tt, tt)
passed_all true true false report out k e = let z : ◌≡◌ {A = ℕ} 0 1 = cc in absurd (omega arith)
passed_all true false g report out k e = let z : ◌≡◌ {A = ℕ} 0 1 = cc in absurd (omega arith)
passed_all false l g report out k e = let z : ◌≡◌ {A = ℕ} 0 1 = cc in absurd (omega arith)

given_of : (s l g : Bool) (report : List ℕ) (out : Outcome ℕ (List ℕ)) → T s → T l → T g → tried s l g report out ≡ out
given_of true true true report out p q r = refl
given_of true true false report out p q r = absurd r
given_of true false g report out p q r = absurd q
given_of false l g report out p q r = absurd p

pub kept : (s l g : Bool) (report : List ℕ) (out : Outcome ℕ (List ℕ)) (k : ℕ) (r : Refusal) → out.answer ≡ given k → (tried s l g report out).answer ≡ refused r
    → (tried s l g report out).lent ≡ report
kept true true true report out k r a e = let z : ◌≡◌ {A = ℕ} 0 1 = cc in absurd (omega arith)
kept true true false report out k r a e = refl
kept true false g report out k r a e = refl
kept false l g report out k r a e = refl

alike : (s l g : Bool) (report other : List ℕ) (out : Outcome ℕ (List ℕ)) → Alike (tried s l g report out) (tried s l g other out)
alike true true true report other out = record { answers = refl; reports = λ k e. refl }
alike true true false report other out = record { answers = refl; reports = λ k e. let z : ◌≡◌ {A = ℕ} 0 1 = cc in absurd (omega arith) }
alike true false g report other out = record { answers = refl; reports = λ k e. let z : ◌≡◌ {A = ℕ} 0 1 = cc in absurd (omega arith) }
alike false l g report other out = record { answers = refl; reports = λ k e. let z : ◌≡◌ {A = ℕ} 0 1 = cc in absurd (omega arith) }

pub alike_of : (s s' l l' g g' : Bool) (report other : List ℕ) (out out' : Outcome ℕ (List ℕ)) → s ≡ s' → l ≡ l' → g ≡ g' → out ≡ out'
    → Alike (tried s l g report out) (tried s' l' g' other out')
alike_of s s' l l' g g' report other out out' p q r o = rw (p, q, r, o) (alike s' l' g' report other out')

pub holds : (b : Bool) → T b → b ≡ true
holds true t = refl
holds false t = absurd t

-- ---- charts one after another
module _ (first second : List ℕ) (n : ℕ) (size : length first ≡ 5 * n) where
  in_first : (k i : ℕ) → k < n → i < 5 → get_or (first ++ second) (5 * k + i) 0 ≡ get_or first (5 * k + i) 0
  in_first k i h g = get_or-append first second 0 (5 * k + i) (omega arith)

  in_second : (k i : ℕ) → get_or (first ++ second) (5 * (n + k) + i) 0 ≡ get_or second (5 * k + i) 0
  in_second k i =
      ap (λ (j : ℕ). get_or (first ++ second) j 0) (omega (arith, mul-add 5 n k)) ∙ get_or-append-add first second (5 * k + i) 0

  pub front_proper : (k : ℕ) → k < n → Proper (first ++ second) (5 * k) → Proper first (5 * k)
  front_proper k h = moved (first ++ second) first (5 * k) (5 * k) (λ i g. sym (in_first k i h g))

  -- the columns of both are the columns of each
  pub both-good : (m : ℕ) → T (good_columns first n) → good_columns (first ++ second) (n + m) ≡ good_columns second m
  both-good m t =
      bool_ext (good_columns (first ++ second) (n + m)) (good_columns second m)
      (λ q. all-good second m (λ k h. moved (first ++ second) second (5 * (n + k)) (5 * k) (λ i g. sym (in_second k i))
      (all_proper (first ++ second) (n + m) q (n + k) (omega arith))))
      (λ q. all-good (first ++ second) (n + m) (λ k h. go q k h (order k n)))
    where
      go : T (good_columns second m) → (k : ℕ) → k < n + m → (k < n) ⊎ (n ≤ k) → Proper (first ++ second) (5 * k)
      go q k h (inl p) = moved first (first ++ second) (5 * k) (5 * k) (λ i g. in_first k i p g) (all_proper first n t k p)
      go q k h (inr p) =
          let there : n + (k - n) ≡ k = omega arith in
          rw there at (moved second (first ++ second) (5 * (k - n)) (5 * (n + (k - n))) (λ i g. in_second (k - n) i) (all_proper second m q (k - n) (omega arith)))

-- ---- what an accepted call has shown, and what it leaves
abbrev pub sizes : List ℕ → ℕ → List ℕ → Bool
sizes report n run = is_report (length report) && eqb (length run) (5 * report_columns (length report) * n)

abbrev pub good : ℕ → List ℕ → ℕ → List ℕ → Bool
good charts report n run = good_columns run (report_columns (length report) * n) && good_report charts report (report_columns (length report))

abbrev pub sum : ℕ → List ℕ → ℕ → List ℕ → Outcome ℕ (List ℕ)
sum charts report n run = record { answer = given (charts + n); lent = plus report (run_report (report_columns (length report)) n run) }

module _ (charts : ℕ) (report : List ℕ) (n : ℕ) (run : List ℕ) where
  pub entry_is : add_charts_entry charts report n run ≡ tried (sizes report n run) (leb (charts + n) most_charts) (good charts report n run) report (sum charts report n run)
  unfolding add_charts_entry
  entry_is = refl

  abbrev c : ℕ
  c = report_columns (length report)

  pub record Accepted : Type 0 where
    pub report_size : length report ≡ 12 * c
    pub run_size : length run ≡ 5 * c * n
    pub few : charts + n ≤ most_charts
    pub run_good : T (good_columns run (c * n))
    pub report_good : T (good_report charts report c)
    pub outcome : add_charts_entry charts report n run ≡ sum charts report n run

  pub accept : T (sizes report n run) → charts + n ≤ most_charts → T (good charts report n run) → Accepted
  accept s l g =
      record {
        report_size = eqb→eq _ _ (and_l (is_report (length report)) _ s);
        run_size = eqb→eq _ _ (and_r (is_report (length report)) _ s);
        few = l;
        run_good = and_l (good_columns run (c * n)) _ g;
        report_good = and_r (good_columns run (c * n)) _ g;
        outcome = entry_is ∙ given_of (sizes report n run) (leb (charts + n) most_charts) (good charts report n run) report (sum charts report n run) s (le→leb _ _ l) g;
      }

  pub accepted : (k : ℕ) → (add_charts_entry charts report n run).answer ≡ given k → Accepted
  accepted k e =
      let facts = passed_all (sizes report n run) (leb (charts + n) most_charts) (good charts report n run) report (sum charts report n run) k (ap (λ o. o.answer) (sym entry_is) ∙ e) in
      accept facts.0 (leb→le _ _ facts.1) facts.2

  pub nothing_added : (r : Refusal) → (add_charts_entry charts report n run).answer ≡ refused r → (add_charts_entry charts report n run).lent ≡ report
  nothing_added r e =
      rw entry_is (kept (sizes report n run) (leb (charts + n) most_charts) (good charts report n run) report (sum charts report n run) (charts + n) r refl (rw entry_is at e))

  -- the report that it leaves is a good one, of the same size
  module _ (a : Accepted) where
    pub after-size : length (plus report (run_report c n run)) ≡ length report
    after-size = plus-length report (run_report c n run)

    pub after-good : T (good_report (charts + n) (plus report (run_report c n run)) c)
    after-good =
        all_sound_good (charts + n) (plus report (run_report c n run)) c
        (added_sound charts report c n run a.report_size a.report_good (all_proper run (c * n) a.run_good))
