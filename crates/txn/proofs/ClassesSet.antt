-- A table of classes: which row applies, by what the code tests, and that a table that is taken leaves every word of the work memory.
use mathlib.Core.Path.{◌≡◌, refl, sym, ap, ◌∙◌}
use mathlib.Core.List.{List, [], ◌∷◌, ◌++◌}
use mathlib.Core.Bool.{Bool, true, false, cond, not, ◌&&◌, ◌||◌}
use Prim.Native.Nat.{ℕ, ◌+◌, ◌*◌, ◌≤◌, ◌<◌}
use native.Mathlib.Omega.{arith}
use lib.Dec.{eqb}
use lib.ListN.{drop, take-append-drop}
use borrow.Author.Tests.{lt-ltb, le-ltb, eq-eqb, ne_eqb}
use Rattle.model.specs.declared.Core.{Core}
use Rattle.model.specs.declared.Carried.{Carried}
use Rattle.model.specs.declared.Handed.{Handed}
use Rattle.model.specs.Sizes.{counts_in_bounds}
use Rattle.model.specs.Classes.{class_count, line_count, not_a_table, wrong_line, uncovered_class, twice_covered, classes_of}
use Rattle.model.specs.World.{World}
use Rattle.model.specs.Memory.{buffer_at, copy_at, owner_at, work_words}
use Rattle.model.specs.Refusal.{Row, row, verdict, accepted, rejected}
use Rattle.model.specs.Causes.{when_shut, when_serving, stage_forbids}
use Rattle.model.specs.Reads.{counts_fit}
use Rattle.model.specs.SetClasses.{least_row, work_wrong, set_classes_rows, set_classes_task}
use Rattle.model.specs.Call.{set_classes}
use Rattle.model.specs.View.{head_words, own_work, core_of, head_of, body_of, Serves}
use Rattle.model.proofs.Store.Rows.{not_shut}
use Rattle.model.proofs.View.Head.{head_whole}
use Rattle.model.proofs.View.Own.{body_long}
use Rattle.frame.specs.Fits.{counts_within}
use Rattle.frame.specs.Handed.{finished_to}
use Rattle.frame.proofs.Fitting.{Counted, counted}
use Rattle.frame.proofs.Shown.{shown_finished}
use Rattle.txn.specs.ClassChecks.{lent_fault}

-- the rows of the lines
abbrev line_rows : (disks : ℕ) → (lines : List ℕ) → List Row
line_rows disks lines =
    least_row 17 (wrong_line disks lines) (line_count lines) ∷ least_row 18 (uncovered_class lines) class_count ∷ least_row 19 (twice_covered lines) class_count ∷ []

by_tests : (counts own table : Bool) (rest : List Row)
    → verdict (row 1 (not counts) ∷ row 5 (not own || table) ∷ rest)
    ≡ cond (eqb (cond counts (cond own (cond table 5 0) 5) 1) 0) (verdict rest) (rejected (cond counts (cond own (cond table 5 0) 5) 1) 0 0)
unfolding verdict
by_tests false own table rest = refl
by_tests true false table rest = refl
by_tests true true true rest = refl
by_tests true true false rest = refl

-- What is known where the first checks answer 0.
pub record Settable (h : Carried) (work lines : List ℕ) : Type 0 where
  pub serving : when_shut h.stage ≡ false
  pub counts : Counted h.pages h.disks h.ring h.total
  pub own : own_work h work ≡ true
  pub table : not_a_table lines ≡ false

pub settable : (h : Carried) (work lines : List ℕ) → lent_fault h work lines ≡ 0 → Settable h work lines
unfolding lent_fault
settable h work lines none =
    go (when_serving h.stage) (counts_within h.pages h.disks h.ring h.total) (own_work h work) (not_a_table lines) refl refl refl refl none
  where
    go : (s f o t : Bool) → when_serving h.stage ≡ s → counts_within h.pages h.disks h.ring h.total ≡ f → own_work h work ≡ o
        → not_a_table lines ≡ t → ◌≡◌ {A = ℕ} (cond (s && f) (cond o (cond t 5 0) 5) 1) 0 → Settable h work lines
    go true true true false s f o t e =
        record { serving = not_shut when_serving refl h.stage s; counts = counted f; own = o; table = t }
    go true true true true s f o t e = absurd (omega arith)
    go true true false b s f o t e = absurd (omega arith)
    go true false a b s f o t e = absurd (omega arith)
    go false d a b s f o t e = absurd (omega arith)

module _ (h : Carried) (w : World) (lines : List ℕ) {r : ℕ} (answer : r ≡ lent_fault h w.work lines) where
  abbrev c : Core
  c = core_of h w.work

  -- of a state that is not shut the work memory's length is told by whose it is
  own_tested : when_shut h.stage ≡ false → work_wrong c (body_of w) ≡ not (own_work h w.work)
  unfolding work_wrong own_work core_of body_of work_words owner_at copy_at buffer_at
  own_tested serving = rw (serving, body_long w.work (64 * h.disks + 64 + h.total) (omega arith)) refl

  decides : verdict (set_classes_rows c (body_of w) lines) ≡ cond (eqb r 0) (verdict (line_rows h.disks lines)) (rejected r 0 0)
  unfolding verdict lent_fault set_classes_rows stage_forbids counts_fit counts_within counts_in_bounds core_of
  decides = go (when_serving h.stage) refl
    where
      go : (s : Bool) → when_serving h.stage ≡ s
          → verdict (set_classes_rows c (body_of w) lines) ≡ cond (eqb r 0) (verdict (line_rows h.disks lines)) (rejected r 0 0)
      go false e = rw (answer, e) refl
      go true e =
          rw (answer, e, own_tested (not_shut when_serving refl h.stage e))
          (by_tests (counts_within h.pages h.disks h.ring h.total) (own_work h w.work) (not_a_table lines) (line_rows h.disks lines))

  -- they refuse
  pub set_refused : (r ≡ 0 → ⊥) → verdict (set_classes_rows c (body_of w) lines) ≡ rejected r 0 0
  set_refused some = decides ∙ rw (ne_eqb r 0 some) refl

  module _ (none : r ≡ 0) where
    by_lines : verdict (set_classes_rows c (body_of w) lines) ≡ verdict (line_rows h.disks lines)
    by_lines = decides ∙ rw (eq-eqb r 0 none) refl

    pub set_wrong : wrong_line h.disks lines < line_count lines
        → verdict (set_classes_rows c (body_of w) lines) ≡ rejected 17 (wrong_line h.disks lines) 0
    unfolding verdict
    set_wrong wrong = by_lines ∙ rw (lt-ltb _ _ wrong) refl

    module _ (right : line_count lines ≤ wrong_line h.disks lines) where
      pub set_uncovered : uncovered_class lines < class_count → verdict (set_classes_rows c (body_of w) lines) ≡ rejected 18 (uncovered_class lines) 0
      unfolding verdict
      set_uncovered some = by_lines ∙ rw (le-ltb _ _ right, lt-ltb _ _ some) refl

      module _ (all : class_count ≤ uncovered_class lines) where
        pub set_twice : twice_covered lines < class_count → verdict (set_classes_rows c (body_of w) lines) ≡ rejected 19 (twice_covered lines) 0
        unfolding verdict
        set_twice some = by_lines ∙ rw (le-ltb _ _ right, le-ltb _ _ all, lt-ltb _ _ some) refl

        pub set_accepted : class_count ≤ twice_covered lines → verdict (set_classes_rows c (body_of w) lines) ≡ accepted
        unfolding verdict
        set_accepted once = by_lines ∙ rw (le-ltb _ _ right, le-ltb _ _ all, le-ltb _ _ once) refl

-- what is carried after it
abbrev classed : Carried → List ℕ → Carried
classed h lines =
    record {
      stage = h.stage;
      pages = h.pages;
      disks = h.disks;
      ring = h.ring;
      total = h.total;
      epoch = h.epoch;
      next = h.next;
      copied = h.copied;
      starts = h.starts;
      tails = h.tails;
      ends = h.ends;
      classes = classes_of lines;
    }

pub set_serves : (h : Carried) (w : World) (lines : List ℕ) → Settable h w.work lines
    → verdict (set_classes_rows (core_of h w.work) (body_of w) lines) ≡ accepted → {reply : Handed} → reply ≡ finished_to (classed h lines) 0 0
    → Serves (set_classes lines) h w reply 0 w
unfolding set_classes_task core_of body_of head_of
set_serves h w lines ready ok reply =
    shown_finished (set_classes lines) h w ok refl refl ready.serving
    (sym (take-append-drop head_words w.work) ∙ ap (λ (head : List ℕ). head ++ drop head_words w.work) (sym (head_whole h w.work ready.own)))
    {carried = classed h lines} refl reply
