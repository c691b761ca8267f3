-- What an abort adds to the log of its disk does not depend on the logs of the others.
use mathlib.Core.Path.{◌≡◌, refl, sym, ap, ◌∙◌}
use mathlib.Core.List.{List, [], ◌∷◌, ◌++◌}
use mathlib.Core.Bool.{Bool, true, false}
use Prim.Native.Nat.{ℕ, ◌+◌, ◌<◌}
use native.Mathlib.Omega.{arith}
use lib.Dec.{leb}
use lib.ListN.{length, replicate}
use lib.Seq.{set-set, set-get_or, get_or-set_same}
use Rattle.model.specs.declared.Sizes.{Sizes}
use Rattle.model.specs.declared.Logs.{Logs}
use Rattle.model.specs.Sizes.{slot_base}
use Rattle.model.specs.Record.{change, close, encode, compensation_kind, abort_kind}
use Rattle.model.specs.Scan.{Update}
use Rattle.model.specs.World.{World, Action, perform}
use Rattle.model.specs.Memory.{buffer_words, buffer_of, copy_of}
use Rattle.model.specs.State.{empty_logs, tail_of, fill_of, end_of, with_fill, after_flush}
use Rattle.model.specs.Append.{store_all, flush, Appended, buffered, append}
use Rattle.model.specs.Abort.{xor_in, compensate, undo_all}
use Rattle.model.proofs.Growth.{SizedLogs}
use Rattle.frame.specs.Home.{with_disk}
use Rattle.disk_log.specs.declared.write.Tip.{Tip}
use Rattle.abort.specs.Undo.{only_log}
use Rattle.abort.specs.Scope.{rolling_back}
use Rattle.abort.proofs.Tips.{tip_tail, tip_fill}

-- the same actions, and the same tail and fill of the disk, whatever the others have
pub record Apart (disk : ℕ) (f : Logs → Appended) : Type 0 where
  pub actions : List Action
  pub tip : Tip
  pub all : (b : Logs) → SizedLogs b → f b ≡ record { actions = actions; logs = with_disk b disk tip.tail tip.fill }

module _ (s : Sizes) (disk : ℕ) (low : disk < 8) where
  with_tail : (b : Logs) (t : Tip) → SizedLogs b → tail_of (with_disk b disk t.tail t.fill) disk ≡ t.tail
  unfolding tail_of
  with_tail b t sized = get_or-set_same b.tails disk t.tail 0 (omega (arith, sized.tails, low))

  with_fill_lem : (b : Logs) (t : Tip) → SizedLogs b → fill_of (with_disk b disk t.tail t.fill) disk ≡ t.fill
  unfolding fill_of
  with_fill_lem b t sized = get_or-set_same b.fills disk t.fill 0 (omega (arith, sized.fills, low))

  append_apart : (t : Tip) (memory words : List ℕ) → Apart disk (λ b. append s (with_disk b disk t.tail t.fill) memory disk words)
  unfolding append flush with_fill after_flush end_of
  append_apart t memory words = go (leb (t.fill + length words) buffer_words) refl
    where
      go : (k : Bool) → leb (t.fill + length words) buffer_words ≡ k → Apart disk (λ b. append s (with_disk b disk t.tail t.fill) memory disk words)
      go true e =
          record {
            actions = buffered s disk t.fill words;
            tip = record { tail = t.tail; fill = t.fill + length words };
            all = λ b sized. rw (with_fill_lem b t sized, e, with_fill_lem b t sized, set-set) refl;
          }
      go false e =
          record {
            actions = store_all s disk t.tail (buffer_of memory disk t.fill) ++ buffered s disk 0 words;
            tip = record { tail = t.tail + t.fill; fill = length words };
            all = λ b sized. rw (with_fill_lem b t sized, e, with_tail b t sized, with_fill_lem b t sized, set-set, set-set, set-set) refl;
          }

  compensate_apart : (t : Tip) (w : World) (number : ℕ) (u : Update)
      → Apart disk (λ b. compensate s (with_disk b disk t.tail t.fill) w number disk u)
  unfolding compensate
  compensate_apart t w number u =
      let one = append_apart t w.work (encode (change compensation_kind u.page u.slot number (copy_of s w.work u.page) u.diff)) in
      record {
        actions = one.actions ++ xor_in (slot_base s u.page u.slot) u.diff w.pages;
        tip = one.tip;
        all = λ b sized. rw (one.all b sized) refl;
      }

  undo_apart : (us : List Update) (t : Tip) (w : World) (number : ℕ)
      → Apart disk (λ b. undo_all s (with_disk b disk t.tail t.fill) w number disk us)
  unfolding undo_all
  undo_apart [] t w number = record { actions = []; tip = t; all = λ b sized. refl }
  undo_apart (u ∷ us) t w number =
      let one = compensate_apart t w number u in
      let rest = undo_apart us one.tip (perform one.actions w) number in
      record {
        actions = one.actions ++ rest.actions;
        tip = rest.tip;
        all = λ b sized. rw (one.all b sized, rest.all b sized) refl;
      }

  rolling_apart : (us : List Update) (t : Tip) (w : World) (number : ℕ)
      → Apart disk (λ b. rolling_back s (with_disk b disk t.tail t.fill) w number disk us)
  unfolding rolling_back
  rolling_apart us t w number =
      let undone = undo_apart us t w number in
      let last = append_apart undone.tip (perform undone.actions w).work (encode (close abort_kind number)) in
      record {
        actions = undone.actions ++ last.actions;
        tip = last.tip;
        all = λ b sized. rw (undone.all b sized, last.all b sized) refl;
      }

  -- so the work on one log by its numbers is the work on that of a state
  module _ (l : Logs) (sized : SizedLogs l) (t : Tip) (tail : tail_of l disk ≡ t.tail) (fill : fill_of l disk ≡ t.fill)
      (w : World) (number : ℕ) (us : List Update) where
    alone : Apart disk (λ b. rolling_back s (with_disk b disk t.tail t.fill) w number disk us)
    alone = rolling_apart us t w number

    own : with_disk l disk t.tail t.fill ≡ l
    unfolding tail_of fill_of
    own = rw (← tail, ← fill, set-get_or, set-get_or) refl

    real_is : rolling_back s l w number disk us
        ≡ record { actions = alone.actions; logs = with_disk l disk alone.tip.tail alone.tip.fill }
    real_is = ap (λ (x : Logs). rolling_back s x w number disk us) (sym own) ∙ alone.all l sized

    only_is : rolling_back s (only_log disk t) w number disk us ≡ record { actions = alone.actions; logs = only_log disk alone.tip }
    unfolding only_log
    only_is = alone.all (empty_logs (replicate 8 0)) (record { starts = refl; tails = refl; fills = refl })

    pub same_actions : (rolling_back s l w number disk us).actions ≡ (rolling_back s (only_log disk t) w number disk us).actions
    same_actions = rw (real_is, only_is) refl

    pub moved_alone : (after : Tip) → only_log disk after ≡ (rolling_back s (only_log disk t) w number disk us).logs
        → (rolling_back s l w number disk us).logs ≡ with_disk l disk after.tail after.fill
    moved_alone after e =
        let there : only_log disk after ≡ only_log disk alone.tip = e ∙ ap (λ (x : Appended). x.logs) only_is in
        let same_tail : alone.tip.tail ≡ after.tail =
        sym (tip_tail disk alone.tip low) ∙ ap (λ (x : Logs). tail_of x disk) (sym there) ∙ tip_tail disk after low in
        let same_fill : alone.tip.fill ≡ after.fill =
        sym (tip_fill disk alone.tip low) ∙ ap (λ (x : Logs). fill_of x disk) (sym there) ∙ tip_fill disk after low in
        rw real_is (rw (same_tail, same_fill) refl)
