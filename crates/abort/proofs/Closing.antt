-- How an abort ends: refused for what it read, cut, or finished with its transaction out of the table.
use Rattle.std.specs.Prelude.{Option, None, Some, is_some}
use mathlib.Core.Path.{◌≡◌, refl, sym, ap, ◌∙◌}
use mathlib.Core.List.{List, ◌++◌}
use Prim.Native.Nat.{ℕ, ◌-◌}
use lib.ListN.{length, get_or, set, take, drop}
use Rattle.model.specs.declared.Core.{Core}
use Rattle.model.specs.declared.Carried.{Carried}
use Rattle.model.specs.declared.Handed.{Handed}
use Rattle.model.specs.Record.{bad_record}
use Rattle.model.specs.Scan.{updates_in}
use Rattle.model.specs.World.{World, world_of}
use Rattle.model.specs.State.{with_log, with_place, with_reserved, without}
use Rattle.model.specs.Refusal.{Task, verdict, accepted, rejected}
use Rattle.model.specs.Causes.{not_open}
use Rattle.model.specs.Abort.{updates_left, abort_fault, abort_rows, ones_undone, abort_task}
use Rattle.model.specs.Call.{abort}
use Rattle.model.specs.View.{head_words, core_of, carried_of, head_lists, body_of, Serves}
use Rattle.model.specs.Fields.{put_words}
use Rattle.model.proofs.Growth.{SizedLogs}
use Rattle.model.proofs.View.Laid.{set_in}
use Rattle.model.proofs.View.Head.{HeadSized, view_sized, carried_back}
use Rattle.model.proofs.View.Fields.{put_lists, Within, head_put}
use Rattle.device.specs.Ran.{Ran}
use Rattle.frame.specs.Handed.{finished_to, cut_to}
use Rattle.frame.specs.Home.{with_disk}
use Rattle.frame.proofs.FirstChecks.{serving_ready}
use Rattle.frame.proofs.Shown.{shown_whole, shown_cut}
use Rattle.disk_log.specs.declared.write.Tip.{Tip}
use Rattle.abort.specs.declared.undo.Undone.{Undone}
use Rattle.abort.specs.declared.scope.Target.{Target}
use Rattle.abort.specs.Undo.{only_log, Did, tip_in, Counts, log_from}
use Rattle.abort.specs.Scope.{rolling_back, closed}
use Rattle.abort.proofs.Apart.{same_actions, moved_alone}
use Rattle.abort.proofs.Aborts.{Standing, scope_disk}
use Rattle.abort.proofs.ReadLog.{disk_here, tail_here, fill_here, updates_here}

-- What an abort leaves: its disk's tail by value, and words of the head.
abbrev tailed : Carried → (disk tail : ℕ) → Carried
tailed h disk tail =
    record {
      stage = h.stage;
      pages = h.pages;
      disks = h.disks;
      ring = h.ring;
      total = h.total;
      epoch = h.epoch;
      next = h.next;
      copied = h.copied;
      starts = h.starts;
      tails = set h.tails disk tail;
      ends = h.ends;
      classes = h.classes;
    }

module _ (h : Carried) (w : World) (number budget : ℕ) {t : Target} (st : Standing h w number t) where
  abbrev core : Core
  core = core_of h w.work

  abbrev d : ℕ
  d = t.scope.disk

  abbrev tip : Tip
  tip = record { tail = t.entry.tail; fill = t.entry.fill }

  -- the log is malformed, or has too many words of updates
  pub abort_bad : {disk position : ℕ} → abort_fault core (body_of w) number ≡ bad_record disk position
      → verdict (abort_rows core (body_of w) number) ≡ rejected 7 disk position
  unfolding verdict
  abort_bad bad = st.rows ∙ rw bad refl

  shut_table : without core.table number
      ≡ with_reserved (with_place core.table t.entry.place 0 0 0 0) d (t.entry.sum - t.entry.reserved)
  unfolding without
  shut_table =
      let found = st.read.entry in
      rw (scope_disk st.read, found.sum, found.reserved, found.disk, found.place) refl

  module _ (starts : length h.starts ≡ 8) (tails : length h.tails ≡ 8) (none : abort_fault core (body_of w) number ≡ None) where
    accepts : verdict (abort_rows core (body_of w) number) ≡ accepted
    unfolding verdict not_open
    accepts = st.rows ∙ rw (none, st.opened) refl

    sized : SizedLogs core.logs
    unfolding HeadSized
    sized =
        record {
          starts = ap (λ (x : Carried). length x.starts) (carried_back h w.work) ∙ starts;
          tails = ap (λ (x : Carried). length x.tails) (carried_back h w.work) ∙ tails;
          fills = ap (λ (ns : List ℕ). get_or ns 3 0) (view_sized h w.work);
        }

    -- what the work says of any anchor and backups, of these
    module _ {memory : List ℕ} (lent : memory ≡ drop head_words w.work) {from : ℕ} (starting : from ≡ t.scope.from)
        {rest : ℕ} {pages logs body : List ℕ} (r : Option Undone)
        (did : (anchor backups : List ℕ) → Did d budget rest
        (rolling_back t.sizes (only_log d tip) (world_of anchor w.pages backups w.logs memory) number d
        (updates_in number (log_from t.sizes (only_log d tip) d w.logs memory from)))
        (world_of anchor w.pages backups w.logs memory) (world_of anchor pages backups logs body) (tip_in r))
        (counted : Counts (updates_in number (log_from t.sizes (only_log d tip) d w.logs memory from)) r) where
      abbrev after : World
      after = world_of w.anchor pages w.backups logs body

      raw : Did d budget rest
          (rolling_back t.sizes (only_log d tip) (body_of w) number d
          (updates_in number (log_from t.sizes (only_log d tip) d w.logs (drop head_words w.work) t.scope.from))) (body_of w) after (tip_in r)
      unfolding body_of
      raw = rw (lent, starting) at (did w.anchor w.backups)

      here : Did d budget rest (rolling_back core.sizes (only_log d tip) (body_of w) number d (updates_left core (body_of w) number)) (body_of w) after (tip_in r)
      here = rw (updates_here h w number st none, ← st.read.sizes) raw

      -- its task, by the disk that was found
      task_is : abort_task core (body_of w) number
          ≡ record {
            actions = (rolling_back core.sizes core.logs (body_of w) number d (updates_left core (body_of w) number)).actions;
            core = with_log core (rolling_back core.sizes core.logs (body_of w) number d (updates_left core (body_of w) number)).logs (without core.table number);
            value = ones_undone (updates_left core (body_of w) number);
          }
      unfolding abort_task rolling_back
      task_is = rw (disk_here h w number st) refl

      task_actions : (abort_task core (body_of w) number).actions
          ≡ (rolling_back core.sizes (only_log d tip) (body_of w) number d (updates_left core (body_of w) number)).actions
      task_actions =
          ap (λ (x : Task). x.actions) task_is ∙ same_actions core.sizes d st.low core.logs sized tip (tail_here h w number st) (fill_here h w number st) (body_of w) number
          (updates_left core (body_of w) number)

      stored : Ran budget rest (abort_task core (body_of w) number).actions (body_of w) after (is_some (tip_in r))
      stored = rw task_actions here.ran

      pub abort_cut : r ≡ None → {work : List ℕ} → work ≡ take head_words w.work ++ body → {reply : Handed} → reply ≡ cut_to (budget - rest)
          → Serves (abort number budget) h w reply rest (world_of w.anchor pages w.backups logs work)
      abort_cut cut back reply = shown_cut (abort number budget) h w accepts (rw cut at stored) back reply

      module _ {done : Undone} (all : r ≡ Some done) where
        after_abort : (abort_task core (body_of w) number).core
            ≡ with_log core (with_disk core.logs d done.tip.tail done.tip.fill)
            (with_reserved (with_place core.table t.entry.place 0 0 0 0) d (t.entry.sum - t.entry.reserved))
        after_abort =
            ap (λ (x : Task). x.core) task_is
            ∙ rw (
              moved_alone core.sizes d st.low core.logs sized tip (tail_here h w number st) (fill_here h w number st) (body_of w) number
                  (updates_left core (body_of w) number) done.tip (rw all at here).state,
              shut_table,
            ) refl

        lists_after : head_lists (abort_task core (body_of w) number).core
            ≡ put_lists (closed t.entry.place d done.tip.fill (t.entry.sum - t.entry.reserved)) (head_lists core)
        unfolding put_lists set_in with_log with_reserved with_place
        lists_after = ap head_lists after_abort

        carried_after : tailed h d done.tip.tail ≡ carried_of (abort_task core (body_of w) number).core
        unfolding with_log core_of
        carried_after = sym (ap carried_of after_abort)

        ones_here : ones_undone (updates_left core (body_of w) number) ≡ done.ones
        unfolding body_of
        ones_here = ap ones_undone (updates_here h w number st none) ∙ sym (rw (all, lent, starting) at counted)

        pub abort_whole : {stands : List ℕ} → stands ≡ take head_words w.work ++ body
            → {work : List ℕ} → work ≡ put_words (closed t.entry.place d done.tip.fill (t.entry.sum - t.entry.reserved)) stands
            → {reply : Handed} → reply ≡ finished_to (tailed h d done.tip.tail) (budget - rest) done.ones
            → Serves (abort number budget) h w reply rest (world_of w.anchor pages w.backups logs work)
        unfolding abort_task Within with_log core_of
        abort_whole back words reply =
            let low = st.low in
            let place = st.read.entry.low in
            shown_whole (abort number budget) h w accepts (rw all at stored) (serving_ready h w st.ready)
            (words ∙ ap (put_words (closed t.entry.place d done.tip.fill (t.entry.sum - t.entry.reserved))) back
            ∙ head_put h w.work body st.own (closed t.entry.place d done.tip.fill (t.entry.sum - t.entry.reserved))
            (low, (place, (place, (place, (place, (low, tt)))))) (abort_task core (body_of w) number).core lists_after)
            carried_after (rw ones_here reply)
