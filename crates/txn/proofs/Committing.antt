-- Commit: which row applies, by what the code tests, and what it leaves in the head and hands back.
use mathlib.Core.Path.{◌≡◌, refl, sym, ap, ◌∙◌}
use mathlib.Core.List.{List, [], ◌∷◌, ◌++◌}
use mathlib.Core.Bool.{Bool, true, false, cond, not, ◌||◌}
use Prim.Native.Nat.{ℕ, ◌+◌, ◌-◌, ◌≤◌, ◌<◌}
use native.Mathlib.Omega.{arith}
use lib.Dec.{eqb}
use lib.ListN.{length, get_or, set, take, drop, length-drop}
use borrow.Author.Tests.{eq-eqb, ne_eqb}
use Rattle.model.specs.declared.Sizes.{Sizes}
use Rattle.model.specs.declared.Logs.{Logs}
use Rattle.model.specs.declared.Core.{Core}
use Rattle.model.specs.declared.Carried.{Carried}
use Rattle.model.specs.declared.Handed.{Handed}
use Rattle.model.specs.Anchor.{anchor_words}
use Rattle.model.specs.Sizes.{log_words, disk_at}
use Rattle.model.specs.World.{World, world_of}
use Rattle.model.specs.Memory.{buffer_at, copy_at, owner_at, work_words}
use Rattle.model.specs.State.{limit, tail_of, fill_of, end_of, is_open, place_of, disk_at_place, with_log, with_place, with_reserved, without}
use Rattle.model.specs.Refusal.{row, verdict, accepted, rejected}
use Rattle.model.specs.Causes.{when_serving, anchor_wrong, not_open}
use Rattle.model.specs.Reads.{place_fits, home_fits}
use Rattle.model.specs.Transaction.{disk_of, commit_rows, commit_task}
use Rattle.model.specs.Call.{commit}
use Rattle.model.specs.View.{head_words, own_work, core_of, carried_of, head_lists, body_of, Serves}
use Rattle.model.specs.Fields.{put_words}
use Rattle.model.proofs.View.Laid.{set_in}
use Rattle.model.proofs.View.Head.{HeadSized, view_sized, carried_back}
use Rattle.model.proofs.View.Fields.{put_lists, Within, head_put}
use Rattle.device.specs.Ran.{Ran, with_slices}
use Rattle.disk_log.specs.declared.write.Home.{Home}
use Rattle.disk_log.specs.Write.{Within as InPlace, Lent}
use Rattle.frame.specs.declared.entry.Entry.{Entry}
use Rattle.frame.specs.Entry.{EntryOf, Entered, after_anchor, AfterAnchor}
use Rattle.frame.specs.Checks.{verdict_of}
use Rattle.frame.specs.Handed.{finished_to, cut_to}
use Rattle.frame.specs.Home.{home_of, with_disk}
use Rattle.frame.specs.Lent.{lent_refusal}
use Rattle.frame.proofs.FirstChecks.{Ready, lent_refused, lent_passed, lent_ready, serving_ready, own_ready}
use Rattle.frame.proofs.Fitting.{Placed, placed}
use Rattle.frame.proofs.Homes.{home_fits_lem, lent_there, disk_there}
use Rattle.frame.proofs.Shown.{shown_whole, shown_cut}
use Rattle.txn.specs.Tasks.{closing, closed}
use Rattle.txn.specs.Opened.{Opened, Opens}
use Rattle.frame.specs.declared.refusal.Refusal.{Refusal}
use Rattle.frame.specs.Refusal.{number_of}
use Rattle.frame.proofs.Refusals.{numbered, ok_same, err_same}
use Rattle.std.specs.Prelude.{Result, Ok, Err}
use Rattle.txn.proofs.Committed.{committed_core}

-- The rows: 1, 2 and 9, by what is found of the transaction.
by_entry : (opened fits anchor : Bool) (entry : ℕ) → entry ≡ cond opened (cond fits 0 1) 9
    → verdict (row 1 (not (not opened || fits)) ∷ row 2 (not anchor) ∷ row 9 (not opened) ∷ [])
    ≡ verdict_of (cond (eqb entry 1) 1 (cond anchor entry 2))
unfolding verdict
by_entry true true true entry e = rw e refl
by_entry true true false entry e = rw e refl
by_entry true false anchor entry e = rw e refl
by_entry false fits true entry e = rw e refl
by_entry false fits false entry e = rw e refl

module _ (h : Carried) (w : World) (number : ℕ) {r : ℕ}
    (answer : r ≡ lent_refusal (when_serving h.stage) h.pages h.disks h.ring h.total (length w.anchor) (length w.pages) (length w.backups) (length w.logs) (length w.work))
  where
    abbrev c : Core
    c = core_of h w.work

    pub commit_refused : (r ≡ 0 → ⊥) → verdict (commit_rows c (body_of w) number) ≡ rejected r 0 0
    unfolding commit_rows
    commit_refused some = lent_refused h w answer some (home_fits number c) (row 9 (not_open c number) ∷ [])

    module _ (none : r ≡ 0) {entry : ℕ} (found : entry ≡ cond (is_open c.table number) (cond (place_fits (place_of c.table number) c) 0 1) 9)
        {q : ℕ} (later : q ≡ after_anchor entry (length w.anchor)) where
      by_rows : verdict (commit_rows c (body_of w) number) ≡ verdict_of q
      unfolding commit_rows home_fits not_open anchor_wrong after_anchor
      by_rows =
          lent_passed h w answer none (home_fits number c) (row 9 (not_open c number) ∷ [])
          ∙ by_entry (is_open c.table number) (place_fits (place_of c.table number) c) (eqb (length w.anchor) anchor_words) entry found
          ∙ ap verdict_of (sym later)

      pub commit_row : (q ≡ 0 → ⊥) → verdict (commit_rows c (body_of w) number) ≡ rejected q 0 0
      commit_row some = by_rows ∙ rw (ne_eqb q 0 some) refl

      pub commit_accepted : q ≡ 0 → verdict (commit_rows c (body_of w) number) ≡ accepted
      commit_accepted last = by_rows ∙ rw (eq-eqb q 0 last) refl

-- the first checks refuse
pub unopened : (h : Carried) (w : World) (number : ℕ) {x : Refusal}
    → number_of x ≡ lent_refusal (when_serving h.stage) h.pages h.disks h.ring h.total (length w.anchor) (length w.pages) (length w.backups) (length w.logs) (length w.work)
    → Opens h w number (Err x)
unopened h w number {x} answer =
    record { refused = λ y is. rw (← err_same is) (commit_refused h w number answer (numbered x)); ready = λ e is. cc }

-- they do not: by what is found, and the anchor
pub opened : (h : Carried) (w : World) (number : ℕ)
    → 0 ≡ lent_refusal (when_serving h.stage) h.pages h.disks h.ring h.total (length w.anchor) (length w.pages) (length w.backups) (length w.logs) (length w.work)
    → {found : Result Entry Refusal} → (own_work h w.work ≡ true → Entered (core_of h w.work) number found)
    → (r : Result Entry Refusal) → AfterAnchor found (length w.anchor) r → Opens h w number r
opened h w number lent entered (Err x) after =
    let there = entered (own_ready h w (lent_ready h w lent refl)) in
    record {
      refused = λ y is. rw (← err_same is) (commit_row h w number lent refl there.refusal after.row (numbered x));
      ready = λ e is. cc;
    }
opened h w number lent entered (Ok e) after =
    let there = entered (own_ready h w (lent_ready h w lent refl)) in
    record {
      refused = λ y is. cc;
      ready = λ u is.
          rw (← ok_same is)
          (record { lent = lent; found = there.ready e (after.same e refl); accepts = commit_accepted h w number lent refl there.refusal after.row refl });
    }

-- What a commit leaves: its disk's tail by value, and words of the head.
abbrev tailed : Carried → (disk tail : ℕ) → Carried
tailed h disk tail =
    record {
      stage = h.stage;
      pages = h.pages;
      disks = h.disks;
      ring = h.ring;
      total = h.total;
      epoch = h.epoch;
      next = h.next;
      copied = h.copied;
      starts = h.starts;
      tails = set h.tails disk tail;
      ends = h.ends;
      classes = h.classes;
    }

-- What is known of the transaction where no row applies.
pub record Standing (h : Carried) (w : World) (number : ℕ) (entry : Entry) : Type 0 where
  pub ready : Ready h w
  pub own : own_work h w.work ≡ true
  pub found : EntryOf (core_of h w.work) number entry
  pub placed : Placed h.disks entry.disk entry.tail entry.fill entry.reserved entry.sum
  pub low : entry.disk < 8
  pub accepts : verdict (commit_rows (core_of h w.work) (body_of w) number) ≡ accepted

pub standing : (h : Carried) (w : World) (number : ℕ) {entry : Entry} → Opened h w number entry → Standing h w number entry
unfolding core_of
standing h w number at =
    let ready = lent_ready h w at.lent refl in
    let fits = placed at.found.fits in
    record {
      ready = ready;
      own = own_ready h w ready;
      found = at.found;
      placed = fits;
      low = omega (arith, fits.below, ready.counts.disks_max);
      accepts = at.accepts;
    }

module _ (h : Carried) (w : World) (number budget : ℕ) {entry : Entry} (stands : Standing h w number entry) where
  abbrev core : Core
  core = core_of h w.work

  -- its disk, as the functions of `log` are lent it
  abbrev there : Home
  there = home_of core.sizes core.logs entry.disk

  pub home_standing : {home : Home}
      → ((s : Sizes) (l : Logs) → s.ring ≡ h.ring → tail_of l entry.disk ≡ entry.tail → fill_of l entry.disk ≡ entry.fill → home ≡ home_of s l entry.disk)
      → home ≡ there
  home_standing e =
      e core.sizes core.logs (ap (λ (x : Carried). x.ring) (carried_back h w.work)) (sym stands.found.tail) (sym stands.found.fill)

  pub close_fits : {home : Home} → home ≡ there → {memory : List ℕ} → memory ≡ drop head_words w.work
      → InPlace home w.logs memory × (home.tail + home.fill + 2 ≤ limit)
  unfolding home_of end_of core_of log_words disk_at work_words owner_at copy_at buffer_at
  close_fits e lent =
      let p = stands.placed in
      let tail = stands.found.tail in
      let fill = stands.found.fill in
      let long = stands.ready.work in (
        rw (e, lent)
            (home_fits_lem core.sizes h.total core.logs w.logs (drop head_words w.work) entry.disk (omega (arith, stands.ready.counts.ring_min)) stands.ready.logs
            (length-drop head_words w.work ∙ omega (arith, long)) p.below (rw (← fill) p.fill_small) (omega (arith, tail, fill, p.end_small))),
        rw e (omega (arith, tail, fill, p.end_small, p.own_min, p.own_part)),
      )

  module _ (eight : length h.tails ≡ 8) where
    disk_found : entry.disk ≡ disk_of core number
    unfolding disk_of
    disk_found = stands.found.disk ∙ ap (disk_at_place core.table) stands.found.place

    tails_eight : length core.logs.tails ≡ 8
    tails_eight = ap (λ (x : Carried). length x.tails) (carried_back h w.work) ∙ eight

    fills_eight : length core.logs.fills ≡ 8
    unfolding HeadSized
    fills_eight = ap (λ (ns : List ℕ). get_or ns 3 0) (view_sized h w.work)

    after_commit : (commit_task core (body_of w) number).core
        ≡ with_log core (with_disk core.logs entry.disk (entry.tail + entry.fill + 2) 0)
        (with_reserved (with_place core.table entry.place 0 0 0 0) entry.disk (entry.sum - entry.reserved))
    unfolding without disk_of
    after_commit =
        let found = stands.found in
        let low = stands.low in
        rw (found.sum, found.tail, found.fill, found.reserved, found.disk, found.place)
        (committed_core core (body_of w) number (omega (arith, disk_found, tails_eight, low)) (omega (arith, disk_found, fills_eight, low)))

    lists_after : head_lists (commit_task core (body_of w) number).core ≡ put_lists (closed entry.place entry.disk (entry.sum - entry.reserved)) (head_lists core)
    unfolding put_lists set_in with_log with_reserved with_place
    lists_after = ap head_lists after_commit

    carried_after : tailed h entry.disk (entry.tail + entry.fill + 2) ≡ carried_of (commit_task core (body_of w) number).core
    unfolding with_log core_of
    carried_after = sym (ap carried_of after_commit)

    -- what the storing function says of every state and world that it may have been lent, of these
    module _ {home : Home} (same : home ≡ there) {memory : List ℕ} (lent : memory ≡ drop head_words w.work)
        {rest : ℕ} {logs body : List ℕ} {whole : Bool}
        (did : (s : Sizes) (l : Logs) (v : World) → Lent s l v home w.logs memory → home.disk < length l.tails → home.disk < length l.fills
        → Ran budget rest (closing s l v home.disk number) v (with_slices v logs body) whole) where
      stored : Ran budget rest (commit_task core (body_of w) number).actions (body_of w) (with_slices (body_of w) logs body) whole
      unfolding commit_task closing body_of
      stored =
          let low = stands.low in
          let disk = disk_there core.sizes core.logs entry.disk same in
          rw (← disk_found, ← disk)
          (did core.sizes core.logs (body_of w) (lent_there core.sizes core.logs entry.disk same (body_of w) refl (sym lent))
          (omega (arith, disk, tails_eight, low)) (omega (arith, disk, fills_eight, low)))

      pub commit_cut : whole ≡ false → {work : List ℕ} → work ≡ take head_words w.work ++ body → {reply : Handed} → reply ≡ cut_to (budget - rest)
          → Serves (commit number budget) h w reply rest (world_of w.anchor w.pages w.backups logs work)
      unfolding body_of
      commit_cut cut back reply = shown_cut (commit number budget) h w stands.accepts (rw cut at stored) back reply

      pub commit_whole : whole ≡ true → {kept : List ℕ} → kept ≡ take head_words w.work ++ body
          → {work : List ℕ} → work ≡ put_words (closed entry.place entry.disk (entry.sum - entry.reserved)) kept
          → {reply : Handed} → reply ≡ finished_to (tailed h entry.disk (entry.tail + entry.fill + 2)) (budget - rest) 0
          → Serves (commit number budget) h w reply rest (world_of w.anchor w.pages w.backups logs work)
      unfolding commit_task body_of Within with_log core_of
      commit_whole all back words reply =
          let low = stands.low in
          let place = stands.found.low in
          shown_whole (commit number budget) h w stands.accepts (rw all at stored) (serving_ready h w stands.ready)
          (words ∙ ap (put_words (closed entry.place entry.disk (entry.sum - entry.reserved))) back
          ∙ head_put h w.work body stands.own (closed entry.place entry.disk (entry.sum - entry.reserved))
          (low, (place, (place, (place, (place, (low, tt)))))) (commit_task core (body_of w) number).core lists_after)
          carried_after reply
