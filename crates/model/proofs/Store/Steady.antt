-- Where a restart sees the same of the devices, they keep the same.
use mathlib.Core.Path.{ap, ◌∙◌}
use mathlib.Core.List.{List, ◌++◌, append_assoc}
use Prim.Native.Nat.{ℕ}
use native.Mathlib.Omega.{arith}
use Rattle.model.specs.Anchor.{sizes_on}
use Rattle.model.specs.Record.{Record}
use Rattle.model.specs.World.{World, Action, run}
use Rattle.model.specs.Causes.{tail_in, retained_from}
use Rattle.model.specs.Anchor.{epoch_on}
use Rattle.model.specs.Image.{restarted, words_from}
use Rattle.model.specs.Reference.{Reference}
use Rattle.model.specs.History.{Put, records_on, Told, also}
use Rattle.model.proofs.Bounds.{bounded}
use Rattle.model.proofs.Run.{SameLengths}
use Rattle.model.proofs.Ledger.Entry.{All}
use Rattle.model.proofs.Restart.Image.{SameDevices}
use Rattle.model.proofs.Restart.Aside.{Aside, Steady, devices_steady, steady_image, steady_run}
use Rattle.model.proofs.Checked.{whole_from, Restartable}
use Rattle.model.proofs.Store.View.{Kept}
use Rattle.model.proofs.Store.Crash.{stored_same}
use Rattle.model.proofs.Store.Flush.{lengths_same}
use Rattle.model.proofs.Store.OneMore.{records_append}

pub steady_restartable : {v w : World} → Steady v w → Restartable w → Restartable v
steady_restartable {v} {w} k h =
    let eight = (bounded (sizes_on w.anchor) h.image.bounds).disks_max in
    record {
      image = record {
        long = k.lengths.anchor ∙ h.image.long;
        formatted = rw k.epoch h.image.formatted;
        bounds = rw k.sizes h.image.bounds;
        whole = rw (k.sizes, k.logs) (whole_from (sizes_on w.anchor) w.logs (λ d l. k.starts d (omega arith)) h.image.whole);
      };
      lengths = rw k.sizes (lengths_same (sizes_on w.anchor) k.lengths h.lengths);
    }

pub steady_kept : {puts : Told} {v w : World} {r : Reference} → Steady v w → Kept puts w r → Kept puts v r
unfolding tail_in retained_from words_from
steady_kept {v = v} {w = w} k h =
    let eight = (bounded (sizes_on w.anchor) h.restartable.image.bounds).disks_max in
    let same = steady_image k eight in
    record {
      sizes = k.sizes ∙ h.sizes;
      shaped = h.shaped;
      image = ap restarted same ∙ h.image;
      logs = λ d l.
          let below = rw k.sizes at l in
          let start = k.starts d (omega (arith, eight, below)) in
          stored_same k.sizes start (rw k.logs) (rw (k.logs, start)) (rw (k.logs, start)) same (h.logs d below);
      restartable = steady_restartable k h.restartable;
    }

-- the same devices, and memories of the same lengths
pub kept_devices : {puts : Told} {v w : World} {r : Reference} → SameDevices v w → SameLengths v w → Kept puts w r → Kept puts v r
kept_devices d k h = steady_kept (devices_steady d k) h

-- stores beside what a restart sees, as many as a budget covers
pub kept_aside : (budget : ℕ) (l : List Action) {puts : Told} {w : World} {r : Reference} → All (Aside (sizes_on w.anchor) (epoch_on w.anchor)) l
    → Kept puts w r → Kept puts (run budget l w) r
kept_aside budget l {w = w} a h = steady_kept (steady_run budget l w a) h

-- what is put and never stored is lost
pub kept_lost : {puts : Told} {w : World} {r : Reference} → Kept puts w r → (more : List Put) → Kept (also puts more) w r
kept_lost {puts} k more =
    record {
      sizes = k.sizes;
      shaped = k.shaped;
      image = k.image;
      logs = λ d h.
          let was = k.logs d h in
          let last = records_on d more in
          record {
            old = was.old;
            stretch = was.stretch;
            rest = was.rest ++ last;
            parts = records_append d puts.puts more ∙ ap (λ (l : List Record). l ++ last) was.parts
                ∙ append_assoc was.old (was.stretch ++ was.rest) last ∙ ap (λ (l : List Record). was.old ++ l) (append_assoc was.stretch was.rest last);
            start = was.start;
            since = was.since;
            tail = was.tail;
            words = was.words;
            finds = was.finds;
            reads = was.reads;
          };
      restartable = k.restartable;
    }
