-- What the steps of a restart have taken of each log, and what is left: the first records of what the log holds, and the others.
use mathlib.Core.Path.{◌≡◌, refl, sym, ap, subst, ◌∙◌}
use mathlib.Core.List.{List, [], ◌∷◌, ◌++◌, append_assoc, append-nil}
use Prim.Native.Nat.{ℕ, suc, ◌+◌, ◌≤◌, ◌<◌}
use native.Mathlib.Omega.{arith}
use native.Mathlib.Nat.{add-zero}
use native.Mathlib.Decide.{ℕ_discrete}
use lib.Dec.{ltb}
use mathlib.Core.Bool.{Bool, true, false, cond}
use lib.ListN.{length, length-append}
use borrow.Author.Tests.{lt-ltb}
use lib.Seq.{get_or-set_same, get_or-set_other}
use Rattle.model.specs.declared.Sizes.{Sizes}
use Rattle.model.specs.declared.Core.{Core}
use Rattle.model.specs.declared.Decoded.{Decoded}
use Rattle.model.specs.declared.Decoded.TheVariants.{Change, Close, Malformed}
use Rattle.model.specs.declared.Fate.{Fate}
use Rattle.model.specs.Sizes.{slot_base}
use Rattle.model.specs.Anchor.{sizes_on, start_on}
use Rattle.model.specs.Record.{Record, change, close, encode, encode_all}
use Rattle.model.specs.Decode.{span, decode_at, decoded}
use Rattle.model.specs.Scan.{item, scan, placed, fate_in}
use Rattle.model.specs.World.{World}
use Rattle.model.specs.State.{with_replay, start_of, tail_of}
use Rattle.model.specs.Abort.{xor_in}
use Rattle.model.specs.Restart.{position_of, remaining, replays, read_disk, fate_from, next_record, moved_to, record_step, backup_step, restart_begin_task, restart_step_task}
use Rattle.model.specs.History.{Told}
use Rattle.model.specs.LogPromise.{Stored, StepReads}
use Rattle.model.proofs.Decode.{found_change, found_close}
use Rattle.model.proofs.Scan.{scan_change, scan_close, scan_bad}
use Rattle.model.proofs.Reading.{Reads, scan_reads}
use Rattle.model.proofs.RoundTrip.{encode_append}
use Rattle.model.proofs.Restart.Gain.{length_span}
use Rattle.model.proofs.Restart.Image.{SameDevices}
use Rattle.model.proofs.Restart.Progress.{Progress, log_left, left_retained}
use Rattle.model.proofs.Restart.Steps.{remaining_log}

-- Where a reader finds a record at p and then others, that record is decoded there, with its difference, and the others are found
-- from behind it on.
pub record First (s : Sizes) (read : ℕ → ℕ) (stop p : ℕ) (r : Record) (more : List Record) : Type 0 where
  pub takes : decode_at s read stop p ≡ decoded p r
  pub diffs : (kind page slot number copy : ℕ) (diff : List ℕ) → r ≡ change kind page slot number copy diff
      → span read (p + 3) (length diff) ≡ diff
  pub ahead : scan s read stop (p + length (encode r)) ≡ placed (p + length (encode r)) more

module _ (s : Sizes) (read : ℕ → ℕ) (stop p : ℕ) where
  -- nothing is found from the stop on only
  pub none_found : scan s read stop p ≡ placed p [] → stop ≤ p
  unfolding placed
  none_found h = subst (Reads s read stop p) h (scan_reads s read stop p)

  pub first_found : (r : Record) (more : List Record) → scan s read stop p ≡ placed p (r ∷ more) → First s read stop p r more
  unfolding placed encode
  first_found r more h = go (decode_at s read stop p) refl
    where
      inside : p < stop
      inside = (subst (Reads s read stop p) h (scan_reads s read stop p)).1

      go : (d : Decoded) → decode_at s read stop p ≡ d → First s read stop p r more
      go (Change kind page slot number copy width next) e =
          let f = found_change s read stop e in
          let long = length_span read (p + 3) width in
          let both : item p (change kind page slot number copy (span read (p + 3) width)) (scan s read stop next)
          ≡ item p r (placed (p + length (encode r)) more) = sym (scan_change s read stop inside e) ∙ h in
          let is : change kind page slot number copy (span read (p + 3) width) ≡ r = cc in
          let rest : scan s read stop next ≡ placed (p + length (encode r)) more = cc in
          let to : next ≡ p + (3 + length (span read (p + 3) width)) = omega (arith, f.next_eq, long) in
          let size : p + length (encode r) ≡ next = rw (← is) (omega (arith, to)) in
          let end : next ≡ p + suc (suc (suc width)) = omega (arith, f.next_eq) in
          record {
            takes = rw (← is, long, e, end);
            diffs = λ k pg sl n cp diff same.
                let words : span read (p + 3) width ≡ diff = cc in
                let wide : length diff ≡ width = ap length (sym words) ∙ long in
                rw wide words;
            ahead = rw size (rw size at rest);
          }
      go (Close kind number next) e =
          let f = found_close s read stop e in
          let both : item p (close kind number) (scan s read stop next) ≡ item p r (placed (p + length (encode r)) more) =
          sym (scan_close s read stop inside e) ∙ h in
          let is : close kind number ≡ r = cc in
          let rest : scan s read stop next ≡ placed (p + length (encode r)) more = cc in
          let size : p + length (encode r) ≡ next = rw (← is) (omega (arith, f.next_eq)) in
          record {
            takes = rw (← is, e, f.next_eq);
            diffs = λ k pg sl n cp diff same. absurd (let z : ◌≡◌ {A = ℕ} 0 1 = cc in omega arith);
            ahead = rw size (rw size at rest);
          }
      go Malformed e = absurd (let both = sym (scan_bad s read stop inside e) ∙ h in let z : ◌≡◌ {A = ℕ} 0 1 = cc in omega arith)

-- What the step does that takes a record, where that is what is decoded, and `fate` is what is found ahead.
module _ (c : Core) (w : World) (d : ℕ) (below : d < c.sizes.disks) where
  step_change : (kind page slot number copy : ℕ) (diff : List ℕ) (fate : Fate)
      → next_record c w d ≡ decoded (position_of c d) (change kind page slot number copy diff)
      → span (read_disk c w d) (position_of c d + 3) (length diff) ≡ diff → fate_from c w d number (position_of c d + length (encode (change kind page slot number copy diff))) ≡ fate
      → (restart_step_task c w d).actions ≡ cond (replays c.epoch fate copy) (xor_in (slot_base c.sizes page slot) diff w.pages) []
  unfolding restart_step_task
  step_change kind page slot number copy diff fate takes diffs ahead =
      rw (lt-ltb d c.sizes.disks below, takes, diffs, ahead)

  step_close : (kind number : ℕ) → next_record c w d ≡ decoded (position_of c d) (close kind number) → (restart_step_task c w d).actions ≡ []
  unfolding restart_step_task
  step_close kind number takes = rw (lt-ltb d c.sizes.disks below, takes)

  record_moves : (r : Record) → (record_step c w d (decoded (position_of c d) r)).core ≡ moved_to c d (position_of c d + length (encode r))
  record_moves (change kind page slot number copy diff) = refl
  record_moves (close kind number) = refl

  step_moves : (r : Record) → next_record c w d ≡ decoded (position_of c d) r → (restart_step_task c w d).core ≡ moved_to c d (position_of c d + length (encode r))
  unfolding restart_step_task
  step_moves r takes = rw (lt-ltb d c.sizes.disks below, takes) (record_moves r)

-- What is left of a disk's log from q on, where a state of the same logs has come to q.
module _ (c now : Core) {w v : World} (sizes : now.sizes ≡ c.sizes) (logs : now.logs ≡ c.logs) (devices : SameDevices v w) (d : ℕ)
    (below : d < c.sizes.disks) where
  pub replayed_at : {kept : List Record} (done left : List Record) (q : ℕ) → kept ≡ done ++ left → position_of now d ≡ q
      → q ≡ start_on w.anchor d + length (encode_all done) → scan c.sizes (read_disk c w d) (tail_of c.logs d) q ≡ placed q left
      → StepReads now v d kept
  unfolding read_disk fate_from next_record position_of encode
  replayed_at done left q parts here position reads =
      let anchor = devices.anchor in
      let words = devices.logs in
      let first = first_found c.sizes (read_disk c w d) (tail_of c.logs d) q in
      record {
        done = done;
        left = left;
        parts = parts;
        position = rw anchor (here ∙ position);
        reads = rw (sizes, logs, words, here) reads;
        takes = λ r more e. rw (sizes, logs, words, here) (first r more (rw e at reads)).takes;
        ahead = λ r more e number. rw (sizes, logs, words, here) (ap (fate_in number) (first r more (rw e at reads)).ahead);
        moves = λ r more e. step_moves now v d (rw sizes below) r (rw (sizes, logs, words, here) (first r more (rw e at reads)).takes);
        changes = λ kind page slot number copy diff more e.
            let f = first (change kind page slot number copy diff) more (rw e at reads) in
            let long : q + length (encode (change kind page slot number copy diff)) ≡ q + (3 + length diff) = omega arith in
            let after = f.ahead ∙ ap (λ (n : ℕ). placed n more) long in
            step_change now v d (rw sizes below) kind page slot number copy diff (fate_in number (placed (position_of now d + (3 + length diff)) more))
            (rw (sizes, logs, words, here) f.takes) (rw (sizes, logs, words, here) (f.diffs kind page slot number copy diff refl))
            (rw (sizes, logs, words, here) (ap (fate_in number) after));
        closes = λ kind number more e. step_close now v d (rw sizes below) kind number (rw (sizes, logs, words, here) (first (close kind number) more (rw e at reads)).takes);
      }

-- A restart that has begun has taken nothing yet.
pub begun_positions : (w : World) (d : ℕ) → position_of (restart_begin_task w).core d ≡ start_of (restart_begin_task w).core.logs d
unfolding position_of start_of restart_begin_task
begun_positions w d = refl

pub begun_replayed : {c : Core} {w : World} → Progress c w → (d : ℕ) → position_of c d ≡ start_of c.logs d → {puts : Told} → (k : Stored puts w d)
    → d < (sizes_on w.anchor).disks → StepReads c w d k.stretch
unfolding log_left encode_all
begun_replayed {c} {w} p d first k below =
    let inside : d < c.sizes.disks = rw p.sizes below in
    let start : position_of c d ≡ start_on w.anchor d = first ∙ p.starts d inside in
    replayed_at c c refl refl (record { anchor = refl; backups = refl; logs = refl }) d inside [] k.stretch (position_of c d) refl refl (start ∙ sym (add-zero (start_on w.anchor d)))
    (left_retained c w d (p.tails d inside) start ∙ rw (← p.sizes, ← start) at k.finds)

-- A step takes the next record of its log, and nothing of the others.
module _ {c : Core} {w : World} (p : Progress c w) where
  unmoved : (now : Core) {v : World} → SameDevices v w → now.sizes ≡ c.sizes → now.logs ≡ c.logs → (d : ℕ) → d < c.sizes.disks
      → position_of now d ≡ position_of c d → {kept : List Record} → StepReads c w d kept → StepReads now v d kept
  unmoved now same sizes logs d below here k = replayed_at c now sizes logs same d below k.done k.left (position_of c d) k.parts here k.position k.reads

  moved : {v : World} → SameDevices v w → (d : ℕ) → d < c.sizes.disks → position_of c d < tail_of c.logs d → {kept : List Record} → StepReads c w d kept
      → StepReads (record_step c w d (next_record c w d)).core v d kept
  unfolding encode encode_all moved_to with_replay position_of
  moved {v} same d below some {kept} k = go k.left refl
    where
      go : (l : List Record) → k.left ≡ l → StepReads (record_step c w d (next_record c w d)).core v d kept
      go [] e = absurd (omega (arith, none_found c.sizes (read_disk c w d) (tail_of c.logs d) (position_of c d) (rw e at k.reads)))
      go (r ∷ more) e =
          let f = first_found c.sizes (read_disk c w d) (tail_of c.logs d) (position_of c d) r more (rw e at k.reads) in
          let long = ap length (encode_append k.done (r ∷ [])) ∙ length-append (encode_all k.done) (encode_all (r ∷ [])) in
          rw (k.takes r more e, record_moves c w d below r)
          (replayed_at c (moved_to c d (position_of c d + length (encode r))) refl refl same d below (k.done ++ r ∷ []) more (position_of c d + length (encode r))
          (k.parts ∙ ap (λ (l : List Record). k.done ++ l) e ∙ sym (append_assoc k.done (r ∷ []) more))
          (get_or-set_same c.replay.positions d (position_of c d + length (encode r)) 0 (omega (arith, p.room)))
          (omega (arith, k.position, long, ap length (append-nil (encode r)))) f.ahead)

  others_unmoved : {v : World} → SameDevices v w → (r : Decoded) (source d : ℕ) → d < c.sizes.disks → (d ≡ source → ⊥)
      → {kept : List Record} → StepReads c w d kept
      → StepReads (record_step c w source r).core v d kept
  unfolding moved_to with_replay position_of
  others_unmoved same (Change kind page slot number copy width next) source d below ne k =
      unmoved (moved_to c source next) same refl refl d below (get_or-set_other c.replay.positions source d next 0 ne) k
  others_unmoved same (Close kind number next) source d below ne k =
      unmoved (moved_to c source next) same refl refl d below (get_or-set_other c.replay.positions source d next 0 ne) k
  others_unmoved same Malformed source d below ne k = unmoved c same refl refl d below refl k

  pub step_replayed : {v : World} → SameDevices v w → (source : ℕ) → (source ≤ c.sizes.disks) × (remaining c source ≡ 0 → ⊥) → (d : ℕ) → {kept : List Record} → StepReads c w d kept
      → d < c.sizes.disks → StepReads (restart_step_task c w source).core v d kept
  unfolding restart_step_task backup_step with_replay position_of
  step_replayed {v} same source found d {kept} k below = go (ltb source c.sizes.disks) refl (ℕ_discrete d source)
    where
      go : (b : Bool) → ltb source c.sizes.disks ≡ b → Dec (d ≡ source)
          → StepReads (cond b (record_step c w source (next_record c w source)) (backup_step c w)).core v d kept
      go true e (yes here) =
          let log = remaining_log c d below in
          let some : remaining c d ≡ 0 → ⊥ = λ z. found.1 (ap (remaining c) (sym here) ∙ z) in
          rw (← here) (moved same d below (omega (arith, log, some)) k)
      go true e (no ne) = others_unmoved same (next_record c w source) source d below ne k
      go false e x = unmoved (backup_step c w).core same refl refl d below refl k
