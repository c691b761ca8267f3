-- A record appended where the buffer has room for it, and words of the memories written after it.
use mathlib.Core.Path.{◌≡◌, refl, fun_ext, ◌∙◌}
use mathlib.Core.List.{List, [], ◌∷◌, ◌++◌}
use mathlib.Core.Bool.{true, false}
use Prim.Native.Nat.{ℕ, ◌+◌, ◌≤◌, ◌<◌}
use native.Mathlib.Omega.{arith}
use native.Mathlib.Decide.{ℕ_discrete}
use lib.ListN.{length, get_or}
use Rattle.model.specs.declared.Sizes.{Sizes}
use Rattle.model.specs.declared.Table.{Table}
use Rattle.model.specs.declared.Core.{Core}
use Rattle.model.specs.Sizes.{total, ring_of}
use Rattle.model.specs.Record.{encode}
use Rattle.model.specs.World.{World, perform, stores}
use Rattle.model.specs.Memory.{buffer_at, copy_of}
use Rattle.model.specs.State.{limit, kept_of, fill_of, end_of, with_log}
use Rattle.model.specs.Append.{Appended, append}
use Rattle.model.specs.Reference.{Reference}
use Rattle.model.proofs.Lengths.{Lengths, lengths_right_lem}
use Rattle.model.proofs.Run.{SameLengths, same_lengths_trans, perform_lengths}
use Rattle.model.proofs.Slots.{Shaped}
use Rattle.model.proofs.Ledger.Entry.{Entry, record_of, is_close, closed_in}
use Rattle.model.proofs.Ledger.Order.{Ordered, size_of, words_of, on}
use Rattle.model.proofs.Ledger.Ordered.{ordered_append}
use Rattle.model.proofs.Ledger.Good.{Good}
use Rattle.model.proofs.Link.Words.{Fit, Link, lengths_perform, arrays_longer, log_end}
use Rattle.model.proofs.Link.Buffered.{InBuffer, copies_same, link_frame}
use Rattle.model.proofs.Link.Append.{entry_longer, append_in_buffer, append_room, room_stores}
use Rattle.model.proofs.Store.View.{view, Devices, Safe, Copies, before}
use Rattle.model.proofs.Store.Flush.{lengths_same, devices_kept}
use Rattle.model.proofs.Growth.{Small, Longer}
use Rattle.model.proofs.Store.OneMore.{all_more, boundary_logged}

-- After v only words of the memories were written, none of them a buffer's.
pub record Written (s : Sizes) (v u : World) : Type 0 where
  pub anchor_same : u.anchor ≡ v.anchor
  pub backups_same : u.backups ≡ v.backups
  pub logs_same : u.logs ≡ v.logs
  pub lengths : SameLengths u v
  pub buffers_same : (i : ℕ) → i < buffer_at s.disks → get_or u.work i 0 ≡ get_or v.work i 0

pub none_written : (s : Sizes) (v : World) → Written s v v
none_written s v =
    record {
      anchor_same = refl;
      backups_same = refl;
      logs_same = refl;
      lengths = record { anchor = refl; pages = refl; backups = refl; logs = refl; work = refl };
      buffers_same = λ i h. refl;
    }

-- An entry that may be put where the buffer has room: it stands at the end of its disk's log, its transaction is not
-- closed, and the log has room for it.
pub record MayLog (home : ℕ → ℕ) (c : Core) (F B : List Entry) (e : Entry) : Type 0 where
  pub below : e.disk < c.sizes.disks
  pub here : e.disk ≡ home e.number
  pub small : Small c.sizes c.logs
  pub room : fill_of c.logs e.disk + size_of e ≤ 64
  pub at_end : e.position ≡ end_of c.logs e.disk
  pub unclosed : closed_in (F ++ B) e.number ≡ false
  pub fit : Fit c.sizes e
  pub in_ring : end_of c.logs e.disk + size_of e ≤ kept_of c.logs e.disk + ring_of c.sizes e.disk
  pub in_limit : end_of c.logs e.disk + size_of e ≤ limit

module _ {x : ℕ} {home : ℕ → ℕ} {c : Core} {w : World} {r : Reference} {F B : List Entry} (g : Safe x home c w r F B) (e : Entry)
    (may : MayLog home c F B e) where
  abbrev pub logged : Appended
  logged = append c.sizes c.logs w.work e.disk (encode (record_of e))

  abbrev pub logged_world : World
  logged_world = perform logged.actions w

  right : Lengths c.sizes (total c.sizes) w
  right = lengths_right_lem c.sizes (total c.sizes) w g.devices.lengths

  short : size_of e ≤ 64
  short = omega (arith, may.room)

  pub longer : Longer c.sizes e.disk (size_of e) c.logs logged.logs
  longer = entry_longer w g.devices.arrays may.small e.disk may.below e short

  pub in_buffer : InBuffer c.sizes e.disk w logged_world
  in_buffer = append_in_buffer w g.devices.arrays may.small e.disk may.below e short

  pub logged_stores : stores logged.actions ≡ 0
  logged_stores = room_stores g.link right g.devices.arrays may.small e.disk may.below e refl short may.room

  pub link_logged : Link c.sizes logged.logs logged_world F (B ++ e ∷ [])
  link_logged = append_room g.link right g.devices.arrays may.small e.disk may.below e refl short may.room

  position : e.position ≡ kept_of c.logs e.disk + length (words_of (on e.disk F ++ on e.disk B))
  position = may.at_end ∙ log_end g.link e.disk may.below

  pub ordered_logged : Ordered c.sizes.disks (kept_of logged.logs) home F (B ++ e ∷ [])
  ordered_logged =
      rw (fun_ext longer.kept_same) (ordered_append g.ordered e may.below may.here may.unclosed position)

  end_logged : (d : ℕ) → d < c.sizes.disks → Dec (d ≡ e.disk)
      → (end_of logged.logs d ≤ kept_of logged.logs d + ring_of c.sizes d) × (end_of logged.logs d ≤ limit)
  unfolding end_of
  end_logged d h (yes same) = rw (same, longer.kept_same) (omega (arith, longer.end_longer, may.in_ring), omega (arith, longer.end_longer, may.in_limit))
  end_logged d h (no ne) = rw (longer.kept_same d, longer.tail_same d ne, longer.fill_same d ne) (g.ends d h)

  module _ {u : World} (k : Written c.sizes logged_world u) where
    lengths_written : SameLengths u w
    lengths_written = same_lengths_trans k.lengths (perform_lengths _ w)

    pub link_written : Link c.sizes logged.logs u F (B ++ e ∷ [])
    link_written =
        link_frame logged.logs (lengths_perform logged.actions right) (lengths_right_lem c.sizes (total c.sizes) u (lengths_same c.sizes lengths_written g.devices.lengths)) longer.small
        k.buffers_same k.logs_same link_logged

    pub devices_written : (t : Table) → Devices (with_log c logged.logs t) u
    devices_written t =
        devices_kept g.devices logged.logs t u longer.start_same (arrays_longer g.devices.arrays longer) (k.anchor_same ∙ in_buffer.anchor_same)
        lengths_written

    -- what a restart rests on, once the ledger is good
    pub safe_written : (y : ℕ) (t : Table) (q : Reference) → q.sizes ≡ c.sizes → Shaped c.sizes q.committed
        → Good y (total c.sizes) (view (with_log c logged.logs t) u q F (B ++ e ∷ []))
        → Safe y home (with_log c logged.logs t) u q F (B ++ e ∷ [])
    unfolding with_log
    safe_written y t q sizes shaped good =
        record {
          devices = devices_written t;
          good = good;
          link = link_written;
          ordered = ordered_logged;
          fit = all_more (Fit c.sizes) F B e g.fit may.fit;
          ends = λ d h. end_logged d h (ℕ_discrete d e.disk);
          sizes = sizes;
          shaped = shaped;
        }

    -- copy numbers, where none was written
    pub copies_written : Copies c w F B → ((p : ℕ) → p < c.sizes.pages → copy_of c.sizes u.work p ≡ copy_of c.sizes logged_world.work p)
        → (is_close e ≡ false → e.copy ≤ c.epoch + 1) → (before c e ≡ true → is_close e ≡ false → e.copy ≤ c.epoch)
        → (t : Table) → Copies (with_log c logged.logs t) u F (B ++ e ∷ [])
    unfolding with_log before
    copies_written h same capped early t =
        record {
          copied = h.copied;
          pages = λ p l. same p l ∙ copies_same in_buffer p may.below ∙ h.pages p l;
          capped = all_more _ F B e h.capped capped;
          early = all_more _ F B e h.early early;
          ends = λ o d l. rw (longer.kept_same d) (boundary_logged _ _ d F B e (h.ends o d l));
        }
