-- What a replaying state gives the functions that take its records.
use mathlib.Core.Path.{◌≡◌, sym, ◌∙◌}
use mathlib.Core.List.{List}
use Prim.Native.Nat.{ℕ, ◌≤◌, ◌<◌}
use native.Mathlib.Omega.{arith}
use lib.ListN.{length}
use Rattle.model.specs.declared.Core.{Core}
use Rattle.model.specs.Sizes.{total}
use Rattle.model.specs.World.{World}
use Rattle.model.specs.State.{limit, tail_of, bases_of, base_of}
use Rattle.model.specs.Causes.{when_replaying}
use Rattle.model.proofs.Bounds.{Bounded, bounded}
use Rattle.model.proofs.Lengths.{Lengths, lengths_right_lem}
use Rattle.model.proofs.KeptBases.{total_kept, base_kept}
use Rattle.model.proofs.Sound.Test.{ReplaySound, replay_sound_lem}
use Rattle.layout.proofs.Pages.{all_pages, bases_filled}
use Rattle.frame.proofs.Verdicts.{Passed}
use Rattle.replay.specs.Step.{Replays, OnLog}

module _ (c : Core) (r : Replays c) where
  pub replaying : ReplaySound c
  replaying = replay_sound_lem c r.stage r.state

  pub sizes_bounded : Bounded c.sizes
  sizes_bounded = bounded c.sizes replaying.bounds

  pub words_kept : c.bases.total ≡ total c.sizes
  words_kept = total_kept c replaying.bases

  -- all that is kept of the sizes
  pub bases_whole : length c.bases.pages ≡ 64 → c.bases ≡ bases_of c.sizes
  unfolding base_of
  bases_whole long =
      bases_filled c.sizes replaying.bounds (words_kept ∙ sym (all_pages c.sizes replaying.bounds)) c.bases.pages long
      (base_kept c replaying.bases)

-- The first checks leave such a state, and slices of the lengths that it gives.
module _ {c : Core} {w : World} (p : Passed when_replaying c w) where
  pub replays : Replays c
  replays = record { stage = p.stage; state = p.state }

  pub slices : Lengths c.sizes (total c.sizes) w
  slices = rw (words_kept c replays) at (lengths_right_lem c.sizes c.bases.total w p.lengths)

  pub on_log : {disk : ℕ} → disk < c.sizes.disks → OnLog c disk w.pages w.logs
  on_log h = record { replays = replays; disk_in = h; page_words_lem = slices.pages; log_words_lem = slices.logs }

-- A log.
module _ {c : Core} {disk : ℕ} {pages logs : List ℕ} (on : OnLog c disk pages logs) where
  pub eight : disk < 8
  eight = omega (arith, on.disk_in, (sizes_bounded c on.replays).disks_max)

  pub tail_low : tail_of c.logs disk ≤ limit
  tail_low = (replaying c on.replays).tails disk on.disk_in

  pub extent_asked : (disk ≤ 8) × (c.sizes.ring ≤ 65536)
  extent_asked = (omega (arith, eight), (sizes_bounded c on.replays).ring_max)
