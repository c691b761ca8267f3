-- A run of the backup, a page at a time.
use mathlib.Core.Path.{◌≡◌, refl}
use mathlib.Core.List.{List}
use Prim.Native.Nat.{ℕ, ◌+◌, ◌-◌, ◌≤◌, ◌<◌, min}
use native.Mathlib.Omega.{arith}
use native.Mathlib.Decide.{dec_lt}
use lib.ListN.{length}
use Rattle.model.specs.declared.Core.{Core}
use Rattle.model.specs.Word.{part}
use Rattle.model.specs.Sizes.{page_base, page_words}
use Rattle.model.specs.Anchor.{backup_at}
use Rattle.model.specs.Image.{xor_at}
use Rattle.model.specs.World.{World}
use Rattle.model.specs.Memory.{lengths_right}
use Rattle.model.specs.State.{with_replay}
use Rattle.model.proofs.KeptBases.{bases_carried}
use Rattle.model.proofs.Sound.Test.{ReplaySound, replay_sound_lem, replaying_test}
use Rattle.model.proofs.Restart.Words.{with_pages}
use Rattle.run.specs.Run.{Passes, RanOn, Onward}
use Rattle.replay.proofs.Stepping.{backup_none, backup_taken}
use Rattle.run.proofs.Onward.{onward_none, onward_step, onward_most, onward_stop}

-- the state whose next page is this
abbrev pub page_at : Core → ℕ → Core
page_at c page = with_replay c (record { positions = c.replay.positions; page = page })

module _ (c : Core) (w : World) where
  page_sound : ReplaySound c → (page : ℕ) → page ≤ c.sizes.pages → ReplaySound (page_at c page)
  unfolding with_replay
  page_sound k page near = record { bounds = k.bounds; bases = bases_carried c (page_at c page) refl refl k.bases; epoch = k.epoch; page = near; tails = k.tails; positions = k.positions }

  page_passes : Passes c w → (page : ℕ) → page ≤ c.sizes.pages → (pages : List ℕ) → length pages ≡ length w.pages
      → Passes (page_at c page) (with_pages w pages)
  unfolding with_replay lengths_right
  page_passes pass page near pages same =
      let stage = pass.replays.stage in
      record {
        replays = record { stage = stage; state = replaying_test (page_at c page) stage (page_sound (replay_sound_lem c stage pass.replays.state) page near) };
        anchor = pass.anchor;
        lengths = rw same pass.lengths;
      }

  pub pages_start : (most : ℕ) → Onward c.sizes.disks most c w 0 (most - 0) (page_at c (c.replay.page + 0)) w
  unfolding with_replay
  pages_start most =
      let first : c.replay.page + 0 ≡ c.replay.page = omega arith in
      let all : most - 0 ≡ most = omega arith in
      rw (first, all) (onward_none c.sizes.disks most c w)

  module _ (pass : Passes c w) {most made : ℕ} {pages : List ℕ} (near : c.replay.page + made ≤ c.sizes.pages) (same : length pages ≡ length w.pages)
      (o : Onward c.sizes.disks most c w made (most - made) (page_at c (c.replay.page + made)) (with_pages w pages)) where
    pub pages_more : {after : List ℕ} → made < most → c.replay.page + made < c.sizes.pages
        → after ≡ xor_at (page_base c.sizes (c.replay.page + made)) (part (backup_at c.sizes c.epoch + page_base c.sizes (c.replay.page + made)) (page_words c.sizes (c.replay.page + made)) w.backups) pages
        → Onward c.sizes.disks most c w (made + 1) (most - (made + 1)) (page_at c (c.replay.page + (made + 1))) (with_pages w after)
    unfolding with_replay
    pages_more some left did =
        let on : c.replay.page + (made + 1) ≡ c.replay.page + made + 1 = omega arith in
        rw on
        (onward_step c.sizes.disks most c w (omega arith) o (page_passes pass (c.replay.page + made) near pages same)
        (backup_taken (page_at c (c.replay.page + made)) (with_pages w pages) left did))

    pub pages_done : made ≡ min most (c.sizes.pages - c.replay.page)
        → RanOn c.sizes.disks most c w made (page_at c (c.replay.page + made)) (with_pages w pages)
    unfolding with_replay
    pages_done e = go (dec_lt made most)
      where
        go : Dec (made < most) → RanOn c.sizes.disks most c w made (page_at c (c.replay.page + made)) (with_pages w pages)
        go (yes l) =
            onward_stop c.sizes.disks most c w _ _ _ o (page_passes pass (c.replay.page + made) near pages same)
            (backup_none (page_at c (c.replay.page + made)) (with_pages w pages) (omega (arith, e, near)))
        go (no l) = onward_most c.sizes.disks most c w (omega arith) o
