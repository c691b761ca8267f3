-- The next page of the backup, by the words of the head.
use mathlib.Core.Path.{◌≡◌, refl, sym, ap, subst, ◌∙◌}
use mathlib.Core.List.{List}
use Prim.Native.Nat.{ℕ, ◌+◌, ◌*◌, ◌≤◌, ◌<◌}
use native.Mathlib.Omega.{arith}
use lib.ListN.{length, get_or}
use Rattle.model.specs.declared.Core.{Core}
use Rattle.model.specs.declared.Sizes.{Sizes}
use Rattle.model.specs.declared.Carried.{Carried}
use Rattle.model.specs.Word.{part}
use Rattle.model.specs.Sizes.{slots_in, width_in, page_words, page_base, total}
use Rattle.model.specs.Anchor.{backup_at}
use Rattle.model.specs.Image.{xor_at}
use Rattle.model.specs.World.{World, world_of}
use Rattle.model.specs.State.{base_of, with_replay}
use Rattle.model.specs.View.{head_slots, head_widths, head_bases, head_page, core_of}
use Rattle.model.specs.Fields.{slots, widths, bases, page}
use Rattle.model.proofs.KeptBases.{base_kept}
use Rattle.model.proofs.View.Head.{carried_back}
use Rattle.model.proofs.View.Fields.{field_read}
use Rattle.layout.proofs.Pages.{page_fits, copy_fits}
use Rattle.replay.specs.Step.{finished, StepsOn}
use Rattle.replay.proofs.Facts.{replaying, sizes_bounded, words_kept}
use Rattle.replay.proofs.Stepping.{backup_none, backup_taken}
use Rattle.frame.specs.Settle.{refused_with}
use Rattle.restart.specs.Step.{OnBackup}

module _ {h : Carried} {pages backups work : List ℕ} (on : OnBackup h pages backups work) where
  abbrev c : Core
  c = core_of h work

  abbrev s : Sizes
  s = (core_of h work).sizes

  abbrev next : ℕ
  next = get_or work head_page 0

  pub page_here : c.replay.page ≡ get_or work head_page 0
  page_here = field_read h work on.own page 0 (omega arith)

  disks_here : s.disks ≡ h.disks
  disks_here = ap (λ (x : Carried). x.disks) (carried_back h work)

  pages_here : s.pages ≡ h.pages
  pages_here = ap (λ (x : Carried). x.pages) (carried_back h work)

  epoch_here : c.epoch ≡ h.epoch
  epoch_here = ap (λ (x : Carried). x.epoch) (carried_back h work)

  -- T is the page memory's length
  pub words_here : h.total ≡ total s
  words_here = sym (ap (λ (x : Carried). x.total) (carried_back h work)) ∙ words_kept c on.replays

  pub none_left : (anchor logs body : List ℕ) → h.pages ≤ get_or work head_page 0
      → StepsOn c (world_of anchor pages backups logs body) h.disks (refused_with c 15 0 0) (world_of anchor pages backups logs body)
  none_left anchor logs body high =
      let w : World = world_of anchor pages backups logs body in
      subst (λ (n : ℕ). StepsOn c w n (refused_with c 15 0 0) w) disks_here (backup_none c w (omega (arith, high, page_here, pages_here)))

  module _ (some : get_or work head_page 0 < h.pages) where
    pub page_low : get_or work head_page 0 < 64
    page_low = omega (arith, some, pages_here, (sizes_bounded c on.replays).pages_max)

    inside : get_or work head_page 0 < s.pages
    inside = omega (arith, some, pages_here)

    pub base_at : get_or work (head_bases + get_or work head_page 0) 0 ≡ page_base s (get_or work head_page 0)
    unfolding base_of
    base_at = sym (field_read h work on.own bases next page_low) ∙ base_kept c (replaying c on.replays).bases next page_low

    pub words_at_lem : get_or work (head_slots + get_or work head_page 0) 0 * get_or work (head_widths + get_or work head_page 0) 0 ≡ page_words s (get_or work head_page 0)
    unfolding page_words slots_in width_in
    words_at_lem = rw (← field_read h work on.own slots next page_low, ← field_read h work on.own widths next page_low) refl

    pub words_few : get_or work (head_slots + get_or work head_page 0) 0 * get_or work (head_widths + get_or work head_page 0) 0 ≤ 128
    words_few = omega (arith, words_at_lem, ((sizes_bounded c on.replays).used next inside).words_max)

    pub page_inside : get_or work (head_bases + get_or work head_page 0) 0 + get_or work (head_slots + get_or work head_page 0) 0 * get_or work (head_widths + get_or work head_page 0) 0 ≤ length pages
    page_inside = page_fits s next inside base_at words_at_lem on.page_words_lem

    pub copy_inside : (start : ℕ) → start ≤ h.total
        → start + get_or work (head_bases + get_or work head_page 0) 0 + get_or work (head_slots + get_or work head_page 0) 0 * get_or work (head_widths + get_or work head_page 0) 0 ≤ length backups
    copy_inside start low = copy_fits s next inside base_at words_at_lem start (omega (arith, low, words_here)) on.backup_words

    pub page_taken : (anchor logs body : List ℕ) {start : ℕ} → start ≡ backup_at s h.epoch → {after : List ℕ}
        → after ≡ xor_at (get_or work (head_bases + get_or work head_page 0) 0)
        (part (start + get_or work (head_bases + get_or work head_page 0) 0) (get_or work (head_slots + get_or work head_page 0) 0 * get_or work (head_widths + get_or work head_page 0) 0) backups) pages
        → StepsOn c (world_of anchor pages backups logs body) h.disks
        (finished (with_replay c (record { positions = c.replay.positions; page = get_or work head_page 0 + 1 }))) (world_of anchor after backups logs body)
    page_taken anchor logs body {start} first {after} did =
        let w : World = world_of anchor pages backups logs body in
        let kept : after ≡ xor_at (page_base s next) (part (backup_at s h.epoch + page_base s next) (page_words s next) backups) pages = rw (first, base_at, words_at_lem) at did in
        subst (λ (n : ℕ). StepsOn c w n (finished (with_replay c (record { positions = c.replay.positions; page = next + 1 }))) (world_of anchor after backups logs body)) disks_here
        (subst (λ (p : ℕ). StepsOn c w s.disks (finished (with_replay c (record { positions = c.replay.positions; page = p + 1 }))) (world_of anchor after backups logs body)) page_here
        (backup_taken c w {after = after} (omega (arith, inside, page_here)) (rw (page_here, epoch_here) kept)))
