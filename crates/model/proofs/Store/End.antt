-- The end of a restart: taken, it leaves a fresh open store with the committed contents; cut, it leaves the image as it was.
use mathlib.Core.Path.{◌≡◌, refl, sym, ap, ◌∙◌}
use mathlib.Core.List.{List, [], ◌∷◌, ◌++◌, append_assoc}
use mathlib.Core.Bool.{true, false}
use Prim.Native.Nat.{ℕ, ◌+◌, ◌≤◌, ◌<◌}
use native.Mathlib.Omega.{arith}
use lib.ListN.{length, get_or, set, replicate, length-set}
use lib.Seq.{sets, get_or-set_same, get_or-set_other}
use borrow.Author.Tests.{eqb-true, not-false, leb-false}
use Rattle.model.specs.declared.Sizes.{Sizes}
use Rattle.model.specs.declared.Core.{Core}
use Rattle.model.specs.Below.{list_below}
use Rattle.model.specs.Sizes.{total, sizes_in_bounds}
use Rattle.model.specs.Anchor.{anchor_words, epoch_word, epoch_on, sizes_on, start_word, start_on, backup_at}
use Rattle.model.specs.World.{World, Action, store, write, anchor, backups, work, cost, act, perform, stores, run, finishes, each}
use Rattle.model.specs.Memory.{copy_at, owner_at}
use Rattle.model.specs.State.{limit, tail_of, sound}
use Rattle.model.specs.Refusal.{accepted, verdict}
use Rattle.model.specs.Causes.{when_replaying, anchor_wrong, lengths_wrong, tail_on, tail_in}
use Rattle.model.specs.Format.{fresh_memory, fresh_work}
use Rattle.model.specs.Restart.{restart_end_rows, restart_end_task}
use Rattle.model.specs.History.{Told, empty_from}
use Rattle.model.specs.Reference.{Reference, words_in}
use Rattle.model.proofs.KeptBases.{total_kept}
use Rattle.model.proofs.Run.{perform_append, perform_backups, perform_work, stores_append, stores_stored}
use Rattle.model.proofs.Counts.{stores_list, restart_end_stores}
use Rattle.model.proofs.Bounds.{Bounded, bounded}
use Rattle.model.proofs.Lengths.{Lengths, lengths_right_lem}
use Rattle.model.proofs.Slots.{Shaped}
use Rattle.model.proofs.Ledger.Entry.{All}
use Rattle.model.proofs.Link.Words.{lengths_perform}
use Rattle.model.proofs.Restart.Image.{backup_within}
use Rattle.model.proofs.Restart.Aside.{Aside, aside_append, aside_backup, aside_starts}
use Rattle.model.proofs.Store.Rows.{stage_row}
use Rattle.model.proofs.Sound.Test.{replay_sound_lem}
use Rattle.model.proofs.Store.View.{Kept, Served}
use Rattle.model.proofs.Store.Steady.{kept_aside}
use Rattle.model.proofs.Store.Puts.{set_each, length_set_each, set_each_other, set_each_in, perform_each_start, run_before, lengths_made, fresh_is, fresh_copy, fresh_owner}
use Rattle.model.proofs.Store.Anchor.{sizes_same}
use Rattle.model.proofs.Store.Fresh.{Freshly, fresh_serving}
use Rattle.model.proofs.Parts.{get_or_sets_inside}
use Rattle.model.proofs.Verdict.{row_passed}

-- What the steps of a restart lead to: the state says what the anchor and the tails say, and the pages have the committed words.
pub record AtEnd (c : Core) (w : World) (r : Reference) : Type 0 where
  pub sizes : c.sizes ≡ sizes_on w.anchor
  pub epoch : c.epoch ≡ epoch_on w.anchor
  pub tails : (d : ℕ) → d < c.sizes.disks → tail_of c.logs d ≡ tail_on c.sizes w d
  pub eight : length c.logs.tails ≡ 8
  pub reference : r.sizes ≡ c.sizes
  pub shaped : Shaped c.sizes r.committed
  pub pages : w.pages ≡ words_in r.committed
  pub none : r.write_sets ≡ []

-- What a restart end that is accepted found.
pub record EndFound (c : Core) (w : World) : Type 0 where
  pub bounds : sizes_in_bounds c.sizes ≡ true
  pub short : (d : ℕ) → d < c.sizes.disks → tail_of c.logs d ≤ limit
  pub anchor : length w.anchor ≡ anchor_words
  pub lengths : Lengths c.sizes (total c.sizes) w

pub end_found : (c : Core) (w : World) → sound c ≡ true → verdict (restart_end_rows c w) ≡ accepted → EndFound c w
unfolding restart_end_rows anchor_wrong lengths_wrong
end_found c w s e =
    let first = row_passed _ _ e in
    let second = row_passed _ _ first.1 in
    let third = row_passed _ _ second.1 in
    let held = replay_sound_lem c (stage_row when_replaying _ c first.0) s in
    record {
      bounds = held.bounds;
      short = held.tails;
      anchor = eqb-true _ _ (not-false _ second.0);
      lengths = rw (total_kept c held.bases) at (lengths_right_lem c.sizes c.bases.total w (not-false _ third.0));
    }

-- what its actions do, for any words of memory that they put
end_puts : (s : Sizes) (w : World) (n disks : ℕ) (tail : ℕ → ℕ) (copy owners copies : List ℕ)
    → perform
    (each (store backups) (backup_at s n) copy ++ list_below (λ d. store anchor (start_word n d) (tail d)) disks
    ++ (store anchor epoch_word n ∷ []) ++ (each (write work) (owner_at s 0) owners ++ each (write work) (copy_at s 0) copies)) w
    ≡ record {
      anchor = set (set_each (start_word n) tail disks w.anchor) epoch_word n;
      pages = w.pages;
      backups = sets w.backups (backup_at s n) copy;
      logs = w.logs;
      work = sets (sets w.work (owner_at s 0) owners) (copy_at s 0) copies;
    }
unfolding perform act
end_puts s w n disks tail copy owners copies =
    simp (perform_append, perform_backups, perform_work, perform_each_start (start_word n) tail)

-- ---- taken
module _ (c : Core) (w : World) (r : Reference) (m : AtEnd c w r) (found : EndFound c w) where
  abbrev s : Sizes
  s = c.sizes

  abbrev n : ℕ
  n = c.epoch + 1

  abbrev starts : List ℕ
  starts = set_each (start_word n) (tail_of c.logs) s.disks w.anchor

  abbrev ended : World
  ended =
      record {
        anchor = set starts epoch_word n;
        pages = w.pages;
        backups = sets w.backups (backup_at s n) w.pages;
        logs = w.logs;
        work = fresh_work s n w.work;
      }

  end_world : perform (restart_end_task c w).actions w ≡ ended
  unfolding restart_end_task fresh_memory
  end_world =
      rw (fresh_is s n w.work) (end_puts s w n s.disks (tail_of c.logs) w.pages (replicate (total s) 0) (replicate 64 n))

  b : Bounded s
  b = bounded s found.bounds

  long : length starts ≡ 148
  long = length_set_each (start_word n) (tail_of c.logs) s.disks w.anchor ∙ found.anchor

  end_epoch : epoch_on ended.anchor ≡ n
  unfolding epoch_on
  end_epoch = get_or-set_same starts 3 n 0 (omega (arith, long))

  end_start : (d : ℕ) → d < s.disks → start_on ended.anchor d ≡ tail_of c.logs d
  unfolding start_on start_word
  end_start d h =
      ap (λ (k : ℕ). get_or ended.anchor (start_word k d) 0) end_epoch
      ∙ get_or-set_other starts 3 (start_word n d) n 0 (λ e. omega arith)
      ∙ set_each_in (start_word n) (tail_of c.logs) s.disks w.anchor (λ d o ne e. ne (omega arith)) d h
      (omega (arith, b.disks_max))

  end_sizes : sizes_on ended.anchor ≡ s
  unfolding start_word
  end_sizes =
      sizes_same ended.anchor w.anchor (length-set starts 3 n ∙ long) found.anchor
      (λ i h ne. get_or-set_other starts 3 i n 0 ne
      ∙ set_each_other (start_word n) (tail_of c.logs) s.disks w.anchor i (λ d l e. omega arith))
      ∙ sym m.sizes

  end_fresh : Freshly s n c.logs.tails ended r
  unfolding tail_in tail_of
  end_fresh =
      record {
        bounds = b;
        anchor = length-set starts 3 n ∙ long;
        lengths = lengths_made s ended (rw end_world at (lengths_perform (restart_end_task c w).actions found.lengths));
        eight = m.eight;
        sizes = end_sizes;
        epoch = end_epoch;
        formatted = omega arith;
        starts = end_start;
        stored = λ d h. sym (m.tails d h);
        short = found.short;
        backup =
            λ i h.
            get_or_sets_inside w.backups (backup_at s n) w.pages i (omega (arith, backup_within s n, found.lengths.pages, found.lengths.backups))
            (omega (arith, found.lengths.pages));
        pages = λ i h. ap (λ (l : List ℕ). get_or l i 0) m.pages;
        copies = λ p h. fresh_copy s n w.work found.lengths.work p (omega (arith, b.pages_max));
        owners = fresh_owner s n w.work found.lengths.work;
        reference = m.reference;
        shaped = m.shaped;
        none = m.none;
      }

-- A restart end that is taken leaves an open store with the committed contents.
pub restart_end_serves : {c : Core} {w : World} {r : Reference} → AtEnd c w r → sound c ≡ true → verdict (restart_end_rows c w) ≡ accepted
    → Served (empty_from (tail_on c.sizes w)) (restart_end_task c w).core (perform (restart_end_task c w).actions w) r
unfolding restart_end_task tail_of
restart_end_serves {c} {w} {r} m s e =
    let found = end_found c w s e in
    rw (end_world c w r m found) (fresh_serving (end_fresh c w r m found) (tail_on c.sizes w) m.tails)

-- ---- cut: before the last store, c := c + 1, only the other backup and the other row change
module _ (c : Core) (w : World) (found : EndFound c w) where
  abbrev copies : List Action
  copies = each (store backups) (backup_at c.sizes (c.epoch + 1)) w.pages

  abbrev tails : List Action
  tails = list_below (λ d. store anchor (start_word (c.epoch + 1) d) (tail_of c.logs d)) c.sizes.disks

  -- these are all the stores but the last, so a cut run makes no other
  early_stores : stores (copies ++ tails) ≡ length w.pages + c.sizes.disks
  unfolding cost
  early_stores =
      simp (stores_append, stores_stored)
      (omega (arith, stores_list (λ d. store anchor (start_word (c.epoch + 1) d) (tail_of c.logs d)) (λ d. refl) c.sizes.disks))

  early_only : (budget : ℕ) → finishes budget (restart_end_task c w).actions ≡ false
      → run budget (restart_end_task c w).actions w ≡ run budget (copies ++ tails) w
  unfolding restart_end_task finishes
  early_only budget f =
      let last : Action = store anchor epoch_word (c.epoch + 1) in
      let memory : List Action = fresh_memory c.sizes (c.epoch + 1) in
      ap (λ (l : List Action). run budget l w) (append_assoc (copies ++ tails) (last ∷ []) memory)
      ∙ run_before budget (copies ++ tails) memory anchor epoch_word (c.epoch + 1) w
      (omega (arith, early_stores, leb-false (stores (restart_end_task c w).actions) budget f, restart_end_stores c w))

  early_aside : All (Aside c.sizes c.epoch) (copies ++ tails)
  early_aside =
      aside_append c.sizes c.epoch copies tails
      (aside_backup c.sizes c.epoch (backup_at c.sizes (c.epoch + 1)) w.pages (omega arith) (omega (arith, found.lengths.pages)))
      (aside_starts c.sizes c.epoch (tail_of c.logs) c.sizes.disks (bounded c.sizes found.bounds).disks_max)

-- A restart end that is cut leaves what a restart needs: the next restart makes the same pages.
pub restart_end_cut : (c : Core) (w : World) {puts : Told} {r : Reference} (budget : ℕ) → Kept puts w r → c.sizes ≡ sizes_on w.anchor
    → c.epoch ≡ epoch_on w.anchor → sound c ≡ true → verdict (restart_end_rows c w) ≡ accepted
    → finishes budget (restart_end_task c w).actions ≡ false → Kept puts (run budget (restart_end_task c w).actions w) r
restart_end_cut c w budget k sizes epoch s e f =
    let found = end_found c w s e in
    rw (early_only c w found budget f)
    (kept_aside budget (copies c w found ++ tails c w found) (rw (← sizes, ← epoch) (early_aside c w found)) k)
