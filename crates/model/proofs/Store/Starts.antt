-- The stores that end a checkpoint: the new starts go to the other row, which no restart reads, and the number makes it current.
use mathlib.Core.Path.{◌≡◌, refl, ap, ◌∙◌}
use mathlib.Core.List.{List, [], ◌∷◌, ◌++◌}
use Prim.Native.Nat.{ℕ, ◌+◌, ◌%◌, ◌≤◌, ◌<◌}
use native.Mathlib.Omega.{arith}
use lib.ListN.{length, get_or, set, length-set}
use lib.Seq.{get_or-set_same, get_or-set_other}
use Rattle.model.specs.declared.Sizes.{Sizes}
use Rattle.model.specs.Below.{list_below}
use Rattle.model.specs.Anchor.{anchor_words, epoch_word, epoch_on, sizes_on, start_on, start_word, backup_at}
use Rattle.model.specs.World.{World, anchor, Action, store, cost, act, perform, stores, run}
use Rattle.model.specs.History.{Told}
use Rattle.model.specs.Reference.{Reference}
use Rattle.model.proofs.Run.{perform_append, stores_append}
use Rattle.model.proofs.Restart.Aside.{aside_starts}
use Rattle.model.proofs.Store.View.{Kept}
use Rattle.model.proofs.Store.Steady.{kept_aside}
use Rattle.model.proofs.Store.Puts.{set_each, length_set_each, set_each_other, set_each_in, perform_each_start, run_before}
use Rattle.model.proofs.Store.Anchor.{sizes_same}

-- the starts f of the disks below n, for checkpoint c + 1
abbrev pub start_stores : ℕ → (ℕ → ℕ) → ℕ → List Action
start_stores c f n = list_below (λ d. store anchor (start_word (c + 1) d) (f d)) n

-- and then its number
abbrev pub end_stores : ℕ → (ℕ → ℕ) → ℕ → List Action
end_stores c f n = start_stores c f n ++ store anchor epoch_word (c + 1) ∷ []

-- Stores on the anchor made checkpoint c + 1 the current one, with starts f on the disks below n.
pub record Moved (c : ℕ) (f : ℕ → ℕ) (n : ℕ) (before after : World) : Type 0 where
  pub sizes : sizes_on after.anchor ≡ sizes_on before.anchor
  pub epoch : epoch_on after.anchor ≡ c + 1
  pub starts : (d : ℕ) → d < n → start_on after.anchor d ≡ f d
  pub pages_same : after.pages ≡ before.pages
  pub backups_same : after.backups ≡ before.backups
  pub logs_same : after.logs ≡ before.logs
  pub work_same : after.work ≡ before.work

-- the checkpoint after the next writes the backup that was current
pub backup_back : (s : Sizes) (n : ℕ) → backup_at s (n + 1 + 1) ≡ backup_at s n
unfolding backup_at
backup_back s n =
    let e : (n + 1 + 1) % 2 ≡ n % 2 = omega arith in
    rw e

module _ (c : ℕ) (f : ℕ → ℕ) (n : ℕ) (w : World) (few : n ≤ 8) where
  -- The whole list.
  module _ (long : length w.anchor ≡ anchor_words) where
    abbrev row : List ℕ
    row = set_each (start_word (c + 1)) f n w.anchor

    abbrev stored : World
    stored = record { anchor = set row epoch_word (c + 1); pages = w.pages; backups = w.backups; logs = w.logs; work = w.work }

    all_stored : perform (end_stores c f n) w ≡ stored
    unfolding perform act
    all_stored = simp (perform_append, perform_each_start (start_word (c + 1)) f)

    row_long : length row ≡ anchor_words
    row_long = length_set_each (start_word (c + 1)) f n w.anchor ∙ long

    sizes : sizes_on stored.anchor ≡ sizes_on w.anchor
    unfolding start_word
    sizes =
        sizes_same stored.anchor w.anchor (length-set row epoch_word (c + 1) ∙ row_long) long
        (λ i h ne. get_or-set_other row epoch_word i (c + 1) 0 ne
        ∙ set_each_other (start_word (c + 1)) f n w.anchor i (λ d l e. omega arith))

    epoch : epoch_on stored.anchor ≡ c + 1
    unfolding epoch_on
    epoch = get_or-set_same row epoch_word (c + 1) 0 (omega (arith, row_long))

    starts : (d : ℕ) → d < n → start_on stored.anchor d ≡ f d
    unfolding start_on start_word
    starts d h =
        ap (λ (k : ℕ). get_or stored.anchor (start_word k d) 0) epoch
        ∙ get_or-set_other row epoch_word (start_word (c + 1) d) (c + 1) 0 (λ e. omega arith)
        ∙ set_each_in (start_word (c + 1)) f n w.anchor (λ d o ne e. ne (omega arith)) d h (omega arith)

    pub end_moved : Moved c f n w (perform (end_stores c f n) w)
    end_moved =
        rw all_stored
        (record {
          sizes = sizes;
          epoch = epoch;
          starts = starts;
          pages_same = refl;
          backups_same = refl;
          logs_same = refl;
          work_same = refl;
        })

  -- Cut before its last store, it changes nothing that a restart sees.
  pub end_cut : {puts : Told} {r : Reference} → epoch_on w.anchor ≡ c → Kept puts w r
      → (k : ℕ) → k < stores (end_stores c f n) → Kept puts (run k (end_stores c f n) w) r
  unfolding stores cost
  end_cut now h k less =
      rw (run_before k (start_stores c f n) [] anchor epoch_word (c + 1) w
      (omega (arith, stores_append (start_stores c f n) (store anchor epoch_word (c + 1) ∷ []))))
      (kept_aside k (start_stores c f n) (rw now (aside_starts (sizes_on w.anchor) c f n few)) h)
