-- What remains of a source, and of all.
use mathlib.Core.Path.{◌≡◌, refl, sym, ap, ◌∙◌}
use mathlib.Core.Bool.{Bool, true, false, cond, ◌&&◌}
use mathlib.Core.List.{List}
use Prim.Native.Nat.{ℕ, ◌+◌, ◌-◌, ◌≤◌, ◌<◌}
use native.Mathlib.Omega.{arith}
use native.Mathlib.Numerals.{add-one}
use lib.Dec.{leb, eqb}
use lib.ListN.{length, get_or, get_or-replicate, get_or-eq_default}
use borrow.Author.Tests.{le-ltb, leb-true, leb-false, eq-eqb, ne_eqb}
use Rattle.model.specs.declared.Core.{Core}
use Rattle.model.specs.declared.Carried.{Carried}
use Rattle.model.specs.Word.{part}
use Rattle.model.specs.Below.{all_below}
use Rattle.model.specs.State.{tail_of}
use Rattle.model.specs.Restart.{position_of, remaining}
use Rattle.model.specs.View.{head_positions, head_page, head_words, own_work, core_of}
use Rattle.model.specs.Fields.{positions, page as page_field_lem}
use Rattle.model.proofs.Below.{all_cong}
use Rattle.model.proofs.View.Head.{own_long, other_view}
use Rattle.model.proofs.View.Fields.{field_read}
use Rattle.model.proofs.Restart.Steps.{remaining_log, remaining_backup}

-- by the source: no disk, a log, the backup, none of them
module _ (c : Core) (source : ℕ) where
  pub remains_outside : source < c.sizes.disks → length c.logs.tails ≡ 8 → 8 ≤ source → 0 ≡ remaining c source
  unfolding tail_of
  remains_outside h long out =
      sym (remaining_log c source h ∙ rw (get_or-eq_default c.logs.tails 0 {n = source} (omega arith)) (omega arith))

  pub remains_log : {r : ℕ} → source < c.sizes.disks → r ≡ get_or c.logs.tails source 0 - get_or c.replay.positions source 0
      → r ≡ remaining c source
  unfolding tail_of position_of
  remains_log h e = e ∙ sym (remaining_log c source h)

  pub remains_backup : {r : ℕ} → source ≡ c.sizes.disks → r ≡ c.sizes.pages - c.replay.page → r ≡ remaining c source
  remains_backup same e = rw same (e ∙ sym (remaining_backup c))

  pub remains_none : c.sizes.disks ≤ source → (source ≡ c.sizes.disks → ⊥) → 0 ≡ remaining c source
  unfolding remaining
  remains_none h ne = rw (le-ltb source c.sizes.disks h, ne_eqb source c.sizes.disks ne)

-- The words of the head that are asked for; zeros where the work memory is not the state's own.
module _ (h : Carried) (work : List ℕ) {own : Bool} (is : own ≡ own_work h work) where
  pub position_word : (disk : ℕ) → disk < 8 → cond own (get_or work (head_positions + disk) 0) 0 ≡ get_or (core_of h work).replay.positions disk 0
  unfolding part
  position_word disk low = go own is
    where
      go : (b : Bool) → b ≡ own_work h work → cond b (get_or work (head_positions + disk) 0) 0 ≡ get_or (core_of h work).replay.positions disk 0
      go true e = sym (field_read h work (sym e) positions disk low)
      go false e = sym (ap (λ (c : Core). get_or c.replay.positions disk 0) (other_view h work (sym e)) ∙ get_or-replicate 8 disk 0 0 low)

  pub page_word : cond own (get_or work head_page 0) 0 ≡ (core_of h work).replay.page
  page_word = go own is
    where
      go : (b : Bool) → b ≡ own_work h work → cond b (get_or work head_page 0) 0 ≡ (core_of h work).replay.page
      go true e = sym (field_read h work (sym e) page_field_lem 0 (omega arith))
      go false e = sym (ap (λ (c : Core). c.replay.page) (other_view h work (sym e)))

  pub own_room : own ≡ true → head_words ≤ length work
  own_room e = own_long h work (sym is ∙ e)

-- nothing is left at or beyond the end
pub left_none : (tail position : ℕ) → tail ≤ position → eqb (tail - position) 0 ≡ true
left_none tail position h = eq-eqb (tail - position) 0 (omega arith)

pub left_some : (tail position : ℕ) → position < tail → eqb (tail - position) 0 ≡ false
left_some tail position h = ne_eqb (tail - position) 0 (λ e. omega arith)

left_test : (pages page : ℕ) → leb pages page ≡ eqb (pages - page) 0
left_test pages page = go (leb pages page) refl
  where
    go : (b : Bool) → leb pages page ≡ b → b ≡ eqb (pages - page) 0
    go true e = sym (left_none pages page (leb-true pages page e))
    go false e = sym (left_some pages page (leb-false pages page e))

-- the logs first, then the backup
module _ (c : Core) where
  pub done_split : all_below (λ i. eqb (remaining c i) 0) (c.sizes.disks + 1)
      ≡ (all_below (λ d. eqb (get_or c.logs.tails d 0 - get_or c.replay.positions d 0) 0) c.sizes.disks && leb c.sizes.pages c.replay.page)
  unfolding all_below tail_of position_of
  done_split =
      rw (
        add-one,
        remaining_backup c,
        left_test c.sizes.pages c.replay.page,
        all_cong (λ i. eqb (remaining c i) 0) (λ d. eqb (get_or c.logs.tails d 0 - get_or c.replay.positions d 0) 0) c.sizes.disks (λ d h. ap (λ (n : ℕ). eqb n 0) (remaining_log c d h)),
      )
