-- The disk that a begin gets: the idlest of its class's set with room. The rule in blocks, computed.
use mathlib.Core.Path.{◌≡◌, refl, sym, ◌∙◌}
use Prim.Native.Nat.{ℕ, ◌<◌}
use mathlib.Core.List.{List, [], ◌∷◌, ◌++◌, map}
use mathlib.Core.Bool.{true, false, or-true, or-false}
use native.Mathlib.Omega.{arith}
use lib.Dec.{leb}
use lib.ListN.{replicate}
use borrow.Author.Tests.{leb-true, eq-eqb, not-false}
use Rattle.model.specs.declared.Core.{Core}
use Rattle.model.specs.World.{World}
use Rattle.model.specs.State.{sound, is_open}
use Rattle.model.specs.Room.{no_disk, started_blocks, load_of, eligible, idlest, Idlest}
use Rattle.model.specs.Refusal.{Result, row, verdict, accepted, rejected, number_of, first_of}
use Rattle.model.specs.Causes.{when_serving, table_full, spent}
use Rattle.model.specs.Transaction.{disk_of, begin_rows, begun, begin_task}
use Rattle.model.specs.Call.{begin, update, result_of}
use Rattle.model.specs.Reference.{taken, outcome_of, Reference}
use Rattle.model.specs.Machine.{Event, call, result, follow, formatted}
use Rattle.model.specs.History.{Told}
use Rattle.model.specs.Promise.{Always}
use Rattle.model.specs.Answers.{BeginDisk}
use Rattle.model.proofs.Meaning.{idlest_none, idlest_no}
use Rattle.model.proofs.Verdict.{refused_leaves}
use Rattle.model.proofs.Answers.{Right, reached, first_three}
use Rattle.model.proofs.Store.Cases.{call_cases}
use Rattle.model.proofs.Store.Rows.{serving_sound_lem}
use Rattle.model.proofs.Store.Checks.{finds, number_row}
use Rattle.model.proofs.Store.Accepted.{disks_max, begin_accepted}
use Rattle.model.proofs.Store.View.{Served}
use Rattle.model.proofs.Store.BeginTable.{new, open_after, new_disk}
use Rattle.model.proofs.Store.Holding.{served}
use Rattle.model.proofs.Sound.Lists.{sound_after}
use Rattle.model.proofs.Sound.Made.{stage_answers}
use Rattle.model.proofs.PowerLoss.{holds_after}
use Rattle.model.proofs.Everything.{everything}
use Rattle.model.proofs.Play.{unformatted}
use Rattle.model.proofs.Positions.{plenty}
use Rattle.model.proofs.Idle.{hall_sizes}

-- taken: the new transaction is open on the disk that was chosen
module _ {puts : Told} {c : Core} {w : World} {r : Reference} (class : ℕ) (ok : verdict (begin_rows c w class) ≡ accepted) (g : Served puts c w r) where
  now_open : is_open (begun c class).table c.next ≡ true
  unfolding begun
  now_open = open_after class ok g.serving c.next ∙ rw (eq-eqb c.next c.next refl) (or-true (is_open c.table c.next))

  on_idlest : disk_of (begun c class) c.next ≡ idlest c class 2
  unfolding begun disk_of
  on_idlest = new_disk class ok g.serving

-- refused by 14: no disk was found, so none has room
module _ (c : Core) (w : World) (class : ℕ) (s : sound c ≡ true) (e : number_of (result_of (begin class) c w).answer ≡ 14) where
  serves : when_serving c.stage ≡ true
  serves = not-false _ (sym (rw e at (stage_answers (begin class) c w s)))

  crowded_by : (disk : ℕ) → disk < c.sizes.disks → eligible c class 2 disk ≡ false
  unfolding begin_rows finds idlest
  crowded_by =
      let found = number_row (begin class) c w 14 (omega arith) (omega arith) e in
      idlest_none (eligible c class 2) (load_of c.logs) c.sizes.disks (disks_max c (serving_sound_lem c serves s))
      (leb-true no_disk (idlest c class 2) (sym (or-false (leb no_disk (idlest c class 2))) ∙ found))

-- where none of the class's disks has room, and no other row applies, it is refused by 14
all_crowded : (c : Core) (w : World) (class : ℕ) → Right c w → when_serving c.stage ≡ true → table_full c ≡ false → spent c.next ≡ false
    → ((disk : ℕ) → disk < c.sizes.disks → eligible c class 2 disk ≡ false) → number_of (result_of (begin class) c w).answer ≡ 14
unfolding verdict begin_rows idlest
all_crowded c w class right stage place number none =
    let eight = disks_max c (serving_sound_lem c stage right.sound) in
    let v : verdict (begin_rows c w class) ≡ rejected 14 0 0 =
    first_three c w right (begin class) refl stage (row 12 (table_full c) ∷ row 13 (spent c.next) ∷ row 14 (leb no_disk (idlest c class 2)) ∷ [])
    ∙ rw (place, number, idlest_no (eligible c class 2) (load_of c.logs) c.sizes.disks eight none) in
    rw (refused_leaves (begin class) c w 14 0 0 v) refl

-- what a taken begin leaves
Opened : ℕ → Core → Result → Type 0
Opened class c x =
    outcome_of x.answer ≡ taken
    → (is_open c.table (first_of x.answer) ≡ false) × (is_open x.core.table (first_of x.answer) ≡ true)
    × Idlest (eligible c class 2) (load_of c.logs) c.sizes.disks (disk_of x.core (first_of x.answer))

opened : (c : Core) (w : World) (class : ℕ) → sound c ≡ true → {puts : Told} {r : Reference} → (when_serving c.stage ≡ true → Served puts c w r)
    → Opened class c (result_of (begin class) c w)
unfolding Opened begin_task
opened c w class s g =
    call_cases (Opened class c) (begin class) c w
    (λ number first second v e. let z : ◌≡◌ {A = ℕ} 0 1 = cc in absurd (omega arith))
    (λ v f e.
    let begins = begin_accepted c w class v in
    let serving = g begins.serving in (
      new class v serving.serving,
      now_open class v serving,
      rw (on_idlest class v serving) (begins.chosen (disks_max c (serving_sound_lem c begins.serving s))),
    ))
    (λ v f e. let z : ◌≡◌ {A = ℕ} 0 1 = cc in absurd (omega arith))

-- The disk of a begin: see specs/Answers.antt.
pub begin_disk : BeginDisk
unfolding BeginDisk Always result Opened
begin_disk m s budget formats es a class =
    let h = holds_after m s budget formats es a in
    let sound = (sound_after m s budget formats es).1 in
    let after = opened _ _ class sound (served h) in
    record { fresh = λ e. (after e).0; opens = λ e. (after e).1; idlest = λ e. (after e).2; crowded = crowded_by _ _ class sound; fourteen = all_crowded _ _ class (reached m s budget formats es a) }

-- 02: "0 words is 0 blocks, 1 to 16 is 1, 17 is 2"; a full buffer is 4
pub blocks_computed : map started_blocks (0 ∷ 1 ∷ 16 ∷ 17 ∷ 64 ∷ []) ≡ 0 ∷ 1 ∷ 1 ∷ 2 ∷ 4 ∷ []
unfolding started_blocks
blocks_computed = refl

-- Two disks, and updates of four words each. The third begin finds 4 words on either disk, the fourth 16 and 4, which is a block each:
-- both get disk 0. The fifth finds 20 words on it, two blocks, and gets disk 1.
pub begins : List Event
begins =
    map call (begin 0 ∷ update 1 0 0 (2 ∷ []) plenty ∷ begin 0 ∷ update 2 0 1 (2 ∷ []) plenty ∷ begin 0 ∷ replicate 3 (update 3 0 2 (2 ∷ []) plenty)
    ++ begin 0 ∷ update 3 0 2 (2 ∷ []) plenty ∷ begin 0 ∷ [])

pub begins_computed : map (disk_of (follow begins (formatted (unformatted hall_sizes) hall_sizes plenty)).machine.core) (1 ∷ 2 ∷ 3 ∷ 4 ∷ 5 ∷ []) ≡ 0 ∷ 1 ∷ 0 ∷ 0 ∷ 1 ∷ []
unfolding everything unformatted hall_sizes begins
begins_computed = refl
